-- A property of entries that every candidate gets by entering a table, and that what is made of entries keeps until it enters, is one of every
-- entry of every table, remembered ones included: by induction on the policy. Assumes nothing.
use mathlib.Core.Bool.{Bool, true, false, cond, not, ◌&&◌, false≢true}
use mathlib.Core.List.{List, [], ◌∷◌, ◌++◌}
use Rattle.std.specs.Prelude.{Option, None, Some}
use mathlib.Core.Path.{◌≡◌, refl}
use Prim.Native.Nat.{ℕ, zero, suc}
use lib.Dec.{leb, eqb}
use lib.ListN.{length}
use lib.Ieee.{Float}
use Rattle.contexts.specs.declared.Context.{Context}
use Rattle.contexts.specs.Leaves.{LockKind, HashKind}
use Rattle.correctness.specs.declared.Base.TheVariants.{B, W}
use Rattle.costs.specs.declared.Price.{Price}
use Rattle.costs.specs.Arithmetic.{0·, 1·}
use Rattle.costs.specs.Weights.{weights}
use Rattle.policies.specs.Policy.{Policy, Policies, end, ◌▹◌, Unsatisfiable, Trivial, Key, Lock, Hash, And, Or, Thresh}
use Rattle.definition.specs.Candidates.{Candidate, Cast, all_casts, Made, Pair, and_b, and_v, or_b, or_d, or_c, or_i, and_or, thresh_of}
use Rattle.definition.specs.Candidates.{false', true', pk_k, pk_h, lock, hash, multi}
use Rattle.definition.specs.Tables.{Probs, Table, cost_at}
use Rattle.definition.specs.Refusals.{Stored, State, state, Res, done, refused, M, then, ◌>>=◌, pure, refuse, accept, store, lookup, same_probs}
use Rattle.definition.specs.Refusals.{NotACost, LimitsExceeded, TableFull, FuelSpent, NodesFull, CacheFull, max_entries, max_pops, max_accepted, max_tables}
use Rattle.definition.specs.SamePolicy.{same}
use Rattle.definition.specs.Insertion.{if_priced, any, filter, worthwhile, beats, Offered, insert, Queued, queued, offer, cast_all, closure, insert_closure}
use Rattle.definition.specs.Insertion as insertion
use Rattle.definition.specs.Search.{Again, alone, redo, for_each, inserted_if_typed, casts_of, wrapped, wrapped_if_made, binary, ternary}
use Rattle.definition.specs.Search.{chosen, is_base_b, suits_thresh, Searcher, plain, conjunction, search_of, kept, found_or}
use Rattle.definition.specs.Search.{remembering, Body, without, again_at, searching, leaves, and_body, and_ors, Four, four_of, or_body}
use Rattle.definition.specs.Search.{Best, best_of, bests, nth, others_as_w, arranged, keys_of, multi_of, and_searcher, fold_ands}
use Rattle.definition.specs.Search.{folded_or, thresh_body, searcher, searchers}
use Rattle.definition.specs.Compile.{root_probs, best_compilation}
use Rattle.definition.specs.Refusals.{TopLevelNonSafe}
use Rattle.definition_laws.specs.Laws.{All, nobody, ◌and◌, IfSome, none_is, some_is, IfMade, passed_is, missing_is, made_is}
use Rattle.definition_laws.proofs.Sorting.{all_filter, all-enter}
use Rattle.definition_laws.proofs.Inserting.{all_append}
use Rattle.definition_laws.proofs.Searching.{cheapest-of}

-- ---- what is asked of the property: Offer is what a candidate has before it is tested, Entry what it has once it entered

abbrev pub PairsInto : (Offer Entry : Candidate → Type 0) → Pair → Type 0
PairsInto Offer Entry f = (p q : Float) (l r : Candidate) → Entry l → Entry r → IfMade Offer (f p q l r)

pub record Closed (c : Context) (Offer Entry : Candidate → Type 0) : Type 0 where
  pub enters : (x : Candidate) → Offer x → worthwhile c x ≡ true → Entry x
  pub casts : All (λ f. (x : Candidate) → Entry x → IfSome Offer (f x)) (all_casts c)
  pub and-b : PairsInto Offer Entry and_b
  pub and-v : PairsInto Offer Entry and_v
  pub or-b : PairsInto Offer Entry or_b
  pub or-d : PairsInto Offer Entry or_d
  pub or-c : PairsInto Offer Entry or_c
  pub or-i : PairsInto Offer Entry or_i
  pub and-or : (p q : Float) (x y z : Candidate) → Entry x → Entry y → Entry z → IfMade Offer (and_or p q x y z)
  pub thresh : (k : ℕ) {xs : List Candidate} → All Entry xs → IfMade Offer (thresh_of c k xs)
  pub a-false : Offer false'
  pub a-true : Offer true'
  pub a-pk-k : (n : ℕ) → Offer (pk_k c n)
  pub a-pk-h : (n : ℕ) → Offer (pk_h c n)
  pub a-lock : (kind : LockKind) (n : ℕ) → Offer (lock kind n)
  pub a-hash : (kind : HashKind) (n : ℕ) → Offer (hash kind n)
  pub a-multi : (k : ℕ) (keys : List ℕ) → Offer (multi c k keys)
  -- the third side of and_n, which is in no table
  pub no_third : Entry false'

module _ (c : Context) (Offer Entry : Candidate → Type 0) (closed : Closed c Offer Entry) where
  -- ---- computations that keep it

  pub record EntryState (s : State) : Type 0 where
    pub tables : All (λ r. All Entry r.table) s.stored

  -- a refusal, or an answer that is as P says, and a state whose tables have such entries
  pub data Gives {A : Type 0} (P : A → Type 0) : Res A → Type 0 where
    refuses : {e : ℕ} → Gives P (refused e)
    gives : {x : A} {s : State} → P x → EntryState s → Gives P (done x s)

  pub record Keeps {A : Type 0} (P : A → Type 0) (m : M A) : Type 0 where
    pub from : (s : State) → EntryState s → Gives P (m s)

  pure-keeps : {A : Type 0} {P : A → Type 0} {x : A} → P x → Keeps P (pure x)
  pure-keeps h = record { from = λ s g. gives h g }

  refuse-keeps : {A : Type 0} {P : A → Type 0} (e : ℕ) → Keeps P (refuse e)
  refuse-keeps e = record { from = λ s g. refuses }

  cond-keeps : {A : Type 0} {P : A → Type 0} {m n : M A} (b : Bool) → (b ≡ true → Keeps P m) → (b ≡ false → Keeps P n) →
      Keeps P (cond b m n)
  cond-keeps true h k = h refl
  cond-keeps false h k = k refl

  bind-keeps : {A B : Type 0} {P : A → Type 0} {Q : B → Type 0} {m : M A} {k : A → M B} →
      Keeps P m → ((x : A) → P x → Keeps Q (k x)) → Keeps Q (m >>= k)
  unfolding then
  bind-keeps {P} {Q} {k} h n = record { from = λ s g. next (h.from s g) }
    where
      next : {r : Res _} → Gives P r → Gives Q (then r k)
      next refuses = refuses
      next (gives {x} {s} p g) = (n x p).from s g

  accept-keeps : Keeps (λ _. Unit {0}) accept
  accept-keeps = record { from = λ s g. by-test s g (leb (suc s.accepted) max_accepted) }
    where
      by-test : (s : State) → EntryState s → (b : Bool) →
          Gives (λ _. Unit {0}) (cond b (done (tt {0}) (state (suc s.accepted) s.stored)) (refused NodesFull))
      by-test s g true = gives {s = state (suc s.accepted) s.stored} tt (record { tables = g.tables })
      by-test s g false = refuses

  store_keeps : (q : Policy) (p : Probs) (t : Table) → All Entry t → Keeps (λ _. Unit {0}) (store q p t)
  store_keeps q p t h = record { from = λ s g. by-test s g (leb (suc (length s.stored)) max_tables) }
    where
      by-test : (s : State) → EntryState s → (b : Bool) →
          Gives (λ _. Unit {0})
          (cond b (done (tt {0}) (state s.accepted (record { policy = q; at = p; table = t } ∷ s.stored))) (refused CacheFull))
      by-test s g true = gives tt (record { tables = h and g.tables })
      by-test s g false = refuses

  -- ---- insertion and the closure

  -- the table has such entries, and what was accepted is one
  record InsertedIs (x : Candidate) (o : Offered) : Type 0 where
    table : All Entry o.table
    taken : o.accepted ≡ true → Entry x

  priced-keeps : {P : Offered → Type 0} {m : M Offered} (price : Price) → Keeps P m → Keeps P (if_priced price m)
  priced-keeps (Price.Finite x) h = h
  priced-keeps Price.Never h = h
  priced-keeps Price.NotACost h = refuse-keeps NotACost

  insert-keeps : (p : Probs) {x : Candidate} {t : Table} → Offer x → All Entry t → Keeps (InsertedIs x) (insert c p x t)
  unfolding insert
  insert-keeps p {x} {t} g h =
      let away : InsertedIs x (record { table = t; accepted = false }) = record { table = h; taken = λ e. absurd (false≢true e) } in
      cond-keeps (worthwhile c x)
      (λ w. priced-keeps (cost_at p x)
      (cond-keeps (any (λ e. beats p e x) t)
      (λ b. pure-keeps away)
      (λ b. cond-keeps (leb (suc (length (filter (λ e. not (beats p x e)) t))) max_entries)
      (λ l. bind-keeps accept-keeps λ _ _. pure-keeps
      (record { table = all-enter x (closed.enters x g w) (all_filter _ h); taken = λ e. closed.enters x g w }))
      (λ l. refuse-keeps TableFull))))
      (λ w. pure-keeps away)

  -- a table, and candidates that wait
  record QueueIs (w : Queued) : Type 0 where
    table : All Entry w.table
    queue : All Entry w.queue

  offer-keeps : (p : Probs) {x : Option Candidate} {w : Queued} → IfSome Offer x → QueueIs w → Keeps QueueIs (offer c p x w)
  offer-keeps p none_is h = pure-keeps h
  offer-keeps p {w} (some_is {x} g) h =
      bind-keeps (insert-keeps p g h.table) λ o k. pure-keeps (record { table = k.table; queue = waits o.accepted k.taken })
    where
      waits : (b : Bool) → (b ≡ true → Entry x) → All Entry (cond b (w.queue ++ x ∷ []) w.queue)
      waits true e = all_append h.queue (e refl and nobody)
      waits false e = h.queue

  abbrev CastsInto : Cast → Type 0
  CastsInto f = (x : Candidate) → Entry x → IfSome Offer (f x)

  cast_all-keeps : (p : Probs) {x : Candidate} {fs : List Cast} {w : Queued} → Entry x → All CastsInto fs → QueueIs w →
      Keeps QueueIs (cast_all c p x fs w)
  unfolding cast_all
  cast_all-keeps p g nobody h = pure-keeps h
  cast_all-keeps p {x} g (f and fs) h = bind-keeps (offer-keeps p (f x g) h) λ w k. cast_all-keeps p g fs k

  closure-keeps : (p : Probs) (pops : ℕ) {w : Queued} → QueueIs w → Keeps (All Entry) (closure c p pops w)
  unfolding closure
  closure-keeps p zero {w} h = spent h.queue
    where
      spent : {q : List Candidate} → All Entry q → Keeps (All Entry) (insertion.next q (pure w.table) λ x q. refuse FuelSpent)
      spent nobody = pure-keeps h.table
      spent (g and gs) = refuse-keeps FuelSpent
  closure-keeps p (suc pops) {w} h = popped h.queue (λ w k. closure-keeps p pops k)
    where
      popped : {q : List Candidate} → All Entry q → ((w : Queued) → QueueIs w → Keeps (All Entry) (closure c p pops w)) →
          Keeps (All Entry)
          (insertion.next q (pure w.table) λ x q. cast_all c p x (all_casts c) (queued w.table q) >>= λ w. closure c p pops w)
      popped nobody r = pure-keeps h.table
      popped (g and gs) r = bind-keeps (cast_all-keeps p g closed.casts (record { table = h.table; queue = gs })) r

  insert_closure-keeps : (p : Probs) {x : Candidate} {t : Table} → Offer x → All Entry t → Keeps (All Entry) (insert_closure c p x t)
  unfolding insert_closure
  insert_closure-keeps p g h = bind-keeps (offer-keeps p (some_is g) (record { table = h; queue = nobody })) λ w k. closure-keeps p max_pops k

  -- ---- wrapping

  data AgainIs : Again → Type 0 where
    alone_is : AgainIs alone
    redo_is : {m : M Table} → Keeps (All Entry) m → AgainIs (redo m)

  for_each-keeps : {P : Candidate → Type 0} {f : Candidate → Table → M Table} {xs t : Table} →
      ((x : Candidate) → P x → (t : Table) → All Entry t → Keeps (All Entry) (f x t)) → All P xs → All Entry t → Keeps (All Entry) (for_each f xs t)
  unfolding for_each
  for_each-keeps k nobody h = pure-keeps h
  for_each-keeps {t} k (◌and◌ {x} g gs) h = bind-keeps (k x g t h) λ u i. for_each-keeps k gs i

  inserted_if_typed-keeps : (p : Probs) {x : Option Candidate} {t : Table} → IfSome Offer x → All Entry t →
      Keeps (All Entry) (inserted_if_typed c p x t)
  inserted_if_typed-keeps p none_is h = pure-keeps h
  inserted_if_typed-keeps p (some_is g) h = insert_closure-keeps p g h

  casts_of-keeps : (p : Probs) {m : M Table} {fs : List Cast} {t : Table} → Keeps (All Entry) m → All CastsInto fs → All Entry t →
      Keeps (All Entry) (casts_of c p m fs t)
  unfolding casts_of
  casts_of-keeps p n nobody h = pure-keeps h
  casts_of-keeps p n (f and fs) h =
      bind-keeps n λ xs k.
      bind-keeps (for_each-keeps (λ x g t h. inserted_if_typed-keeps p (f x g) h) k h) λ t h.
      casts_of-keeps p n fs h

  wrapped-keeps : (p : Probs) {g : Again} {x : Candidate} {t : Table} → AgainIs g → Offer x → All Entry t →
      Keeps (All Entry) (wrapped c p g x t)
  unfolding wrapped
  wrapped-keeps p alone_is i h = insert_closure-keeps p i h
  wrapped-keeps p (redo_is n) i h = bind-keeps (insert_closure-keeps p i h) λ t h. casts_of-keeps p n closed.casts h

  wrapped_if_made-keeps : (p : Probs) {g : Again} {m : Made} {t : Table} → AgainIs g → IfMade Offer m → All Entry t →
      Keeps (All Entry) (wrapped_if_made c p g m t)
  wrapped_if_made-keeps p n passed_is h = pure-keeps h
  wrapped_if_made-keeps p n missing_is h = refuse-keeps NotACost
  wrapped_if_made-keeps p n (made_is i) h = wrapped-keeps p n i h

  -- ---- pairing

  binary-keeps : (p : Probs) {g : Again} {f : Pair} {ls rs t : Table} (x y : Float) → AgainIs g → PairsInto Offer Entry f →
      All Entry ls → All Entry rs → All Entry t → Keeps (All Entry) (binary c p g f x y ls rs t)
  binary-keeps p x y n f ls rs h =
      for_each-keeps (λ l i t h. for_each-keeps (λ r j t h. wrapped_if_made-keeps p n (f x y l r i j) h) rs h) ls h

  ternary-keeps : (p : Probs) {g : Again} {xs ys zs o : Table} (x y : Float) → AgainIs g → All Entry xs → All Entry ys → All Entry zs →
      All Entry o → Keeps (All Entry) (ternary c p g x y xs ys zs o)
  ternary-keeps p x y n xs ys zs h =
      for_each-keeps (λ l i o h. for_each-keeps (λ m j o h. for_each-keeps (λ r k o h.
      wrapped_if_made-keeps p n (closed.and-or x y l m r i j k) h) zs h) ys h) xs h

  -- ---- choice, and what is remembered

  chosen-keeps : {P : Candidate → Type 0} {o : Option Candidate} → IfSome P o → Keeps P (chosen o)
  chosen-keeps none_is = refuse-keeps LimitsExceeded
  chosen-keeps (some_is h) = pure-keeps h

  lookup-is : (q : Policy) (p : Probs) {ts : List Stored} → All (λ r. All Entry r.table) ts → IfSome (All Entry) (lookup q p ts)
  unfolding lookup
  lookup-is q p nobody = none_is
  lookup-is q p (◌and◌ {x = t} {xs = ts} h hs) = by-test (same q t.policy && same_probs p t.at) (lookup-is q p hs)
    where
      by-test : (b : Bool) → IfSome (All Entry) (lookup q p ts) → IfSome (All Entry) (cond b (Some t.table) (lookup q p ts))
      by-test true r = some_is h
      by-test false r = r

  kept-keeps : (q : Policy) (p : Probs) (t : Table) → All Entry t → Keeps (All Entry) (kept q p t)
  kept-keeps q p [] h = refuse-keeps LimitsExceeded
  kept-keeps q p (x ∷ xs) h = bind-keeps (store_keeps q p (x ∷ xs) h) λ _ _. pure-keeps h

  found_or-keeps : {o : Option Table} {m : M Table} → IfSome (All Entry) o → Keeps (All Entry) m → Keeps (All Entry) (found_or o m)
  found_or-keeps none_is h = h
  found_or-keeps (some_is k) h = pure-keeps k

  remembering-keeps : (q : Policy) (p : Probs) {m : M Table} → Keeps (All Entry) m → Keeps (All Entry) (remembering q p m)
  unfolding remembering
  remembering-keeps q p h = record {
    from = λ s g. (found_or-keeps (lookup-is q p g.tables) (bind-keeps h λ t k. kept-keeps q p t k)).from s g;
  }

  -- ---- searches

  abbrev BodyIs : Body → Type 0
  BodyIs body = (p : Probs) (g : Again) → AgainIs g → Keeps (All Entry) (body p g)

  again-is : {body : Body} (q : Policy) (p : Probs) (d : Option Float) → BodyIs body → AgainIs (again_at q body p d)
  again-is q p None h = alone_is
  again-is q p (Some d) h = redo_is (remembering-keeps q (without p) (h (without p) alone alone_is))

  searching-keeps : (q : Policy) {body : Body} → BodyIs body → (p : Probs) → Keeps (All Entry) (searching q body p)
  unfolding searching
  searching-keeps q h p = remembering-keeps q p (h p _ (again-is q p p.dissat h))

  data SearcherIs : Searcher → Type 0 where
    plain_is : {q : Policy} {f : Probs → M Table} → ((p : Probs) → Keeps (All Entry) (f p)) → SearcherIs (plain q f)
    conjunction_is : {q : Policy} {f : Probs → M Table} {l r : Searcher} → ((p : Probs) → Keeps (All Entry) (f p)) → SearcherIs l → SearcherIs r →
        SearcherIs (conjunction q f l r)

  search-keeps : {s : Searcher} → SearcherIs s → (p : Probs) → Keeps (All Entry) (search_of s p)
  search-keeps (plain_is h) p = h p
  search-keeps (conjunction_is h l r) p = h p

  -- ---- leaves, And and Or

  leaves-are : {xs : Table} → All Offer xs → BodyIs (leaves c xs)
  leaves-are gs p g n = for_each-keeps (λ x i t h. wrapped-keeps p n i h) gs nobody

  thirds : All Entry (false' ∷ [])
  thirds = closed.no_third and nobody

  and_body-is : {l r : Searcher} → SearcherIs l → SearcherIs r → BodyIs (and_body c l r)
  unfolding and_body
  and_body-is lh rh p g n =
      bind-keeps (search-keeps lh p) λ left i.
      bind-keeps (search-keeps rh p) λ right j.
      bind-keeps (search-keeps rh (without p)) λ right₀ j₀.
      bind-keeps (search-keeps lh (without p)) λ left₀ i₀.
      bind-keeps (binary-keeps p 1· 1· n closed.and-b i j nobody) λ t h.
      bind-keeps (binary-keeps p 1· 1· n closed.and-b j i h) λ t h.
      bind-keeps (binary-keeps p 1· 1· n closed.and-v i j h) λ t h.
      bind-keeps (binary-keeps p 1· 1· n closed.and-v j i h) λ t h.
      bind-keeps (ternary-keeps p 1· 0· n i j₀ thirds h) λ t h.
      ternary-keeps p 1· 0· n j i₀ thirds h

  and_ors-keeps : (p : Probs) {g : Again} {s other : Searcher} {t : Table} (x y : Float) → AgainIs g → SearcherIs s → SearcherIs other →
      All Entry t → Keeps (All Entry) (and_ors c p g s other x y t)
  unfolding and_ors
  and_ors-keeps p x y n (plain_is k) o h = pure-keeps h
  and_ors-keeps p x y n (conjunction_is k lh rh) o h =
      bind-keeps (search-keeps lh _) λ a₁ i₁.
      bind-keeps (search-keeps lh _) λ a₂ i₂.
      bind-keeps (search-keeps rh _) λ b₁ j₁.
      bind-keeps (search-keeps rh _) λ b₂ j₂.
      bind-keeps (search-keeps o _) λ z m.
      bind-keeps (ternary-keeps p x y n i₁ j₂ m h) λ t h.
      ternary-keeps p x y n j₁ i₂ m h

  record FourAre (f : Four) : Type 0 where
    both : All Entry f.both
    other : All Entry f.other
    own : All Entry f.own
    none : All Entry f.none

  four_of-keeps : {s : Searcher} (p : Probs) (x y : Float) → SearcherIs s → Keeps FourAre (four_of s p x y)
  unfolding four_of
  four_of-keeps p x y h =
      bind-keeps (search-keeps h _) λ t₀ i₀.
      bind-keeps (search-keeps h _) λ t₁ i₁.
      bind-keeps (search-keeps h _) λ t₂ i₂.
      bind-keeps (search-keeps h _) λ t₃ i₃.
      pure-keeps (record { both = i₀; other = i₁; own = i₂; none = i₃ })

  or_body-is : {l r : Searcher} (x y : Float) → SearcherIs l → SearcherIs r → BodyIs (or_body c l r x y)
  unfolding or_body
  or_body-is x y lh rh p g n =
      bind-keeps (and_ors-keeps p x y n lh rh nobody) λ t h.
      bind-keeps (and_ors-keeps p y x n rh lh h) λ t h.
      bind-keeps (four_of-keeps p x y lh) λ ls i.
      bind-keeps (four_of-keeps p y x rh) λ rs j.
      bind-keeps (binary-keeps p x y n closed.or-b i.both j.both h) λ t h.
      bind-keeps (binary-keeps p y x n closed.or-b j.both i.both h) λ t h.
      bind-keeps (binary-keeps p x y n closed.or-d i.both j.own h) λ t h.
      bind-keeps (binary-keeps p y x n closed.or-d j.both i.own h) λ t h.
      bind-keeps (binary-keeps p x y n closed.or-c i.other j.none h) λ t h.
      bind-keeps (binary-keeps p y x n closed.or-c j.other i.none h) λ t h.
      bind-keeps (binary-keeps p x y n closed.or-i i.own j.none h) λ t h.
      bind-keeps (binary-keeps p y x n closed.or-i j.own i.none h) λ t h.
      bind-keeps (binary-keeps p x y n closed.or-i i.none j.own h) λ t h.
      binary-keeps p y x n closed.or-i j.none i.own h

  -- ---- Thresh

  record BestIs (b : Best) : Type 0 where
    e : Entry b.e
    w : Entry b.w

  best_of-keeps : (p : Probs) {s : Searcher} → SearcherIs s → Keeps BestIs (best_of p s)
  unfolding best_of
  best_of-keeps p h =
      bind-keeps (search-keeps h p) λ t k.
      bind-keeps (chosen-keeps (cheapest-of p (suits_thresh B) k)) λ e i.
      bind-keeps (search-keeps h p) λ t k.
      bind-keeps (chosen-keeps (cheapest-of p (suits_thresh W) k)) λ w j.
      pure-keeps (record { e = i.is; w = j.is })

  bests-keeps : (p : Probs) {ss : List Searcher} → All SearcherIs ss → Keeps (All BestIs) (bests p ss)
  unfolding bests
  bests-keeps p nobody = pure-keeps nobody
  bests-keeps p (h and hs) =
      bind-keeps (best_of-keeps p h) λ b i.
      bind-keeps (bests-keeps p hs) λ bs is.
      pure-keeps (i and is)

  nth-is : (n : ℕ) {b : Best} {bs : List Best} → BestIs b → All BestIs bs → BestIs (nth n b bs)
  nth-is n h nobody = h
  nth-is zero h (k and ks) = k
  nth-is (suc n) h (k and ks) = nth-is n h ks

  of_two : (b : Bool) {x y : Candidate} → Entry x → Entry y → Entry (cond b x y)
  of_two true h k = h
  of_two false h k = k

  others-are : (m place : ℕ) {b : Best} {bs : List Best} → BestIs b → All BestIs bs → All Entry (others_as_w b m place bs)
  unfolding others_as_w
  others-are m place h nobody = nobody
  others-are m place h (k and ks) = of_two (eqb place m) h.w k.w and others-are m (suc place) h ks

  arranged-are : (m : ℕ) {bs : List Best} → All BestIs bs → All Entry (arranged m bs)
  unfolding arranged
  arranged-are m nobody = nobody
  arranged-are m (h and hs) = (nth-is m h (h and hs)).e and others-are m 1 h hs

  multi_of-keeps : (p : Probs) {g : Again} {t : Table} (k : ℕ) (keys : Option (List ℕ)) → AgainIs g → All Entry t →
      Keeps (All Entry) (multi_of c p g k keys t)
  multi_of-keeps p k None n h = pure-keeps h
  multi_of-keeps p k (Some keys) n h = wrapped-keeps p n (closed.a-multi k keys) h

  and_searcher-is : {l r : Searcher} → SearcherIs l → SearcherIs r → SearcherIs (and_searcher c l r)
  and_searcher-is lh rh = conjunction_is (searching-keeps _ (and_body-is lh rh)) lh rh

  fold_ands-are : {s : Searcher} {ss : List Searcher} → SearcherIs s → All SearcherIs ss → SearcherIs (fold_ands c s ss)
  unfolding fold_ands
  fold_ands-are h nobody = h
  fold_ands-are {s} h (◌and◌ {x} k ks) = fold_ands-are {s = and_searcher c s x} (and_searcher-is h k) ks

  folded_or-keeps : {t : Table} (p : Probs) (k : ℕ) {ss : List Searcher} → All SearcherIs ss → All Entry t →
      Keeps (All Entry) (folded_or c p k ss t)
  folded_or-keeps p k nobody h = pure-keeps h
  folded_or-keeps p k (◌and◌ {x = s} {xs = ss} g gs) h =
      cond-keeps (eqb k (suc (length ss))) (λ e. search-keeps (fold_ands-are g gs) p) (λ e. pure-keeps h)

  thresh_body-is : (k : ℕ) {ss : List Searcher} → All SearcherIs ss → BodyIs (thresh_body c k ss)
  unfolding thresh_body
  thresh_body-is k {ss} hs p g n =
      bind-keeps (bests-keeps _ hs) λ bs is.
      bind-keeps (wrapped_if_made-keeps p n (closed.thresh k (arranged-are _ is)) nobody) λ t h.
      bind-keeps (multi_of-keeps p k (keys_of ss) n h) λ t h.
      folded_or-keeps p k hs h

  -- ---- every policy

  mutual
    unfolding searcher

    searcher-is : (q : Policy) → SearcherIs (searcher c q)
    searcher-is Unsatisfiable = plain_is (searching-keeps _ (leaves-are (closed.a-false and nobody)))
    searcher-is Trivial = plain_is (searching-keeps _ (leaves-are (closed.a-true and nobody)))
    searcher-is (Key n) = plain_is (searching-keeps _ (leaves-are (closed.a-pk-h n and closed.a-pk-k n and nobody)))
    searcher-is (Lock kind n) = plain_is (searching-keeps _ (leaves-are (closed.a-lock kind n and nobody)))
    searcher-is (Hash kind n) = plain_is (searching-keeps _ (leaves-are (closed.a-hash kind n and nobody)))
    searcher-is (And l r) =
        conjunction_is (searching-keeps _ (and_body-is (searcher-is l) (searcher-is r))) (searcher-is l) (searcher-is r)
    searcher-is (Or l r lw rw) =
        plain_is (searching-keeps _ (or_body-is (weights lw rw).lw (weights lw rw).rw (searcher-is l) (searcher-is r)))
    searcher-is (Thresh k xs) = plain_is (searching-keeps _ (thresh_body-is k (searchers-are xs)))

    searchers-are : (xs : Policies) → All SearcherIs (searchers c xs)
    searchers-are end = nobody
    searchers-are (x ▹ xs) = searcher-is x and searchers-are xs

  -- ---- the root that is chosen, and where every call begins

  pub root-keeps : (q : Policy) → Keeps Entry (best_compilation c q)
  unfolding best_compilation
  root-keeps q =
      bind-keeps (search-keeps (searcher-is q) root_probs) λ t h.
      bind-keeps (chosen-keeps (cheapest-of root_probs is_base_b h)) λ x k.
      cond-keeps x.ty.mall.safe (λ s. pure-keeps k.is) (λ s. refuse-keeps TopLevelNonSafe)

  pub start : EntryState (state 0 [])
  start = record { tables = nobody }
