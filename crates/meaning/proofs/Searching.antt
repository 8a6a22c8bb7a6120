-- Every search of a policy gives a table whose entries mean the policy, under any assignment: by induction on the policy.
use mathlib.Core.Bool.{Bool, true, false, cond, not, ◌&&◌, ◌||◌, false≢true}
use mathlib.Core.List.{List, [], ◌∷◌, ◌++◌}
use Rattle.std.specs.Prelude.{Option, None, Some}
use mathlib.Core.Path.{◌≡◌, refl, sym, ap, subst, ◌∙◌}
use Prim.Native.Nat.{ℕ, zero, suc}
use borrow.Author.Tests.{eqb-true}
use lib.Dec.{leb, eqb}
use lib.ListN.{length}
use lib.Ieee.{Float}
use Rattle.contexts.specs.declared.Context.{Context}
use Rattle.contexts.specs.declared.Context.TheVariants.{Segwitv0, Tap}
use Rattle.correctness.specs.declared.Base.TheVariants.{B, W}
use Rattle.costs.specs.declared.Price.{Price}
use Rattle.costs.specs.declared.Price.TheVariants as Price
use Rattle.costs.specs.Arithmetic.{0·, 1·}
use Rattle.costs.specs.Weights.{weights}
use Rattle.figures.specs.Validity.{from_ast}
use Rattle.policies.specs.Policy.{Policy, Policies, end, ◌▹◌, Unsatisfiable, Trivial, Key, Lock, Hash, And, Or, Thresh}
use Rattle.definition.specs.Candidates.{Candidate, Cast, all_casts, Made, Pair, false'}
use Rattle.definition.specs.Tables.{Probs, Table, cost_at, enter}
use Rattle.definition.specs.Refusals.{Stored, M, lookup, same_probs, ◌>>=◌, pure, refuse}
use Rattle.definition.specs.Refusals.{NotACost, LimitsExceeded, TableFull, FuelSpent, max_entries, max_pops}
use Rattle.definition.specs.SamePolicy.{same}
use Rattle.definition.specs.Insertion.{if_priced, any, filter, worthwhile, beats, Offered, insert, Queued, queued, offer, cast_all, closure, insert_closure}
use Rattle.definition.specs.Insertion as insertion
use Rattle.definition.specs.Search.{Again, alone, redo, for_each, inserted_if_typed, casts_of, wrapped, wrapped_if_made, binary, ternary}
use Rattle.definition.specs.Search.{cheapest, chosen, suits_thresh, Searcher, plain, conjunction, policy_of, search_of, kept, found_or}
use Rattle.definition.specs.Search.{remembering, Body, without, again_at, searching, leaves, and_body, and_ors, Four, four_of, or_body}
use Rattle.definition.specs.Search.{Best, best_of, bests, most_gaining, arranged, key_or, keys_of, multi_of, and_searcher, fold_ands}
use Rattle.definition.specs.Search.{folded_or, thresh_body, searcher, searchers, search}
use Rattle.definition_laws.specs.Laws as laws
use Rattle.definition_laws.specs.Laws.{All, ◌and◌, IfSome, none_is, some_is, IfMade, passed_is, missing_is, made_is}
use Rattle.definition_laws.proofs.SamePolicies.{same-equal}
use Rattle.definition_laws.proofs.Believing.{searches-its-policy}
use Rattle.definition_laws.proofs.Sorting.{all_map, all_filter, all-enter}
use Rattle.definition_laws.proofs.Inserting.{all_append}
use Rattle.definition_laws.proofs.Searching.{cheapest-of}
use Rattle.meaning.specs.Meaning.{Assignment, key, policy_means, policies_mean, tree_means, keys_mean, count_true, at_least}
use Rattle.meaning.proofs.Counts.{and-true, and_comm, or_comm, or-false, and_assoc, all_true, at-least-all}
use Rattle.meaning.proofs.Keeping.{Means, AllMean, MeantState, Keeps, pure-keeps, refuse-keeps, cond-keeps, bind-keeps, accept-keeps, store_keeps}
use Rattle.meaning.proofs.Making.{CastsMeaning, casts-mean, PairsMeaning, and_b-means, and_v-means, or_b-means, or_d-means, or_c-means, or_i-means}
use Rattle.meaning.proofs.Making.{and_or-means, thresh-means, multi-means, BestMeans, BestsMean, nobody, next}

module _ (a : Assignment) (c : Context) where
  -- ---- insertion and the closure: what enters means what it is offered as

  priced-keeps : {P : Offered → Type 0} {m : M Offered} (price : Price) → Keeps a P m → Keeps a P (if_priced price m)
  priced-keeps (Price.Finite x) h = h
  priced-keeps Price.Never h = h
  priced-keeps Price.NotACost h = refuse-keeps a NotACost

  insert-keeps : (p : Probs) {v : Bool} {x : Candidate} {t : Table} → Means a v x → AllMean a v t →
      Keeps a (λ o. AllMean a v o.table) (insert c p x t)
  unfolding insert
  insert-keeps p {v} {x} {t} g h =
      cond-keeps a (worthwhile c x)
      (λ w. priced-keeps (cost_at p x)
      (cond-keeps a (any (λ e. beats p e x) t)
      (λ b. pure-keeps a h)
      (λ b. cond-keeps a (leb (suc (length (filter (λ e. not (beats p x e)) t))) max_entries)
      (λ l. bind-keeps a (accept-keeps a) λ _ _. pure-keeps a (all-enter x g (all_filter _ h)))
      (λ l. refuse-keeps a TableFull))))
      (λ w. pure-keeps a h)

  -- a table, and candidates that wait
  record QueueMeans (v : Bool) (w : Queued) : Type 0 where
    table : AllMean a v w.table
    queue : AllMean a v w.queue

  offer-keeps : (p : Probs) {v : Bool} {x : Option Candidate} {w : Queued} → IfSome (Means a v) x → QueueMeans v w →
      Keeps a (QueueMeans v) (offer c p x w)
  offer-keeps p none_is h = pure-keeps a h
  offer-keeps p {v} {w} (some_is {x} g) h =
      bind-keeps a (insert-keeps p g h.table) λ o k. pure-keeps a (record { table = k; queue = waits o.accepted })
    where
      waits : (b : Bool) → AllMean a v (cond b (w.queue ++ x ∷ []) w.queue)
      waits true = all_append h.queue (g and laws.nobody)
      waits false = h.queue

  cast_all-keeps : (p : Probs) {v : Bool} {x : Candidate} {fs : List Cast} {w : Queued} → Means a v x → All (CastsMeaning a) fs →
      QueueMeans v w → Keeps a (QueueMeans v) (cast_all c p x fs w)
  unfolding cast_all
  cast_all-keeps p g laws.nobody h = pure-keeps a h
  cast_all-keeps p {v} {x} g (f and fs) h = bind-keeps a (offer-keeps p (f v x g) h) λ w k. cast_all-keeps p g fs k

  closure-keeps : (p : Probs) {v : Bool} (pops : ℕ) {w : Queued} → QueueMeans v w → Keeps a (AllMean a v) (closure c p pops w)
  unfolding closure
  closure-keeps p {v} zero {w} h = spent h.queue
    where
      spent : {q : List Candidate} → AllMean a v q → Keeps a (AllMean a v) (insertion.next q (pure w.table) λ x q. refuse FuelSpent)
      spent laws.nobody = pure-keeps a h.table
      spent (g and gs) = refuse-keeps a FuelSpent
  closure-keeps p {v} (suc pops) {w} h = popped h.queue (λ w k. closure-keeps p pops k)
    where
      popped : {q : List Candidate} → AllMean a v q → ((w : Queued) → QueueMeans v w → Keeps a (AllMean a v) (closure c p pops w)) →
          Keeps a (AllMean a v)
          (insertion.next q (pure w.table) λ x q. cast_all c p x (all_casts c) (queued w.table q) >>= λ w. closure c p pops w)
      popped laws.nobody r = pure-keeps a h.table
      popped (g and gs) r = bind-keeps a (cast_all-keeps p g (casts-mean a c) (record { table = h.table; queue = gs })) r

  insert_closure-keeps : (p : Probs) {v : Bool} {x : Candidate} {t : Table} → Means a v x → AllMean a v t →
      Keeps a (AllMean a v) (insert_closure c p x t)
  unfolding insert_closure
  insert_closure-keeps p g h = bind-keeps a (offer-keeps p (some_is g) (record { table = h; queue = laws.nobody })) λ w k. closure-keeps p max_pops k

  -- ---- wrapping

  data AgainMeans (v : Bool) : Again → Type 0 where
    alone_is : AgainMeans v alone
    redo_is : {m : M Table} → Keeps a (AllMean a v) m → AgainMeans v (redo m)

  for_each-keeps : {P : Candidate → Type 0} {Q : Table → Type 0} {f : Candidate → Table → M Table} {xs t : Table} →
      ((x : Candidate) → P x → (t : Table) → Q t → Keeps a Q (f x t)) → All P xs → Q t → Keeps a Q (for_each f xs t)
  unfolding for_each
  for_each-keeps k laws.nobody h = pure-keeps a h
  for_each-keeps {t} k (◌and◌ {x} g gs) h = bind-keeps a (k x g t h) λ u i. for_each-keeps k gs i

  inserted_if_typed-keeps : (p : Probs) {v : Bool} {x : Option Candidate} {t : Table} → IfSome (Means a v) x → AllMean a v t →
      Keeps a (AllMean a v) (inserted_if_typed c p x t)
  inserted_if_typed-keeps p none_is h = pure-keeps a h
  inserted_if_typed-keeps p (some_is g) h = insert_closure-keeps p g h

  casts_of-keeps : (p : Probs) {v : Bool} {m : M Table} {fs : List Cast} {t : Table} → Keeps a (AllMean a v) m →
      All (CastsMeaning a) fs → AllMean a v t → Keeps a (AllMean a v) (casts_of c p m fs t)
  unfolding casts_of
  casts_of-keeps p n laws.nobody h = pure-keeps a h
  casts_of-keeps p {v} n (f and fs) h =
      bind-keeps a n λ xs k.
      bind-keeps a (for_each-keeps (λ x g t h. inserted_if_typed-keeps p (f v x g) h) k h) λ t h.
      casts_of-keeps p n fs h

  wrapped-keeps : (p : Probs) {v : Bool} {g : Again} {x : Candidate} {t : Table} → AgainMeans v g → Means a v x → AllMean a v t →
      Keeps a (AllMean a v) (wrapped c p g x t)
  unfolding wrapped
  wrapped-keeps p alone_is i h = insert_closure-keeps p i h
  wrapped-keeps p (redo_is n) i h = bind-keeps a (insert_closure-keeps p i h) λ t h. casts_of-keeps p n (casts-mean a c) h

  wrapped_if_made-keeps : (p : Probs) {v : Bool} {g : Again} {m : Made} {t : Table} → AgainMeans v g → IfMade (Means a v) m →
      AllMean a v t → Keeps a (AllMean a v) (wrapped_if_made c p g m t)
  wrapped_if_made-keeps p n passed_is h = pure-keeps a h
  wrapped_if_made-keeps p n missing_is h = refuse-keeps a NotACost
  wrapped_if_made-keeps p n (made_is i) h = wrapped-keeps p n i h

  -- ---- pairing, where what two or three sides are joined to is v

  joined : {u v : Bool} {m : Made} → u ≡ v → IfMade (Means a u) m → IfMade (Means a v) m
  joined {m} e h = subst (λ b. IfMade (Means a b) m) e h

  binary-keeps : (p : Probs) {u w v : Bool} (join : Bool → Bool → Bool) {g : Again} {f : Pair} {ls rs t : Table} (x y : Float) →
      join u w ≡ v → AgainMeans v g → PairsMeaning a join f → AllMean a u ls → AllMean a w rs → AllMean a v t →
      Keeps a (AllMean a v) (binary c p g f x y ls rs t)
  binary-keeps p {u} {w} join x y e n f ls rs h =
      for_each-keeps (λ l i t h. for_each-keeps (λ r j t h. wrapped_if_made-keeps p n (joined e (f x y l r u w i j)) h) rs h) ls h

  ternary-keeps : (p : Probs) {t u w v : Bool} {g : Again} {xs ys zs o : Table} (x y : Float) →
      (t && u) || w ≡ v → AgainMeans v g → AllMean a t xs → AllMean a u ys → AllMean a w zs → AllMean a v o →
      Keeps a (AllMean a v) (ternary c p g x y xs ys zs o)
  ternary-keeps p {t} {u} {w} x y e n xs ys zs h =
      for_each-keeps (λ l i o h. for_each-keeps (λ m j o h. for_each-keeps (λ r k o h.
      wrapped_if_made-keeps p n (joined e (and_or-means a x y l m r t u w i j k)) h) zs h) ys h) xs h

  -- ---- choice, and what is remembered

  pub chosen-keeps : {P : Candidate → Type 0} {o : Option Candidate} → IfSome P o → Keeps a P (chosen o)
  chosen-keeps none_is = refuse-keeps a LimitsExceeded
  chosen-keeps (some_is h) = pure-keeps a h

  first_of : (b c : Bool) → b && c ≡ true → b ≡ true
  first_of true c h = refl
  first_of false c h = h

  lookup-means : (q : Policy) (p : Probs) {ts : List Stored} → All (λ r. AllMean a (policy_means a r.policy) r.table) ts →
      IfSome (AllMean a (policy_means a q)) (lookup q p ts)
  unfolding lookup
  lookup-means q p laws.nobody = none_is
  lookup-means q p (◌and◌ {x = t} {xs = ts} h hs) = by-test (same q t.policy && same_probs p t.at) refl (lookup-means q p hs)
    where
      by-test : (b : Bool) → same q t.policy && same_probs p t.at ≡ b → IfSome (AllMean a (policy_means a q)) (lookup q p ts) →
          IfSome (AllMean a (policy_means a q)) (cond b (Some t.table) (lookup q p ts))
      by-test true e r =
          let one : q ≡ t.policy = same-equal q t.policy (first_of _ _ e) in
          some_is (subst (λ q. AllMean a (policy_means a q) t.table) (sym one) h)
      by-test false e r = r

  kept-keeps : (q : Policy) (p : Probs) (t : Table) → AllMean a (policy_means a q) t → Keeps a (AllMean a (policy_means a q)) (kept q p t)
  kept-keeps q p [] h = refuse-keeps a LimitsExceeded
  kept-keeps q p (x ∷ xs) h = bind-keeps a (store_keeps a q p (x ∷ xs) h) λ _ _. pure-keeps a h

  found_or-keeps : {v : Bool} {o : Option Table} {m : M Table} → IfSome (AllMean a v) o → Keeps a (AllMean a v) m →
      Keeps a (AllMean a v) (found_or o m)
  found_or-keeps none_is h = h
  found_or-keeps (some_is k) h = pure-keeps a k

  remembering-keeps : (q : Policy) (p : Probs) {m : M Table} → Keeps a (AllMean a (policy_means a q)) m →
      Keeps a (AllMean a (policy_means a q)) (remembering q p m)
  unfolding remembering
  remembering-keeps q p h = record {
    from = λ s g. (found_or-keeps (lookup-means q p g.tables) (bind-keeps a h λ t k. kept-keeps q p t k)).from s g;
  }

  -- ---- searches

  abbrev BodyMeans : Bool → Body → Type 0
  BodyMeans v body = (p : Probs) (g : Again) → AgainMeans v g → Keeps a (AllMean a v) (body p g)

  again-means : {body : Body} (q : Policy) (p : Probs) (d : Option Float) → BodyMeans (policy_means a q) body →
      AgainMeans (policy_means a q) (again_at q body p d)
  again-means q p None h = alone_is
  again-means q p (Some d) h = redo_is (remembering-keeps q (without p) (h (without p) alone alone_is))

  searching-keeps : (q : Policy) {body : Body} → BodyMeans (policy_means a q) body → (p : Probs) →
      Keeps a (AllMean a (policy_means a q)) (searching q body p)
  unfolding searching
  searching-keeps q h p = remembering-keeps q p (h p _ (again-means q p p.dissat h))

  -- what the policy of a searcher means
  abbrev value : Searcher → Bool
  value s = policy_means a (policy_of s)

  unfoldable values : List Searcher → List Bool
  values [] = []
  values (s ∷ ss) = value s ∷ values ss

  -- the tables of a searcher mean its policy, and of an And the policy is its two sides
  data SearchesMean : Searcher → Type 0 where
    plain_is : {q : Policy} {f : Probs → M Table} → ((p : Probs) → Keeps a (AllMean a (policy_means a q)) (f p)) → SearchesMean (plain q f)
    conjunction_is : {q : Policy} {f : Probs → M Table} {l r : Searcher} → value l && value r ≡ policy_means a q →
        ((p : Probs) → Keeps a (AllMean a (policy_means a q)) (f p)) → SearchesMean l → SearchesMean r → SearchesMean (conjunction q f l r)

  search-keeps : {s : Searcher} → SearchesMean s → (p : Probs) → Keeps a (AllMean a (value s)) (search_of s p)
  search-keeps (plain_is h) p = h p
  search-keeps (conjunction_is e h l r) p = h p

  -- ---- leaves, And and Or

  leaves-mean : {v : Bool} {xs : Table} → AllMean a v xs → BodyMeans v (leaves c xs)
  leaves-mean gs p g n = for_each-keeps (λ x i t h. wrapped-keeps p n i h) gs laws.nobody

  false-means : AllMean a false (false' ∷ [])
  unfolding tree_means
  false-means = record { means = refl } and laws.nobody

  module _ {l r : Searcher} (lh : SearchesMean l) (rh : SearchesMean r) where
    and_body-means : BodyMeans (value l && value r) (and_body c l r)
    unfolding and_body
    and_body-means p g n =
        let u = value l in
        let v = value r in
        bind-keeps a (search-keeps lh p) λ left i.
        bind-keeps a (search-keeps rh p) λ right j.
        bind-keeps a (search-keeps rh (without p)) λ right₀ j₀.
        bind-keeps a (search-keeps lh (without p)) λ left₀ i₀.
        bind-keeps a (binary-keeps p ◌&&◌ 1· 1· refl n (and_b-means a) i j laws.nobody) λ t h.
        bind-keeps a (binary-keeps p ◌&&◌ 1· 1· (and_comm v u) n (and_b-means a) j i h) λ t h.
        bind-keeps a (binary-keeps p ◌&&◌ 1· 1· refl n (and_v-means a) i j h) λ t h.
        bind-keeps a (binary-keeps p ◌&&◌ 1· 1· (and_comm v u) n (and_v-means a) j i h) λ t h.
        bind-keeps a (ternary-keeps p 1· 0· (or-false (u && v)) n i j₀ false-means h) λ t h.
        ternary-keeps p 1· 0· (or-false (v && u) ∙ and_comm v u) n j i₀ false-means h

  and_ors-keeps : (p : Probs) {v : Bool} {g : Again} {s other : Searcher} {t : Table} (x y : Float) →
      value s || value other ≡ v → AgainMeans v g → SearchesMean s → SearchesMean other → AllMean a v t →
      Keeps a (AllMean a v) (and_ors c p g s other x y t)
  unfolding and_ors
  and_ors-keeps p x y e n (plain_is k) o h = pure-keeps a h
  and_ors-keeps p {other} x y e n (conjunction_is {l} {r} d k lh rh) o h =
      bind-keeps a (search-keeps lh _) λ a₁ i₁.
      bind-keeps a (search-keeps lh _) λ a₂ i₂.
      bind-keeps a (search-keeps rh _) λ b₁ j₁.
      bind-keeps a (search-keeps rh _) λ b₂ j₂.
      bind-keeps a (search-keeps o _) λ z m.
      bind-keeps a (ternary-keeps p x y (ap (λ b. b || value other) d ∙ e) n i₁ j₂ m h) λ t h.
      ternary-keeps p x y (ap (λ b. b || value other) (and_comm (value r) (value l) ∙ d) ∙ e) n j₁ i₂ m h

  record FourMean (v : Bool) (f : Four) : Type 0 where
    both : AllMean a v f.both
    other : AllMean a v f.other
    own : AllMean a v f.own
    none : AllMean a v f.none

  four_of-keeps : {s : Searcher} (p : Probs) (x y : Float) → SearchesMean s → Keeps a (FourMean (value s)) (four_of s p x y)
  unfolding four_of
  four_of-keeps p x y h =
      bind-keeps a (search-keeps h _) λ t₀ i₀.
      bind-keeps a (search-keeps h _) λ t₁ i₁.
      bind-keeps a (search-keeps h _) λ t₂ i₂.
      bind-keeps a (search-keeps h _) λ t₃ i₃.
      pure-keeps a (record { both = i₀; other = i₁; own = i₂; none = i₃ })

  or_body-means : {l r : Searcher} (x y : Float) → SearchesMean l → SearchesMean r →
      BodyMeans (value l || value r) (or_body c l r x y)
  unfolding or_body
  or_body-means {l} {r} x y lh rh p g n =
      let swapped = or_comm (value r) (value l) in
      bind-keeps a (and_ors-keeps p x y refl n lh rh laws.nobody) λ t h.
      bind-keeps a (and_ors-keeps p y x swapped n rh lh h) λ t h.
      bind-keeps a (four_of-keeps p x y lh) λ ls i.
      bind-keeps a (four_of-keeps p y x rh) λ rs j.
      bind-keeps a (binary-keeps p ◌||◌ x y refl n (or_b-means a) i.both j.both h) λ t h.
      bind-keeps a (binary-keeps p ◌||◌ y x swapped n (or_b-means a) j.both i.both h) λ t h.
      bind-keeps a (binary-keeps p ◌||◌ x y refl n (or_d-means a) i.both j.own h) λ t h.
      bind-keeps a (binary-keeps p ◌||◌ y x swapped n (or_d-means a) j.both i.own h) λ t h.
      bind-keeps a (binary-keeps p ◌||◌ x y refl n (or_c-means a) i.other j.none h) λ t h.
      bind-keeps a (binary-keeps p ◌||◌ y x swapped n (or_c-means a) j.other i.none h) λ t h.
      bind-keeps a (binary-keeps p ◌||◌ x y refl n (or_i-means a) i.own j.none h) λ t h.
      bind-keeps a (binary-keeps p ◌||◌ y x swapped n (or_i-means a) j.own i.none h) λ t h.
      bind-keeps a (binary-keeps p ◌||◌ x y refl n (or_i-means a) i.none j.own h) λ t h.
      binary-keeps p ◌||◌ y x swapped n (or_i-means a) j.none i.own h

  -- ---- Thresh

  best_of-keeps : (p : Probs) {s : Searcher} → SearchesMean s → Keeps a (BestMeans a (value s)) (best_of p s)
  unfolding best_of
  best_of-keeps p h =
      bind-keeps a (search-keeps h p) λ t k.
      bind-keeps a (chosen-keeps (cheapest-of p (suits_thresh B) k)) λ e i.
      bind-keeps a (search-keeps h p) λ t k.
      bind-keeps a (chosen-keeps (cheapest-of p (suits_thresh W) k)) λ w j.
      pure-keeps a (record { e = i.is; w = j.is })

  bests-keeps : (p : Probs) {ss : List Searcher} → All SearchesMean ss → Keeps a (BestsMean a (values ss)) (bests p ss)
  unfolding bests values
  bests-keeps p laws.nobody = pure-keeps a nobody
  bests-keeps p (h and hs) =
      bind-keeps a (best_of-keeps p h) λ b i.
      bind-keeps a (bests-keeps p hs) λ bs is.
      pure-keeps a (next i is)

  -- the keys of children that are all keys mean what the children mean
  key-or : {vs : List Bool} {keys : Option (List ℕ)} (q : Policy) → IfSome (λ ks. keys_mean a ks ≡ vs) keys →
      IfSome (λ ks. keys_mean a ks ≡ policy_means a q ∷ vs) (key_or q keys)
  unfolding policy_means
  key-or (Key n) none_is = none_is
  key-or (Key n) (some_is {x = keys} h) = some_is {x = n ∷ keys} (ap (λ bs. a (key n) ∷ bs) h)
  key-or Unsatisfiable h = none_is
  key-or Trivial h = none_is
  key-or (Lock kind n) h = none_is
  key-or (Hash kind n) h = none_is
  key-or (And l r) h = none_is
  key-or (Or l r u v) h = none_is
  key-or (Thresh k xs) h = none_is

  keys-of : (ss : List Searcher) → IfSome (λ ks. keys_mean a ks ≡ values ss) (keys_of ss)
  unfolding keys_of values
  keys-of [] = some_is refl
  keys-of (s ∷ ss) = key-or (policy_of s) (keys-of ss)

  multi_of-keeps : (p : Probs) {g : Again} {t : Table} {vs : List Bool} (k : ℕ) {keys : Option (List ℕ)} →
      IfSome (λ ks. keys_mean a ks ≡ vs) keys → AgainMeans (at_least k vs) g → AllMean a (at_least k vs) t →
      Keeps a (AllMean a (at_least k vs)) (multi_of c p g k keys t)
  multi_of-keeps p k none_is n h = pure-keeps a h
  multi_of-keeps p k (some_is {x = keys} e) n h = wrapped-keeps p n (record { means = (multi-means a c k keys).means ∙ ap (at_least k) e }) h

  -- the Ands that a Thresh with k = n folds to mean all of its children
  and_searcher-means : {l r : Searcher} → SearchesMean l → SearchesMean r → SearchesMean (and_searcher c l r)
  unfolding policy_means
  and_searcher-means lh rh = conjunction_is refl (searching-keeps _ (and_body-means lh rh)) lh rh

  fold_ands-means : {s : Searcher} {ss : List Searcher} → SearchesMean s → All SearchesMean ss → SearchesMean (fold_ands c s ss)
  unfolding fold_ands
  fold_ands-means h laws.nobody = h
  fold_ands-means {s} h (◌and◌ {x} k ks) = fold_ands-means {s = and_searcher c s x} (and_searcher-means h k) ks

  folded-value : (s : Searcher) (ss : List Searcher) → value (fold_ands c s ss) ≡ value s && all_true (values ss)
  unfolding fold_ands values all_true policy_means
  folded-value s [] = sym (and-true (value s))
  folded-value s (r ∷ ss) = folded-value (and_searcher c s r) ss ∙ and_assoc (value s) (value r) (all_true (values ss))

  as_many : (ss : List Searcher) → length (values ss) ≡ length ss
  unfolding values
  as_many [] = refl
  as_many (s ∷ ss) = ap suc (as_many ss)

  folded-all : (k : ℕ) (s : Searcher) (ss : List Searcher) → k ≡ suc (length ss) →
      value (fold_ands c s ss) ≡ at_least k (values (s ∷ ss))
  unfolding values all_true
  folded-all k s ss e =
      folded-value s ss ∙ sym (at-least-all (values (s ∷ ss)))
      ∙ ap (λ n. at_least n (values (s ∷ ss))) (ap suc (as_many ss) ∙ sym e)

  folded_or-keeps : {t : Table} (p : Probs) (k : ℕ) {ss : List Searcher} → All SearchesMean ss → AllMean a (at_least k (values ss)) t →
      Keeps a (AllMean a (at_least k (values ss))) (folded_or c p k ss t)
  folded_or-keeps p k laws.nobody h = pure-keeps a h
  folded_or-keeps p k (◌and◌ {x = s} {xs = ss} g gs) h =
      cond-keeps a (eqb k (suc (length ss)))
      (λ e. subst (λ v. Keeps a (AllMean a v) (search_of (fold_ands c s ss) p)) (folded-all k s ss (eqb-true _ _ e))
      (search-keeps (fold_ands-means g gs) p))
      (λ _. pure-keeps a h)

  thresh_body-means : (k : ℕ) {ss : List Searcher} → All SearchesMean ss → BodyMeans (at_least k (values ss)) (thresh_body c k ss)
  unfolding thresh_body
  thresh_body-means k {ss} hs p g n =
      bind-keeps a (bests-keeps _ hs) λ bs is.
      bind-keeps a (wrapped_if_made-keeps p n (thresh-means a c k _ is) laws.nobody) λ t h.
      bind-keeps a (multi_of-keeps p k (keys-of ss) n h) λ t h.
      folded_or-keeps p k hs h

  -- ---- every policy

  values_of : (xs : Policies) → values (searchers c xs) ≡ policies_mean a xs
  unfolding searchers values policies_mean
  values_of end = refl
  values_of (x ▹ xs) = rw (searches-its-policy c x, values_of xs)

  -- what two sides are joined to
  sides : (join : Bool → Bool → Bool) (l r : Policy) →
      join (value (searcher c l)) (value (searcher c r)) ≡ join (policy_means a l) (policy_means a r)
  sides join l r = rw (searches-its-policy c l, searches-its-policy c r)

  -- a body that means v, under a policy that does
  of-policy : (q : Policy) {v : Bool} {body : Body} → v ≡ policy_means a q → BodyMeans v body → (p : Probs) →
      Keeps a (AllMean a (policy_means a q)) (searching q body p)
  of-policy q {body} e h = searching-keeps q (subst (λ v. BodyMeans v body) e h)

  mutual
    unfolding searcher policy_means tree_means

    searcher-means : (q : Policy) → SearchesMean (searcher c q)
    searcher-means Unsatisfiable = plain_is (searching-keeps _ (leaves-mean (record { means = refl } and laws.nobody)))
    searcher-means Trivial = plain_is (searching-keeps _ (leaves-mean (record { means = refl } and laws.nobody)))
    searcher-means (Key n) = plain_is (searching-keeps _ (leaves-mean (record { means = refl } and record { means = refl } and laws.nobody)))
    searcher-means (Lock kind n) = plain_is (searching-keeps _ (leaves-mean (record { means = refl } and laws.nobody)))
    searcher-means (Hash kind n) = plain_is (searching-keeps _ (leaves-mean (record { means = refl } and laws.nobody)))
    searcher-means (And l r) =
        conjunction_is (sides ◌&&◌ l r) (of-policy (And l r) (sides ◌&&◌ l r) (and_body-means (searcher-means l) (searcher-means r)))
        (searcher-means l) (searcher-means r)
    searcher-means (Or l r lw rw) =
        plain_is (of-policy (Or l r lw rw) (sides ◌||◌ l r)
        (or_body-means (weights lw rw).lw (weights lw rw).rw (searcher-means l) (searcher-means r)))
    searcher-means (Thresh k xs) =
        plain_is (of-policy (Thresh k xs) (ap (at_least k) (values_of xs)) (thresh_body-means k (searchers-mean xs)))

    searchers-mean : (xs : Policies) → All SearchesMean (searchers c xs)
    searchers-mean end = laws.nobody
    searchers-mean (x ▹ xs) = searcher-means x and searchers-mean xs

  pub search-means : (q : Policy) (p : Probs) → Keeps a (AllMean a (policy_means a q)) (search c q p)
  search-means q p =
      subst (λ r. Keeps a (AllMean a (policy_means a r)) (search c q p)) (searches-its-policy c q) (search-keeps (searcher-means q) p)
