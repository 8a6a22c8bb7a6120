-- The definition case by case, for proofs that keep it shut: what each of its functions gives in each of its cases, in terms of `then`.
use mathlib.Core.Bool.{Bool, true, false, cond, not, ◌&&◌}
use mathlib.Core.List.{List, [], ◌∷◌, ◌++◌}
use Rattle.std.specs.Prelude.{None, Some}
use mathlib.Core.Path.{◌≡◌, refl, sym, ap, ◌∙◌}
use Prim.Native.Nat.{ℕ, zero, suc}
use lib.Dec.{leb, eqb}
use lib.ListN.{length}
use lib.Ieee.{Float, inf, lt}
use Rattle.contexts.specs.declared.Context.{Context}
use Rattle.contexts.specs.Leaves.{LockKind, HashKind}
use Rattle.correctness.specs.declared.Base.TheVariants.{B, W}
use Rattle.costs.specs.declared.Price.{Price}
use Rattle.costs.specs.declared.Price.TheVariants as Price
use Rattle.costs.specs.Price.{is_price, excess}
use Rattle.costs.specs.Arithmetic.{◌⊕◌, ◌⊖◌, ◌⊗◌, ◌⊘◌, float_of, 0·, 1·}
use Rattle.costs.specs.Weights.{weights}
use Rattle.policies.specs.Policy.{Policy, Policies, end, ◌▹◌, Unsatisfiable, Trivial, Key, Lock, Hash, And, Or, Thresh, fold_and}
use Rattle.definition.specs.Candidates.{Candidate, Cast, all_casts, passed_over, missing, made}
use Rattle.definition.specs.Candidates.{false', true', pk_k, pk_h, lock, hash, and_b, and_v, or_b, or_d, or_c, or_i, thresh_of}
use Rattle.definition.specs.Tables.{Probs, probs, Table, cost_at, enter}
use Rattle.definition.specs.SamePolicy.{same}
use Rattle.definition.specs.Refusals.{State, state, Stored, Res, done, refused, M, then, pure, refuse, lookup, same_probs}
use Rattle.definition.specs.Refusals.{NodesFull, TableFull, CacheFull, FuelSpent, NotACost, LimitsExceeded}
use Rattle.definition.specs.Refusals.{max_accepted, max_entries, max_tables, max_pops}
use Rattle.definition.specs.Insertion.{if_priced, any, filter, worthwhile, beats, Offered, turned_away, entered, insert, Queued, queued, joins}
use Rattle.definition.specs.Insertion.{offer, cast_all, closure, insert_closure}
use Rattle.definition.specs.Search.{Again, alone, redo, for_each, inserted_if_typed, casts_of, wrapped, wrapped_if_made, binary, ternary}
use Rattle.definition.specs.Search.{cheaper, cheapest, chosen, suits_thresh, is_base_b, Searcher, plain, conjunction, policy_of, search_of, kept}
use Rattle.definition.specs.Search.{remembering, Body, without, searching, leaves, and_body, or_none, and_ors, Four, four_of, or_body}
use Rattle.definition.specs.Search.{Best, best_of, bests, most_gaining, nth, others_as_w, arranged, key_or, keys_of, multi_of, and_searcher}
use Rattle.definition.specs.Search.{fold_ands, folded_or, thresh_body, searcher, searchers, search}
use Rattle.definition.specs.Compile.{root_probs, if_safe, best_compilation}

-- ---- steps in turn

module _ {A B : Type 0} (k : A → M B) where
  pub then-done : {r : Res A} {a : A} {s : State} → r ≡ done a s → then r k ≡ k a s
  unfolding then
  then-done h = ap (λ r. then r k) h

  pub then-refused : {r : Res A} {e : ℕ} → r ≡ refused e → then r k ≡ refused e
  unfolding then
  then-refused h = ap (λ r. then r k) h

pub then-then : {A B C : Type 0} (r : Res A) (k : A → M B) (l : B → M C) → then (then r k) l ≡ then r (λ a s. then (k a s) l)
unfolding then
then-then (done a s) k l = refl
then-then (refused e) k l = refl

-- ---- lists of entries

pub any_none : (p : Candidate → Bool) → any p [] ≡ false
unfolding any
any_none p = refl

pub any_next : (p : Candidate → Bool) (x : Candidate) (xs : Table) → any p (x ∷ xs) ≡ cond (p x) true (any p xs)
unfolding any
any_next p x xs = refl

pub filter_none : (p : Candidate → Bool) → filter p [] ≡ []
unfolding filter
filter_none p = refl

pub filter-next : (p : Candidate → Bool) (x : Candidate) (xs : Table) → filter p (x ∷ xs) ≡ cond (p x) (x ∷ filter p xs) (filter p xs)
unfolding filter
filter-next p x xs = refl

pub enter-none : (x : Candidate) → enter x [] ≡ x ∷ []
unfolding enter
enter-none x = refl

-- ---- insert

-- the entries that do not lose to a candidate
abbrev pub unbeaten : Probs → Candidate → Table → Table
unbeaten p x t = filter (λ e. not (beats p x e)) t

abbrev pub offered : Table → Bool → Offered
offered t b = record { table = t; accepted = b }

-- the three tests before a candidate enters
abbrev decided : (worth cost beaten : Bool) → Candidate → Table → (kept : Table) → M Offered
decided w i b x t kept = cond w (cond i (cond b (turned_away t) (entered x kept)) (refuse NotACost)) (turned_away t)

module _ {w i b : Bool} (x : Candidate) (t kept : Table) (s : State) where
  beaten : w ≡ true → i ≡ true → b ≡ true → decided w i b x t kept s ≡ done (offered t false) s
  beaten h k l = rw (h, k, l)

  unbeaten-enters : w ≡ true → i ≡ true → b ≡ false → decided w i b x t kept s ≡ entered x kept s
  unbeaten-enters h k l = rw (h, k, l)

pub priced-is : (price : Price) (m : M Offered) → if_priced price m ≡ cond (is_price price) m (refuse NotACost)
priced-is (Price.Finite x) m = refl
priced-is Price.Never m = refl
priced-is Price.NotACost m = refl

-- what is left of the table is full, or it is not
module _ (x : Candidate) (kept : Table) (s : State) where
  pub entered-table-full : leb (suc (length kept)) max_entries ≡ false → entered x kept s ≡ refused TableFull
  entered-table-full l = rw l

  pub entered-nodes-full : leb (suc (length kept)) max_entries ≡ true → leb (suc s.accepted) max_accepted ≡ false →
      entered x kept s ≡ refused NodesFull
  unfolding then
  entered-nodes-full l n = rw (l, n)

  pub entered-enters : leb (suc (length kept)) max_entries ≡ true → leb (suc s.accepted) max_accepted ≡ true →
      entered x kept s ≡ done (offered (enter x kept) true) (state (suc s.accepted) s.stored)
  unfolding then
  entered-enters l n = rw (l, n)

module _ (c : Context) (p : Probs) (x : Candidate) (t : Table) (s : State) where
  -- malleable, or not what the context takes
  pub insert-unworthy : worthwhile c x ≡ false → insert c p x t s ≡ done (offered t false) s
  unfolding insert
  insert-unworthy w = rw w

  insert-is : insert c p x t s ≡ decided (worthwhile c x) (is_price (cost_at p x)) (any (λ e. beats p e x) t) x t (unbeaten p x t) s
  unfolding insert
  insert-is = ap (λ (m : M Offered). cond (worthwhile c x) m (turned_away t) s) (priced-is (cost_at p x) _)

  pub insert-costless : worthwhile c x ≡ true → is_price (cost_at p x) ≡ false → insert c p x t s ≡ refused NotACost
  insert-costless w i = insert-is ∙ rw (w, i)

  pub insert-beaten : worthwhile c x ≡ true → is_price (cost_at p x) ≡ true → any (λ e. beats p e x) t ≡ true →
      insert c p x t s ≡ done (offered t false) s
  insert-beaten w i b = insert-is ∙ beaten x t (unbeaten p x t) s w i b

  pub insert-unbeaten : worthwhile c x ≡ true → is_price (cost_at p x) ≡ true → any (λ e. beats p e x) t ≡ false →
      insert c p x t s ≡ entered x (unbeaten p x t) s
  insert-unbeaten w i b = insert-is ∙ unbeaten-enters x t (unbeaten p x t) s w i b

  pub insert-table-full : worthwhile c x ≡ true → is_price (cost_at p x) ≡ true → any (λ e. beats p e x) t ≡ false →
      leb (suc (length (unbeaten p x t))) max_entries ≡ false → insert c p x t s ≡ refused TableFull
  insert-table-full w i b l = insert-unbeaten w i b ∙ entered-table-full x (unbeaten p x t) s l

  pub insert-nodes-full : worthwhile c x ≡ true → is_price (cost_at p x) ≡ true → any (λ e. beats p e x) t ≡ false →
      leb (suc (length (unbeaten p x t))) max_entries ≡ true → leb (suc s.accepted) max_accepted ≡ false → insert c p x t s ≡ refused NodesFull
  insert-nodes-full w i b l n = insert-unbeaten w i b ∙ entered-nodes-full x (unbeaten p x t) s l n

  pub insert-enters : worthwhile c x ≡ true → is_price (cost_at p x) ≡ true → any (λ e. beats p e x) t ≡ false →
      leb (suc (length (unbeaten p x t))) max_entries ≡ true → leb (suc s.accepted) max_accepted ≡ true →
      insert c p x t s ≡ done (offered (enter x (unbeaten p x t)) true) (state (suc s.accepted) s.stored)
  insert-enters w i b l n = insert-unbeaten w i b ∙ entered-enters x (unbeaten p x t) s l n

-- ---- the closure

module _ (c : Context) (p : Probs) where
  pub offer-none : (w : Queued) (s : State) → offer c p None w s ≡ done w s
  offer-none w s = refl

  pub offer-some : (x : Candidate) (w : Queued) (s : State) →
      offer c p (Some x) w s ≡ then (insert c p x w.table s) (λ o. pure (joins x w.queue o))
  offer-some x w s = refl

  pub cast_all-none : (x : Candidate) (w : Queued) (s : State) → cast_all c p x [] w s ≡ done w s
  unfolding cast_all
  cast_all-none x w s = refl

  pub cast_all-next : (x : Candidate) (f : Cast) (fs : List Cast) (w : Queued) (s : State) →
      cast_all c p x (f ∷ fs) w s ≡ then (offer c p (f x) w s) (λ w. cast_all c p x fs w)
  unfolding cast_all
  cast_all-next x f fs w s = refl

  pub closure-nobody : (pops : ℕ) (t : Table) (s : State) → closure c p pops (queued t []) s ≡ done t s
  unfolding closure
  closure-nobody zero t s = refl
  closure-nobody (suc pops) t s = refl

  pub closure-spent : (t : Table) (x : Candidate) (q : List Candidate) (s : State) → closure c p 0 (queued t (x ∷ q)) s ≡ refused FuelSpent
  unfolding closure
  closure-spent t x q s = refl

  pub closure-pops : (pops : ℕ) (t : Table) (x : Candidate) (q : List Candidate) (s : State) →
      closure c p (suc pops) (queued t (x ∷ q)) s ≡ then (cast_all c p x (all_casts c) (queued t q) s) (λ w. closure c p pops w)
  unfolding closure
  closure-pops pops t x q s = refl

  pub insert_closure-is : (x : Candidate) (t : Table) (s : State) →
      insert_closure c p x t s ≡ then (offer c p (Some x) (queued t []) s) (λ w. closure c p max_pops w)
  unfolding insert_closure
  insert_closure-is x t s = refl

-- ---- wrapping and pairing

pub for_each-none : (f : Candidate → Table → M Table) (t : Table) (s : State) → for_each f [] t s ≡ done t s
unfolding for_each
for_each-none f t s = refl

pub for_each-next : (f : Candidate → Table → M Table) (x : Candidate) (xs t : Table) (s : State) →
    for_each f (x ∷ xs) t s ≡ then (f x t s) (λ t. for_each f xs t)
unfolding for_each
for_each-next f x xs t s = refl

pub for_each-append : (f : Candidate → Table → M Table) (xs ys t : Table) (s : State) →
    for_each f (xs ++ ys) t s ≡ then (for_each f xs t s) (λ t. for_each f ys t)
unfolding for_each then
for_each-append f [] ys t s = refl
for_each-append f (x ∷ xs) ys t s = by_first (f x t s) (λ t s. for_each-append f xs ys t s)
  where
    by_first : (r : Res Table) → ((t : Table) (s : State) → for_each f (xs ++ ys) t s ≡ then (for_each f xs t s) (λ t. for_each f ys t)) →
        then r (λ t. for_each f (xs ++ ys) t) ≡ then (then r (λ t. for_each f xs t)) (λ t. for_each f ys t)
    by_first (done t s) h = h t s
    by_first (refused e) h = refl

module _ (c : Context) (p : Probs) where
  pub inserted_if_typed-none : (t : Table) (s : State) → inserted_if_typed c p None t s ≡ done t s
  inserted_if_typed-none t s = refl

  pub inserted_if_typed-some : (x : Candidate) (t : Table) (s : State) → inserted_if_typed c p (Some x) t s ≡ insert_closure c p x t s
  inserted_if_typed-some x t s = refl

  pub casts_of-none : (m : M Table) (t : Table) (s : State) → casts_of c p m [] t s ≡ done t s
  unfolding casts_of
  casts_of-none m t s = refl

  pub casts_of-next : (m : M Table) (f : Cast) (fs : List Cast) (t : Table) (s : State) →
      casts_of c p m (f ∷ fs) t s
      ≡ then (m s) λ xs s. then (for_each (λ x. inserted_if_typed c p (f x)) xs t s) λ t. casts_of c p m fs t
  unfolding casts_of
  casts_of-next m f fs t s = refl

  pub wrapped-alone : (x : Candidate) (t : Table) (s : State) → wrapped c p alone x t s ≡ insert_closure c p x t s
  unfolding wrapped
  wrapped-alone x t s = refl

  pub wrapped-redo : (m : M Table) (x : Candidate) (t : Table) (s : State) →
      wrapped c p (redo m) x t s ≡ then (insert_closure c p x t s) λ t. casts_of c p m (all_casts c) t
  unfolding wrapped
  wrapped-redo m x t s = refl

  pub wrapped_if_made-passed : (g : Again) (t : Table) (s : State) → wrapped_if_made c p g passed_over t s ≡ done t s
  wrapped_if_made-passed g t s = refl

  pub wrapped_if_made-missing : (g : Again) (t : Table) (s : State) → wrapped_if_made c p g missing t s ≡ refused NotACost
  wrapped_if_made-missing g t s = refl

  pub wrapped_if_made-made : (g : Again) (x : Candidate) (t : Table) (s : State) → wrapped_if_made c p g (made x) t s ≡ wrapped c p g x t s
  wrapped_if_made-made g x t s = refl

-- ---- choice

pub cheapest-none : (p : Probs) (suits : Candidate → Bool) → cheapest p suits [] ≡ None
unfolding cheapest
cheapest-none p suits = refl

pub cheapest-suits : (p : Probs) (suits : Candidate → Bool) (x : Candidate) (xs : Table) → suits x ≡ true →
    cheapest p suits (x ∷ xs) ≡ Some (cheaper p x (cheapest p suits xs))
unfolding cheapest
cheapest-suits p suits x xs h = rw h

pub cheapest-other : (p : Probs) (suits : Candidate → Bool) (x : Candidate) (xs : Table) → suits x ≡ false →
    cheapest p suits (x ∷ xs) ≡ cheapest p suits xs
unfolding cheapest
cheapest-other p suits x xs h = rw h

-- ---- what is remembered

pub lookup-none : (q : Policy) (p : Probs) → lookup q p [] ≡ None
unfolding lookup
lookup-none q p = refl

pub lookup-found : (q : Policy) (p : Probs) (t : Stored) (ts : List Stored) → (same q t.policy && same_probs p t.at) ≡ true →
    lookup q p (t ∷ ts) ≡ Some t.table
unfolding lookup
lookup-found q p t ts h = rw h

pub lookup-other : (q : Policy) (p : Probs) (t : Stored) (ts : List Stored) → (same q t.policy && same_probs p t.at) ≡ false →
    lookup q p (t ∷ ts) ≡ lookup q p ts
unfolding lookup
lookup-other q p t ts h = rw h

pub kept-empty : (q : Policy) (p : Probs) (s : State) → kept q p [] s ≡ refused LimitsExceeded
kept-empty q p s = refl

pub kept-kept : (q : Policy) (p : Probs) (x : Candidate) (xs : Table) (s : State) → leb (suc (length s.stored)) max_tables ≡ true →
    kept q p (x ∷ xs) s ≡ done (x ∷ xs) (state s.accepted (record { policy = q; at = p; table = x ∷ xs } ∷ s.stored))
unfolding then
kept-kept q p x xs s h = rw h

pub kept_full : (q : Policy) (p : Probs) (x : Candidate) (xs : Table) (s : State) → leb (suc (length s.stored)) max_tables ≡ false →
    kept q p (x ∷ xs) s ≡ refused CacheFull
unfolding then
kept_full q p x xs s h = rw h

module _ (q : Policy) (p : Probs) (m : M Table) (s : State) where
  pub remembering-found : {t : Table} → lookup q p s.stored ≡ Some t → remembering q p m s ≡ done t s
  unfolding remembering
  remembering-found l = rw l

  pub remembering-new : lookup q p s.stored ≡ None → remembering q p m s ≡ then (m s) (λ t. kept q p t)
  unfolding remembering
  remembering-new l = rw l

  pub remembering-refused : {e : ℕ} → lookup q p s.stored ≡ None → m s ≡ refused e → remembering q p m s ≡ refused e
  remembering-refused l h = remembering-new l ∙ then-refused (λ t. kept q p t) h

  pub remembering-empty : {s' : State} → lookup q p s.stored ≡ None → m s ≡ done [] s' → remembering q p m s ≡ refused LimitsExceeded
  remembering-empty l h = remembering-new l ∙ then-done (λ t. kept q p t) h

  pub remembering-kept : {x : Candidate} {xs : Table} {s' : State} → lookup q p s.stored ≡ None → m s ≡ done (x ∷ xs) s' →
      leb (suc (length s'.stored)) max_tables ≡ true →
      remembering q p m s ≡ done (x ∷ xs) (state s'.accepted (record { policy = q; at = p; table = x ∷ xs } ∷ s'.stored))
  remembering-kept {x} {xs} {s'} l h f = remembering-new l ∙ then-done (λ t. kept q p t) h ∙ kept-kept q p x xs s' f

  pub remembering-full : {x : Candidate} {xs : Table} {s' : State} → lookup q p s.stored ≡ None → m s ≡ done (x ∷ xs) s' →
      leb (suc (length s'.stored)) max_tables ≡ false → remembering q p m s ≡ refused CacheFull
  remembering-full {x} {xs} {s'} l h f = remembering-new l ∙ then-done (λ t. kept q p t) h ∙ kept_full q p x xs s' f

-- ---- searches

pub searching-none : (q : Policy) (body : Body) (sat : Float) →
    searching q body (probs sat None) ≡ remembering q (probs sat None) (body (probs sat None) alone)
unfolding searching
searching-none q body sat = refl

pub searching-some : (q : Policy) (body : Body) (sat d : Float) →
    searching q body (probs sat (Some d))
    ≡ remembering q (probs sat (Some d))
    (body (probs sat (Some d)) (redo (remembering q (probs sat None) (body (probs sat None) alone))))
unfolding searching
searching-some q body sat d = refl

-- what is asked for again is the search without dissatisfaction
pub searching-again : (q : Policy) (body : Body) (sat d : Float) →
    searching q body (probs sat (Some d))
    ≡ remembering q (probs sat (Some d)) (body (probs sat (Some d)) (redo (searching q body (probs sat None))))
unfolding searching
searching-again q body sat d = refl

module _ (c : Context) (p : Probs) where
  pub search-unsatisfiable : search c Unsatisfiable p ≡ searching Unsatisfiable (leaves c (false' ∷ [])) p
  unfolding searcher
  search-unsatisfiable = refl

  pub search-trivial : search c Trivial p ≡ searching Trivial (leaves c (true' ∷ [])) p
  unfolding searcher
  search-trivial = refl

  pub search-key : (n : ℕ) → search c (Key n) p ≡ searching (Key n) (leaves c (pk_h c n ∷ pk_k c n ∷ [])) p
  unfolding searcher
  search-key n = refl

  pub search-lock : (kind : LockKind) (n : ℕ) → search c (Lock kind n) p ≡ searching (Lock kind n) (leaves c (lock kind n ∷ [])) p
  unfolding searcher
  search-lock kind n = refl

  pub search-hash : (kind : HashKind) (n : ℕ) → search c (Hash kind n) p ≡ searching (Hash kind n) (leaves c (hash kind n ∷ [])) p
  unfolding searcher
  search-hash kind n = refl

  pub search-and : (l r : Policy) → search c (And l r) p ≡ searching (And l r) (and_body c (searcher c l) (searcher c r)) p
  unfolding searcher
  search-and l r = refl

  pub search-or : (l r : Policy) (lw rw : ℕ) →
      search c (Or l r lw rw) p
      ≡ searching (Or l r lw rw) (or_body c (searcher c l) (searcher c r) (weights lw rw).lw (weights lw rw).rw) p
  unfolding searcher
  search-or l r lw rw = refl

  pub search-thresh : (k : ℕ) (xs : Policies) → search c (Thresh k xs) p ≡ searching (Thresh k xs) (thresh_body c k (searchers c xs)) p
  unfolding searcher
  search-thresh k xs = refl

pub searchers-none : (c : Context) → searchers c end ≡ []
unfolding searcher
searchers-none c = refl

pub searchers-next : (c : Context) (x : Policy) (xs : Policies) → searchers c (x ▹ xs) ≡ searcher c x ∷ searchers c xs
unfolding searcher
searchers-next c x xs = refl

-- ---- And

pub leaves-is : (c : Context) (xs : Table) (p : Probs) (g : Again) (s : State) → leaves c xs p g s ≡ for_each (λ x. wrapped c p g x) xs [] s
leaves-is c xs p g s = refl

-- what is done with the four tables of an And
abbrev pub and_pairs : Context → Probs → Again → (left right right₀ left₀ : Table) → M Table
and_pairs c p g left right right₀ left₀ s =
    then (binary c p g and_b 1· 1· left right [] s) λ t s.
    then (binary c p g and_b 1· 1· right left t s) λ t s.
    then (binary c p g and_v 1· 1· left right t s) λ t s.
    then (binary c p g and_v 1· 1· right left t s) λ t s.
    then (ternary c p g 1· 0· left right₀ (false' ∷ []) t s) λ t s.
    ternary c p g 1· 0· right left₀ (false' ∷ []) t s

pub and_body-steps : (c : Context) (l r : Searcher) (p : Probs) (g : Again) (s : State) →
    and_body c l r p g s
    ≡ then (search_of l p s) λ left s.
    then (search_of r p s) λ right s.
    then (search_of r (without p) s) λ right₀ s.
    then (search_of l (without p) s) λ left₀ s.
    and_pairs c p g left right right₀ left₀ s
unfolding and_body
and_body-steps c l r p g s = refl

-- ---- Or

pub and_ors-plain : (c : Context) (p : Probs) (g : Again) (q : Policy) (f : Probs → M Table) (other : Searcher) (w v : Float) (t : Table) (s : State) →
    and_ors c p g (plain q f) other w v t s ≡ done t s
unfolding and_ors
and_ors-plain c p g q f other w v t s = refl

pub and_ors-steps : (c : Context) (p : Probs) (g : Again) (q : Policy) (f : Probs → M Table) (x y other : Searcher) (w v : Float)
    (t : Table) (s : State) →
    and_ors c p g (conjunction q f x y) other w v t s
    ≡ then (search_of x (probs (w ⊗ p.sat) (Some (or_none p.dissat ⊕ v ⊗ p.sat))) s) λ a₁ s.
    then (search_of x (probs (w ⊗ p.sat) None) s) λ a₂ s.
    then (search_of y (probs (w ⊗ p.sat) (Some (or_none p.dissat ⊕ v ⊗ p.sat))) s) λ b₁ s.
    then (search_of y (probs (w ⊗ p.sat) None) s) λ b₂ s.
    then (search_of other (probs (v ⊗ p.sat) p.dissat) s) λ z s.
    then (ternary c p g w v a₁ b₂ z t s) λ t s.
    ternary c p g w v b₁ a₂ z t s
unfolding and_ors
and_ors-steps c p g q f x y other w v t s = refl

pub four_of-steps : (u : Searcher) (p : Probs) (w v : Float) (s : State) →
    four_of u p w v s
    ≡ then (search_of u (probs (w ⊗ p.sat) (Some (or_none p.dissat ⊕ v ⊗ p.sat))) s) λ t₀ s.
    then (search_of u (probs (w ⊗ p.sat) (Some (v ⊗ p.sat))) s) λ t₁ s.
    then (search_of u (probs (w ⊗ p.sat) p.dissat) s) λ t₂ s.
    then (search_of u (probs (w ⊗ p.sat) None) s) λ t₃ s.
    done (record { both = t₀; other = t₁; own = t₂; none = t₃ }) s
unfolding four_of
four_of-steps u p w v s = refl

-- what is done with the eight tables of an Or
abbrev pub or_pairs : Context → Probs → Again → (lw rw : Float) → (ls rs : Four) → Table → M Table
or_pairs c p g lw rw ls rs t s =
    then (binary c p g or_b lw rw ls.both rs.both t s) λ t s.
    then (binary c p g or_b rw lw rs.both ls.both t s) λ t s.
    then (binary c p g or_d lw rw ls.both rs.own t s) λ t s.
    then (binary c p g or_d rw lw rs.both ls.own t s) λ t s.
    then (binary c p g or_c lw rw ls.other rs.none t s) λ t s.
    then (binary c p g or_c rw lw rs.other ls.none t s) λ t s.
    then (binary c p g or_i lw rw ls.own rs.none t s) λ t s.
    then (binary c p g or_i rw lw rs.own ls.none t s) λ t s.
    then (binary c p g or_i lw rw ls.none rs.own t s) λ t s.
    binary c p g or_i rw lw rs.none ls.own t s

pub or_body-steps : (c : Context) (l r : Searcher) (lw rw : Float) (p : Probs) (g : Again) (s : State) →
    or_body c l r lw rw p g s
    ≡ then (and_ors c p g l r lw rw [] s) λ t s.
    then (and_ors c p g r l rw lw t s) λ t s.
    then (four_of l p lw rw s) λ ls s.
    then (four_of r p rw lw s) λ rs s.
    or_pairs c p g lw rw ls rs t s
unfolding or_body
or_body-steps c l r lw rw p g s = refl

-- ---- Thresh

pub best_of-steps : (p : Probs) (u : Searcher) (s : State) →
    best_of p u s
    ≡ then (search_of u p s) λ t s.
    then (chosen (cheapest p (suits_thresh B) t) s) λ e s.
    then (search_of u p s) λ t s.
    then (chosen (cheapest p (suits_thresh W) t) s) λ w s.
    done (record { e = e; w = w }) s
unfolding best_of
best_of-steps p u s = refl

pub bests-none : (p : Probs) (s : State) → bests p [] s ≡ done [] s
unfolding bests
bests-none p s = refl

pub bests-next : (p : Probs) (u : Searcher) (us : List Searcher) (s : State) →
    bests p (u ∷ us) s ≡ then (best_of p u s) λ b s. then (bests p us s) λ bs s. done (b ∷ bs) s
unfolding bests
bests-next p u us s = refl

pub most_gaining-none : (p : Probs) (place best : ℕ) (least : Float) → most_gaining p place best least [] ≡ best
unfolding most_gaining
most_gaining-none p place best least = refl

pub most_gaining-gains : (p : Probs) (place best : ℕ) (least : Float) (b : Best) (bs : List Best) →
    lt (excess (cost_at p b.e) (cost_at p b.w)) least ≡ true →
    most_gaining p place best least (b ∷ bs) ≡ most_gaining p (suc place) place (excess (cost_at p b.e) (cost_at p b.w)) bs
unfolding most_gaining
most_gaining-gains p place best least b bs h = rw h

pub most_gaining-other : (p : Probs) (place best : ℕ) (least : Float) (b : Best) (bs : List Best) →
    lt (excess (cost_at p b.e) (cost_at p b.w)) least ≡ false →
    most_gaining p place best least (b ∷ bs) ≡ most_gaining p (suc place) best least bs
unfolding most_gaining
most_gaining-other p place best least b bs h = rw h

pub others_as_w-none : (b : Best) (m place : ℕ) → others_as_w b m place [] ≡ []
unfolding others_as_w
others_as_w-none b m place = refl

pub others_as_w-next : (b : Best) (m place : ℕ) (x : Best) (xs : List Best) →
    others_as_w b m place (x ∷ xs) ≡ cond (eqb place m) b.w x.w ∷ others_as_w b m (suc place) xs
unfolding others_as_w
others_as_w-next b m place x xs = refl

pub arranged_is : (m : ℕ) (b : Best) (bs : List Best) → arranged m (b ∷ bs) ≡ (nth m b (b ∷ bs)).e ∷ others_as_w b m 1 bs
unfolding arranged
arranged_is m b bs = refl

abbrev pub k_over_n : (k n : ℕ) → Float
k_over_n k n = float_of k ⊘ float_of n

-- the probabilities of a child of a Thresh of n children
abbrev pub child_probs : Probs → (k n : ℕ) → Probs
child_probs p k n = probs (p.sat ⊗ k_over_n k n) (Some (or_none p.dissat ⊕ (1· ⊖ k_over_n k n) ⊗ p.sat))

pub thresh_body-steps : (c : Context) (k : ℕ) (us : List Searcher) (p : Probs) (g : Again) (s : State) →
    thresh_body c k us p g s
    ≡ then (bests (child_probs p k (length us)) us s) λ bs s.
    then (wrapped_if_made c p g (thresh_of c k (arranged (most_gaining (child_probs p k (length us)) 0 0 (inf false) bs) bs)) [] s) λ t s.
    then (multi_of c p g k (keys_of us) t s) λ t s.
    folded_or c p k us t s
unfolding thresh_body
thresh_body-steps c k us p g s = refl

-- ---- the Ands that a Thresh folds to

pub policy-of : (c : Context) (q : Policy) → policy_of (searcher c q) ≡ q
unfolding searcher
policy-of c Unsatisfiable = refl
policy-of c Trivial = refl
policy-of c (Key n) = refl
policy-of c (Lock kind n) = refl
policy-of c (Hash kind n) = refl
policy-of c (And l r) = refl
policy-of c (Or l r lw rw) = refl
policy-of c (Thresh k xs) = refl

pub keys_of-none : keys_of [] ≡ Some []
unfolding keys_of
keys_of-none = refl

pub keys_of-next : (c : Context) (q : Policy) (us : List Searcher) → keys_of (searcher c q ∷ us) ≡ key_or q (keys_of us)
unfolding keys_of
keys_of-next c q us = ap (λ q. key_or q (keys_of us)) (policy-of c q)

pub fold_ands-none : (c : Context) (acc : Searcher) → fold_ands c acc [] ≡ acc
unfolding fold_ands
fold_ands-none c acc = refl

pub fold_ands-next : (c : Context) (acc u : Searcher) (us : List Searcher) → fold_ands c acc (u ∷ us) ≡ fold_ands c (and_searcher c acc u) us
unfolding fold_ands
fold_ands-next c acc u us = refl

-- an And's searcher is made of those of its sides
pub and-searcher : (c : Context) (l r : Policy) → and_searcher c (searcher c l) (searcher c r) ≡ searcher c (And l r)
unfolding searcher
and-searcher c l r = of (policy-of c l) (policy-of c r)
  where
    of : {x y : Policy} → x ≡ l → y ≡ r →
        conjunction (And x y) (searching (And x y) (and_body c (searcher c l) (searcher c r))) (searcher c l) (searcher c r)
        ≡ conjunction (And l r) (searching (And l r) (and_body c (searcher c l) (searcher c r))) (searcher c l) (searcher c r)
    of p q = rw (p, q)

fold-none : (c : Context) (x : Policy) → fold_ands c (searcher c x) (searchers c end) ≡ searcher c (fold_and x end)
unfolding fold_ands fold_and searchers
fold-none c x = refl

fold_next : (c : Context) (x y : Policy) (xs : Policies) →
    fold_ands c (searcher c x) (searchers c (y ▹ xs)) ≡ fold_ands c (searcher c (And x y)) (searchers c xs)
fold_next c x y xs = step ∙ ap (λ u. fold_ands c u (searchers c xs)) (and-searcher c x y)
  where
    step : fold_ands c (searcher c x) (searchers c (y ▹ xs)) ≡ fold_ands c (and_searcher c (searcher c x) (searcher c y)) (searchers c xs)
    step = ap (fold_ands c (searcher c x)) (searchers-next c y xs) ∙ fold_ands-next c (searcher c x) (searcher c y) (searchers c xs)

-- so the Ands of a Thresh are searched as the policy that the fold makes
pub fold-searcher : (c : Context) (x : Policy) (xs : Policies) → fold_ands c (searcher c x) (searchers c xs) ≡ searcher c (fold_and x xs)
unfolding fold_and
fold-searcher c x end = fold-none c x
fold-searcher c x (y ▹ xs) = fold_next c x y xs ∙ fold-searcher c (And x y) xs ∙ ap (searcher c) (sym (fold_and-next x y xs))
  where
    fold_and-next : (x y : Policy) (xs : Policies) → fold_and x (y ▹ xs) ≡ fold_and (And x y) xs
    fold_and-next x y xs = refl

-- ---- the root

pub best_compilation-steps : (c : Context) (q : Policy) (s : State) →
    best_compilation c q s
    ≡ then (search c q root_probs s) λ t s. then (chosen (cheapest root_probs is_base_b t) s) λ x s. if_safe x s
unfolding best_compilation
best_compilation-steps c q s = refl
