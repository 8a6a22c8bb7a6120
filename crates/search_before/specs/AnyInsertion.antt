-- The search of crate `definition` (specs/Insertion.antt and specs/Search.antt), clause by clause, over any way of inserting a candidate into a
-- table: what it asks of other tables, and in which order, does not depend on that. `search_is` (proofs/Compiling.antt) shows that with the
-- definition's own way it is the definition's search. Assumes nothing.
use Rattle.std.specs.Prelude.{false, cond, List, [], ◌∷◌, ◌≡◌, ℕ, zero, suc, eqb, length, Float, Option, None, Some}
use Rattle.std.specs.Float.{inf}
use Rattle.contexts.specs.declared.Context.{Context}
use Rattle.costs.specs.Arithmetic.{◌⊕◌, ◌⊖◌, ◌⊗◌, ◌⊘◌, float_of, 0·, 1·}
use Rattle.costs.specs.Weights.{weights}
use Rattle.policies.specs.Policy.{Policy, Policies, end, ◌▹◌, Unsatisfiable, Trivial, Key, Lock, Hash, And, Or, Thresh}
use Rattle.definition.specs.Candidates.{Candidate, Cast, all_casts, Made, passed_over, missing, made, Pair}
use Rattle.definition.specs.Candidates.{false', true', pk_k, pk_h, lock, hash, multi, and_b, and_v, or_b, or_d, or_c, or_i, and_or, thresh_of}
use Rattle.definition.specs.Tables.{Probs, probs, Table}
use Rattle.definition.specs.Refusals.{State, M, ◌>>=◌, pure, refuse, FuelSpent, NotACost, max_pops}
use Rattle.definition.specs.Insertion as Definition
use Rattle.definition.specs.Insertion.{Offered, Queued, queued, joins, next}
use Rattle.definition.specs.Search.{Again, alone, redo, for_each, Searcher, plain, conjunction, policy_of, search_of, Body, without, searching}
use Rattle.definition.specs.Search.{or_none, Four, four_of, bests, most_gaining, arranged, keys_of, search}

-- how a candidate is offered to a table
abbrev pub Insertion : Type 0
Insertion = Context → Probs → Candidate → Table → M Offered

module _ (insert : Insertion) where
  -- ---- the closure

  abbrev pub offer_by : Context → Probs → Option Candidate → Queued → M Queued
  offer_by c p None w = pure w
  offer_by c p (Some x) w = insert c p x w.table >>= λ o. pure (joins x w.queue o)

  unfoldable pub cast_all_by : Context → Probs → Candidate → List Cast → Queued → M Queued
  cast_all_by c p x [] w = pure w
  cast_all_by c p x (f ∷ fs) w = offer_by c p (f x) w >>= λ w. cast_all_by c p x fs w

  unfoldable pub closure_by : Context → Probs → (pops : ℕ) → Queued → M Table
  closure_by c p zero w = next w.queue (pure w.table) λ x q. refuse FuelSpent
  closure_by c p (suc pops) w =
      next w.queue (pure w.table) λ x q. cast_all_by c p x (all_casts c) (queued w.table q) >>= λ w. closure_by c p pops w

  unfoldable pub insert_closure_by : Context → Probs → Candidate → Table → M Table
  insert_closure_by c p x t = offer_by c p (Some x) (queued t []) >>= λ w. closure_by c p max_pops w

  -- ---- wrapping

  abbrev pub inserted_if_typed_by : Context → Probs → Option Candidate → Table → M Table
  inserted_if_typed_by c p None t = pure t
  inserted_if_typed_by c p (Some x) t = insert_closure_by c p x t

  unfoldable pub casts_of_by : Context → Probs → M Table → List Cast → Table → M Table
  casts_of_by c p again [] t = pure t
  casts_of_by c p again (f ∷ fs) t = do
    xs ← again
    t ← for_each (λ x. inserted_if_typed_by c p (f x)) xs t
    casts_of_by c p again fs t

  unfoldable pub wrapped_by : Context → Probs → Again → Candidate → Table → M Table
  wrapped_by c p alone x t = insert_closure_by c p x t
  wrapped_by c p (redo again) x t = insert_closure_by c p x t >>= λ t. casts_of_by c p again (all_casts c) t

  abbrev pub wrapped_if_made_by : Context → Probs → Again → Made → Table → M Table
  wrapped_if_made_by c p g passed_over t = pure t
  wrapped_if_made_by c p g missing t = refuse NotACost
  wrapped_if_made_by c p g (made x) t = wrapped_by c p g x t

  -- ---- pairing

  abbrev pub binary_by : Context → Probs → Again → Pair → Float → Float → Table → Table → Table → M Table
  binary_by c p g f lw rw ls rs t = for_each (λ l. for_each (λ r. wrapped_if_made_by c p g (f lw rw l r)) rs) ls t

  abbrev pub ternary_by : Context → Probs → Again → Float → Float → Table → Table → Table → Table → M Table
  ternary_by c p g lw rw xs ys zs t =
      for_each (λ x. for_each (λ y. for_each (λ z. wrapped_if_made_by c p g (and_or lw rw x y z)) zs) ys) xs t

  -- ---- leaves, And and Or

  abbrev pub leaves_by : Context → List Candidate → Body
  leaves_by c xs p g = for_each (λ x. wrapped_by c p g x) xs []

  unfoldable pub and_body_by : Context → Searcher → Searcher → Body
  and_body_by c l r p g = do
    left ← search_of l p
    right ← search_of r p
    right₀ ← search_of r (without p)
    left₀ ← search_of l (without p)
    t ← binary_by c p g and_b 1· 1· left right []
    t ← binary_by c p g and_b 1· 1· right left t
    t ← binary_by c p g and_v 1· 1· left right t
    t ← binary_by c p g and_v 1· 1· right left t
    t ← ternary_by c p g 1· 0· left right₀ (false' ∷ []) t
    ternary_by c p g 1· 0· right left₀ (false' ∷ []) t

  unfoldable pub and_ors_by : Context → Probs → Again → Searcher → Searcher → Float → Float → Table → M Table
  and_ors_by c p g (plain q f) other w v t = pure t
  and_ors_by c p g (conjunction q f x y) other w v t = do
    let sat = w ⊗ p.sat
    let dissat = Some (or_none p.dissat ⊕ v ⊗ p.sat)
    a₁ ← search_of x (probs sat dissat)
    a₂ ← search_of x (probs sat None)
    b₁ ← search_of y (probs sat dissat)
    b₂ ← search_of y (probs sat None)
    z ← search_of other (probs (v ⊗ p.sat) p.dissat)
    t ← ternary_by c p g w v a₁ b₂ z t
    ternary_by c p g w v b₁ a₂ z t

  unfoldable pub or_body_by : Context → Searcher → Searcher → Float → Float → Body
  or_body_by c l r lw rw p g = do
    t ← and_ors_by c p g l r lw rw []
    t ← and_ors_by c p g r l rw lw t
    ls ← four_of l p lw rw
    rs ← four_of r p rw lw
    t ← binary_by c p g or_b lw rw ls.both rs.both t
    t ← binary_by c p g or_b rw lw rs.both ls.both t
    t ← binary_by c p g or_d lw rw ls.both rs.own t
    t ← binary_by c p g or_d rw lw rs.both ls.own t
    t ← binary_by c p g or_c lw rw ls.other rs.none t
    t ← binary_by c p g or_c rw lw rs.other ls.none t
    t ← binary_by c p g or_i lw rw ls.own rs.none t
    t ← binary_by c p g or_i rw lw rs.own ls.none t
    t ← binary_by c p g or_i lw rw ls.none rs.own t
    binary_by c p g or_i rw lw rs.none ls.own t

  -- ---- Thresh

  abbrev pub multi_of_by : Context → Probs → Again → ℕ → Option (List ℕ) → Table → M Table
  multi_of_by c p g k None t = pure t
  multi_of_by c p g k (Some keys) t = wrapped_by c p g (multi c k keys) t

  abbrev pub and_searcher_by : Context → Searcher → Searcher → Searcher
  and_searcher_by c l r =
      conjunction (And (policy_of l) (policy_of r)) (searching (And (policy_of l) (policy_of r)) (and_body_by c l r)) l r

  unfoldable pub fold_ands_by : Context → Searcher → List Searcher → Searcher
  fold_ands_by c acc [] = acc
  fold_ands_by c acc (s ∷ ss) = fold_ands_by c (and_searcher_by c acc s) ss

  abbrev pub folded_or_by : Context → Probs → ℕ → List Searcher → Table → M Table
  folded_or_by c p k [] t = pure t
  folded_or_by c p k (s ∷ ss) t = cond (eqb k (suc (length ss))) (search_of (fold_ands_by c s ss) p) (pure t)

  unfoldable pub thresh_body_by : Context → ℕ → List Searcher → Body
  thresh_body_by c k ss p g = do
    let k_over_n = float_of k ⊘ float_of (length ss)
    let child = probs (p.sat ⊗ k_over_n) (Some (or_none p.dissat ⊕ (1· ⊖ k_over_n) ⊗ p.sat))
    bs ← bests child ss
    t ← wrapped_if_made_by c p g (thresh_of c k (arranged (most_gaining child 0 0 (inf false) bs) bs)) []
    t ← multi_of_by c p g k (keys_of ss) t
    folded_or_by c p k ss t

  -- ---- every policy

  unfoldable mutual
    pub searcher_by : Context → Policy → Searcher
    searcher_by c Unsatisfiable = plain Unsatisfiable (searching Unsatisfiable (leaves_by c (false' ∷ [])))
    searcher_by c Trivial = plain Trivial (searching Trivial (leaves_by c (true' ∷ [])))
    searcher_by c (Key n) = plain (Key n) (searching (Key n) (leaves_by c (pk_h c n ∷ pk_k c n ∷ [])))
    searcher_by c (Lock kind n) = plain (Lock kind n) (searching (Lock kind n) (leaves_by c (lock kind n ∷ [])))
    searcher_by c (Hash kind n) = plain (Hash kind n) (searching (Hash kind n) (leaves_by c (hash kind n ∷ [])))
    searcher_by c (And l r) =
        conjunction (And l r) (searching (And l r) (and_body_by c (searcher_by c l) (searcher_by c r))) (searcher_by c l) (searcher_by c r)
    searcher_by c (Or l r lw rw) =
        plain (Or l r lw rw)
        (searching (Or l r lw rw) (or_body_by c (searcher_by c l) (searcher_by c r) (weights lw rw).lw (weights lw rw).rw))
    searcher_by c (Thresh k xs) = plain (Thresh k xs) (searching (Thresh k xs) (thresh_body_by c k (searchers_by c xs)))

    pub searchers_by : Context → Policies → List Searcher
    searchers_by c end = []
    searchers_by c (x ▹ xs) = searcher_by c x ∷ searchers_by c xs

  abbrev pub search_by : Context → Policy → Probs → M Table
  search_by c q p = search_of (searcher_by c q) p

-- with the definition's insertion it is the definition's search
abbrev pub SearchIs : Type 0
SearchIs = (c : Context) (q : Policy) (p : Probs) (s : State) → search_by Definition.insert c q p s ≡ search c q p s
