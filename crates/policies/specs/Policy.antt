-- Policies, written from document 01, "Records": each of its twelve policy kinds is here under its own name; their depth, and the weighted
-- size and the fold to Ands of its section "Forms that must change", in the words of policy/compiler.rs, `best_compilations`.
-- Assumes nothing: these are definitions.
use Rattle.contexts.specs.Leaves.{LockKind, HashKind}
use Rattle.std.specs.Prelude.{List, [], ◌∷◌, ℕ, suc, ◌+◌, max}

infixr 50 ◌▹◌
mutual
  -- Keys, locks and hashes are numbers; an Or has two weights, a Thresh is k and its children.
  pub data Policy : Type 0 where
    Unsatisfiable Trivial : Policy
    Key : ℕ → Policy
    Lock : LockKind → ℕ → Policy
    Hash : HashKind → ℕ → Policy
    And : Policy → Policy → Policy
    Or : Policy → Policy → (left_weight right_weight : ℕ) → Policy
    Thresh : (k : ℕ) → Policies → Policy

  -- The children of a Thresh, in order: `x ▹ y ▹ end` has two.
  pub data Policies : Type 0 where
    end : Policies
    ◌▹◌ : Policy → Policies → Policies

-- Children as a list, and a list as children.
unfoldable pub to_list : Policies → List Policy
to_list end = []
to_list (x ▹ xs) = x ∷ to_list xs

unfoldable pub from_list : List Policy → Policies
from_list [] = end
from_list (x ∷ xs) = x ▹ from_list xs

-- A lone leaf has depth 1.
unfoldable mutual
  pub depth : Policy → ℕ
  depth Unsatisfiable = 1
  depth Trivial = 1
  depth (Key n) = 1
  depth (Lock kind n) = 1
  depth (Hash kind n) = 1
  depth (And l r) = suc (max (depth l) (depth r))
  depth (Or l r lw rw) = suc (max (depth l) (depth r))
  depth (Thresh k xs) = suc (deepest xs)

  pub deepest : Policies → ℕ
  deepest end = 0
  deepest (x ▹ xs) = max (depth x) (deepest xs)

-- The weighted size: every policy weighs more than its children together, and a Thresh two more for each of its n, so that it weighs more
-- than the Ands that it folds to.
unfoldable mutual
  pub weight : Policy → ℕ
  weight Unsatisfiable = 1
  weight Trivial = 1
  weight (Key n) = 1
  weight (Lock kind n) = 1
  weight (Hash kind n) = 1
  weight (And l r) = 1 + weight l + weight r
  weight (Or l r lw rw) = 1 + weight l + weight r
  weight (Thresh k xs) = 1 + weights xs

  pub weights : Policies → ℕ
  weights end = 0
  weights (x ▹ xs) = 2 + weight x + weights xs

-- The fold of compiler.rs, `fold(policy, |acc, pol| And(acc, pol))`: the first child, then And over it and the next one.
unfoldable pub fold_and : Policy → Policies → Policy
fold_and acc end = acc
fold_and acc (x ▹ xs) = fold_and (And acc x) xs

-- A Thresh has a child, so the first clause is never met.
unfoldable pub folded : Policies → Policy
folded end = Unsatisfiable
folded (x ▹ xs) = fold_and x xs
