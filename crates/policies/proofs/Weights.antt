-- What falls where the search goes from a policy to its children, and from a Thresh to the Ands that it folds to. Assumes nothing.
use mathlib.Core.List.{[], ◌∷◌}
use Prim.Native.Nat.{ℕ, zero, suc, ◌+◌, ◌<◌, ◌≤◌}
use native.Mathlib.Omega.{arith}
use lib.ListN.{length}
use Rattle.policies.specs.Policy.{Policy, Policies, Unsatisfiable, Trivial, Key, Lock, Hash, And, Or, Thresh, end, ◌▹◌}
use Rattle.policies.specs.Policy.{weight, weights, fold_and, folded, to_list}
use Rattle.policies.specs.Forms.{nth, children_of}

pub weight-some : (p : Policy) → 1 ≤ weight p
unfolding weight weights
weight-some Unsatisfiable = omega arith
weight-some Trivial = omega arith
weight-some (Key n) = omega arith
weight-some (Lock kind n) = omega arith
weight-some (Hash kind n) = omega arith
weight-some (And l r) = omega arith
weight-some (Or l r lw rw) = omega arith
weight-some (Thresh k xs) = omega arith

pub left_and : (l r : Policy) → weight l < weight (And l r)
unfolding weight
left_and l r = omega arith

pub right-and : (l r : Policy) → weight r < weight (And l r)
unfolding weight
right-and l r = omega arith

pub left_or : (l r : Policy) (lw rw : ℕ) → weight l < weight (Or l r lw rw)
unfolding weight
left_or l r lw rw = omega arith

pub right_or : (l r : Policy) (lw rw : ℕ) → weight r < weight (Or l r lw rw)
unfolding weight
right_or l r lw rw = omega arith

nth-weight : (xs : Policies) (j : ℕ) → j < length (to_list xs) → weight (nth (to_list xs) j) < weights xs
unfolding weight weights to_list
nth-weight end j h = absurd (omega arith)
nth-weight (x ▹ xs) zero h = omega arith
nth-weight (x ▹ xs) (suc j) h = let l = nth-weight xs j (omega arith) in omega arith

pair-weight : (l r p : Policy) (j : ℕ) → weight l < weight p → weight r < weight p → j < 2 → weight (nth (l ∷ r ∷ []) j) < weight p
pair-weight l r p zero hl hr h = hl
pair-weight l r p (suc zero) hl hr h = hr
pair-weight l r p (suc (suc j)) hl hr h = absurd (omega arith)

thresh-weight : (k : ℕ) (xs : Policies) {n : ℕ} → n < weights xs → n < weight (Thresh k xs)
unfolding weight weights
thresh-weight k xs h = omega arith

-- every child weighs less
pub child-weight : (p : Policy) (j : ℕ) → j < length (children_of p) → weight (nth (children_of p) j) < weight p
unfolding children_of
child-weight Unsatisfiable j h = absurd (omega arith)
child-weight Trivial j h = absurd (omega arith)
child-weight (Key n) j h = absurd (omega arith)
child-weight (Lock kind n) j h = absurd (omega arith)
child-weight (Hash kind n) j h = absurd (omega arith)
child-weight (And l r) j h = pair-weight l r (And l r) j (left_and l r) (right-and l r) h
child-weight (Or l r lw rw) j h = pair-weight l r (Or l r lw rw) j (left_or l r lw rw) (right_or l r lw rw) h
child-weight (Thresh k xs) j h = thresh-weight k xs (nth-weight xs j h)

fold-weight : (acc : Policy) (xs : Policies) → weight (fold_and acc xs) ≤ weight acc + weights xs
unfolding weight weights fold_and
fold-weight acc end = omega arith
fold-weight acc (x ▹ xs) = let h = fold-weight (And acc x) xs in omega arith

-- a Thresh weighs more than what it folds to, also where that is its only child
pub folded-falls : (k : ℕ) (x : Policy) (xs : Policies) → weight (folded (x ▹ xs)) < weight (Thresh k (x ▹ xs))
unfolding weight weights folded
folded-falls k x xs = let h = fold-weight x xs in omega arith

pub folded-lighter : (k : ℕ) (xs : Policies) → 1 ≤ length (to_list xs) → weight (folded xs) < weight (Thresh k xs)
unfolding to_list
folded-lighter k end h = absurd (omega arith)
folded-lighter k (x ▹ xs) h = folded-falls k x xs
