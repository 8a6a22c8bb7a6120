-- When two policies are one policy, from the equality that the Rust derives for them: of one kind, with the same numbers and the same children.
use Rattle.std.specs.Prelude.{Bool, true, false, ◌&&◌, List, [], ◌∷◌, eqb}
use Rattle.policies.specs.Policy.{Policy, Policies, end, ◌▹◌, Unsatisfiable, Trivial, Key, Lock, Hash, And, Or, Thresh}
use Rattle.policies.specs.Forms.{kind_of, number_of, k_of, left_weight_of, right_weight_of, children_of, nth}

-- of one kind, with the same numbers
abbrev pub alike : Policy → Policy → Bool
alike p q =
    eqb (kind_of p) (kind_of q)
    && (eqb (number_of p) (number_of q)
    && (eqb (k_of p) (k_of q)
    && (eqb (left_weight_of p) (left_weight_of q)
    && eqb (right_weight_of p) (right_weight_of q))))

unfoldable mutual
  pub same : Policy → Policy → Bool
  same Unsatisfiable q = alike Unsatisfiable q
  same Trivial q = alike Trivial q
  same (Key n) q = alike (Key n) q
  same (Lock kind n) q = alike (Lock kind n) q
  same (Hash kind n) q = alike (Hash kind n) q
  same (And l r) q = alike (And l r) q && (same l (nth (children_of q) 0) && same r (nth (children_of q) 1))
  same (Or l r lw rw) q = alike (Or l r lw rw) q && (same l (nth (children_of q) 0) && same r (nth (children_of q) 1))
  same (Thresh k xs) q = alike (Thresh k xs) q && same_all xs (children_of q)

  pub same_all : Policies → List Policy → Bool
  same_all end [] = true
  same_all end (y ∷ ys) = false
  same_all (x ▹ xs) [] = false
  same_all (x ▹ xs) (y ∷ ys) = same x y && same_all xs ys
