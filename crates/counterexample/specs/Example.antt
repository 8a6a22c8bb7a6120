-- An assignment under which a policy and a fragment tree differ: document 02, R-14, 'for every assignment', of which one fails.
use Rattle.std.specs.Prelude.{ℕ, ◌<◌, not, List, ◌≡◌, Option, None, Some}
use Rattle.policies.specs.Policy.{Policy}
use Rattle.trees.specs.Fragment.{Fragment}
use Rattle.meaning.specs.Meaning.{policy_means, tree_means}
use Rattle.variables.specs.declared.Var.{Var}
use Rattle.variables.specs.Gathering.{row_of}
use Rattle.truth.specs.Words.{bit_at, assigned, block_words}
use Rattle.counterexample.specs.declared.Apart.{Apart}
use Rattle.counterexample.specs.declared.Example.{Example}
use Rattle.counterexample.specs.declared.Told.{Told}

-- two words differ in the bit that is found, and the left one's is told
abbrev pub ApartAt : (left right : ℕ) → Option Apart → Type 0
ApartAt left right (Some r) = (r.bit < 64) × (bit_at left r.bit ≡ r.left) × (bit_at right r.bit ≡ not r.left)
ApartAt left right None = Unit {0}

-- Under the assignment that is found the policy means what is told, and the tree the opposite.
abbrev pub Shows : (p : Policy) (f : Fragment) (row : List Var) → Option Example → Type 0
Shows p f row (Some e) =
    (policy_means (assigned row (block_words e.block) e.bit) p ≡ e.holds) × (tree_means (assigned row (block_words e.block) e.bit) f ≡ not e.holds)
Shows p f row None = Unit {0}

-- The same of the variables that are told with it.
abbrev pub Tells : (p : Policy) (f : Fragment) → Option Told → Type 0
Tells p f (Some t) = Shows p f (row_of t.vars) (Some t.example)
Tells p f None = Unit {0}
