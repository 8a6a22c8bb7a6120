-- A tree means what a policy means: document 02, R-14, for every assignment of true or false to the keys, hashes and locks.
use Rattle.std.specs.Prelude.{ℕ, ◌<◌, Bool, true, false, List, ◌≡◌}
use Rattle.policies.specs.Policy.{Policy}
use Rattle.policies.specs.Array.{policy_at}
use Rattle.trees.specs.Fragment.{Fragment}
use Rattle.walk.specs.TreeRecords.{TreeRecords}
use Rattle.meaning.specs.Meaning.{Assignment, policy_means, tree_means}
use Rattle.variables.specs.declared.Var.{Var}
use Rattle.truth.specs.Words.{assigned}

abbrev pub Alike : Policy → Fragment → Type 0
Alike p f = (a : Assignment) → tree_means a f ≡ policy_means a p

-- a test says whether they are
pub record Says (b : Bool) (p : Policy) (f : Fragment) : Type 0 where
  pub yes : b ≡ true → Alike p f
  pub no : b ≡ false → Alike p f → ⊥

-- the same for the 64 assignments of some words
abbrev pub AlikeIn : Policy → Fragment → List Var → (words : List ℕ) → Type 0
AlikeIn p f row words = (j : ℕ) → j < 64 → tree_means (assigned row words j) f ≡ policy_means (assigned row words j) p

pub record BlockSays (pol : List ℕ) (root : ℕ) (tree : List ℕ) (row : List Var) (words : List ℕ) (b : Bool) : Type 0 where
  pub yes : b ≡ true → (f : Fragment) → TreeRecords tree f → AlikeIn (policy_at pol root) f row words
  pub no : b ≡ false → (f : Fragment) → TreeRecords tree f → AlikeIn (policy_at pol root) f row words → ⊥
