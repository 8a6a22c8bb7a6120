-- What compile writes means its policy: for every assignment the one holds exactly if the other does.
use Rattle.std.specs.Prelude.{Bool, List, ◌≡◌, ℕ}
use Rattle.costs.specs.declared.Price.{Price}
use Rattle.policies.specs.Policy.{Policy}
use Rattle.policies.specs.Reading as Reading
use Rattle.policies.specs.Reading.{read_policy}
use Rattle.trees.specs.Fragment.{Fragment}
use Rattle.trees.specs.Reading.{done}
use Rattle.trees.specs.Tree.{tree_of}
use Rattle.writing.specs.WellFormed.{AllBelow}
use Rattle.definition.specs.Compile.{compiled, compile}
use Rattle.meaning.specs.Meaning.{Assignment, policy_means, tree_means}

-- the bytes of a tree mean what the bytes of a policy mean
pub record MeansAlike (policy tree : List ℕ) : Type 0 where
  pub as_policy : Policy
  pub as_tree : Fragment
  pub policy_read : read_policy policy ≡ Reading.done as_policy
  pub tree_read : tree_of tree ≡ done as_tree
  pub alike : (a : Assignment) → tree_means a as_tree ≡ policy_means a as_policy

abbrev pub CompileMeans : Type 0
CompileMeans =
    (context : ℕ) (work_fits : Bool) (policy : List ℕ) (room : ℕ) (bytes : List ℕ) (cost : Price) (nodes : ℕ) → AllBelow 256 policy →
    compile context work_fits policy room ≡ compiled bytes cost nodes → MeansAlike policy bytes
