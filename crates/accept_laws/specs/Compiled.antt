-- What compile writes is accepted for its policy wherever both have at most twelve variables and, in context 0, the tree holds no False: the number
-- that the entry gives of what compile writes is 25 for a False that is not allowed, else 21 for too many variables, else 0.
use Rattle.std.specs.Prelude.{ℕ, Bool, true, false, List, ◌≡◌, length, Some}
use Rattle.contexts.specs.declared.Context.{Context}
use Rattle.costs.specs.declared.Price.{Price}
use Rattle.policies.specs.Policy.{Policy}
use Rattle.policies.specs.Reading as policies
use Rattle.policies.specs.Reading.{read_policy}
use Rattle.trees.specs.Fragment.{Fragment}
use Rattle.trees.specs.Reading.{done}
use Rattle.trees.specs.Tree.{tree_of}
use Rattle.trees.specs.TreeCheck.{context_of}
use Rattle.writing.specs.WellFormed.{AllBelow}
use Rattle.definition.specs.Compile.{compiled, compile}
use Rattle.valid_laws.specs.CompiledValid.{falses_allowed}
use Rattle.variables.specs.Variables.{FewVariables}
use Rattle.accept_entry.specs.Accept.{work_words, locally_invalid, too_many_variables, AcceptPromise}

-- the entry gives this number, whatever its work memory held
abbrev pub Gives : (context : ℕ) → (policy tree : List ℕ) → ℕ → Type 0
Gives context policy tree n =
    (work : List ℕ) (number : ℕ) (after : List ℕ) → length work ≡ work_words → AcceptPromise context policy tree work number after → number ≡ n

-- the bytes of a policy and of the tree that compile wrote for it, and what the entry gives of them
pub record Accepted (c : Context) (context : ℕ) (policy tree : List ℕ) : Type 0 where
  pub as_policy : Policy
  pub as_tree : Fragment
  pub policy_read : read_policy policy ≡ policies.done as_policy
  pub tree_read : tree_of tree ≡ done as_tree
  pub accepted : falses_allowed c as_tree ≡ true → FewVariables as_policy as_tree → Gives context policy tree 0
  pub too_many : falses_allowed c as_tree ≡ true → (FewVariables as_policy as_tree → ⊥) → Gives context policy tree too_many_variables
  pub holds_false : falses_allowed c as_tree ≡ false → Gives context policy tree locally_invalid

abbrev pub CompiledAccepted : Type 0
CompiledAccepted =
    (context : ℕ) (c : Context) (work_fits : Bool) (policy : List ℕ) (room : ℕ) (bytes : List ℕ) (cost : Price) (nodes : ℕ) → context_of context ≡ Some c
    → AllBelow 256 policy → compile context work_fits policy room ≡ compiled bytes cost nodes → Accepted c context policy bytes
