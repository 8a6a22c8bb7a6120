-- Every fragment of the tree that compile writes is locally valid in its context (`tree_figures`, specs/LocallyValid.antt), but for False. What
-- enters a table has passed that test; only False (l:X, u:X, and_n) and True (t:X) are put beside an entry untested, and True is valid by itself.
use Rattle.std.specs.Prelude.{ℕ, Bool, true, not, ◌||◌, List, ◌≡◌, eqb, Some}
use Rattle.contexts.specs.declared.Context.{Context}
use Rattle.contexts.specs.declared.Context.TheVariants.{Segwitv0, Tap}
use Rattle.costs.specs.declared.Price.{Price}
use Rattle.trees.specs.Fragment.{Fragment}
use Rattle.trees.specs.Reading.{done}
use Rattle.trees.specs.Tree.{tree_of}
use Rattle.walk.specs.Heads.{head_of}
use Rattle.writing.specs.WellFormed.{AllBelow}
use Rattle.definition.specs.Compile.{context_of, compiled, compile}
use Rattle.tree_figures.specs.LocallyValid.{everywhere, valid}

abbrev pub is_false : Fragment → Bool
is_false f = eqb (head_of f).kind 32

-- False, or locally valid
abbrev pub valid_or_false : Context → Fragment → Bool
valid_or_false c f = is_false f || valid c f

-- the bytes write a tree whose fragments are all of them valid or False
pub record WritesValid (c : Context) (bytes : List ℕ) : Type 0 where
  pub tree : Fragment
  pub read : tree_of bytes ≡ done tree
  pub each : everywhere (valid_or_false c) tree ≡ true

abbrev pub CompileValid : Type 0
CompileValid =
    (context : ℕ) (c : Context) (work_fits : Bool) (policy : List ℕ) (room : ℕ) (bytes : List ℕ) (cost : Price) (nodes : ℕ) → context_of context ≡ Some c
    → AllBelow 256 policy → compile context work_fits policy room ≡ compiled bytes cost nodes → WritesValid c bytes

-- ---- where False is the exception: in context 0, where it is not valid by itself

abbrev pub false_allowed : Context → Fragment → Bool
false_allowed Segwitv0 f = not (is_false f)
false_allowed Tap f = true

-- no False in a tree of context 0; any tree of context 1
abbrev pub falses_allowed : Context → Fragment → Bool
falses_allowed c f = everywhere (false_allowed c) f
