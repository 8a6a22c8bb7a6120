-- Demand 3: what the script of a tree does that the tree check passes as base B, whatever the outcomes, the starting stack and the alternate
-- stack. Written from document 01, "What a fragment's script does".
use Rattle.std.specs.Prelude.{ℕ, true, List, [], ◌∷◌, ◌++◌, ◌⊎◌, ◌≡◌, length, Some, Ok}
use Rattle.correctness.specs.declared.Base.TheVariants.{B}
use Rattle.types.specs.declared.«Type».{«Type»}
use Rattle.correctness.specs.Letters.{is_zero, is_one}
use Rattle.contexts.specs.declared.Context.{Context}
use Rattle.trees.specs.Fragment.{Fragment}
use Rattle.trees.specs.Typing.{type_of}
use Rattle.trees.specs.Reading.{done, max_records}
use Rattle.trees.specs.TreeCheck.{Typed, context_of, check_of}
use Rattle.script_machine.specs.Numbers.{Bytes, Stack}
use Rattle.script_machine.specs.Machine.{Outcomes, aborted, state, run}
use Rattle.script_machine.specs.Translation.{script}

-- Started on m, the script aborts, whatever the alternate stack.
abbrev pub Aborts : Context → Outcomes → Fragment → Stack → Type 0
Aborts c o f m = (a : Stack) → run c o (script f) (state m a []) ≡ aborted

-- Started on m, the script removes elements from its top and pushes one; over every remainder and every alternate stack it does the same.
pub record Pushes (c : Context) (o : Outcomes) (f : Fragment) (t : «Type») (m : Stack) : Type 0 where
  pub removed : Stack
  pub remainder : Stack
  pub pushed : Bytes
  pub starts : m ≡ removed ++ remainder
  pub runs : (r a : Stack) → run c o (script f) (state (removed ++ r) a []) ≡ state (pushed ∷ r) a []
  pub under-z : is_zero t.corr.input ≡ true → length removed ≡ 0
  pub under-o : is_one t.corr.input ≡ true → length removed ≡ 1
  pub under-u : t.corr.unit ≡ true → (pushed ≡ []) ⊎ (pushed ≡ 1 ∷ [])

-- What every tree does that the type rules give base B.
abbrev pub OfTrees : Type 0
OfTrees =
    (c : Context) (o : Outcomes) (f : Fragment) (t : «Type») → type_of c f ≡ Ok t → t.corr.base ≡ B
    → (m : Stack) → Aborts c o f m ⊎ Pushes c o f t m

-- Demand 3: what every tree does that some byte string writes and the tree check passes as base B.
abbrev pub Demand3 : Type 0
Demand3 =
    (context : ℕ) (c : Context) (bytes : List ℕ) (x : Typed)
    → context_of context ≡ Some c → check_of context bytes max_records ≡ done x → x.type.corr.base ≡ B
    → (o : Outcomes) (m : Stack) → Aborts c o x.tree m ⊎ Pushes c o x.tree x.type m
