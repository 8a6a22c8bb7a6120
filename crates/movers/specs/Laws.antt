-- What compile gives for a policy that was moved: document 02, R-3.
use Rattle.std.specs.Prelude.{Bool, List, ◌≡◌, ℕ}
use Rattle.writing.specs.WellFormed.{AllBelow}
use Rattle.policies.specs.Reading.{done}
use Rattle.definition.specs.Compile.{compile}
use Rattle.moving.specs.declared.Form.{Form}
use Rattle.moving.specs.Moving.{move}

-- The number, the tree, its cost and the nodes that compile gives are the same before and after, whichever way the policy is moved, in every context
-- and with any room for the tree.
abbrev pub CompilesTheSame : Type 0
CompilesTheSame =
    (form : Form) (policy : List ℕ) → AllBelow 256 policy → (space : ℕ) (to : List ℕ) → move form policy space ≡ done to
    → (context : ℕ) (work_fits : Bool) (room : ℕ) → compile context work_fits to room ≡ compile context work_fits policy room
