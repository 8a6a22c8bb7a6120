-- `script_entry::entries_at` meets its contract: what stands between the start and the end is record i. Assumes nothing.
use mathlib.Core.Path.{ap, ◌∙◌}
use Rattle.script_machine.specs.Numbers.{Bytes}
use Rattle.script_leaves.specs.Lent.{lent}
use Rattle.script_bytes.specs.ScriptOf.{has_entries}
use Rattle.script_leaves.specs.Leaves.{leaf_of}
use Rattle.walk.proofs.Laws.{its-bytes}
use Rattle.script_entry.proofs.entries_at.Goals as goal

pub returns : goal.returns
returns c = let t = lent c.args.tables in
    c.own_entries.ensures ∙ ap (λ (bytes : Bytes). has_entries c.args.context t (leaf_of bytes)) (its-bytes c.requires c.record_end-end.ensures)
