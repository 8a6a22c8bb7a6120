-- `script_entry::lay_leaf_at` meets its contract: what stands between the start and the end is record i. Assumes nothing.
use mathlib.Core.Path.{ap}
use Rattle.script_machine.specs.Numbers.{Bytes}
use Rattle.script_leaves.specs.Lent.{lent}
use Rattle.script_bytes.specs.Layout.{bytes_of}
use Rattle.script_leaves.specs.Leaves.{leaf_of}
use Rattle.script_leaves.proofs.Laws.{laid_as}
use Rattle.walk.proofs.Laws.{its-bytes}
use Rattle.script_entry.proofs.lay_leaf_at.Goals as goal

pub lay_leaf-requires : goal.lay_leaf-requires
lay_leaf-requires c = rw (its-bytes c.requires.0 c.record_end-end.ensures) c.requires.1

pub returns : goal.returns
returns c = let t = lent c.args.tables in
    laid_as (ap (λ (bytes : Bytes). bytes_of c.args.context t c.args.verified (leaf_of bytes)) (its-bytes c.requires.0 c.record_end-end.ensures))
    c.lay_leaf.ensures
