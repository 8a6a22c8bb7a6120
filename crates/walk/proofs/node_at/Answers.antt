-- `walk::node_at` meets its contract: what stands between the start and the end is record i. Assumes nothing.
use mathlib.Core.Path.{ap, ◌∙◌}
use Rattle.walk.specs.Nodes.{node_of}
use Rattle.walk.proofs.Laws.{its-bytes}
use Rattle.walk.proofs.node_at.Goals as goal

pub returns : goal.returns
returns c = c.node_of.ensures ∙ ap node_of (its-bytes (c.requires) c.record_end-end.ensures)
