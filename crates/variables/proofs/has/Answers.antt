use mathlib.Core.Path.{◌∙◌}
use lib.ListN.{take}
use Rattle.variables.proofs.Rows.{any-has}
use Rattle.variables.proofs.has.Goals as goal

pub returns : goal.returns
returns c = c.contains.ensures.value ∙ any-has c.args.x (take c.args.t.len c.args.t.list)
