-- `closure::castable` meets its contract. Assumes nothing.
use mathlib.Core.Path.{◌∙◌}
use Rattle.closure.proofs.Typing.{typed-as}
use Rattle.closure.proofs.castable.Goals as goal

pub returns : goal.returns
returns c = c.is_ok.ensures.value ∙ typed-as c.args.context c.args.number c.type_at.ensures c.cast_type.ensures
