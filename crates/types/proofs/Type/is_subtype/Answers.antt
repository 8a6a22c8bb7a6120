use mathlib.Core.Path.{◌∙◌, ap₂}
use Rattle.types.specs.Mask.{has_all}
use Rattle.types.proofs.MaskLaws.{mask-has}
use Rattle.types.proofs.Type.is_subtype.Goals as goal

pub returns : goal.returns
returns c = c.has_all.ensures ∙ ap₂ has_all c.mask.ensures c.mask-2.ensures ∙ mask-has c.args.self c.args.other
