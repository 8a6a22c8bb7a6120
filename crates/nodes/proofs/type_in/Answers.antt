-- `nodes::type_in` meets its contract: by what unpacking answers. Assumes nothing.
use mathlib.Core.Path.{sym, ap, ◌∙◌}
use Rattle.nodes.specs.Words.{type_or}
use Rattle.nodes.proofs.type_in.Goals as goal

pub returns-in-Some : goal.returns-in-Some
returns-in-Some c = ap type_or (sym c.in-Some.is ∙ c.unpack.ensures)

pub returns-in-None : goal.returns-in-None
returns-in-None c = c.of_false.ensures ∙ ap type_or (sym c.in-None.is ∙ c.unpack.ensures)
