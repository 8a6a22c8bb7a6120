-- `records::record_parts` meets its contract: the shape goes by the kind. Assumes nothing.
use mathlib.Core.Path.{sym, ◌∙◌}
use Rattle.records.proofs.record_parts.Goals as goal

pub returns-in-Some : goal.returns-in-Some
returns-in-Some c = simp (c.parts_of.ensures, sym c.kind_of.ensures, sym c.shape_of.ensures ∙ c.in-Some.is)

pub returns-in-None : goal.returns-in-None
returns-in-None c = simp (c.unfit.ensures, sym c.kind_of.ensures, sym c.shape_of.ensures ∙ c.in-None.is)
