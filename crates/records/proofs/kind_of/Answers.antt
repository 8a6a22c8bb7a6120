-- `records::kind_of` meets its contract. Assumes nothing.
use mathlib.Core.Path.{ap, ◌∙◌}
use Rattle.records.specs.Shapes.{meant}
use Rattle.records.specs.RecordForm.{kind_of}
use Rattle.records.proofs.kind_of.Goals as goal

pub returns : goal.returns
unfolding kind_of
returns c = c.meant.ensures ∙ ap meant c.written_kind.ensures
