-- `records::width_of` meets its contract: eight bytes in the kinds of keys of 64 bits. Assumes nothing.
use mathlib.Core.Path.{sym, ap, ◌∙◌}
use Rattle.records.specs.Shapes.{is_long}
use Rattle.records.proofs.Widths.{width-long, width-short}
use Rattle.records.proofs.width_of.Goals as goal

pub returns-then-is_long : goal.returns-then-is_long
returns-then-is_long c = sym (width-long c.args.bytes.now (sym (c.is_long.ensures ∙ ap is_long c.written_kind.ensures) ∙ c.if-is_long.true))

pub returns : goal.returns
returns c = sym (width-short c.args.bytes.now (sym (c.is_long.ensures ∙ ap is_long c.written_kind.ensures) ∙ c.if-is_long.false))
