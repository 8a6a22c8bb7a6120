-- `moving::too_large` meets its contract. Assumes nothing.
use mathlib.Core.Path.{sym, ap, ◌∙◌}
use Rattle.moving.specs.Moving.{exceeds}
use Rattle.moving.proofs.Keys.{large-key, large-other}
use Rattle.moving.proofs.too_large.Goals as goal

pub returns-then-moves : goal.returns-then-moves
returns-then-moves c = c.exceeds.ensures ∙ ap (exceeds c.args.form) c.number_of.ensures.value
    ∙ sym (large-key c.args.form c.args.whole.now (sym c.moves.ensures ∙ c.if-moves.true))

pub returns-else-moves : goal.returns-else-moves
returns-else-moves c = c.if-moves.false ∙ sym (large-other c.args.form c.args.whole.now (sym c.moves.ensures ∙ c.if-moves.false))
