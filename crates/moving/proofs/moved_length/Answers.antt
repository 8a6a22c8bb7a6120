-- `moving::moved_length` meets its contract. Assumes nothing.
use mathlib.Core.Path.{sym, ◌∙◌}
use Rattle.moving.proofs.Keys.{key-long, other-long}
use Rattle.moving.proofs.moved_length.Goals as goal

pub returns-then-moves : goal.returns-then-moves
returns-then-moves c = c.key_length.ensures ∙ sym (key-long c.args.form c.args.whole.now (sym c.moves.ensures ∙ c.if-moves.true))

pub returns : goal.returns
returns c = sym (other-long c.args.form c.args.whole.now (sym c.moves.ensures ∙ c.if-moves.false))
