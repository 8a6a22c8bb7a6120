-- `moving::moves` meets its contract. Assumes nothing.
use Rattle.moving.proofs.Keys.{told-moves}
use Rattle.moving.proofs.moves.Goals as goal

pub returns : goal.returns
returns c = told-moves c.args.form c.args.whole.now c.written_kind.ensures c.other.ensures c.key_kind.ensures
