-- `moving::put_key` meets its contract: length, kind and number are written one after another. Assumes nothing.
use Rattle.moving.proofs.Keys.{key-placed}
use Rattle.moving.proofs.put_key.Goals as goal

pub returns : goal.returns
returns c = key-placed c.args.form c.args.number c.args.out.now _ _ _ c.args.at _ _ c.requires c.key_length.ensures c.key_kind.ensures
    c.put_u16.ensures.s_after c.put_u16-2.ensures.s_after c.put_number.ensures
