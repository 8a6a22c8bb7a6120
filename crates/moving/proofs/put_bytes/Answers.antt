-- `moving::put_bytes` meets its contract. Assumes nothing.
use native.Mathlib.Omega.{arith}
use Rattle.moving.proofs.Records.{copied-over}
use Rattle.moving.proofs.put_bytes.Goals as goal

pub returns : goal.returns
returns c = copied-over c.args.out.now c.args.bytes.now _ c.args.at _ c.copy_from_slice.ensures.after (omega arith) c.requires
