-- `claspwillow::claspwillow_write` meets its contract: each part is told by what was put, and the memory is cleared. Assumes nothing.
use mathlib.Core.Path.{refl}
use Rattle.claspwillow.proofs.Choosing.{written-promised, unwritten-promised}
use Rattle.claspwillow.proofs.claspwillow_write.Goals as goal

pub returns-in-Ok : goal.returns-in-Ok
returns-in-Ok c = written-promised c.args.out.now c.args.work.now c.args.work.now refl c.clear.ensures c.in-Ok.ensures

pub returns-in-Err : goal.returns-in-Err
returns-in-Err c = unwritten-promised c.args.out.now c.args.work.now c.args.work.now refl c.clear.ensures c.in-Err.ensures c.number.ensures
