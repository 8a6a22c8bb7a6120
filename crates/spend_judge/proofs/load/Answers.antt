-- `spend_judge::load` meets its contract: as many elements as its count says. Assumes nothing.
use native.Mathlib.Omega.{arith}
use Rattle.spend_judge.proofs.Entries.{stack-later}
use Rattle.spend_judge.proofs.Judging.{stack-many, stack-lies, loaded}
use Rattle.spend_judge.proofs.load.Goals as goal

pub overflow_add-at : goal.overflow_add-at
overflow_add-at c = omega (arith, stack-later c.args.log.now c.args.at, c.requires.0)

pub load_elements-requires : goal.load_elements-requires
load_elements-requires c = (stack-lies c.args.log.now c.args.at c.u32_or_zero-n.ensures c.requires.0, omega (arith, stack-many c.args.log.now c.args.at, c.u32_or_zero-n.ensures, c.requires.1), c.requires.2)

pub returns : goal.returns
returns c = loaded c.args.log.now c.args.main.now _ c.args.at c.u32_or_zero-n.ensures c.load_elements.ensures
