-- `spend_judge::begin` meets its contract: a machine at the first outcome, its alternate stack empty. Assumes nothing.
use native.Mathlib.Omega.{arith}
use mathlib.Core.Path.{refl}
use Rattle.spend_judge.proofs.Entries.{outcomes-later}
use Rattle.spend_judge.proofs.Judging.{begun}
use Rattle.spend_judge.proofs.begin.Goals as goal

pub overflow_add-result : goal.overflow_add-result
overflow_add-result c = omega (arith, outcomes-later c.args.log.now c.args.at, c.requires.2)

pub returns : goal.returns
returns c = begun c.args.log.now c.args.main.now c.args.n c.args.at c.requires.0 c.requires.1 c.requires.2 c.u32_or_zero-left.ensures refl
