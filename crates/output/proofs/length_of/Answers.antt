-- `output::length_of` meets its contract. Assumes nothing.
use native.Mathlib.Omega.{arith}
use Rattle.output.proofs.Measuring.{record-few, record-read}
use Rattle.output.proofs.length_of.Goals as goal

pub overflow_mul-result : goal.overflow_mul-result
overflow_mul-result c = omega (arith, record-few c.args.pol.now c.args.work.now c.args.e _ _ c.requires.1 c.front_of-front.ensures c.arity_of-n.ensures)

pub overflow_add-result-2 : goal.overflow_add-result-2
overflow_add-result-2 c = omega (arith, record-few c.args.pol.now c.args.work.now c.args.e _ _ c.requires.1 c.front_of-front.ensures c.arity_of-n.ensures)

pub returns : goal.returns
returns c = record-read c.args.pol.now c.args.work.now c.args.e _ _ c.requires.1 c.front_of-front.ensures c.arity_of-n.ensures
