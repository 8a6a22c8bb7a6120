-- `walk::record_end` meets its contract: a record that is broken has no length. Assumes nothing.
use native.Mathlib.Omega.{arith}
use Rattle.walk.proofs.Reading.{end-inside, end_whole, end-broken}
use Rattle.walk.proofs.record_end.Goals as goal

pub overflow_add-result : goal.overflow_add-result
overflow_add-result c = omega (arith, end-inside c.args.tree.now c.args.start c.length_at.ensures c.in-Some.is)

pub returns-in-Some : goal.returns-in-Some
returns-in-Some c = end_whole c.args.tree.now c.args.start c.length_at.ensures c.in-Some.is

pub returns-in-None : goal.returns-in-None
returns-in-None c = end-broken c.args.tree.now c.args.start c.length_at.ensures c.in-None.is
