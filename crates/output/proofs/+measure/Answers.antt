-- `output::measure` meets its contract: it goes over the children of a node with what is still to come. Assumes nothing.
use Rattle.std.proofs.Common.{arith, ◌<◌}
use Rattle.output.specs.Records.{arity_at}
use Rattle.output.proofs.Measuring.{measure-none, measure-starts, measure-stops, measure-goes-on, measure-ends, child-falls}
use Rattle.output.proofs.Measuring.{child-readable, fitted, exceeds}
use Rattle.output.proofs.+measure.Goals as goal

pub returns-then-left-eq0 : goal.returns-then-left-eq0
returns-then-left-eq0 t c = measure-none c.requires.0 c.if-left-eq0.true

pub loop-j-init : goal.loop-j-init
loop-j-init t c = measure-starts c.requires.0 _ _ c.arity_of-n.ensures c.length_of-bytes.ensures c.if-left-eq0.false

pub measure-requires : goal.measure-requires
measure-requires t c =
    let l : c.loop-j.j < arity_at c.args.pol.now c.args.work.now c.args.e = omega (arith, c.loop-j.invariant.arity, c.loop-j-test.true) in
    let falls = child-falls c.requires.0 c.loop-j.j l in (
      omega (arith, falls, c.child_of-c.ensures, c.decreases),
      (child-readable c.requires.0 c.loop-j.j _ l c.child_of-c.ensures, omega (arith, c.requires.1)),
    )

pub returns-in_err-more : goal.returns-in_err-more
returns-in_err-more t c =
    rw c.from_residual.ensures (measure-stops c.requires.0 c.loop-j.invariant _ c.loop-j-test.true c.child_of-c.ensures (exceeds c.in_err-more.ensures))

pub overflow_add-records : goal.overflow_add-records
overflow_add-records t c = omega (arith, (fitted c.in_ok-more.ensures).few, c.loop-j.invariant.few, c.requires.1)

pub overflow_add-bytes : goal.overflow_add-bytes
overflow_add-bytes t c =
    let f = fitted c.in_ok-more.ensures in
    omega (arith, f.few, f.short, c.loop-j.invariant.short, c.loop-j.invariant.few, c.requires.1)

pub loop-j-preserved : goal.loop-j-preserved
loop-j-preserved t c =
    measure-goes-on c.requires.0 c.loop-j.invariant _ _ c.loop-j-test.true c.child_of-c.ensures (fitted c.in_ok-more.ensures)

pub returns : goal.returns
returns t c = measure-ends c.requires.0 c.loop-j.invariant c.loop-j-test.false
