-- `names::close_up` meets its contract: a place at a time. Assumes nothing.
use Rattle.names.proofs.Spaces.{skips, keeps, ends}
use native.Mathlib.Omega.{arith}
use mathlib.Core.Path.{sym}
use lib.Seq.{length-take-le}
use Rattle.names.proofs.close_up.Goals as goal

pub loop-i-preserved-then-b-eq32 : goal.loop-i-preserved-then-b-eq32
loop-i-preserved-then-b-eq32 c =
    skips c.args.text.now c.loop-i.text c.loop-i.n c.loop-i.i c.loop-i.invariant (omega arith) c.if-b-eq32.true

pub loop-i-preserved : goal.loop-i-preserved
loop-i-preserved c =
    keeps c.args.text.now c.loop-i.text c.loop-i.n c.loop-i.i c.loop-i.invariant (omega arith) c.if-b-eq32.false

pub returns-clause-text_after : goal.returns-clause-text_after
returns-clause-text_after c = ends c.args.text.now c.loop-i.text c.loop-i.n c.loop-i.i c.loop-i.invariant (omega arith)

pub returns-clause-taken : goal.returns-clause-taken
returns-clause-taken c = sym (length-take-le c.loop-i.n c.loop-i.text (omega arith))
