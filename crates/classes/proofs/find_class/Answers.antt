-- `classes::find_class` meets its contract: no number passed stands for the policy. Assumes nothing.
use native.Mathlib.Omega.{arith}
use Rattle.classes.proofs.Keep.{find-starts, find-found, find-more, find-own}
use Rattle.classes.proofs.find_class.Goals as goal

pub loop-c-init : goal.loop-c-init
loop-c-init c = find-starts c.args.pol.now c.args.r

pub is_same-requires : goal.is_same-requires
is_same-requires c = c.requires

pub returns-then-is_same : goal.returns-then-is_same
returns-then-is_same c = find-found c.args.pol.now c.args.r c.loop-c.c c.loop-c.invariant c.is_same.ensures c.if-is_same.true

pub loop-c-preserved : goal.loop-c-preserved
loop-c-preserved c = find-more c.args.pol.now c.args.r c.loop-c.c c.loop-c.invariant c.is_same.ensures c.loop-c-test.true c.if-is_same.false

pub returns : goal.returns
returns c = find-own c.args.pol.now c.args.r c.loop-c.c c.loop-c.invariant c.loop-c-test.false c.requires.1
