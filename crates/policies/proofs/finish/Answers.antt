-- `policies::finish` meets its contract. Assumes nothing.
use native.Mathlib.Omega.{arith}
use Rattle.policies.proofs.Roots.{finish-empty, finish-bad, finish-deep, finish-done}
use Rattle.policies.proofs.finish.Goals as goal

pub returns-then-count-eq0 : goal.returns-then-count-eq0
returns-then-count-eq0 c = finish-empty c.args.pol.now c.args.count c.if-count-eq0.true

pub returns-then-not-one_root : goal.returns-then-not-one_root
returns-then-not-one_root c = finish-bad c.args.pol.now c.args.count c.requires.0 c.requires.1 c.if-count-eq0.false c.one_root.ensures c.if-not-one_root.true

pub returns-then-depth-gt-MAX_DEPTH : goal.returns-then-depth-gt-MAX_DEPTH
returns-then-depth-gt-MAX_DEPTH c = finish-deep c.args.pol.now c.args.count c.requires.0 c.requires.1 c.if-count-eq0.false c.one_root.ensures c.if-not-one_root.false c.depth.ensures
    (omega (arith, c.if-depth-gt-MAX_DEPTH.true))

pub returns : goal.returns
returns c = finish-done c.args.pol.now c.args.count c.requires.0 c.requires.1 c.if-count-eq0.false c.one_root.ensures c.if-not-one_root.false c.depth.ensures
    (omega (arith, c.if-depth-gt-MAX_DEPTH.false))
