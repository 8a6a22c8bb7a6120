-- `index_view::innermost` meets its contract: each turn passes a record that does not hold the byte. Assumes nothing.
use mathlib.Core.Path.{◌≡◌, sym, ◌∙◌}
use native.Mathlib.Omega.{arith}
use Rattle.index_view.proofs.Holding.{found_here, found-later, none_found, from-none}
use Rattle.index_view.proofs.innermost.Goals as goal

pub loop-i-init : goal.loop-i-init
loop-i-init c = (c.entries-n.ensures, omega arith, from-none c.args.index.now c.entries-n.ensures c.args.at)

pub returns-then-holds : goal.returns-then-holds
returns-then-holds c = let step = found_here c.args.index.now c.args.at c.loop-i.i c.loop-i-test.true c.holds.ensures c.if-holds.true in
    sym step ∙ c.loop-i.invariant.2

pub loop-i-preserved : goal.loop-i-preserved
loop-i-preserved c = let step = found-later c.args.index.now c.args.at c.loop-i.i c.loop-i-test.true c.holds.ensures c.if-holds.false in
    (c.loop-i.invariant.0, omega (arith, c.loop-i-test.true), sym step ∙ c.loop-i.invariant.2)

pub returns : goal.returns
returns c = let same : c.loop-i.i ≡ c.entries-n.result = omega (arith, c.loop-i.invariant.1, c.loop-i-test.false) in
    sym same ∙ sym (none_found c.args.index.now c.args.at c.loop-i.i c.loop-i-test.false) ∙ c.loop-i.invariant.2
