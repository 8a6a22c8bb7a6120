-- `spend_lines::put_lines` meets its contract: the lines still to come are laid after those before them. Assumes nothing.
use Prim.Native.Nat.{◌+◌}
use Rattle.script_leaves.proofs.Laws.{all-coming, more-coming, none-coming}
use Rattle.spend_lines.proofs.Texts.{line-next, line_first, line-none, lines-short, shown}
use native.Mathlib.Omega.{arith}
use Rattle.spend_lines.proofs.put_lines.Goals as goal

pub loop-i-init : goal.loop-i-init
loop-i-init c = all-coming _ (line_first c.args.reports.now c.args.from c.args.count) (omega arith) (omega arith)

pub loop-i-preserved : goal.loop-i-preserved
loop-i-preserved c = let next = line-next c.args.reports.now c.args.from c.args.count c.loop-i.i _ _ c.loop-i-test.true c.number_in-number.ensures c.verdict_in-verdict.ensures in
    more-coming next c.loop-i.invariant c.put_line-at.ensures

pub shape_of-out : goal.shape_of-out
shape_of-out c = c.loop-i.invariant.long

pub returns : goal.returns
returns c = let none = line-none c.args.reports.now (c.args.from + c.loop-i.i) c.args.count c.loop-i.i c.loop-i-test.false in
    let short = lines-short c.args.reports.now c.args.from c.args.count in
    shown (none-coming none c.loop-i.invariant) (omega (arith, short, c.requires.count_in_bounds_2))
