-- `spend_lines::put_counts` meets its contract: the four lines, one after another. Assumes nothing.
use native.Mathlib.Omega.{arith}
use Rattle.script_leaves.proofs.Laws.{then-laid}
use Rattle.spend_lines.proofs.Texts.{counts-short, shown}
use Rattle.spend_lines.proofs.put_counts.Goals as goal

pub returns : goal.returns
returns c = let all = then-laid (then-laid (then-laid c.put_count-agree.ensures c.put_count-differ.ensures) c.put_count-mismatched.ensures) c.put_count.ensures in
    shown all (omega (arith, counts-short c.args.t, c.requires))
