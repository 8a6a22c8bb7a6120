-- `spend_log::head_of` meets its contract: the numbers in front say where the parts begin. Assumes nothing.
use Rattle.spend_log.proofs.Heads.{head-short, head-cut, head-whole}
use native.Mathlib.Omega.{arith}
use Rattle.spend_log.proofs.head_of.Goals as goal

pub returns-then-log-lt-TREE : goal.returns-then-log-lt-TREE
returns-then-log-lt-TREE c = head-short c.args.log.now c.if-log-lt-TREE.true

pub returns-then-log-entries : goal.returns-then-log-entries
returns-then-log-entries c = head-cut c.args.log.now c.if-log-lt-TREE.false (omega (arith, c.u32_or_zero.ensures, c.u32_or_zero-2.ensures, c.u32_or_zero-3.ensures, c.u32_or_zero-4.ensures, c.u32_or_zero-5.ensures, c.if-log-entries.true))

pub returns : goal.returns
returns c = head-whole c.args.log.now _ _ _ _ _ _ c.if-log-entries.false c.u32_or_zero-6.ensures c.u32_or_zero.ensures c.u32_or_zero-2.ensures
    c.u32_or_zero-3.ensures c.u32_or_zero-4.ensures c.u32_or_zero-5.ensures
