-- `spend_judge::judge_abort` meets its contract: the byte in front says whether the recorded end is an abort. Assumes nothing.
use native.Mathlib.Omega.{arith}
use Rattle.spend_judge.proofs.Entries.{end_later}
use Rattle.spend_judge.proofs.Judging.{abort-agrees, abort-differs}
use Rattle.spend_judge.proofs.judge_abort.Goals as goal

pub bounds-log-at : goal.bounds-log-at
bounds-log-at c = omega (arith, end_later c.args.log.now c.args.at, c.requires)

pub returns-then-log-at-eq-ABORT : goal.returns-then-log-at-eq-ABORT
returns-then-log-at-eq-ABORT c = abort-agrees c.args.log.now c.args.at c.if-log-at-eq-ABORT.true

pub returns : goal.returns
returns c = abort-differs c.args.log.now c.args.at c.if-log-at-eq-ABORT.false
