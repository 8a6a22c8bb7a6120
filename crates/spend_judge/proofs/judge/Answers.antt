-- `spend_judge::judge` meets its contract: by how the run stands, and whether outcomes are left. Assumes nothing.
use Rattle.spend_judge.specs.Places.{end_in}
use Rattle.spend_judge.proofs.Judging.{judge-going, judge-aborted, judge-stuck, judge-large, judge-end, judge-abort}
use Rattle.spend_judge.proofs.judge.Goals as goal

pub returns-then-some_left : goal.returns-then-some_left
returns-then-some_left c = judge-going c.args.log.now c.args.main.now c.args.m (end_in c.args.log.now c.args.at) c.in-Going.is c.some_left.ensures c.if-some_left.true

pub returns-then-some_left-2 : goal.returns-then-some_left-2
returns-then-some_left-2 c = judge-aborted c.args.log.now c.args.main.now c.args.m (end_in c.args.log.now c.args.at) c.in-Aborted.is c.some_left-in-Aborted.ensures c.if-some_left-2.true

pub returns-else-some_left : goal.returns-else-some_left
returns-else-some_left c = judge-end c.args.log.now c.args.main.now c.args.m (end_in c.args.log.now c.args.at) c.in-Going.is c.some_left.ensures c.if-some_left.false c.judge_stack.ensures

pub returns-else-some_left-2 : goal.returns-else-some_left-2
returns-else-some_left-2 c = judge-abort c.args.log.now c.args.main.now c.args.m (end_in c.args.log.now c.args.at) c.in-Aborted.is c.some_left-in-Aborted.ensures c.if-some_left-2.false c.judge_abort.ensures

pub returns-in-Stuck : goal.returns-in-Stuck
returns-in-Stuck c = judge-stuck c.args.log.now c.args.main.now c.args.m (end_in c.args.log.now c.args.at) c.in-Stuck.is

pub returns-in-Large : goal.returns-in-Large
returns-in-Large c = judge-large c.args.log.now c.args.main.now c.args.m (end_in c.args.log.now c.args.at) c.in-Large.is
