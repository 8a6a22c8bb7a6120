-- `oracle_verdicts::judge_line` meets its contract: a line that is passed over, a case or a broken line. Assumes nothing.
use Rattle.oracle_verdicts.proofs.Agreement.{judges-as, judges-passed, judges-broken, says-told, passed-told, broken-told}
use Rattle.oracle_verdicts.proofs.judge_line.Goals as goal

pub judge_case-requires : goal.judge_case-requires
judge_case-requires c = ((says-told c.read_line.ensures c.in-Says.is).1, (says-told c.read_line.ensures c.in-Says.is).2, c.requires.2)

pub returns-in-Passed : goal.returns-in-Passed
returns-in-Passed c = judges-passed c.args.out.now c.args.work.now (passed-told c.read_line.ensures c.in-Passed.is)

pub returns-in-Says : goal.returns-in-Says
returns-in-Says c = judges-as (says-told c.read_line.ensures c.in-Says.is).0 c.judge_case.ensures

pub returns-in-Broken : goal.returns-in-Broken
returns-in-Broken c = judges-broken c.args.out.now c.args.work.now (broken-told c.read_line.ensures c.in-Broken.is)
