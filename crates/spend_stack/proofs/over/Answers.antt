-- `spend_stack::over` meets its contract. Assumes nothing.
use Rattle.spend_stack.proofs.Laws.{put-over, too_large}
use Rattle.spend_stack.proofs.over.Goals as goal

pub returns-then-n-m-lt4096 : goal.returns-then-n-m-lt4096
returns-then-n-m-lt4096 c = put-over c.requires.0 c.requires.1 c.if-n-m-lt4096.true c.put.ensures c.with_main.ensures

pub returns : goal.returns
returns c = too_large c.requires.0 c.requires.1 c.if-n-m-lt4096.false c.with_status.ensures
