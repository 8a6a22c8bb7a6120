-- `differ::claspwillow_differ` keeps its promise: what was told, and work memory cleared. Assumes nothing.
use Rattle.differ.proofs.Promised.{done-promised, refused-promised}
use Rattle.differ.proofs.claspwillow_differ.Goals as goal

pub returns-in-Ok : goal.returns-in-Ok
returns-in-Ok c = done-promised c.args.context c.args.left.now c.args.right.now c.args.out.now c.args.work.now c.differ-r.new.work c.differ-r.ensures.work_len_unchanged
    c.clear.ensures c.in-Ok.ensures.gives

pub returns-in-Err : goal.returns-in-Err
returns-in-Err c = refused-promised c.args.context c.args.left.now c.args.right.now c.args.out.now c.args.work.now c.differ-r.new.work c.differ-r.ensures.work_len_unchanged
    c.clear.ensures c.number.ensures c.in-Err.ensures.gives
