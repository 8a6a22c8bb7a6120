-- `spend_entry::claspwillow_replay` keeps its promise: the replay, and then work memory is cleared. Assumes nothing.
use Rattle.spend_entry.proofs.Promised.{promised}
use Rattle.spend_entry.proofs.claspwillow_replay.Goals as goal

pub returns-in-Ok : goal.returns-in-Ok
returns-in-Ok c = promised c.args.log.now c.args.reports.now c.args.work.now c.replay-r.new.work (rw c.in-Ok.is at c.replay-r.ensures.gives)
    c.replay-r.ensures.work_len_unchanged c.clear.ensures

pub returns-in-Err : goal.returns-in-Err
returns-in-Err c = rw c.number.ensures (promised c.args.log.now c.args.reports.now c.args.work.now c.replay-r.new.work (rw c.in-Err.is at c.replay-r.ensures.gives)
    c.replay-r.ensures.work_len_unchanged c.clear.ensures)
