-- `index_entry::claspwillow_index` keeps its promise. Assumes nothing.
use Rattle.index_entry.proofs.Promised.{promised}
use Rattle.index_entry.proofs.claspwillow_index.Goals as goal

pub returns-in-Ok : goal.returns-in-Ok
returns-in-Ok c =
    let p = promised c.args.context c.args.tree.now c.args.out.now c.args.work.now c.index-r.new.work c.index-r.ensures.answered c.index-r.ensures.work_len_unchanged c.clear.ensures in
    rw c.in-Ok.is at p

pub returns-in-Err : goal.returns-in-Err
returns-in-Err c =
    let p = promised c.args.context c.args.tree.now c.args.out.now c.args.work.now c.index-r.new.work c.index-r.ensures.answered c.index-r.ensures.work_len_unchanged c.clear.ensures in
    rw c.number.ensures (rw c.in-Err.is at p)
