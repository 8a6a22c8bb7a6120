-- `report::differences::say_record_at` is safe: the record lies in the tree. Assumes nothing.
use Rattle.report.proofs.Rooms.{at-within}
use Rattle.report.proofs.differences.say_record_at.Goals as goal

pub slice_bounds-say_record-end : goal.slice_bounds-say_record-end
slice_bounds-say_record-end g c = (at-within c.args.tree.now c.args.i c.record_start-start.ensures c.record_end-end.ensures).1
