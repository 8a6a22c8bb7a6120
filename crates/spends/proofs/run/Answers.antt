-- `spends::run` is safe: the room has its length. Assumes nothing.
use Rattle.spends.proofs.Rooms.{zeros-length}
use Rattle.spends.proofs.run.Goals as goal

pub slice_bounds-run_in-end : goal.slice_bounds-run_in-end
slice_bounds-run_in-end g c = zeros-length 4194305
