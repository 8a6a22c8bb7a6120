-- `spends::replay` is safe: what it lends has its length. Assumes nothing.
use Rattle.spends.proofs.Rooms.{zeros-length}
use Rattle.spends.proofs.replay.Goals as goal

pub slice_bounds-replay_in-end : goal.slice_bounds-replay_in-end
slice_bounds-replay_in-end g c = zeros-length 2581088
