-- The promise determines its outcome. Assumes nothing.
use mathlib.Core.Path.{sym, ◌∙◌}
use Rattle.spend_replay.specs.Replay.{ReplayDetermined}

pub replay-determined : ReplayDetermined
replay-determined log out work number number' left left' entries entries' after after' p q =
    (p.gives ∙ sym q.gives, p.writes ∙ sym q.writes, p.counts ∙ sym q.counts, p.clears ∙ sym q.clears)
