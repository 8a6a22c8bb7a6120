-- The promise determines the outcome. Assumes nothing.
use mathlib.Core.Path.{sym, ◌∙◌}
use Rattle.movers.specs.Promises.{MoveDetermined}

pub move-determined : MoveDetermined
move-determined form policy out number number' left left' bytes bytes' p q =
    (p.gives ∙ sym q.gives, p.writes ∙ sym q.writes, p.counts ∙ sym q.counts)
