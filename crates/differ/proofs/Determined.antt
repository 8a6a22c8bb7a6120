-- The promise of the entry allows one outcome. Assumes nothing.
use mathlib.Core.Path.{sym, ◌∙◌}
use Rattle.differ.specs.Differ.{DifferDetermined}

pub differ-determined : DifferDetermined
differ-determined context left right out work number number' told told' count count' after after' p q =
    (p.gives ∙ sym q.gives, p.writes ∙ sym q.writes, p.counts ∙ sym q.counts, p.clears ∙ sym q.clears)
