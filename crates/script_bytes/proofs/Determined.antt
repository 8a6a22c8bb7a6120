-- The promise determines its outcome. Assumes nothing.
use mathlib.Core.Path.{sym, ◌∙◌}
use Rattle.script_bytes.specs.ScriptOf.{ScriptDetermined}

pub script-determined : ScriptDetermined
script-determined context tree t out work number number' left left' bytes bytes' after after' p q =
    (p.gives ∙ sym q.gives, p.writes ∙ sym q.writes, p.counts ∙ sym q.counts, p.clears ∙ sym q.clears)
