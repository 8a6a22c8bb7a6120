-- Each promise determines its outcome. Assumes nothing.
use mathlib.Core.Path.{sym, ◌∙◌}
use Rattle.claspwillow.specs.Promises.{CheckDetermined, CompileDetermined, ChooseDetermined}
use Rattle.claspwillow.specs.Promises.{WriteDetermined}

pub check-determined : CheckDetermined
check-determined context tree work number number' ty ty' after after' p q =
    (p.gives ∙ sym q.gives, p.types ∙ sym q.types, p.clears ∙ sym q.clears)

pub compile-determined : CompileDetermined
compile-determined context policy out work number number' left left' bytes bytes' cost cost' never never' nodes nodes' after after' p q = (
  p.gives ∙ sym q.gives,
  p.writes ∙ sym q.writes,
  p.counts ∙ sym q.counts,
  p.costs ∙ sym q.costs,
  p.tells ∙ sym q.tells,
  p.uses ∙ sym q.uses,
  p.clears ∙ sym q.clears,
)

pub choose-determined : ChooseDetermined
choose-determined context policy work number number' bytes bytes' cost cost' never never' nodes nodes' after after' p q = (
  p.gives ∙ sym q.gives,
  p.counts ∙ sym q.counts,
  p.costs ∙ sym q.costs,
  p.tells ∙ sym q.tells,
  p.uses ∙ sym q.uses,
  p.leaves ∙ sym q.leaves,
)

pub write-determined : WriteDetermined
write-determined out work number number' left left' bytes bytes' after after' p q =
    (p.gives ∙ sym q.gives, p.writes ∙ sym q.writes, p.counts ∙ sym q.counts, p.clears ∙ sym q.clears)
