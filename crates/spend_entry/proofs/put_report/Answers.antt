-- `spend_entry::put_report` meets its contract: the number, then the verdict. Assumes nothing.
use mathlib.Core.Path.{ap, ◌∙◌}
use Prim.Native.Nat.{◌+◌, ◌*◌}
use Rattle.script_machine.specs.Numbers.{Bytes}
use Rattle.words.specs.Bytes.{put_le}
use Rattle.spend_entry.proofs.put_report.Goals as goal

pub returns : goal.returns
returns c = c.put_u32-2.ensures.s_after ∙ ap (λ (m : Bytes). put_le 4 m (8 * c.args.i + 4) c.args.verdict) c.put_u32.ensures.s_after
