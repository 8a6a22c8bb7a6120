-- `differ::same_at` meets its contract: what stands between a start and an end is a record. Assumes nothing.
use Rattle.walk.proofs.Laws.{its-bytes}
use Rattle.differ.proofs.Sides.{same_bytes}
use Rattle.differ.proofs.same_at.Goals as goal

pub returns : goal.returns
returns c = same_bytes c.same_record.ensures (its-bytes c.requires.0 c.record_end-b.ensures) (its-bytes c.requires.1 c.record_end-d.ensures)
