-- `records::is_fragment_kind` meets its contract: the kinds lie between two numbers. Assumes nothing.
use borrow.Author.Tests.{le-leb, lt-leb}
use Rattle.records.proofs.is_fragment_kind.Goals as goal

pub returns-then-kind-ge32 : goal.returns-then-kind-ge32
returns-then-kind-ge32 c = simp (le-leb _ _ c.if-kind-ge32.true)

pub returns-else-kind-ge32 : goal.returns-else-kind-ge32
returns-else-kind-ge32 c = simp (lt-leb _ _ c.if-kind-ge32.false)
