-- `records::is_policy_kind` meets its contract: the kinds lie between two numbers. Assumes nothing.
use borrow.Author.Tests.{le-leb, lt-leb}
use Rattle.records.proofs.is_policy_kind.Goals as goal

pub returns-then-kind-ge1 : goal.returns-then-kind-ge1
returns-then-kind-ge1 c = simp (le-leb _ _ c.if-kind-ge1.true)

pub returns-else-kind-ge1 : goal.returns-else-kind-ge1
returns-else-kind-ge1 c = simp (lt-leb _ _ c.if-kind-ge1.false)
