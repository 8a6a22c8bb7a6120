-- `records::policy_parts` meets its contract: a kind of fragments is refused. Assumes nothing.
use mathlib.Core.Path.{sym, ◌∙◌}
use Rattle.records.proofs.policy_parts.Goals as goal

pub returns-then-is_policy_kind : goal.returns-then-is_policy_kind
returns-then-is_policy_kind c = simp (c.record_parts.ensures, sym c.kind_of.ensures, sym c.is_policy_kind.ensures ∙ c.if-is_policy_kind.true)

pub returns : goal.returns
returns c = simp (c.unfit.ensures, sym c.kind_of.ensures, sym c.is_policy_kind.ensures ∙ c.if-is_policy_kind.false)
