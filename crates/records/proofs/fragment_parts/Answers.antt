-- `records::fragment_parts` meets its contract: a kind of policies is refused. Assumes nothing.
use mathlib.Core.Path.{sym, ◌∙◌}
use Rattle.records.proofs.fragment_parts.Goals as goal

pub returns-then-is_fragment_kind : goal.returns-then-is_fragment_kind
returns-then-is_fragment_kind c = simp (c.record_parts.ensures, sym c.kind_of.ensures, sym c.is_fragment_kind.ensures ∙ c.if-is_fragment_kind.true)

pub returns : goal.returns
returns c = simp (c.unfit.ensures, sym c.kind_of.ensures, sym c.is_fragment_kind.ensures ∙ c.if-is_fragment_kind.false)
