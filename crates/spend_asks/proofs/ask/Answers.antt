-- `spend_asks::ask` meets its contract. Assumes nothing.
use native.Mathlib.Omega.{arith}
use mathlib.Core.Path.{sym, ap}
use Rattle.spend_asks.specs.Answers.{first_of}
use Rattle.spend_asks.proofs.Next.{asks-in, from-none, above_zero, digest-next, yes-next, no-next}
use Rattle.spend_asks.proofs.ask.Goals as goal

pub returns-then-m-eq0 : goal.returns-then-m-eq0
returns-then-m-eq0 c = sym (ap first_of (from-none c.args.log.now c.args.m.at c.args.m.left c.if-m-eq0.true))

pub outcome_at-o-requires : goal.outcome_at-o-requires
outcome_at-o-requires c = asks-in c.args.log.now c.args.m c.requires (above_zero _ c.if-m-eq0.false)

pub returns-then-sort-eq2 : goal.returns-then-sort-eq2
returns-then-sort-eq2 c = digest-next c.args.log.now c.args.m (above_zero _ c.if-m-eq0.false) (λ i. omega (arith, c.shared_slice_known-1.given i)) c.outcome_at-o.ensures
    c.if-sort-eq2.true

pub returns-then-sort-eq1 : goal.returns-then-sort-eq1
returns-then-sort-eq1 c = yes-next c.args.log.now c.args.m (above_zero _ c.if-m-eq0.false) c.outcome_at-o.ensures c.if-sort-eq1.true

pub returns : goal.returns
returns c = no-next c.args.log.now c.args.m (above_zero _ c.if-m-eq0.false) c.outcome_at-o.ensures c.if-sort-eq2.false c.if-sort-eq1.false
