-- `spend_asks::taken` meets its contract. Assumes nothing.
use mathlib.Core.Path.{refl}
use Rattle.spend_asks.proofs.Next.{asks-in}
use Rattle.spend_asks.proofs.taken.Goals as goal

pub outcome_at-o-requires : goal.outcome_at-o-requires
outcome_at-o-requires c = asks-in c.args.log.now c.args.m c.requires.0 c.requires.1

pub returns : goal.returns
returns c = rw c.outcome_at-o.ensures refl
