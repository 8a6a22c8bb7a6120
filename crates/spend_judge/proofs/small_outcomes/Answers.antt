-- `spend_judge::small_outcomes` meets its contract: its outcomes are, whatever their count. Assumes nothing.
use native.Mathlib.Omega.{arith}
use Rattle.spend_judge.proofs.Entries.{outcomes-later}
use Rattle.spend_judge.proofs.Judging.{outcomes-small, outcomes-lie}
use Rattle.spend_judge.proofs.small_outcomes.Goals as goal

pub overflow_add-at : goal.overflow_add-at
overflow_add-at c = omega (arith, outcomes-later c.args.log.now c.args.at, c.requires)

pub small_digests-requires : goal.small_digests-requires
small_digests-requires c = outcomes-lie c.args.log.now c.args.at c.u32_or_zero-n.ensures (c.requires)

pub returns : goal.returns
returns c = outcomes-small c.args.log.now c.args.at c.u32_or_zero-n.ensures c.small_digests.ensures
