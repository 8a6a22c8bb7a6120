-- `spend_judge::entry_at` meets its contract: each part begins where the one before it ends. Assumes nothing.
use native.Mathlib.Omega.{arith}
use Rattle.spend_judge.proofs.Entries.{entry_read, stack-told, outcomes-told, end-told, parts-told}
use Rattle.spend_judge.proofs.entry_at.Goals as goal

pub stack_end-requires : goal.stack_end-requires
stack_end-requires c = (entry_read c.args.log.now c.args.at c.requires.within c.requires.read c.requires.reads).room

pub outcomes_end-requires : goal.outcomes_end-requires
outcomes_end-requires c = let r = entry_read c.args.log.now c.args.at c.requires.within c.requires.read c.requires.reads in
    let a = stack-told c.args.log.now c.args.at r c.stack_end.ensures c.unwrap_or-outcomes.ensures in
    omega (arith, a, r.stack-in)

pub ending_end-requires : goal.ending_end-requires
ending_end-requires c = let r = entry_read c.args.log.now c.args.at c.requires.within c.requires.read c.requires.reads in
    let a = stack-told c.args.log.now c.args.at r c.stack_end.ensures c.unwrap_or-outcomes.ensures in
    let b = outcomes-told c.args.log.now c.args.at r a c.outcomes_end.ensures c.unwrap_or-ending.ensures in
    omega (arith, b, r.outcomes-in)

pub returns : goal.returns
returns c = let r = entry_read c.args.log.now c.args.at c.requires.within c.requires.read c.requires.reads in
    let a = stack-told c.args.log.now c.args.at r c.stack_end.ensures c.unwrap_or-outcomes.ensures in
    let b = outcomes-told c.args.log.now c.args.at r a c.outcomes_end.ensures c.unwrap_or-ending.ensures in
    let d = end-told c.args.log.now c.args.at r b c.ending_end.ensures c.unwrap_or-next.ensures in
    parts-told c.args.log.now c.args.at c.u32_or_zero-number.ensures a b d
