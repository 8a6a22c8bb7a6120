-- `pairing::length_at` meets its contract. Assumes nothing.
use Rattle.pairing.proofs.Placed.{length-false, length-slot, slot-there}
use Rattle.pairing.proofs.length_at.Goals as goal

pub returns-then-place-eq-FALSE : goal.returns-then-place-eq-FALSE
returns-then-place-eq-FALSE c = length-false c.args.work.now c.args.slots c.args.place c.if-place-eq-FALSE.true

pub length_of-requires : goal.length_of-requires
length_of-requires c = (c.requires.0, slot-there c.requires.1 c.if-place-eq-FALSE.false)

pub returns : goal.returns
returns c = length-slot c.args.work.now c.args.slots c.args.place c.if-place-eq-FALSE.false c.length_of.ensures
