-- `pairing::entry_at` meets its contract. Assumes nothing.
use Rattle.pairing.proofs.Placed.{slot-there, entry-slot-there, entry-false, entry-slot}
use Rattle.pairing.proofs.entry_at.Goals as goal

pub returns-then-place-eq-FALSE : goal.returns-then-place-eq-FALSE
returns-then-place-eq-FALSE c = entry-false c.requires.1.0 c.if-place-eq-FALSE.true c.args.j c.requires.1.1

pub entry-requires : goal.entry-requires
entry-requires c = (c.requires.0, (slot-there c.requires.1.0 c.if-place-eq-FALSE.false, entry-slot-there c.requires.1.0 c.if-place-eq-FALSE.false c.args.j c.requires.1.1))

pub returns : goal.returns
returns c = entry-slot c.requires.1.0 c.if-place-eq-FALSE.false c.args.j c.requires.1.1 c.entry.ensures
