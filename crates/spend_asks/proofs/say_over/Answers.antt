-- `spend_asks::say_over` meets its contract. Assumes nothing.
use mathlib.Core.Bool.{true, false}
use Rattle.spend_asks.proofs.Next.{first-no, first-yes, fits_next}
use Rattle.spend_asks.proofs.Telling.{over-stuck, over-test}
use Rattle.spend_asks.proofs.say_over.Goals as goal

pub taken-requires : goal.taken-requires
taken-requires c = (c.requires.0.asks, (first-no c.args.log.now c.args.m c.say-s.ensures c.in-No.is).some_left)

pub over-requires : goal.over-requires
over-requires c = let p = first-no c.args.log.now c.args.m c.say-s.ensures c.in-No.is in
    rw c.taken.ensures (fits_next c.args.log.now c.args.main.now c.args.m c.requires.0 p.some_left, c.requires.1)

pub taken-requires-in-Yes : goal.taken-requires-in-Yes
taken-requires-in-Yes c = (c.requires.0.asks, (first-yes c.args.log.now c.args.m c.say-s.ensures c.in-Yes.is).some_left)

pub over-requires-in-Yes : goal.over-requires-in-Yes
over-requires-in-Yes c = let p = first-yes c.args.log.now c.args.m c.say-s.ensures c.in-Yes.is in
    rw c.taken-in-Yes.ensures (fits_next c.args.log.now c.args.main.now c.args.m c.requires.0 p.some_left, c.requires.1)

pub returns-in-Neither : goal.returns-in-Neither
returns-in-Neither c = over-stuck c.requires.0 c.say-s.ensures c.in-Neither.is c.with_status.ensures

pub returns-in-No : goal.returns-in-No
returns-in-No c = over-test c.requires.0 false (first-no c.args.log.now c.args.m c.say-s.ensures c.in-No.is) (rw c.taken.ensures at c.over.ensures)
    (c.test.ensures c.args.log.now)

pub returns-in-Yes : goal.returns-in-Yes
returns-in-Yes c = over-test c.requires.0 true (first-yes c.args.log.now c.args.m c.say-s.ensures c.in-Yes.is) (rw c.taken-in-Yes.ensures at c.over-in-Yes.ensures)
    (c.test-in-Yes.ensures c.args.log.now)
