-- `classes::class_of` meets its contract. Assumes nothing.
use Rattle.classes.proofs.Places.{class-found, class-short, class-past}
use Rattle.classes.proofs.class_of.Goals as goal

pub returns-then-at-pol : goal.returns-then-at-pol
returns-then-at-pol c = class-found c.args.pol.now c.args.r c.if-r-lt-MAX_NUMBERS.true c.class_place-at.ensures

pub returns-else-at-pol : goal.returns-else-at-pol
returns-else-at-pol c = class-short c.args.pol.now c.args.r c.if-r-lt-MAX_NUMBERS.true c.class_place-at.ensures c.if-at-pol.false

pub returns-else-r-lt-MAX_NUMBERS : goal.returns-else-r-lt-MAX_NUMBERS
returns-else-r-lt-MAX_NUMBERS c = class-past c.args.pol.now c.args.r c.if-r-lt-MAX_NUMBERS.false
