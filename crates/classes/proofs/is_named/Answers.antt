-- `classes::is_named` meets its contract. Assumes nothing.
use Rattle.policies.specs.Array.{stored}
use Rattle.classes.proofs.Equal.{decides-yes}
use Rattle.classes.proofs.Places.{past-named, and-named}
use Rattle.classes.proofs.is_named.Goals as goal

pub returns-then-r-lt-MAX_RECORDS : goal.returns-then-r-lt-MAX_RECORDS
returns-then-r-lt-MAX_RECORDS c = decides-yes (stored c.if-r-lt-MAX_RECORDS.true)

pub returns-then-i-ge-MAX_RECORDS : goal.returns-then-i-ge-MAX_RECORDS
returns-then-i-ge-MAX_RECORDS c = past-named c.args.pol.now c.args.r c.requires c.if-r-lt-MAX_RECORDS.false c.if-i-ge-MAX_RECORDS.true

pub returns : goal.returns
returns c = and-named c.args.pol.now c.args.r c.requires c.if-r-lt-MAX_RECORDS.false c.if-i-ge-MAX_RECORDS.false c.head_of-n.ensures
