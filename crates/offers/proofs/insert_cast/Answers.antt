-- `offers::insert_cast` meets its contract: a cast that gives a candidate is inserted with its closure, and any other leaves all as it is.
-- Assumes nothing.
use Rattle.definition.specs.Tables.{probs}
use Rattle.nodes.proofs.Casts.{cast-fresh}
use Rattle.closure.proofs.Extending.{still-long}
use Rattle.closure.proofs.Offering.{node-small, cast-told}
use Rattle.offers.proofs.Casts.{nothing-inserted, cast-inserted}
use Rattle.offers.proofs.insert_cast.Goals as goal

pub node-requires : goal.node-requires
node-requires c = c.requires.0.long

pub cast-requires : goal.cast-requires
cast-requires c = node-small c.args.work.now c.args.e c.node.ensures

pub insert_closure-requires : goal.insert_closure-requires
insert_closure-requires c = (
  c.requires.0,
  (
    c.requires.1.0,
    cast-fresh c.requires.0 c.requires.1.1.0 c.args.context c.args.number
        (cast-told c.args.context c.args.work.now c.args.e c.args.number c.node.ensures c.cast.ensures c.in-Ok.is),
  ),
)

pub shape_of-work-in-Ok : goal.shape_of-work-in-Ok
shape_of-work-in-Ok c = still-long c.requires.0 c.insert_closure.ensures.extends

pub returns-in-Ok : goal.returns-in-Ok
returns-in-Ok c = cast-inserted c.args.context (probs c.args.sat c.args.dissat) c.requires.0 c.requires.1.1.0 c.args.number
    (cast-told c.args.context c.args.work.now c.args.e c.args.number c.node.ensures c.cast.ensures c.in-Ok.is) c.insert_closure.ensures

pub returns-in-Err : goal.returns-in-Err
returns-in-Err c = nothing-inserted c.args.context (probs c.args.sat c.args.dissat) c.requires.0 c.requires.1.1.0 c.args.number
    (cast-told c.args.context c.args.work.now c.args.e c.args.number c.node.ensures c.cast.ensures c.in-Err.is) c.requires.1.0
