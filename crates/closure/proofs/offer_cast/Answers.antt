-- `closure::offer_cast` meets its contract: a cast that gives a candidate is offered, and any other leaves all as it is. Assumes nothing.
use mathlib.Core.Path.{refl}
use Rattle.definition.specs.Tables.{probs}
use Rattle.nodes.proofs.Casts.{cast-fresh}
use Rattle.closure.proofs.Extending.{still-long}
use Rattle.closure.proofs.Offering.{node-small, cast-told, nothing-offered, accepted-offered, refused-offered}
use Rattle.closure.proofs.offer_cast.Goals as goal

pub cast-requires : goal.cast-requires
cast-requires c = node-small c.args.work.now c.args.e c.node-x.ensures

pub insert-step-requires : goal.insert-step-requires
insert-step-requires c = (
  c.requires.0,
  (
    c.requires.1.0,
    cast-fresh c.requires.0 c.requires.1.1.0 c.args.context c.args.number
        (cast-told c.args.context c.args.work.now c.args.e c.args.number c.node-x.ensures c.cast.ensures c.in-Ok.is),
  ),
)

pub shape_of-work-in-Ok-offer : goal.shape_of-work-in-Ok-offer
shape_of-work-in-Ok-offer c = still-long c.requires.0 c.insert-step.ensures.extends

pub returns-in-Ok-offer : goal.returns-in-Ok-offer
returns-in-Ok-offer c = accepted-offered c.args.context (probs c.args.sat c.args.dissat) c.requires.0 c.requires.1.1.0 c.args.number
    (cast-told c.args.context c.args.work.now c.args.e c.args.number c.node-x.ensures c.cast.ensures c.in-Ok.is) c.insert-step.ensures c.in-Ok-offer.is

pub shape_of-work-in-Err : goal.shape_of-work-in-Err
shape_of-work-in-Err c = still-long c.requires.0 c.insert-step.ensures.extends

pub returns-in-Err : goal.returns-in-Err
returns-in-Err c = refused-offered c.args.context (probs c.args.sat c.args.dissat) c.requires.0 c.requires.1.1.0 c.args.number
    (cast-told c.args.context c.args.work.now c.args.e c.args.number c.node-x.ensures c.cast.ensures c.in-Ok.is) c.insert-step.ensures c.in-Err.is

pub returns-in_default : goal.returns-in_default
returns-in_default c = nothing-offered c.args.context (probs c.args.sat c.args.dissat) c.requires.0 c.requires.1.1.0 c.args.number
    (cast-told c.args.context c.args.work.now c.args.e c.args.number c.node-x.ensures c.cast.ensures c.in_default.is) (λ pol. refl) c.requires.1.0
