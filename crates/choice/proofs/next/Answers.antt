-- `choice::next` meets its contract. Assumes nothing.
use mathlib.Core.Path.{◌∙◌, ap}
use Rattle.types.specs.declared.«Type».{«Type»}
use Rattle.definition.specs.Tables.{probs}
use Rattle.choice.specs.Chosen.{suits_type}
use Rattle.choice.proofs.Choosing.{next-suits, next-other}
use Rattle.choice.proofs.next.Goals as goal

pub returns-then-suits : goal.returns-then-suits
returns-then-suits c = next-suits c.args.work.now (probs c.args.sat c.args.dissat) c.args.e c.args.want c.args.best
    (c.suits.ensures ∙ ap (λ (t : «Type»). suits_type c.args.want t) c.type_at.ensures) c.if-suits.true c.cheaper.ensures

pub returns-else-suits : goal.returns-else-suits
returns-else-suits c = next-other c.args.work.now (probs c.args.sat c.args.dissat) c.args.e c.args.want c.args.best
    (c.suits.ensures ∙ ap (λ (t : «Type»). suits_type c.args.want t) c.type_at.ensures) c.if-suits.false
