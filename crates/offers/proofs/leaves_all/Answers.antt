-- `offers::leaves_all` meets its contract. Assumes nothing.
use mathlib.Core.Path.{◌∙◌}
use lib.ListN.{take}
use Rattle.offers.proofs.Leaving.{leaves-turned, leaves-accompanied, leaves-passed, leaves-missing}
use Rattle.offers.proofs.leaves_all.Goals as goal

pub turns_away-requires : goal.turns_away-requires
turns_away-requires c = (c.requires.0, (c.requires.1.0, c.requires.1.1.small _ c.in-Ok.is))

pub returns-then-alone : goal.returns-then-alone
returns-then-alone c = leaves-turned c.args.work.now c.args.sat c.args.dissat c.args.settled (take c.args.n c.args.entries.now) c.in-Ok.is
    c.alone.ensures c.if-alone.true c.turns_away.ensures

pub returns-else-alone : goal.returns-else-alone
returns-else-alone c = c.if-alone.false ∙ leaves-accompanied c.args.work.now c.args.sat c.args.dissat c.args.settled (take c.args.n c.args.entries.now) c.in-Ok.is
    c.alone.ensures c.if-alone.false

pub returns-in-Err-PassedOver : goal.returns-in-Err-PassedOver
returns-in-Err-PassedOver c = leaves-passed c.args.work.now c.args.sat c.args.dissat c.args.settled (take c.args.n c.args.entries.now) (rw c.in-Err-PassedOver.is at c.in-Err-PassedOver.field-0-is) c.in-Err-PassedOver.is

pub returns-in-Err-Missing : goal.returns-in-Err-Missing
returns-in-Err-Missing c = leaves-missing c.args.work.now c.args.sat c.args.dissat c.args.settled (take c.args.n c.args.entries.now) (rw c.in-Err-Missing.is at c.in-Err-Missing.field-0-is) c.in-Err-Missing.is
