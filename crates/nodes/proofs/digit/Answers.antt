-- `nodes::digit` meets its contract: a power of 65,536 for each place. Assumes nothing.
use mathlib.Core.Path.{◌≡◌, refl}
use Rattle.nodes.proofs.Stored.{at-place-0, at_place, last}
use Rattle.nodes.proofs.digit.Goals as goal

pub returns-in-0 : goal.returns-in-0
returns-in-0 c = at-place-0 c.args.w c.args.place c.in-0.is

pub returns-in-1 : goal.returns-in-1
returns-in-1 c = at_place c.args.w c.args.place 1 c.in-1.is refl

pub returns-in-2 : goal.returns-in-2
returns-in-2 c = at_place c.args.w c.args.place 2 c.in-2.is refl

pub returns-in_default : goal.returns-in_default
returns-in_default c = let place : c.args.place ≡ 3 =
    last c.args.place c.requires c.in_default.in_default-own.rest.0.0.1 c.in_default.in_default-own.rest.0.1 c.in_default.in_default-own.rest.1 in
    at_place c.args.w c.args.place 3 place refl
