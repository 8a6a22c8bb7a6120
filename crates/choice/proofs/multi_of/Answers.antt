-- `choice::multi_of` meets its contract. Assumes nothing.
use Rattle.choice.proofs.Keys.{multi-of, multi-a-of}
use Rattle.choice.proofs.multi_of.Goals as goal

pub returns-in-Segwitv0 : goal.returns-in-Segwitv0
returns-in-Segwitv0 c = multi-of c.args.r c.args.k c.args.n c.requires.0 c.requires.1 c.in-Segwitv0.is c.multi.ensures

pub returns-in-Tap : goal.returns-in-Tap
returns-in-Tap c = multi-a-of c.args.r c.args.k c.args.n c.requires.0 c.requires.1 c.in-Tap.is c.multi_a.ensures
