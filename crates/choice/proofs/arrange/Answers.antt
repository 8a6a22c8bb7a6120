-- `choice::arrange` meets its contract: two stores into a copy of the row of Ws. Assumes nothing.
use Rattle.std.proofs.Common.{rules}
use mathlib.Core.Path.{refl}
use Rattle.choice.proofs.Arranging.{arranges}
use Rattle.choice.proofs.arrange.Goals as goal

pub returns : goal.returns
returns c = arranges c.args.es c.args.ws c.args.n c.args.gaining (search rules) (search rules) c.requires.0 c.requires.1 refl
