use mathlib.Core.Path.{refl}
use Rattle.variables.proofs.OwnCodes.{keys-begin, keys-more}
use Rattle.variables.proofs.keys_of.Goals as goal

pub loop-j-init : goal.loop-j-init
loop-j-init c = keys-begin c.args.bytes.now c.args.n _ refl

pub loop-j-preserved : goal.loop-j-preserved
loop-j-preserved c = keys-more c.loop-j.invariant c.requires c.loop-j-test.true c.key_at-number.ensures
