-- `index_sizes::number_size` meets its contract. Assumes nothing.
use Rattle.index_sizes.proofs.LeafSizes.{short-number, wide-number}
use native.Mathlib.Omega.{arith}
use Rattle.index_sizes.proofs.number_size.Goals as goal

pub returns-then-n-le16 : goal.returns-then-n-le16
returns-then-n-le16 c = (short-number _ c.if-n-le16.true, omega arith)

pub returns : goal.returns
returns c = (wide-number _ _ c.width_of.ensures, omega (arith, c.width_of.type_inv))
