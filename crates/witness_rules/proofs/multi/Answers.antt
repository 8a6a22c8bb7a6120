use native.Mathlib.Omega.{arith}
use Rattle.witness_rules.proofs.Bounds.{signatures-few, just-below, below-some}
use Rattle.witness_rules.proofs.multi.Goals as goal

pub and-requires : goal.and-requires
and-requires c = (
  rw c.just.ensures (just-below 1 (omega arith)),
  rw c.some_of.ensures (below-some c.args.k c.args.n (omega (arith, signatures-few c.args.context c.requires c.signature_bytes.ensures))),
)
