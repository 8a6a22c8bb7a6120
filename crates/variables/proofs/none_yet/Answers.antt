use mathlib.Core.Path.{refl}
use native.Mathlib.Omega.{arith}
use Rattle.variables.proofs.Rows.{gathered_none}
use Rattle.variables.proofs.none_yet.Goals as goal

pub returns : goal.returns
returns c = record {
  gathered = gathered_none refl refl;
  roomy = record { few = omega arith; long = refl };
}
