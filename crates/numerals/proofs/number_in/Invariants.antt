-- `numerals::number_in` meets its contract: the number grows digit by digit. Assumes nothing.
use Prim.Native.Nat.{◌-◌}
use lib.ListN.{length}
use Rattle.numerals.proofs.Digits.{Read}
use Rattle.numerals.proofs.number_in.Given as goal

abbrev pub invariant-loop-b : goal.invariant-loop-b
invariant-loop-b l = Read l.base l.word l.n l.b-index
