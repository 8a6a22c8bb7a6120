-- `counterexample::bit_of` meets its contract: each turn halves the word. Assumes nothing.
use Prim.Native.Nat.{◌/◌, ◌^◌}
use mathlib.Core.Path.{◌≡◌}
use Rattle.counterexample.proofs.bit_of.Given as goal

abbrev pub invariant-loop-i : goal.invariant-loop-i
invariant-loop-i l = l.x ≡ l.word / 2 ^ l.i
