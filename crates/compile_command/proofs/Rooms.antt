-- How much of its room a tree that is compiled fills. Assumes nothing.
use mathlib.Core.List.{List}
use mathlib.Core.Path.{◌≡◌, ap}
use Prim.Native.Nat.{ℕ, ◌≤◌}
use native.Mathlib.Omega.{arith}
use lib.ListN.{length, drop, length-append}
use Rattle.definition.specs.Compile.{Outcome, compiled, refused_with}
use Rattle.claspwillow.specs.Promises.{output_after, bytes_written, given, CompilePromise}

by-outcome : (o : Outcome) (out left : List ℕ) (bytes : ℕ) → left ≡ output_after o out → bytes ≡ bytes_written o → bytes ≤ length left
by-outcome (compiled bs cost nodes) out left bytes writes counts = omega (arith, ap length writes, length-append bs (drop (length bs) out))
by-outcome (refused_with n) out left bytes writes counts = omega arith

-- the bytes that compile says it wrote lie in the output
pub written-within : (context : ℕ) (policy out work : List ℕ) {number : ℕ} {left : List ℕ} {bytes cost never nodes : ℕ} {after : List ℕ}
    → CompilePromise context policy out work number left bytes cost never nodes after → bytes ≤ length left
written-within context policy out work {left = left} {bytes = bytes} promise =
    by-outcome (given context policy out work) out left bytes promise.writes promise.counts
