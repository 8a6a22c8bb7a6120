-- How much of its room a script fills. Assumes nothing.
use mathlib.Core.List.{List}
use mathlib.Core.Path.{◌≡◌, ap}
use Prim.Native.Nat.{ℕ, ◌≤◌}
use native.Mathlib.Omega.{arith}
use lib.ListN.{length, drop, length-append}
use Rattle.trees.specs.Reading.{Answer, refused, done}
use Rattle.script_bytes.specs.Tables.{Tables}
use Rattle.script_bytes.specs.ScriptOf.{script_of, output_after, bytes_written, ScriptPromise}

by_answer : (a : Answer (List ℕ)) (out left : List ℕ) (bytes : ℕ) → left ≡ output_after a out → bytes ≡ bytes_written a → bytes ≤ length left
by_answer (done script) out left bytes writes counts = omega (arith, ap length writes, length-append script (drop (length script) out))
by_answer (refused n) out left bytes writes counts = omega arith

-- the bytes that the entry says it wrote lie in the output
pub script-within : (context : ℕ) (tree : List ℕ) (t : Tables) (out work : List ℕ) {number : ℕ} {left : List ℕ} {bytes : ℕ} {after : List ℕ}
    → ScriptPromise context tree t out work number left bytes after → bytes ≤ length left
script-within context tree t out work {left = left} {bytes = bytes} promise =
    by_answer (script_of context tree t out work) out left bytes promise.writes promise.counts
