-- How much of its room an index fills. Assumes nothing.
use Prim.Native.Nat.{ℕ, ◌≤◌}
use mathlib.Core.List.{List}
use native.Mathlib.Omega.{arith}
use lib.ListN.{length, drop, length-append}
use Rattle.trees.specs.Reading.{Answer}
use Rattle.trees.specs.TreeCheck.{Typed}
use Rattle.index_entry.specs.Index.{Indexed, refuses, fits, too_small, IndexPromise}

by_answer : {context : ℕ} {tree out : List ℕ} {a : Answer Typed} {number : ℕ} {left : List ℕ} {bytes : ℕ}
    → Indexed context tree out a number left bytes → bytes ≤ length left
by_answer (refuses n) = omega arith
by_answer {out = out} (fits {index = index} in-context rows its room) = omega (arith, length-append index (drop (length index) out))
by_answer (too_small rows room) = omega arith

-- the bytes that the entry says it wrote lie in the output
pub index-within : {context : ℕ} {tree out work : List ℕ} {number : ℕ} {left : List ℕ} {bytes : ℕ} {after : List ℕ}
    → IndexPromise context tree out work number left bytes after → bytes ≤ length left
index-within promise = by_answer promise.gives
