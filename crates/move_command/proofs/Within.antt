-- How much of its room a policy that was moved fills. Assumes nothing.
use Prim.Native.Nat.{ℕ, ◌≤◌}
use mathlib.Core.List.{List}
use mathlib.Core.Path.{◌≡◌, ap}
use native.Mathlib.Omega.{arith}
use lib.ListN.{length, drop, length-append}
use Rattle.policies.specs.Reading.{Answer, refused, done}
use Rattle.moving.specs.declared.Form.{Form}
use Rattle.moving.specs.Moving.{move}
use Rattle.moving.specs.Answers.{bytes_of, output_after}
use Rattle.movers.specs.Promises.{MovePromise}

by_answer : (a : Answer (List ℕ)) (out left : List ℕ) (bytes : ℕ) → left ≡ output_after a out → bytes ≡ bytes_of a → bytes ≤ length left
by_answer (done to) out left bytes writes counts = omega (arith, ap length writes, length-append to (drop (length to) out))
by_answer (refused n) out left bytes writes counts = omega arith

-- the bytes that the entry says it wrote lie in the output
pub moved-within : {form : Form} {policy out : List ℕ} {number : ℕ} {left : List ℕ} {bytes : ℕ}
    → MovePromise form policy out number left bytes → bytes ≤ length left
moved-within {form} {policy} {out} {left = left} {bytes = bytes} promise =
    by_answer (move form policy (length out)) out left bytes promise.writes promise.counts
