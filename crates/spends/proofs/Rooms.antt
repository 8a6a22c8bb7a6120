-- The reports of a replay lie in the room that was lent for them. Assumes nothing.
use Prim.Native.Nat.{ℕ, ◌*◌, ◌≤◌}
use mathlib.Core.List.{List, [], ◌∷◌}
use mathlib.Core.Path.{◌≡◌, sym, ap}
use native.Mathlib.Omega.{arith}
use lib.ListN.{length, drop, replicate, length-append, length-replicate}
use Rattle.words.specs.Bytes.{bytes_of}
use Rattle.words.proofs.Bytes.{length-bytes}
use Rattle.trees.specs.Reading.{Answer, refused, done}
use Rattle.spend_machine.specs.Verdicts.{verdict_number}
use Rattle.spend_log.specs.Written.{several_bytes}
use Rattle.spend_replay.specs.Replay.{Report, report_bytes, replay_of, reports_after, entries_replayed, ReplayPromise}

-- a room of zeros has its length
pub zeros-length : (n : ℕ) → n ≡ length {A = ℕ} (replicate n 0)
zeros-length n = sym (length-replicate n 0)

reports-length : (rs : List Report) → length (several_bytes report_bytes rs) ≡ 8 * length rs
unfolding several_bytes
reports-length [] = omega arith
reports-length (r ∷ rs) =
    let number = bytes_of 4 r.0 in
    let verdict = bytes_of 4 (verdict_number r.1) in
    omega (
      arith,
      length-append (report_bytes r) (several_bytes report_bytes rs),
      length-append number verdict,
      length-bytes 4 r.0,
      length-bytes 4 (verdict_number r.1),
      reports-length rs,
    )

by_answer : (a : Answer (List Report)) (out left : List ℕ) (entries : ℕ) → left ≡ reports_after a out → entries ≡ entries_replayed a
    → 8 * entries ≤ length left
by_answer (done rs) out left entries writes counts =
    omega (arith, ap length writes, length-append (several_bytes report_bytes rs) (drop (8 * length rs) out), reports-length rs, counts)
by_answer (refused n) out left entries writes counts = omega arith

-- the reports that the replay says it wrote lie in the room
pub reports-within : (log out work : List ℕ) {number : ℕ} {left : List ℕ} {entries : ℕ} {after : List ℕ}
    → ReplayPromise log out work number left entries after → 8 * entries ≤ length left
reports-within log out work {left = left} {entries = entries} promise =
    by_answer (replay_of log out work) out left entries promise.writes promise.counts
