-- Reports written one after the other. Assumes nothing.
use Prim.Native.Nat.{ℕ, suc, ◌+◌, ◌*◌, ◌≤◌}
use mathlib.Core.List.{List, [], ◌∷◌, ◌++◌}
use mathlib.Core.Path.{◌≡◌, refl, sym, ap, ◌∙◌}
use native.Mathlib.Omega.{arith}
use borrow.Author.Tests.{le-leb}
use lib.ListN.{length, set, drop, length-append}
use lib.Seq.{sets, length-sets, sets-eq}
use Rattle.words.specs.Bytes.{bytes_of, put_le}
use Rattle.words.proofs.Bytes.{length-put}
use Rattle.script_machine.specs.Numbers.{Bytes}
use Rattle.spend_machine.specs.Verdicts.{verdict_number}
use Rattle.spend_log.specs.Written.{several_bytes}
use Rattle.spend_replay.specs.Replay.{Report, report_bytes}
use Rattle.spend_entry.specs.Results.{put_numbers, put_report, put_reports}

sets-append : (us vs out : List ℕ) (p : ℕ) → sets out p (us ++ vs) ≡ sets (sets out p us) (p + length us) vs
sets-append [] vs out p =
    let e : p + 0 ≡ p = omega arith in
    ap (λ (n : ℕ). sets out n vs) (sym e)
sets-append (u ∷ us) vs out p =
    let e : suc p + length us ≡ p + suc (length us) = omega arith in
    sets-append us vs (set out p u) (suc p) ∙ ap (λ (n : ℕ). sets (sets (set out p u) (suc p) us) n vs) e

length-four : (v : ℕ) → length (bytes_of 4 v) ≡ 4
unfolding bytes_of
length-four v = refl

length-report : (r : Report) → length (report_bytes r) ≡ 8
length-report r =
    length-append (bytes_of 4 r.0) (bytes_of 4 (verdict_number r.1))
    ∙ omega (arith, length-four r.0, length-four (verdict_number r.1))

length-reports : (rs : List Report) → length (several_bytes report_bytes rs) ≡ 8 * length rs
unfolding several_bytes
length-reports [] = refl
length-reports (r ∷ rs) = length-append (report_bytes r) (several_bytes report_bytes rs) ∙ omega (arith, length-report r, length-reports rs)

put-fits : (out : List ℕ) (p v : ℕ) → p + 4 ≤ length out → put_le 4 out p v ≡ sets out p (bytes_of 4 v)
unfolding put_le
put-fits out p v h = rw (le-leb (p + 4) (length out) h)

-- one report where it fits
put-report : (out : Bytes) (i : ℕ) (r : Report) → 8 * i + 8 ≤ length out → put_report out i r ≡ sets out (8 * i) (report_bytes r)
put-report out i r h =
    let one : put_le 4 out (8 * i) r.0 ≡ sets out (8 * i) (bytes_of 4 r.0) = put-fits out (8 * i) r.0 (omega arith) in
    let long : length (sets out (8 * i) (bytes_of 4 r.0)) ≡ length out = length-sets out (8 * i) (bytes_of 4 r.0) in
    ap (λ (m : Bytes). put_le 4 m (8 * i + 4) (verdict_number r.1)) one
    ∙ put-fits (sets out (8 * i) (bytes_of 4 r.0)) (8 * i + 4) (verdict_number r.1) (omega (arith, long))
    ∙ ap (λ (n : ℕ). sets (sets out (8 * i) (bytes_of 4 r.0)) (8 * i + n) (bytes_of 4 (verdict_number r.1))) (sym (length-four r.0))
    ∙ sym (sets-append (bytes_of 4 r.0) (bytes_of 4 (verdict_number r.1)) out (8 * i))

-- reports that fit
put_all : (rs : List Report) (out : Bytes) (i : ℕ) → 8 * (i + length rs) ≤ length out → put_reports out i rs ≡ sets out (8 * i) (several_bytes report_bytes rs)
unfolding put_reports several_bytes
put_all [] out i h = refl
put_all (r ∷ rs) out i h =
    let one = put-report out i r (omega arith) in
    let long : length (sets out (8 * i) (report_bytes r)) ≡ length out = length-sets out (8 * i) (report_bytes r) in
    let e : 8 * suc i ≡ 8 * i + length (report_bytes r) = omega (arith, length-report r) in
    ap (λ (m : Bytes). put_reports m (suc i) rs) one
    ∙ put_all rs (sets out (8 * i) (report_bytes r)) (suc i) (omega (arith, long))
    ∙ ap (λ (n : ℕ). sets (sets out (8 * i) (report_bytes r)) n (several_bytes report_bytes rs)) e
    ∙ sym (sets-append (report_bytes r) (several_bytes report_bytes rs) out (8 * i))

pub all-put : (rs : List Report) (out : Bytes) → 8 * length rs ≤ length out
    → put_reports out 0 rs ≡ several_bytes report_bytes rs ++ drop (8 * length rs) out
all-put rs out h =
    let long : 0 + length (several_bytes report_bytes rs) ≡ 8 * length rs = omega (arith, length-reports rs) in
    put_all rs out 0 (omega (arith, h)) ∙ sets-eq (several_bytes report_bytes rs) out 0 (omega (arith, length-reports rs))
    ∙ ap (λ (n : ℕ). several_bytes report_bytes rs ++ drop n out) long

-- a report leaves the length as it was
pub length-numbers : (out : Bytes) (i number verdict : ℕ) → length (put_numbers out i number verdict) ≡ length out
length-numbers out i number verdict =
    length-put 4 (put_le 4 out (8 * i) number) (8 * i + 4) verdict ∙ length-put 4 out (8 * i) number
