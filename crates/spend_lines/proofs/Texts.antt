-- The texts of verdicts, lines and counts, and how long they are at most. Assumes nothing.
use Prim.Native.Nat.{ℕ, zero, suc, ◌+◌, ◌-◌, ◌*◌, ◌≤◌, ◌<◌}
use mathlib.Core.Bool.{Bool, true, false, cond}
use mathlib.Core.List.{List, [], ◌++◌}
use mathlib.Core.Path.{◌≡◌, sym, ap, ap₂, ◌∙◌}
use native.Mathlib.Omega.{arith}
use borrow.Author.Tests.{ne_eqb}
use lib.Dec.{eqb}
use lib.ListN.{length, length-append}
use Rattle.names.specs.Text.{bytes}
use Rattle.script_leaves.specs.Laying.{Lays}
use Rattle.script_leaves.proofs.Laws.{written}
use Rattle.spend_tally.specs.Tallies.{number_in, verdict_in}
use Rattle.spend_tally.specs.declared.Tally.{Tally}
use Rattle.spend_lines.specs.Lines.{newline, decimal, verdict_words, line_of, lines_of, count_line, counts_of, Shows}
use Rattle.spend_lines.proofs.Digits.{digits-short}

-- ---- a verdict

-- a space, words and the end of the line
abbrev pub ended : List ℕ → List ℕ
ended words = bytes " " ++ words ++ newline

pub agrees-text : (v : ℕ) → v ≡ 0 → ended (bytes "agrees") ≡ ended (verdict_words v)
agrees-text v e = rw e

pub differs-text : (v : ℕ) → v ≡ 1 → ended (bytes "differs") ≡ ended (verdict_words v)
differs-text v e = rw e

pub mismatched-text : (v : ℕ) → v ≡ 2 → ended (bytes "mismatched") ≡ ended (verdict_words v)
mismatched-text v e = rw e

pub too-large-text : (v : ℕ) → (v ≡ 0 → ⊥) → (v ≡ 1 → ⊥) → (v ≡ 2 → ⊥) → ended (bytes "too large") ≡ ended (verdict_words v)
too-large-text v a b c = rw (ne_eqb v 0 a, ne_eqb v 1 b, ne_eqb v 2 c)

verdict-short : (v : ℕ) → length (ended (verdict_words v)) ≤ 12
verdict-short v = go (eqb v 0) (eqb v 1) (eqb v 2)
  where
    go : (x y z : Bool)
        → length (ended (cond x (bytes "agrees") (cond y (bytes "differs") (cond z (bytes "mismatched") (bytes "too large"))))) ≤ 12
    go true y z = omega arith
    go false true z = omega arith
    go false false true = omega arith
    go false false false = omega arith

-- ---- lines

pub line-next : (reports : List ℕ) (from count i n v : ℕ) → i < count → n ≡ number_in reports (from + i) → v ≡ verdict_in reports (from + i)
    → lines_of reports (from + i) (count - i) ≡ line_of n v ++ lines_of reports (from + (i + 1)) (count - (i + 1))
unfolding lines_of
line-next reports from count i n v h a b =
    let left : count - i ≡ suc (count - (i + 1)) = omega arith in
    let next : suc (from + i) ≡ from + (i + 1) = omega arith in
    ap (lines_of reports (from + i)) left
    ∙ ap₂ (λ (x y : ℕ). line_of x y ++ lines_of reports (suc (from + i)) (count - (i + 1))) (sym a) (sym b)
    ∙ ap (λ (x : ℕ). line_of n v ++ lines_of reports x (count - (i + 1))) next

pub line_first : (reports : List ℕ) (from count : ℕ) → lines_of reports (from + 0) (count - 0) ≡ lines_of reports from count
line_first reports from count =
    let a : from + 0 ≡ from = omega arith in
    let b : count - 0 ≡ count = omega arith in
    rw (a, b)

pub line-none : (reports : List ℕ) (from count i : ℕ) → count ≤ i → lines_of reports from (count - i) ≡ []
unfolding lines_of
line-none reports from count i h =
    let none : count - i ≡ 0 = omega arith in
    ap (lines_of reports from) none

line-short : (n v : ℕ) → length (line_of n v) ≤ 32
line-short n v = omega (arith, length-append (decimal n) (ended (verdict_words v)), digits-short 20 n, verdict-short v)

pub lines-short : (reports : List ℕ) (from count : ℕ) → length (lines_of reports from count) ≤ 32 * count
unfolding lines_of
lines-short reports from zero = omega arith
lines-short reports from (suc count) =
    let n = number_in reports from in
    let v = verdict_in reports from in
    omega (arith, length-append (line_of n v) (lines_of reports (suc from) count), line-short n v, lines-short reports (suc from) count)

-- ---- counts

count-short : (word : List ℕ) (n : ℕ) → length word ≤ 11 → length (word ++ decimal n ++ newline) ≤ 32
count-short word n h =
    omega (arith, h, length-append (word ++ decimal n) newline, length-append word (decimal n), digits-short 20 n)

pub counts-short : (t : Tally) → length (counts_of t) ≤ 128
counts-short t =
    let a = count_line "agree" t.agree in
    let d = count_line "differ" t.differ in
    let m = count_line "mismatched" t.mismatched in
    let l = count_line "too large" t.too_large in
    omega (
      arith,
      length-append (a ++ d ++ m) l,
      length-append (a ++ d) m,
      length-append a d,
      count-short (bytes "agree ") t.agree (omega arith),
      count-short (bytes "differ ") t.differ (omega arith),
      count-short (bytes "mismatched ") t.mismatched (omega arith),
      count-short (bytes "too large ") t.too_large (omega arith),
    )

-- ---- a text that is laid where there is room

pub shown : {before after text : List ℕ} {n : ℕ} → Lays before after 0 text n → length text ≤ length before → Shows before after text n
shown l h = record { is = written l h; ends = omega (arith, l.ends, l.short, h); fits = omega (arith, l.ends, l.short, h) }
