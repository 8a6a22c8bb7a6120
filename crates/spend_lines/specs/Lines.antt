-- What the program `spends` shows of a log that is replayed: a line for each report, which is its entry's number and its verdict in words, then
-- a line for each verdict with how many reports have it. Written from document 02, R-6, and docs/SPENDS.md.
use Rattle.std.specs.Prelude.{ℕ, zero, suc, ◌+◌, ◌/◌, ◌%◌, ◌≤◌, cond, List, [], ◌∷◌, ◌++◌, ◌≡◌, eqb, ltb, length, drop}
use Prim.Native.String.{String}
use Rattle.names.specs.Text.{bytes}
use Rattle.spend_tally.specs.Tallies.{number_in, verdict_in}
use Rattle.spend_tally.specs.declared.Tally.{Tally}

-- the end of a line
abbrev pub newline : List ℕ
newline = 10 ∷ []

-- the decimal digits of a number, of which there are at most so many
unfoldable pub digits_in : (most : ℕ) → ℕ → List ℕ
digits_in zero n = []
digits_in (suc most) n = cond (ltb n 10) ((48 + n) ∷ []) (digits_in most (n / 10) ++ ((48 + n % 10) ∷ []))

-- a number of 64 bits in decimal
abbrev pub decimal : ℕ → List ℕ
decimal n = digits_in 20 n

-- a verdict in words
abbrev pub verdict_words : (verdict : ℕ) → List ℕ
verdict_words v = cond (eqb v 0) (bytes "agrees") (cond (eqb v 1) (bytes "differs") (cond (eqb v 2) (bytes "mismatched") (bytes "too large")))

-- the line of an entry
abbrev pub line_of : (number verdict : ℕ) → List ℕ
line_of number verdict = decimal number ++ (bytes " " ++ verdict_words verdict ++ newline)

-- the lines of so many reports, from one on
unfoldable pub lines_of : (reports : List ℕ) → (from count : ℕ) → List ℕ
lines_of reports from zero = []
lines_of reports from (suc count) = line_of (number_in reports from) (verdict_in reports from) ++ lines_of reports (suc from) count

-- a word and a number as a line
abbrev pub count_line : String → ℕ → List ℕ
count_line word n = bytes word ++ bytes " " ++ decimal n ++ newline

-- the four counts, a line each
abbrev pub counts_of : Tally → List ℕ
counts_of t =
    count_line "agree" t.agree
    ++ count_line "differ" t.differ
    ++ count_line "mismatched" t.mismatched
    ++ count_line "too large" t.too_large

-- A text stands at the front of what there was, all of it, and n is where it ends.
pub record Shows (before after text : List ℕ) (n : ℕ) : Type 0 where
  pub is : after ≡ text ++ drop (length text) before
  pub ends : n ≡ length text
  pub fits : n ≤ length before
