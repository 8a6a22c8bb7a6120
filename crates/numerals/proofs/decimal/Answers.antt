-- `numerals::decimal` meets its contract: by its length, its digits and its size. Assumes nothing.
use mathlib.Core.Path.{◌≡◌, sym, ◌∙◌}
use native.Mathlib.Omega.{arith}
use Prim.Native.Nat.{ℕ}
use lib.ListN.{length}
use Rattle.std.proofs.Common.{rules}
use Rattle.numerals.proofs.Digits.{no-digits, many-digits, ten-digits-fit, decimal-fits, decimal-large, decimal-missing}
use Rattle.numerals.proofs.decimal.Goals as goal

pub returns-then-is_empty : goal.returns-then-is_empty
returns-then-is_empty c =
    let none : length c.args.word.now ≡ 0 = search rules in
    sym (no-digits c.args.word.now none)

pub returns-then-word-gt-MAX_DIGITS : goal.returns-then-word-gt-MAX_DIGITS
returns-then-word-gt-MAX_DIGITS c = sym (many-digits c.args.word.now c.if-word-gt-MAX_DIGITS.true)

pub number_in-requires : goal.number_in-requires
number_in-requires c = ten-digits-fit c.args.word.now c.if-word-gt-MAX_DIGITS.false

pub returns-in_err-n : goal.returns-in_err-n
returns-in_err-n c =
    let some : length c.args.word.now ≡ 0 → ⊥ = search rules in
    c.from_residual.ensures ∙ sym (decimal-missing c.args.word.now some c.if-word-gt-MAX_DIGITS.false (sym c.in_err-n.ensures))

pub returns-then-n-ge-TOO_LARGE : goal.returns-then-n-ge-TOO_LARGE
returns-then-n-ge-TOO_LARGE c =
    let some : length c.args.word.now ≡ 0 → ⊥ = search rules in
    sym (decimal-large c.args.word.now some c.if-word-gt-MAX_DIGITS.false _ (sym c.in_ok-n.ensures) c.if-n-ge-TOO_LARGE.true)

pub returns : goal.returns
returns c =
    let some : length c.args.word.now ≡ 0 → ⊥ = search rules in
    sym (decimal-fits c.args.word.now some c.if-word-gt-MAX_DIGITS.false _ (sym c.in_ok-n.ensures) c.if-n-ge-TOO_LARGE.false)
