-- Lines block by block are the lines of all. Assumes nothing.
use Prim.Native.Nat.{ℕ, zero, suc, ◌+◌}
use mathlib.Core.List.{List, ◌++◌, append_assoc}
use mathlib.Core.Path.{◌≡◌, sym, ap, ◌∙◌}
use native.Mathlib.Omega.{arith}
use Rattle.spend_tally.specs.Tallies.{number_in, verdict_in}
use Rattle.spend_lines.specs.Lines.{line_of, lines_of}
use Rattle.spend_lines.specs.Laws.{InBlocks}

pub in_blocks : InBlocks
unfolding lines_of
in_blocks reports from zero b =
    let none : 0 + b ≡ b = omega arith in
    let here : from + 0 ≡ from = omega arith in
    rw (none, here)
in_blocks reports from (suc a) b =
    let first = line_of (number_in reports from) (verdict_in reports from) in
    let more : suc a + b ≡ suc (a + b) = omega arith in
    let place : suc from + a ≡ from + suc a = omega arith in
    ap (lines_of reports from) more
    ∙ ap (λ (t : List ℕ). first ++ t) (in_blocks reports (suc from) a b ∙ ap (λ (x : ℕ). lines_of reports (suc from) a ++ lines_of reports x b) place)
    ∙ sym (append_assoc first (lines_of reports (suc from) a) (lines_of reports (from + suc a) b))
