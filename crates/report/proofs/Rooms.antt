-- A record lies in its tree. Assumes nothing.
use Rattle.std.proofs.Common.{◌≡◌, ℕ, zero, suc, ◌+◌, ◌≤◌, List, length, drop, refl, ap, ◌∙◌, arith}
use Rattle.std.specs.Prelude.{Option, None, Some}
use Rattle.walk.specs.TreeRecords.{length_from, start_of}
use Rattle.records.specs.RecordForm.{record_length}
use Rattle.records.proofs.Laws.{whole_room}

-- ---- records by their numbers

pub first-start : (tree : List ℕ) → 0 ≡ start_of tree 0
unfolding start_of
first-start tree = refl

pub next_start : (tree : List ℕ) (n : ℕ) {at end : ℕ} → at ≡ start_of tree n → end ≡ at + length_from tree at → end ≡ start_of tree (n + 1)
unfolding start_of
next_start tree n begins ends =
    let one : suc n ≡ n + 1 = omega arith in
    ends ∙ ap (λ (a : ℕ). a + length_from tree a) begins ∙ ap (start_of tree) one

-- what begins in the tree ends in it
end-within : (tree : List ℕ) (at : ℕ) → at ≤ length tree → at + length_from tree at ≤ length tree
end-within tree at within = by_length (record_length (drop at tree)) refl
  where
    by_length : (o : Option ℕ) → record_length (drop at tree) ≡ o → at + length_from tree at ≤ length tree
    by_length (Some n) e =
        let is-n : length_from tree at ≡ n = rw e in
        omega (arith, is-n, whole_room tree at e)
    by_length None e =
        let is-0 : length_from tree at ≡ 0 = rw e in
        omega (arith, is-0, within)

start-within : (tree : List ℕ) (i : ℕ) → start_of tree i ≤ length tree
unfolding start_of
start-within tree zero = omega arith
start-within tree (suc i) = end-within tree (start_of tree i) (start-within tree i)

-- record i begins and ends in the tree
pub at-within : (tree : List ℕ) (i : ℕ) {start end : ℕ} → start ≡ start_of tree i → end ≡ start + length_from tree start
    → (start ≤ end) × (end ≤ length tree)
at-within tree i {start} begins ends =
    let within : start ≤ length tree = omega (arith, begins, start-within tree i) in
    (omega (arith, ends), omega (arith, ends, end-within tree start within))
