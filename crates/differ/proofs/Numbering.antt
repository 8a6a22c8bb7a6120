-- The numbered tree of bytes is made up of their records, and without its numbers it is the tree that they write. Assumes nothing.
use Prim.Native.Nat.{ℕ, zero, suc, ◌+◌, ◌-◌, ◌≤◌, ◌<◌}
use mathlib.Core.Bool.{Bool, true, false}
use mathlib.Core.List.{List, [], ◌∷◌, ◌++◌, map}
use Rattle.std.specs.Prelude.{Option}
use mathlib.Core.Path.{◌≡◌, refl, sym, ap, subst, ◌∙◌}
use native.Mathlib.Omega.{arith}
use borrow.Author.Tests.{ltb-true, ltb-false}
use lib.Dec.{ltb}
use lib.ListN.{length, get_or, take, drop, length-append, length-drop, get_or-append}
use lib.Seq.{drop-drop, get_or_at}
use Rattle.records.specs.Numbers.{or_zero}
use Rattle.records.specs.Payloads.{Payload, children_of}
use Rattle.records.specs.RecordForm.{record_length, fragment_payload}
use Rattle.trees.specs.Fragment.{Fragment}
use Rattle.trees.specs.Reading.{max_records}
use Rattle.walk.specs.TreeRecords.{start_of, record_at, fragment_at, TreeRecord, TreeRecords}
use Rattle.walk.specs.Heads.{children_in, head_in}
use Rattle.walk.proofs.Laws.{written, not_last, all_read, start_first}
use Rattle.walk.proofs.HeadLaws.{head_at}
use Rattle.walk.proofs.FoldLaws.{by-records, children-at}
use Rattle.differ.specs.Numbered.{Numbered, node, nobody, those, children_if, numbered_from, numbered, Numbers, NumbersAll}
use Rattle.differ.specs.Records.{numbered_of, numbered_at, list_at}
use Rattle.differ.specs.Laws.{NumbersTheTree}

module _ (tree : List ℕ) where
  length-numbered : (n : ℕ) → length (numbered_of tree n) ≡ n
  unfolding numbered_of
  length-numbered zero = refl
  length-numbered (suc n) = rw (length-append (numbered_of tree n) (_ ∷ [])) (omega (arith, length-numbered n))

  -- a record stays the same when more are read
  kept : (n j : ℕ) → j < n → get_or (numbered_of tree n) j nobody ≡ numbered_at tree j
  unfolding numbered_of numbered_at
  kept zero j h = absurd (omega arith)
  kept (suc n) j h = by-test (ltb j n) refl (λ l. kept n j l)
    where
      by-test : (t : Bool) → ltb j n ≡ t → (j < n → get_or (numbered_of tree n) j nobody ≡ numbered_at tree j)
          → get_or (numbered_of tree (suc n)) j nobody ≡ numbered_at tree j
      by-test true e rec =
          let l = ltb-true j n e in
          get_or-append (numbered_of tree n) (_ ∷ []) nobody j (rw (length-numbered n) l) ∙ rec l
      by-test false e rec =
          let same : j ≡ n = omega (arith, ltb-false j n e) in
          ap (λ (n : ℕ). get_or (numbered_of tree (suc n)) j nobody) (sym same)

  those-kept : (n : ℕ) (js : List ℕ) → ((k : ℕ) → k < length js → get_or js k 0 < n) → those (numbered_of tree n) js ≡ list_at tree js
  unfolding those list_at
  those-kept n [] h = refl
  those-kept n (j ∷ js) h = rw (kept n j (h 0 (omega arith)), those-kept n js (λ k l. h (suc k) (omega arith)))

  -- a record is its number, its head and its children
  pub numbered-at : {i : ℕ} (row : TreeRecord tree i) → numbered_at tree i ≡ node i (head_in (record_at tree i)) (list_at tree (children_of row.payload))
  unfolding numbered_of numbered_at
  numbered-at {i} row =
      let r = record_at tree i in
      get_or_at (numbered_of tree i) _ [] nobody i (length-numbered i)
      ∙ ap (λ (n : ℕ). node n (head_in r) (those (numbered_of tree i) (children_if (fragment_payload r)))) (length-numbered i)
      ∙ ap (λ (o : Option Payload). node i (head_in r) (those (numbered_of tree i) (children_if o))) row.fits
      ∙ ap (node i (head_in r)) (those-kept i (children_of row.payload) row.before)

module _ {tree : List ℕ} {f : Fragment} (r : TreeRecords tree f) where
  -- ---- reading all records

  reading : (more n : ℕ) (bytes : List ℕ) → bytes ≡ drop (start_of tree n) tree → n ≤ r.count → r.count ≤ more + n
      → numbered_from more (numbered_of tree n) bytes ≡ numbered_of tree r.count
  unfolding numbered_from numbered_of start_of record_at
  reading zero n bytes e l h =
      let same : n ≡ r.count = omega arith in
      ap (numbered_of tree) same
  reading (suc more) n [] e l h =
      ap (numbered_of tree) (all_read r n refl l (omega (arith, length-drop (start_of tree n) tree, ap length e)))
  reading (suc more) n (b ∷ bs) e l h =
      let left = not_last r n refl l (omega (arith, length-drop (start_of tree n) tree, ap length e)) in
      let here : take (or_zero (record_length (b ∷ bs))) (b ∷ bs) ≡ record_at tree n = ap (λ (y : List ℕ). take (or_zero (record_length y)) y) e in
      let rest : drop (or_zero (record_length (b ∷ bs))) (b ∷ bs) ≡ drop (start_of tree (suc n)) tree =
      ap (λ (y : List ℕ). drop (or_zero (record_length y)) y) e ∙ drop-drop (or_zero (record_length (drop (start_of tree n) tree))) (start_of tree n) tree in
      ap (λ (y : List ℕ). numbered_from more (numbered_of tree n ++ (node (length (numbered_of tree n)) (head_in y)
      (those (numbered_of tree n) (children_if (fragment_payload y))) ∷ [])) (drop (or_zero (record_length (b ∷ bs))) (b ∷ bs))) here
      ∙ reading more (suc n) (drop (or_zero (record_length (b ∷ bs))) (b ∷ bs)) rest (omega (arith, left)) (omega arith)

  -- the tree of the bytes is their last record
  pub numbered_is : numbered tree ≡ numbered_at tree (r.count - 1)
  unfolding numbered numbered_of
  numbered_is =
      let all : numbered_from max_records [] tree ≡ numbered_of tree r.count = from_first in
      ap (λ (l : List Numbered). get_or l (length l - 1) nobody) all
      ∙ ap (λ (n : ℕ). get_or (numbered_of tree r.count) (n - 1) nobody) (length-numbered tree r.count)
      ∙ kept tree r.count (r.count - 1) (omega (arith, r.any))
    where
      from_first : numbered_from max_records [] tree ≡ numbered_of tree r.count
      from_first = reading max_records 0 tree (ap (λ (n : ℕ). drop n tree) (sym (start_first tree))) (omega arith) (omega (arith, r.few))

  -- ---- without its numbers

  numbers-all : (js : List ℕ) → ((k : ℕ) → k < length js → Numbers (numbered_at tree (get_or js k 0)) (fragment_at tree (get_or js k 0)))
      → NumbersAll (list_at tree js) (map (fragment_at tree) js)
  unfolding NumbersAll list_at
  numbers-all [] h = tt
  numbers-all (j ∷ js) h = (h 0 (omega arith), numbers-all js (λ k l. h (suc k) (omega arith)))

  numbers-node : (i : ℕ) (h : i < r.count)
      → ((j : ℕ) → j < length (children_of (r.row i h).payload)
      → Numbers (numbered_at tree (get_or (children_of (r.row i h).payload) j 0)) (fragment_at tree (get_or (children_of (r.row i h).payload) j 0)))
      → Numbers (numbered_at tree i) (fragment_at tree i)
  unfolding Numbers
  numbers-node i h below =
      let row = r.row i h in
      let all : NumbersAll (list_at tree (children_of row.payload)) (children_in (fragment_at tree i)) =
      subst (λ (xs : List Fragment). NumbersAll (list_at tree (children_of row.payload)) xs) (sym (children-at row))
      (numbers-all (children_of row.payload) below) in
      subst (λ (x : Numbered). Numbers x (fragment_at tree i)) (sym (numbered-at tree row)) (sym (head_at row), all)

  pub numbers-at : (i : ℕ) → i < r.count → Numbers (numbered_at tree i) (fragment_at tree i)
  numbers-at i h = by-records r (λ (i : ℕ). Numbers (numbered_at tree i) (fragment_at tree i)) numbers-node i h

  pub numbers-root : Numbers (numbered tree) f
  numbers-root =
      subst (λ (x : Numbered). Numbers x f) (sym numbered_is)
      (subst (λ (g : Fragment). Numbers (numbered_at tree (r.count - 1)) g) r.root (numbers-at (r.count - 1) (omega (arith, r.any))))

pub numbers-the-tree : NumbersTheTree
numbers-the-tree bytes f e = numbers-root (written bytes f e)
