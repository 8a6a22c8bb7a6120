-- The scan over the records: each turn stores a start. Assumes nothing.
use Prim.Native.Nat.{ℕ, ◌+◌, ◌≤◌, ◌<◌}
use mathlib.Core.List.{List, [], ◌∷◌, ◌++◌, append_assoc}
use mathlib.Core.Path.{◌≡◌, refl, sym, ap, ◌∙◌}
use native.Mathlib.Numerals.{add-one}
use native.Mathlib.Omega.{arith}
use lib.ListN.{length, get_or, set, drop}
use lib.Seq.{set-append_seam, drop-cons}
use Rattle.records.specs.Numbers.{or_zero}
use Rattle.records.proofs.Laws.{length-bounds}
use Rattle.trees.specs.Fragment.{Fragment}
use Rattle.walk.specs.TreeRecords.{length_from, start_of, starts_of, TreeRecord, TreeRecords}
use Rattle.walk.specs.Nodes.{Scanned}
use Rattle.walk.proofs.Laws.{start_first, not_last, all_read, length-starts}

-- so many records are scanned, and the next begins at `at`
pub record ScanOn (tree before after : List ℕ) (at count : ℕ) : Type 0 where
  pub within : (f : Fragment) (rows : TreeRecords tree f) → count ≤ rows.count
  pub here : at ≡ start_of tree count
  pub stores : after ≡ starts_of tree count ++ drop count before

pub scan_begins : (tree work : List ℕ) → ScanOn tree work work 0 0
unfolding starts_of
scan_begins tree work = record { within = λ f rows. omega arith; here = sym (start_first tree); stores = refl }

-- a place past some numbers gives way to one more
store-next : (xs rest : List ℕ) (n v : ℕ) → length xs ≡ n → n < length rest → set (xs ++ drop n rest) n v ≡ (xs ++ (v ∷ [])) ++ drop (n + 1) rest
store-next xs rest n v e h =
    let first : drop n rest ≡ get_or rest n 0 ∷ drop (n + 1) rest = rw (add-one n) (drop-cons rest n 0 h) in
    rw (first, append_assoc xs (v ∷ []) (drop (n + 1) rest), ← e) (set-append_seam xs (get_or rest (length xs) 0) (drop (length xs + 1) rest) v)

module _ {tree before after : List ℕ} {at count : ℕ} (so_far : ScanOn tree before after at count) where
  module _ {f : Fragment} (rows : TreeRecords tree f) where
    pub some_left : at < length tree → count < rows.count
    some_left h = not_last rows count so_far.here (so_far.within f rows) h

    module _ (h : at < length tree) {end : ℕ} (e : end ≡ at + length_from tree at) where
      its-row : TreeRecord tree count
      its-row = rows.row count (some_left h)

      its-length : length_from tree at ≡ its-row.len
      its-length = ap (length_from tree) so_far.here ∙ ap or_zero its-row.whole

      pub ends-later : at < end
      ends-later = omega (arith, e, its-length, length-bounds (drop (start_of tree count) tree) its-row.whole)

  pub scan-more : {end : ℕ} → ((f : Fragment) (rows : TreeRecords tree f) → count < rows.count) → count < length before
      → end ≡ at + length_from tree at → ScanOn tree before (set after count at) end (count + 1)
  unfolding start_of starts_of
  scan-more {end} left room e =
      record {
        within = λ f rows. omega (arith, left f rows);
        here = rw (add-one count) (e ∙ ap (λ (m : ℕ). m + length_from tree m) so_far.here);
        stores =
            ap (λ (m : List ℕ). set m count at) so_far.stores
            ∙ store-next (starts_of tree count) before count at (length-starts tree count) room
            ∙ rw (so_far.here, add-one count);
      }

  pub scan-ends : length tree ≤ at → Scanned tree before after count
  scan-ends h =
      record { counts = λ f rows. all_read rows count so_far.here (so_far.within f rows) h; stores = so_far.stores }
