-- A walk over the records of a tree: `at` is where record i begins. Assumes nothing.
use Prim.Native.Nat.{ℕ, ◌+◌, ◌-◌, ◌≤◌, ◌<◌}
use mathlib.Core.List.{List}
use Rattle.std.specs.Prelude.{Some}
use mathlib.Core.Path.{◌≡◌, sym, ap, subst, ◌∙◌}
use native.Mathlib.Omega.{arith}
use lib.ListN.{length, take, drop}
use Rattle.records.specs.Numbers.{or_zero}
use Rattle.records.specs.RecordForm.{record_length, fragment_payload}
use Rattle.records.proofs.Laws.{length-bounds, whole_room}
use Rattle.trees.specs.Fragment.{Fragment}
use Rattle.walk.specs.TreeRecords.{length_from, start_of, record_at, TreeRecord, TreeRecords}
use Rattle.walk.proofs.Laws.{start_first, start-next, bytes-at, not_last, all_read, same_count}

pub record On (tree : List ℕ) (at i : ℕ) : Type 0 where
  pub here : at ≡ start_of tree i
  pub within : (f : Fragment) (r : TreeRecords tree f) → i ≤ r.count

pub begins : (tree : List ℕ) → On tree 0 0
begins tree = record { here = sym (start_first tree); within = λ f r. omega arith }

module _ {tree : List ℕ} {at i : ℕ} (on : On tree at i) {f : Fragment} (r : TreeRecords tree f) where
  pub some_left : at < length tree → i < r.count
  some_left h = not_last r i on.here (on.within f r) h

  pub all-walked : length tree ≤ at → i ≡ r.count
  all-walked h = all_read r i on.here (on.within f r) h

  module _ (h : at < length tree) {end : ℕ} (e : end ≡ at + length_from tree at) where
    pub its-row : TreeRecord tree i
    its-row = r.row i (some_left h)

    whole : record_length (drop at tree) ≡ Some its-row.len
    whole = subst (λ (x : ℕ). record_length (drop x tree) ≡ Some its-row.len) (sym on.here) its-row.whole

    end_is : end ≡ at + its-row.len
    end_is = e ∙ ap (λ (n : ℕ). at + n) (ap or_zero whole)

    pub ends-inside : end ≤ length tree
    ends-inside = omega (arith, end_is, whole_room tree at whole)

    pub ends-later : at < end
    ends-later = omega (arith, end_is, length-bounds (drop at tree) whole)

    pub its-bytes : take (end - at) (drop at tree) ≡ record_at tree i
    its-bytes = ap (λ (n : ℕ). take (n - at) (drop at tree)) end_is ∙ bytes-at tree i on.here whole

    pub its-payload : fragment_payload (take (end - at) (drop at tree)) ≡ Some its-row.payload
    its-payload = ap fragment_payload its-bytes ∙ its-row.fits

    pub next : On tree end (i + 1)
    next =
        record {
          here = end_is ∙ start-next tree i on.here whole;
          within = λ g s. omega (arith, some_left h, same_count r s);
        }
