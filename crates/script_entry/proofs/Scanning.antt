-- Looking for the entries of each record, and what that tells of the records up to the last. Assumes nothing.
use Prim.Native.Nat.{ℕ, zero, suc, ◌+◌, ◌-◌, ◌≤◌, ◌<◌}
use mathlib.Core.Bool.{Bool, true, false, ◌&&◌}
use mathlib.Core.List.{List}
use mathlib.Core.Path.{◌≡◌, refl, sym, ap, ◌∙◌}
use native.Mathlib.Numerals.{add-one}
use native.Mathlib.Omega.{arith}
use borrow.Author.Tests.{eqb-true, eqb-false}
use lib.Dec.{eqb}
use Rattle.contexts.specs.declared.Context.{Context}
use Rattle.trees.specs.Fragment.{Fragment}
use Rattle.walk.specs.TreeRecords.{TreeRecord, TreeRecords, record_at}
use Rattle.walk.specs.Nodes.{AllPlaced}
use Rattle.walk.specs.Folds.{over_records}
use Rattle.script_bytes.specs.Tables.{Tables}
use Rattle.script_bytes.specs.ScriptOf.{has_entries}
use Rattle.script_bytes.specs.Entries.{entries_below}
use Rattle.script_bytes.proofs.Entries.{entries-all, entries-each}
use Rattle.script_leaves.specs.Leaves.{leaf_of}
use Rattle.script_entry.specs.Outcomes.{Ready}
use Rattle.script_entry.proofs.Entries.{entries-leaf}

-- a record without its entries is not made good by later ones
pub still-false : (c : Context) (t : Tables) (tree : List ℕ) (i n : ℕ) → i ≤ n → entries_below c t tree i ≡ false → entries_below c t tree n ≡ false
unfolding over_records
still-false c t tree i zero h e =
    let first : i ≡ 0 = omega arith in
    rw first at e
still-false c t tree i (suc n) h e = by-place (eqb i (suc n)) refl (λ l. still-false c t tree i n l e)
  where
    by-place : (b : Bool) → eqb i (suc n) ≡ b → (i ≤ n → entries_below c t tree n ≡ false) → entries_below c t tree (suc n) ≡ false
    by-place true b before =
        let same = eqb-true i (suc n) b in
        rw same at e
    by-place false b before =
        let no = before (omega (arith, eqb-false i (suc n) b)) in
        rw no

module _ (c : Context) (t : Tables) {tree : List ℕ} where
  -- one record more
  pub entries-more : {i : ℕ} → TreeRecord tree i → (all own : Bool) {next : Bool} → all ≡ entries_below c t tree i
      → own ≡ has_entries c t (leaf_of (record_at tree i)) → next ≡ all && own → next ≡ entries_below c t tree (i + 1)
  unfolding over_records
  entries-more {i} row all own e o n =
      rw (add-one i)
      (n ∙ ap (λ (b : Bool). b && own) e
      ∙ ap (λ (b : Bool). entries_below c t tree i && b) (o ∙ sym (entries-leaf c t row)))

  -- all records up to the last are ready where every number has its entry
  pub all-ready : {f : Fragment} (rows : TreeRecords tree f) {starts : List ℕ} {count : ℕ} → count ≡ rows.count → AllPlaced tree starts (count - 1)
      → entries_below c t tree count ≡ true → Ready c t tree starts (count - 1)
  all-ready rows {starts} {count} n placed e =
      record {
        placed = placed.placed;
        entries = λ j l. sym (entries-leaf c t (rows.row j (inside j l)))
            ∙ entries-each c t rows j (inside j l) (entries-all c t rows count n e);
      }
    where
      inside : (j : ℕ) → j ≤ count - 1 → j < rows.count
      inside j l = omega (arith, n, rows.any)
