-- Testing the table entries of a tree record by record. Assumes nothing.
use Prim.Native.Nat.{ℕ, zero, suc, ◌+◌, ◌-◌, ◌≤◌, ◌<◌}
use mathlib.Core.Bool.{Bool, true, false}
use mathlib.Core.List.{List}
use mathlib.Core.Path.{◌≡◌, refl, sym, ap, subst, ◌∙◌}
use native.Mathlib.Omega.{arith}
use borrow.Author.Tests.{ltb-true, ltb-false}
use lib.Dec.{ltb}
use Rattle.records.specs.Payloads.{first_keys}
use Rattle.records.specs.declared.Parts.{Parts}
use Rattle.records.proofs.Forms.{and_left, and_right}
use Rattle.contexts.specs.declared.Context.{Context}
use Rattle.trees.specs.Fragment.{Fragment}
use Rattle.script_bytes.specs.Tables.{Tables, whole, has_key, has_key_hash}
use Rattle.script_bytes.specs.ScriptOf.{has_keys, has_entries}
use Rattle.walk.specs.TreeRecords.{fragment_at, TreeRecords, Told}
use Rattle.walk.specs.Folds.{over_records}
use Rattle.walk.proofs.KindLaws as row
use Rattle.walk.proofs.Laws.{or_later}
use Rattle.script_bytes.specs.Entries.{own_entries, entries_at, entries_below}
use Rattle.script_bytes.proofs.OwnEntries.{of-records}

module _ (c : Context) (t : Tables) (tree : List ℕ) where
  -- ---- the first records

  pub entries-start : entries_below c t tree 0 ≡ true
  unfolding over_records
  entries-start = refl

  pub entries_next : (i : ℕ) → entries_below c t tree i ≡ true → entries_at c t tree i ≡ true → entries_below c t tree (i + 1) ≡ true
  unfolding over_records
  entries_next i e f =
      let m : i + 1 ≡ suc i = omega arith in
      rw (m, e, f)

  below_each : (n i : ℕ) → i < n → entries_below c t tree n ≡ true → entries_at c t tree i ≡ true
  unfolding over_records
  below_each zero i h e = absurd (omega arith)
  below_each (suc n) i h e =
      by-test (ltb i n) refl (and_right (entries_below c t tree n) (entries_at c t tree n) e)
      (λ l. below_each n i l (and_left (entries_below c t tree n) (entries_at c t tree n) e))
    where
      by-test : (b : Bool) → ltb i n ≡ b → entries_at c t tree n ≡ true → (i < n → entries_at c t tree i ≡ true) → entries_at c t tree i ≡ true
      by-test true b e rec = rec (ltb-true i n b)
      by-test false b e rec =
          let same : n ≡ i = omega (arith, ltb-false i n b) in
          subst (λ (i : ℕ). entries_at c t tree i ≡ true) same e

-- ---- the records of a tree

module _ (c : Context) (t : Tables) {tree : List ℕ} {f : Fragment} (r : TreeRecords tree f) where
  pub entries-all : (i : ℕ) → i ≡ r.count → entries_below c t tree i ≡ true → has_entries c t f ≡ true
  entries-all i l e = of-records c t r ∙ ap (entries_below c t tree) (sym l) ∙ e

  pub entries-each : (i : ℕ) → i < r.count → has_entries c t f ≡ true → entries_at c t tree i ≡ true
  entries-each i h e = below_each c t tree r.count i h (sym (of-records c t r) ∙ e)

  pub entries-miss : (i : ℕ) → i < r.count → entries_at c t tree i ≡ false → has_entries c t f ≡ false
  entries-miss i h e = by-test (has_entries c t f) refl
    where
      by-test : (b : Bool) → has_entries c t f ≡ b → b ≡ false
      by-test false b = refl
      by-test true b =
          let z : ◌≡◌ {A = Bool} true false = sym (entries-each i h b) ∙ e in
          z

-- ---- a record's own, by its kind

module _ (c : Context) (t : Tables) {tree : List ℕ} {i : ℕ} {bytes : List ℕ} {kind : ℕ} {parts : Parts} (told : Told tree i bytes kind parts) where
  own : {f : Fragment} → fragment_at tree i ≡ f → entries_at c t tree i ≡ own_entries c t f
  own e = ap (own_entries c t) e

  pub own_key : kind ≡ 34 → entries_at c t tree i ≡ has_key c t parts.number
  unfolding own_entries
  own_key e = own (row.is-pk-k told e)

  pub own-key-hash : kind ≡ 35 → entries_at c t tree i ≡ has_key_hash t parts.number
  unfolding own_entries
  own-key-hash e = own (row.is-pk-h told e)

  pub own-hash32 : 38 ≤ kind → kind ≤ 39 → entries_at c t tree i ≡ whole 32 t.hashes32 parts.number
  unfolding own_entries
  own-hash32 l h = by_kind (kind - 38) (omega arith)
    where
      by_kind : (n : ℕ) → kind ≡ 38 + n → entries_at c t tree i ≡ whole 32 t.hashes32 parts.number
      by_kind zero e = own (row.is-sha256 told e)
      by_kind (suc zero) e = own (row.is-hash256 told e)
      by_kind (suc (suc n)) e = absurd (omega arith)

  pub own-hash20 : 40 ≤ kind → kind ≤ 41 → entries_at c t tree i ≡ whole 20 t.hashes20 parts.number
  unfolding own_entries
  own-hash20 l h = by_kind (kind - 40) (omega arith)
    where
      by_kind : (n : ℕ) → kind ≡ 40 + n → entries_at c t tree i ≡ whole 20 t.hashes20 parts.number
      by_kind zero e = own (row.is-ripemd160 told e)
      by_kind (suc zero) e = own (row.is-hash160 told e)
      by_kind (suc (suc n)) e = absurd (omega arith)

  pub own_keys : 57 ≤ kind → entries_at c t tree i ≡ has_keys c t (first_keys bytes parts.count)
  unfolding own_entries
  own_keys l = by_kind (kind - 57) (omega arith)
    where
      by_kind : (n : ℕ) → kind ≡ 57 + n → entries_at c t tree i ≡ has_keys c t (first_keys bytes parts.count)
      by_kind zero e = own (row.is-multi told e)
      by_kind (suc zero) e = own (row.is-multi-a told e)
      by_kind (suc (suc n)) e = absurd (omega (arith, (row.fragment-kind told).1))

  pub own-none : (kind ≡ 34 → ⊥) → (kind ≡ 35 → ⊥) → (38 ≤ kind → kind ≤ 41 → ⊥) → (57 ≤ kind → ⊥) → entries_at c t tree i ≡ true
  unfolding own_entries
  own-none no_key no-key-hash no-hash no_keys =
      or_later 32 (row.fragment-kind told).0 (λ e. own (row.is_false told e)) λ l.
      or_later 33 l (λ e. own (row.is_true told e)) λ l.
      or_later 34 l (λ e. absurd (no_key e)) λ l.
      or_later 35 l (λ e. absurd (no-key-hash e)) λ l.
      or_later 36 l (λ e. own (row.is-after told e)) λ l.
      or_later 37 l (λ e. own (row.is-older told e)) λ l.
      or_later 38 l (λ e. absurd (no-hash (omega arith) (omega arith))) λ l.
      or_later 39 l (λ e. absurd (no-hash (omega arith) (omega arith))) λ l.
      or_later 40 l (λ e. absurd (no-hash (omega arith) (omega arith))) λ l.
      or_later 41 l (λ e. absurd (no-hash (omega arith) (omega arith))) λ l.
      or_later 42 l (λ e. own (row.is-alt told e)) λ l.
      or_later 43 l (λ e. own (row.is-swap told e)) λ l.
      or_later 44 l (λ e. own (row.is-check told e)) λ l.
      or_later 45 l (λ e. own (row.is-dup-if told e)) λ l.
      or_later 46 l (λ e. own (row.is-verify told e)) λ l.
      or_later 47 l (λ e. own (row.is-non-zero told e)) λ l.
      or_later 48 l (λ e. own (row.is-zero-not-equal told e)) λ l.
      or_later 49 l (λ e. own (row.is-and-b told e)) λ l.
      or_later 50 l (λ e. own (row.is-and-v told e)) λ l.
      or_later 51 l (λ e. own (row.is-or-b told e)) λ l.
      or_later 52 l (λ e. own (row.is-or-d told e)) λ l.
      or_later 53 l (λ e. own (row.is-or-c told e)) λ l.
      or_later 54 l (λ e. own (row.is-or-i told e)) λ l.
      or_later 55 l (λ e. own (row.is-and-or told e)) λ l.
      or_later 56 l (λ e. own (row.is-thresh told e)) λ l. absurd (no_keys l)
