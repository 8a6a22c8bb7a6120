-- The numbers that stand in a record, by its kind, and those of the tree: entries of the leaf that a record makes. Assumes nothing.
use Prim.Native.Nat.{ℕ, suc, ◌+◌, ◌*◌, ◌/◌, ◌≤◌, ◌<◌}
use mathlib.Core.Bool.{Bool, true, false, ◌&&◌, cond}
use mathlib.Core.List.{List, [], ◌∷◌}
use Rattle.std.specs.Prelude.{Option, None, Some}
use mathlib.Core.Path.{◌≡◌, refl, sym, ap, ◌∙◌}
use native.Mathlib.Nat.{le-div_iff_mul-le}
use native.Mathlib.Omega.{arith}
use borrow.Author.Tests.{eqb-true, eqb-false, ltb-true, ltb-false, le-leb, lt-leb, leb-true, leb-false}
use lib.Dec.{eqb, leb, ltb}
use Rattle.records.specs.Payloads.{number_in, key_at, first_keys, keys_from, keys_in}
use Rattle.records.specs.RecordForm.{kind_of}
use Rattle.records.proofs.Laws.{keys-first, keys-next, keys-end}
use Rattle.contexts.specs.declared.Context.{Context}
use Rattle.contexts.specs.Leaves.{After, Older, Sha256, Hash256, Ripemd160, Hash160}
use Rattle.trees.specs.Fragment.{Fragment, False, True, PkK, PkH, Lock, Hash}
use Rattle.trees.specs.Tree.{find}
use Rattle.script_machine.specs.Numbers.{Bytes}
use Rattle.script_bytes.specs.Tables.{Tables, tables, has_key}
use Rattle.script_bytes.specs.ScriptOf.{has_keys, has_entries}
use Rattle.walk.specs.TreeRecords.{TreeRecord, record_at}
use Rattle.walk.specs.Nodes.{node_of}
use Rattle.walk.proofs.Laws.{row_told, parent-kind}
use Rattle.script_bytes.specs.Entries.{own_entries, entries_at}
use Rattle.script_bytes.proofs.Entries.{own-none}
use Rattle.script_leaves.specs.Laying.{only_keys}
use Rattle.script_leaves.specs.Leaves.{or_else, multi_of, multi_a_of, numbered, leaf_of}
use Rattle.script_leaves.proofs.Leaves as leaf
use Rattle.script_entry.proofs.Nodes.{leaf-here}

-- ---- the leaf that a record makes, kind by kind

module _ (P : Fragment → Type 0) where
  either : (b : Bool) (x : Fragment) (rest : Option Fragment) (other : Fragment) → (b ≡ true → P x) → P (or_else other rest)
      → P (or_else other (cond b (Some x) rest))
  either true x rest other p q = p refl
  either false x rest other p q = q

  by_number : (kind n : ℕ) → P False → P True → (eqb kind 34 ≡ true → P (PkK n)) → (eqb kind 35 ≡ true → P (PkH n))
      → P (Lock After n) → P (Lock Older n) → (eqb kind 38 ≡ true → P (Hash Sha256 n)) → (eqb kind 39 ≡ true → P (Hash Hash256 n))
      → (eqb kind 40 ≡ true → P (Hash Ripemd160 n)) → (eqb kind 41 ≡ true → P (Hash Hash160 n)) → P (numbered kind n)
  unfolding numbered find
  by_number kind n zero_is one-is key key_hash after older sha256 hash256 ripemd160 hash160 =
      either (eqb kind 33) True _ False (λ _. one-is)
      (either (eqb kind 34) (PkK n) _ False key
      (either (eqb kind 35) (PkH n) _ False key_hash
      (either (eqb kind 36) (Lock After n) _ False (λ _. after)
      (either (eqb kind 37) (Lock Older n) _ False (λ _. older)
      (either (eqb kind 38) (Hash Sha256 n) _ False sha256
      (either (eqb kind 39) (Hash Hash256 n) _ False hash256
      (either (eqb kind 40) (Hash Ripemd160 n) _ False ripemd160
      (either (eqb kind 41) (Hash Hash160 n) None False hash160 zero_is))))))))

  by-leaf : (bytes : Bytes) → (eqb (kind_of bytes) 57 ≡ true → P (multi_of bytes)) → (eqb (kind_of bytes) 58 ≡ true → P (multi_a_of bytes))
      → P (numbered (kind_of bytes) (number_in bytes)) → P (leaf_of bytes)
  unfolding leaf_of find
  by-leaf bytes multi multi_a other =
      either (eqb (kind_of bytes) 57) (multi_of bytes) _ (numbered (kind_of bytes) (number_in bytes)) multi
      (either (eqb (kind_of bytes) 58) (multi_a_of bytes) None (numbered (kind_of bytes) (number_in bytes)) multi_a other)

module _ (c : Context) (t : Tables) (bytes : Bytes) where
  abbrev Same : Fragment → Type 0
  Same f = own_entries c t f ≡ has_entries c t f

  abbrev Has : Fragment → Type 0
  Has f = true ≡ has_entries c t f

  -- a leaf's own numbers are all its numbers
  own-leaf : own_entries c t (leaf_of bytes) ≡ has_entries c t (leaf_of bytes)
  unfolding own_entries has_entries
  own-leaf =
      by-leaf Same bytes (λ _. refl) (λ _. refl)
      (by_number Same (kind_of bytes) (number_in bytes) refl refl (λ _. refl) (λ _. refl) refl refl (λ _. refl) (λ _. refl) (λ _. refl) (λ _. refl))

  no-leaf : 42 ≤ kind_of bytes → kind_of bytes ≤ 56 → leaf_of bytes ≡ False
  no-leaf l h =
      leaf.is-numbered bytes (λ e. omega arith) (λ e. omega arith)
      ∙ leaf.is_false (kind_of bytes) (number_in bytes) (λ e. omega arith) (λ e. omega arith) (λ e. omega arith) (λ e. omega arith)
      (λ e. omega arith) (λ e. omega arith) (λ e. omega arith) (λ e. omega arith) (λ e. omega arith)

-- the entries of record i are those of its leaf
pub entries-leaf : (c : Context) (t : Tables) {tree : List ℕ} {i : ℕ} → TreeRecord tree i → entries_at c t tree i ≡ has_entries c t (leaf_of (record_at tree i))
unfolding has_entries
entries-leaf c t {tree} {i} row = by_count (eqb (node_of (record_at tree i)).n 0) refl
  where
    by_count : (b : Bool) → eqb (node_of (record_at tree i)).n 0 ≡ b → entries_at c t tree i ≡ has_entries c t (leaf_of (record_at tree i))
    by_count true e =
        ap (own_entries c t) (sym (leaf-here row (eqb-true (node_of (record_at tree i)).n 0 e))) ∙ own-leaf c t (record_at tree i)
    by_count false e =
        let range = parent-kind row (omega (arith, eqb-false (node_of (record_at tree i)).n 0 e)) in
        own-none c t (row_told row) (λ k. omega arith) (λ k. omega arith) (λ l h. omega arith) (λ l. omega arith)
        ∙ ap (has_entries c t) (sym (no-leaf c t (record_at tree i) range.0 range.1))

-- ---- by kind

module _ (c : Context) (t : Tables) (bytes : Bytes) {kind : ℕ} (known : kind ≡ kind_of bytes) where
  of_number : (k : ℕ) (f : ℕ → Fragment) → 32 ≤ k → k ≤ 41 → kind ≡ k → ((n : ℕ) → kind_of bytes ≡ k → numbered (kind_of bytes) n ≡ f n)
      → has_entries c t (f (number_in bytes)) ≡ has_entries c t (leaf_of bytes)
  of_number k f l h e g =
      let same : kind_of bytes ≡ k = sym known ∙ e in
      ap (has_entries c t) (sym (leaf.is-numbered bytes (λ m. omega arith) (λ m. omega arith) ∙ g (number_in bytes) same))

  pub key-entry : kind ≡ 34 → has_key c t (number_in bytes) ≡ has_entries c t (leaf_of bytes)
  unfolding has_entries
  key-entry e = of_number 34 PkK (omega arith) (omega arith) e (leaf.is-pk-k (kind_of bytes))

  pub multi-entries : kind ≡ 57 → has_keys c t (keys_in bytes) ≡ has_entries c t (leaf_of bytes)
  unfolding has_entries
  multi-entries e = ap (has_entries c t) (sym (leaf.is-multi bytes (sym known ∙ e)))

  pub multi-a-entries : kind ≡ 58 → has_keys c t (keys_in bytes) ≡ has_entries c t (leaf_of bytes)
  unfolding has_entries
  multi-a-entries e = ap (has_entries c t) (sym (leaf.is-multi-a bytes (sym known ∙ e)))

-- keys are looked up in the table of keys alone
pub same_keys : (c : Context) (keys key_hashes hashes32 hashes20 : Bytes) (ns : List ℕ)
    → has_keys c (only_keys keys) ns ≡ has_keys c (tables keys key_hashes hashes32 hashes20) ns
unfolding has_keys
same_keys c keys key_hashes hashes32 hashes20 [] = refl
same_keys c keys key_hashes hashes32 hashes20 (i ∷ ns) = rw (same_keys c keys key_hashes hashes32 hashes20 ns)

-- ---- the keys of a record, from the j-th on

-- those before are all there, and the others are still to look for
abbrev pub KeysToCome : (c : Context) (t : Tables) (bytes : Bytes) (count j : ℕ) (all : Bool) → Type 0
KeysToCome c t bytes count j all = all && has_keys c t (keys_from bytes count j) ≡ has_keys c t (first_keys bytes count)

and_assoc : (a b c : Bool) → (a && b) && c ≡ a && (b && c)
and_assoc true b c = refl
and_assoc false b c = refl

and-true : (a : Bool) → a && true ≡ a
and-true true = refl
and-true false = refl

module _ (c : Context) (t : Tables) (bytes : Bytes) (count : ℕ) where
  pub keys-begin : KeysToCome c t bytes count 0 true
  keys-begin = ap (has_keys c t) (keys-first bytes count)

  pub keys-more : (j i : ℕ) (all : Bool) {next has : Bool} → j < count → i ≡ key_at bytes j → has ≡ has_key c t i → next ≡ all && has
      → KeysToCome c t bytes count j all → KeysToCome c t bytes count (j + 1) next
  unfolding has_keys
  keys-more j i all h e k f so_far =
      let others = has_keys c t (keys_from bytes count (j + 1)) in
      ap (λ (b : Bool). b && others) (f ∙ ap (λ (b : Bool). all && b) (k ∙ ap (has_key c t) e))
      ∙ and_assoc all (has_key c t (key_at bytes j)) others
      ∙ ap (λ (ks : List ℕ). all && has_keys c t ks) (sym (keys-next bytes count j h))
      ∙ so_far

  pub keys-done : (j : ℕ) (all : Bool) → count ≤ j → KeysToCome c t bytes count j all → all ≡ has_keys c t (first_keys bytes count)
  unfolding has_keys
  keys-done j all h so_far =
      sym (and-true all) ∙ ap (λ (ks : List ℕ). all && has_keys c t ks) (sym (keys-end bytes count j h)) ∙ so_far

-- an entry is whole exactly if its number is below the number of whole entries
pub entry-fits : (i size n : ℕ) → 1 ≤ size → ltb i (n / size) ≡ leb (suc i * size) n
entry-fits i size n positive = by-test (ltb i (n / size)) refl
  where
    by-test : (t : Bool) → ltb i (n / size) ≡ t → t ≡ leb (suc i * size) n
    by-test true e = sym (le-leb (suc i * size) n ((le-div_iff_mul-le {k = size} {x = suc i} {y = n} positive).0 (ltb-true i (n / size) e)))
    by-test false e = sym (lt-leb (suc i * size) n (beyond (leb (suc i * size) n) refl))
      where
        beyond : (t : Bool) → leb (suc i * size) n ≡ t → n < suc i * size
        beyond true l =
            let below : suc i ≤ n / size = (le-div_iff_mul-le {k = size} {x = suc i} {y = n} positive).1 (leb-true (suc i * size) n l) in
            absurd (omega (arith, ltb-false i (n / size) e))
        beyond false l = leb-false (suc i * size) n l
