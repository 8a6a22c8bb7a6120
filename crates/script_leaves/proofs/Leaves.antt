-- What a leaf is by its kind, whether its numbers are in the tables, and its bytes. Assumes nothing.
use Prim.Native.Nat.{ℕ}
use mathlib.Core.Bool.{Bool, true}
use mathlib.Core.List.{List, ◌++◌}
use mathlib.Core.Logic.{◌≢◌}
use mathlib.Core.Path.{◌≡◌, sym, ◌∙◌, ap}
use native.Mathlib.Omega.{arith}
use borrow.Author.Tests.{ne_eqb}
use lib.ListN.{length}
use Rattle.contexts.specs.declared.Context.{Context}
use Rattle.contexts.specs.Leaves.{After, Older, HashKind, Sha256, Hash256, Ripemd160, Hash160}
use Rattle.records.specs.Payloads.{number_in, k_in, count_in, first_keys, keys_in}
use Rattle.records.specs.RecordForm.{kind_of}
use Rattle.records.proofs.Laws.{length-keys}
use Rattle.trees.specs.Fragment.{Fragment, False, True, PkK, PkH, Lock, Hash}
use Rattle.trees.specs.Tree.{find}
use Rattle.script_machine.specs.Numbers.{Bytes}
use Rattle.script_bytes.specs.Tables.{Tables, tables, whole, key_size, key_hash_size, hash_size, hash_table}
use Rattle.script_bytes.specs.ScriptOf.{has_keys, has_entries}
use Rattle.script_bytes.specs.Layout.{test_byte, number_bytes, bytes_of, keys_bytes, sig_sum_bytes}
use Rattle.script_bytes.proofs.Merging.{bytes-multi, bytes-multi_a}
use Rattle.script_leaves.specs.Laying.{Lays, EntrySize, only_keys}
use Rattle.script_leaves.specs.Leaves.{numbered, leaf_of, multi_of, multi_a_of}
use Rattle.script_leaves.proofs.Laws.{laid_as}
use Rattle.script_leaves.proofs.Keys.{only-keys, only-sums, only-keys-there}

-- ---- one number or none, by the kind

module _ (kind n : ℕ) where
  pub is_true : kind ≡ 33 → numbered kind n ≡ True
  unfolding numbered find
  is_true e = rw e

  pub is-pk-k : kind ≡ 34 → numbered kind n ≡ PkK n
  unfolding numbered find
  is-pk-k e = rw e

  pub is-pk-h : kind ≡ 35 → numbered kind n ≡ PkH n
  unfolding numbered find
  is-pk-h e = rw e

  pub is-after : kind ≡ 36 → numbered kind n ≡ Lock After n
  unfolding numbered find
  is-after e = rw e

  pub is-older : kind ≡ 37 → numbered kind n ≡ Lock Older n
  unfolding numbered find
  is-older e = rw e

  pub is-sha256 : kind ≡ 38 → numbered kind n ≡ Hash Sha256 n
  unfolding numbered find
  is-sha256 e = rw e

  pub is-hash256 : kind ≡ 39 → numbered kind n ≡ Hash Hash256 n
  unfolding numbered find
  is-hash256 e = rw e

  pub is-ripemd160 : kind ≡ 40 → numbered kind n ≡ Hash Ripemd160 n
  unfolding numbered find
  is-ripemd160 e = rw e

  pub is-hash160 : kind ≡ 41 → numbered kind n ≡ Hash Hash160 n
  unfolding numbered find
  is-hash160 e = rw e

  pub is_false : kind ≢ 33 → kind ≢ 34 → kind ≢ 35 → kind ≢ 36 → kind ≢ 37 → kind ≢ 38 → kind ≢ 39 → kind ≢ 40 → kind ≢ 41
      → numbered kind n ≡ False
  unfolding numbered find
  is_false a b c d e f g h i =
      rw (
        ne_eqb kind 33 a,
        ne_eqb kind 34 b,
        ne_eqb kind 35 c,
        ne_eqb kind 36 d,
        ne_eqb kind 37 e,
        ne_eqb kind 38 f,
        ne_eqb kind 39 g,
        ne_eqb kind 40 h,
        ne_eqb kind 41 i,
      )

-- ---- a record

module _ (bytes : Bytes) where
  pub is-multi : kind_of bytes ≡ 57 → leaf_of bytes ≡ multi_of bytes
  unfolding leaf_of find
  is-multi e = rw e

  pub is-multi-a : kind_of bytes ≡ 58 → leaf_of bytes ≡ multi_a_of bytes
  unfolding leaf_of find
  is-multi-a e = rw e

  pub is-numbered : kind_of bytes ≢ 57 → kind_of bytes ≢ 58 → leaf_of bytes ≡ numbered (kind_of bytes) (number_in bytes)
  unfolding leaf_of find
  is-numbered a b = rw (ne_eqb (kind_of bytes) 57 a, ne_eqb (kind_of bytes) 58 b)

-- ---- its bytes, and its numbers in the tables

-- what is laid for one fragment is laid for the same one under another name
pub laid_leaf : (c : Context) (t : Tables) (v : Bool) {f g : Fragment} {before after : Bytes} {at : ℕ} {bytes : Bytes} {end : ℕ}
    → f ≡ g → bytes_of c t v g ≡ bytes → Lays before after at bytes end → Lays before after at (bytes_of c t v f) end
laid_leaf c t v e b l = laid_as (sym (ap (bytes_of c t v) e ∙ b)) l

module _ (c : Context) (t : Tables) (n : ℕ) {f : Fragment} (h : has_entries c t f ≡ true) where
  same_entries : {g : Fragment} → f ≡ g → has_entries c t g ≡ true
  same_entries e = sym (ap (has_entries c t) e) ∙ h

  pub pk-k-ready : f ≡ PkK n → whole (key_size c) t.keys n ≡ true
  unfolding has_entries
  pk-k-ready e = same_entries e

  pub pk-h-ready : f ≡ PkH n → whole key_hash_size t.key_hashes n ≡ true
  unfolding has_entries
  pk-h-ready e = same_entries e

  pub hash-ready : (kind : HashKind) → f ≡ Hash kind n → EntrySize (hash_size kind) × (whole (hash_size kind) (hash_table kind t) n ≡ true)
  unfolding has_entries
  hash-ready kind e = (hash-size kind, same_entries e)
    where
      hash-size : (kind : HashKind) → EntrySize (hash_size kind)
      hash-size Sha256 = record { some = omega arith; few = omega arith }
      hash-size Hash256 = record { some = omega arith; few = omega arith }
      hash-size Ripemd160 = record { some = omega arith; few = omega arith }
      hash-size Hash160 = record { some = omega arith; few = omega arith }

-- ---- Multi and MultiA, with tables where keys alone are looked up

module _ (c : Context) (t : Tables) (v : Bool) (bytes : Bytes) (k count : ℕ) (first : k ≡ k_in bytes) (second : count ≡ count_in bytes) where
  pub counted-keys : has_keys c t (keys_in bytes) ≡ true → has_keys c t (first_keys bytes count) ≡ true
  counted-keys h = rw second h

  pub multi-bytes : number_bytes k ++ keys_bytes c t (first_keys bytes count) ++ (number_bytes count ++ test_byte 0xae v) ≡ bytes_of c t v (multi_of bytes)
  multi-bytes =
      rw (first, second) (sym (bytes-multi c t v (k_in bytes) (keys_in bytes) ∙ rw (length-keys bytes (count_in bytes))))

  pub multi-a-bytes : sig_sum_bytes c t (first_keys bytes count) ++ (number_bytes k ++ test_byte 0x9c v) ≡ bytes_of c t v (multi_a_of bytes)
  multi-a-bytes = rw (first, second) (sym (bytes-multi_a c t v (k_in bytes) (keys_in bytes)))

module _ (c : Context) (keys key_hashes hashes32 hashes20 : Bytes) (v : Bool) (bytes : Bytes) where
  pub multi-ready : has_entries c (tables keys key_hashes hashes32 hashes20) (leaf_of bytes) ≡ true → kind_of bytes ≡ 57
      → has_keys c (only_keys keys) (keys_in bytes) ≡ true
  unfolding has_entries
  multi-ready h e =
      sym (only-keys-there c keys key_hashes hashes32 hashes20 (keys_in bytes))
      ∙ sym (ap (has_entries c (tables keys key_hashes hashes32 hashes20)) (is-multi bytes e))
      ∙ h

  pub multi-a-ready : has_entries c (tables keys key_hashes hashes32 hashes20) (leaf_of bytes) ≡ true → kind_of bytes ≡ 58
      → has_keys c (only_keys keys) (keys_in bytes) ≡ true
  unfolding has_entries
  multi-a-ready h e =
      sym (only-keys-there c keys key_hashes hashes32 hashes20 (keys_in bytes))
      ∙ sym (ap (has_entries c (tables keys key_hashes hashes32 hashes20)) (is-multi-a bytes e))
      ∙ h

  pub multi-leaf : kind_of bytes ≡ 57
      → bytes_of c (only_keys keys) v (multi_of bytes) ≡ bytes_of c (tables keys key_hashes hashes32 hashes20) v (leaf_of bytes)
  multi-leaf e =
      let ks : List ℕ = keys_in bytes in
      let k : ℕ = k_in bytes in
      bytes-multi c (only_keys keys) v k ks
      ∙ ap (λ (z : Bytes). number_bytes k ++ z ++ (number_bytes (length ks) ++ test_byte 0xae v)) (only-keys c keys key_hashes hashes32 hashes20 ks)
      ∙ sym (ap (bytes_of c (tables keys key_hashes hashes32 hashes20) v) (is-multi bytes e)
      ∙ bytes-multi c (tables keys key_hashes hashes32 hashes20) v k ks)

  pub multi-a-leaf : kind_of bytes ≡ 58
      → bytes_of c (only_keys keys) v (multi_a_of bytes) ≡ bytes_of c (tables keys key_hashes hashes32 hashes20) v (leaf_of bytes)
  multi-a-leaf e =
      let ks : List ℕ = keys_in bytes in
      let k : ℕ = k_in bytes in
      bytes-multi_a c (only_keys keys) v k ks
      ∙ ap (λ (z : Bytes). z ++ (number_bytes k ++ test_byte 0x9c v)) (only-sums c keys key_hashes hashes32 hashes20 ks)
      ∙ sym (ap (bytes_of c (tables keys key_hashes hashes32 hashes20) v) (is-multi-a bytes e)
      ∙ bytes-multi_a c (tables keys key_hashes hashes32 hashes20) v k ks)

-- ---- a record of any other kind

module _ (c : Context) (t : Tables) (v : Bool) (bytes : Bytes) (kind n : ℕ) (first : kind ≡ kind_of bytes) (second : n ≡ number_in bytes)
    (no-multi : kind ≢ 57) (no-multi-a : kind ≢ 58) where
  other-kind : leaf_of bytes ≡ numbered kind n
  other-kind =
      is-numbered bytes (λ e. no-multi (first ∙ e)) (λ e. no-multi-a (first ∙ e))
      ∙ sym (ap (λ (k : ℕ). numbered k n) first ∙ ap (numbered (kind_of bytes)) second)

  pub numbered-ready : has_entries c t (leaf_of bytes) ≡ true → has_entries c t (numbered kind n) ≡ true
  numbered-ready h = sym (ap (has_entries c t) other-kind) ∙ h

  pub numbered-leaf : bytes_of c t v (numbered kind n) ≡ bytes_of c t v (leaf_of bytes)
  numbered-leaf = sym (ap (bytes_of c t v) other-kind)
