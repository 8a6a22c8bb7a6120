-- A fragment has as many bytes as its size says, wherever the tables have its entries. Assumes nothing.
use Prim.Native.Nat.{ℕ, suc, ◌+◌, ◌*◌, ◌≤◌}
use native.Mathlib.Omega.{arith}
use mathlib.Core.Bool.{Bool, true, false}
use mathlib.Core.List.{List, [], ◌∷◌}
use mathlib.Core.Path.{◌≡◌, refl, ap, ◌∙◌}
use lib.ListN.{length, length-append}
use Rattle.contexts.specs.declared.Context.{Context}
use Rattle.contexts.specs.declared.Context.TheVariants.{Segwitv0, Tap}
use Rattle.contexts.specs.Leaves.{LockKind, HashKind}
use Rattle.trees.specs.Fragment.{Fragment, Fragments, end, ◌▹◌, False, True, PkK, PkH, Lock, Hash}
use Rattle.trees.specs.Fragment.{Alt, Swap, Check, DupIf, Verify, NonZero, ZeroNotEqual}
use Rattle.trees.specs.Fragment.{AndB, AndV, OrB, OrD, OrC, OrI, AndOr, Thresh, Multi, MultiA}
use Rattle.script_bytes.specs.Tables.{Tables, key_size, hash_size, hash_table, key, has_key, has_key_hash, has_hash}
use Rattle.script_bytes.specs.Encoding.{push_bytes}
use Rattle.script_bytes.specs.ScriptOf.{has_keys, has_entries, all_have_entries}
use Rattle.script_bytes.specs.Layout.{bytes_of, verify_byte, test_byte, number_bytes, sum_bytes, adds_bytes, keys_bytes, sig_adds_bytes, sig_sum_bytes}
use Rattle.script_bytes.proofs.Merging.{bytes-false, bytes-true, bytes-pk_k, bytes-pk_h, bytes-lock, bytes-hash}
use Rattle.script_bytes.proofs.Merging.{bytes-alt, bytes-swap, bytes-check, bytes-dup_if, bytes-verify, bytes-non_zero, bytes-zero_not_equal}
use Rattle.script_bytes.proofs.Merging.{bytes-and_b, bytes-and_v, bytes-or_b, bytes-or_d, bytes-or_c, bytes-or_i, bytes-and_or}
use Rattle.script_bytes.proofs.Merging.{sum-end, sum_more, adds-end, adds-more, bytes-thresh, bytes-multi, bytes-multi_a}
use Rattle.script_bytes.proofs.Known.{and_both}
use Rattle.script_bytes.proofs.Pushes.{long-key, long-hash, push-length}
use Rattle.index_places.specs.Sizes.{verify_size, number_size, key_push, size_of, sum_size, adds_size}

verify-length : (v : Bool) → length (verify_byte v) ≡ verify_size v
verify-length true = refl
verify-length false = refl

test-length : (n : ℕ) (v : Bool) → length (test_byte n v) ≡ 1
test-length n true = refl
test-length n false = refl

key-size : (c : Context) → suc (key_size c) ≡ key_push c
key-size Segwitv0 = refl
key-size Tap = refl

module _ (c : Context) (t : Tables) where
  key-length : (i : ℕ) → has_key c t i ≡ true → length (push_bytes (key c t i)) ≡ key_push c
  key-length i h = push-length (key_size c) t.keys i (long-key c) h ∙ key-size c

  keys_length : (keys : List ℕ) → has_keys c t keys ≡ true → length (keys_bytes c t keys) ≡ key_push c * length keys
  unfolding has_keys keys_bytes
  keys_length [] h = omega arith
  keys_length (i ∷ is) h =
      let both = and_both (has_key c t i) (has_keys c t is) h in
      rw length-append (omega (arith, key-length i both.0, keys_length is both.1))

  sig_adds-length : (keys : List ℕ) → has_keys c t keys ≡ true → length (sig_adds_bytes c t keys) ≡ (key_push c + 1) * length keys
  unfolding has_keys sig_adds_bytes
  sig_adds-length [] h = omega arith
  sig_adds-length (i ∷ is) h =
      let both = and_both (has_key c t i) (has_keys c t is) h in
      rw length-append (omega (arith, key-length i both.0, sig_adds-length is both.1))

  sig_sum-length : (keys : List ℕ) → has_keys c t keys ≡ true → length (sig_sum_bytes c t keys) ≡ (key_push c + 1) * length keys
  unfolding has_keys sig_sum_bytes
  sig_sum-length [] h = omega arith
  sig_sum-length (i ∷ is) h =
      let both = and_both (has_key c t i) (has_keys c t is) h in
      rw length-append (omega (arith, key-length i both.0, sig_adds-length is both.1))

  mutual
    unfolding has_entries all_have_entries size_of sum_size adds_size

    pub size_is : (v : Bool) (f : Fragment) → has_entries c t f ≡ true → length (bytes_of c t v f) ≡ size_of c v f
    size_is v False h = rw (bytes-false c t v) (omega (arith, verify-length v))
    size_is v True h = rw (bytes-true c t v) (omega (arith, verify-length v))
    size_is v (PkK i) h = rw (bytes-pk_k c t v i, length-append) (omega (arith, key-length i h, verify-length v))
    size_is v (PkH i) h = rw (bytes-pk_h c t v i, length-append) (omega (arith, push-length 20 t.key_hashes i (omega arith) h, verify-length v))
    size_is v (Lock kind n) h = rw (bytes-lock c t v kind n, length-append) (omega (arith, verify-length v))
    size_is v (Hash kind i) h =
        rw (bytes-hash c t v kind i, length-append)
        (omega (arith, push-length (hash_size kind) (hash_table kind t) i (long-hash kind) h, test-length 0x87 v))
    size_is v (Alt x) h = rw (bytes-alt c t v x, length-append) (omega (arith, size_is false x h, verify-length v))
    size_is v (Swap x) h = rw (bytes-swap c t v x) (omega (arith, size_is v x h))
    size_is v (Check x) h = rw (bytes-check c t v x, length-append) (omega (arith, size_is false x h, test-length 0xac v))
    size_is v (DupIf x) h = rw (bytes-dup_if c t v x, length-append) (omega (arith, size_is false x h, verify-length v))
    size_is v (Verify x) h = rw (bytes-verify c t v x, length-append) (omega (arith, size_is true x h, verify-length v))
    size_is v (NonZero x) h = rw (bytes-non_zero c t v x, length-append) (omega (arith, size_is false x h, verify-length v))
    size_is v (ZeroNotEqual x) h = rw (bytes-zero_not_equal c t v x, length-append) (omega (arith, size_is false x h, verify-length v))
    size_is v (AndB x y) h =
        let b = and_both (has_entries c t x) (has_entries c t y) h in
        rw (bytes-and_b c t v x y, length-append, length-append) (omega (arith, size_is false x b.0, size_is false y b.1, verify-length v))
    size_is v (AndV x y) h =
        let b = and_both (has_entries c t x) (has_entries c t y) h in
        rw (bytes-and_v c t v x y, length-append) (omega (arith, size_is false x b.0, size_is v y b.1))
    size_is v (OrB x y) h =
        let b = and_both (has_entries c t x) (has_entries c t y) h in
        rw (bytes-or_b c t v x y, length-append, length-append) (omega (arith, size_is false x b.0, size_is false y b.1, verify-length v))
    size_is v (OrD x y) h =
        let b = and_both (has_entries c t x) (has_entries c t y) h in
        rw (bytes-or_d c t v x y, length-append, length-append) (omega (arith, size_is false x b.0, size_is false y b.1, verify-length v))
    size_is v (OrC x y) h =
        let b = and_both (has_entries c t x) (has_entries c t y) h in
        rw (bytes-or_c c t v x y, length-append, length-append) (omega (arith, size_is false x b.0, size_is false y b.1, verify-length v))
    size_is v (OrI x y) h =
        let b = and_both (has_entries c t x) (has_entries c t y) h in
        rw (bytes-or_i c t v x y, length-append, length-append) (omega (arith, size_is false x b.0, size_is false y b.1, verify-length v))
    size_is v (AndOr x y z) h =
        let b = and_both (has_entries c t x) _ h in
        let d = and_both (has_entries c t y) (has_entries c t z) b.1 in
        rw (bytes-and_or c t v x y z, length-append, length-append, length-append)
        (omega (arith, size_is false x b.0, size_is false y d.0, size_is false z d.1, verify-length v))
    size_is v (Thresh k xs) h =
        rw (bytes-thresh c t v k xs, length-append, length-append) (omega (arith, sum_is xs h, test-length 0x87 v))
    size_is v (Multi k keys) h =
        rw (bytes-multi c t v k keys, length-append, length-append, length-append) (omega (arith, keys_length keys h, test-length 0xae v))
    size_is v (MultiA k keys) h =
        rw (bytes-multi_a c t v k keys, length-append, length-append) (omega (arith, sig_sum-length keys h, test-length 0x9c v))

    sum_is : (xs : Fragments) → all_have_entries c t xs ≡ true → length (sum_bytes c t xs) ≡ sum_size c xs
    sum_is end h = rw (sum-end c t)
    sum_is (x ▹ xs) h =
        let b = and_both (has_entries c t x) (all_have_entries c t xs) h in
        rw (sum_more c t x xs, length-append) (omega (arith, size_is false x b.0, adds-are xs b.1))

    adds-are : (xs : Fragments) → all_have_entries c t xs ≡ true → length (adds_bytes c t xs) ≡ adds_size c xs
    adds-are end h = rw (adds-end c t)
    adds-are (x ▹ xs) h =
        let b = and_both (has_entries c t x) (all_have_entries c t xs) h in
        rw (adds-more c t x xs, length-append) (omega (arith, size_is false x b.0, adds-are xs b.1))

-- a VERIFY after it shortens nothing
module _ (c : Context) where
  pub size-grows : (v : Bool) (f : Fragment) → size_of c false f ≤ size_of c v f
  unfolding size_of
  size-grows v False = omega arith
  size-grows v True = omega arith
  size-grows v (PkK n) = omega arith
  size-grows v (PkH n) = omega arith
  size-grows v (Lock kind n) = omega arith
  size-grows v (Hash kind h) = omega arith
  size-grows v (Alt x) = omega arith
  size-grows v (Swap x) = omega (arith, size-grows v x)
  size-grows v (Check x) = omega arith
  size-grows v (DupIf x) = omega arith
  size-grows v (Verify x) = omega arith
  size-grows v (NonZero x) = omega arith
  size-grows v (ZeroNotEqual x) = omega arith
  size-grows v (AndB x y) = omega arith
  size-grows v (AndV x y) = omega (arith, size-grows v y)
  size-grows v (OrB x y) = omega arith
  size-grows v (OrD x y) = omega arith
  size-grows v (OrC x y) = omega arith
  size-grows v (OrI x y) = omega arith
  size-grows v (AndOr x y z) = omega arith
  size-grows v (Thresh k xs) = omega arith
  size-grows v (Multi k keys) = omega arith
  size-grows v (MultiA k keys) = omega arith
