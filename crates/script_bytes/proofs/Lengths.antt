-- The figure that the cost counts a script with is its length. Assumes nothing.
use Rattle.correctness.specs.declared.TypeError.TheVariants as TypeError
use Rattle.correctness.specs.declared.TypeError.{TypeError}
use Prim.Native.Nat.{ℕ, suc, ◌+◌, ◌*◌, ◌≤◌}
use native.Mathlib.Omega.{arith}
use mathlib.Core.Bool.{Bool, true, false, not, ◌&&◌}
use mathlib.Core.List.{List, [], ◌∷◌}
use Rattle.std.specs.Prelude.{Option, None, Some, Result, Ok, Err}
use mathlib.Core.Path.{◌≡◌, refl, sym, ◌∙◌, ap}
use borrow.Author.Tests.{le-ltb, lt-ltb, le-leb, lt-leb}
use lib.ListN.{length, length-append}
use Rattle.words.specs.Bytes as words
use Rattle.records.specs.Numbers.{max_lock}
use Rattle.contexts.specs.declared.Context.{Context}
use Rattle.contexts.specs.declared.Context.TheVariants.{Segwitv0, Tap}
use Rattle.contexts.specs.Leaves.{LockKind, After, Older, HashKind, Sha256, Hash256, Ripemd160, Hash160}
use Rattle.types.specs.declared.«Type».{«Type»}
use Rattle.types.specs.TypeRules as rule
use Rattle.figures.specs.declared.ExtData.{ExtData}
use Rattle.figures.specs.Rules.{num, script_num_size, key_bytes, num_cost, false_ext, true_ext, pk_k, pk_h, multi, multi_a, sha256, hash256, ripemd160, hash160}
use Rattle.figures.specs.Rules.{after, older, cast_alt, cast_swap, cast_check, cast_dupif, cast_verify, cast_nonzero, cast_zeronotequal}
use Rattle.figures.specs.Rules.{and_b, and_v, or_b, or_d, or_c, or_i, and_or}
use Rattle.thresholds.specs.Threshold.{costs, threshold}
use Rattle.trees.specs.Fragment.{Fragment, Fragments, end, ◌▹◌, to_list, False, True, PkK, PkH, Lock, Hash}
use Rattle.trees.specs.Fragment.{Alt, Swap, Check, DupIf, Verify, NonZero, ZeroNotEqual}
use Rattle.trees.specs.Fragment.{AndB, AndV, OrB, OrD, OrC, OrI, AndOr, Thresh, Multi, MultiA}
use Rattle.trees.specs.Typing.{type_of, types_of, ◌>>=◌, all_typed, and_all, in_segwitv0, in_tap}
use Rattle.writing.specs.WellFormed.{IsThreshold, WellFormed, AllWellFormed}
use Rattle.definition.specs.Candidates.{hash_ext}
use Rattle.definition_laws.specs.Laws.{figures_of, figures_of_all}
use Rattle.script_machine.specs.Numbers.{write, signed, digits}
use Rattle.script_machine.specs.Translation.{⟦◌⟧}
use Rattle.script_bytes.specs.Tables.{Tables, key_size, hash_size, hash_table, key, has_key, has_key_hash, has_hash}
use Rattle.script_bytes.specs.Encoding.{push_bytes, encode, script_bytes}
use Rattle.script_bytes.specs.ScriptOf.{has_keys, has_entries, all_have_entries}
use Rattle.script_bytes.specs.Layout.{bytes_of, verify_byte, test_byte, number_bytes, adds_bytes, keys_bytes, sig_adds_bytes, sig_sum_bytes}
use Rattle.script_bytes.specs.Lengths.{SameLength, SameAsCosted, Differences}
use Rattle.script_bytes.proofs.Merging.{bytes-false, bytes-true, bytes-pk_k, bytes-pk_h, bytes-lock, bytes-hash}
use Rattle.script_bytes.proofs.Merging.{bytes-alt, bytes-swap, bytes-check, bytes-dup_if, bytes-verify, bytes-non_zero, bytes-zero_not_equal}
use Rattle.script_bytes.proofs.Merging.{bytes-and_b, bytes-and_v, bytes-or_b, bytes-or_d, bytes-or_c, bytes-or_i, bytes-and_or}
use Rattle.script_bytes.proofs.Merging.{sum_more, adds-end, adds-more, bytes-thresh, bytes-multi, bytes-multi_a, script-bytes}
use Rattle.script_bytes.proofs.Known.{and_both, known}
use Rattle.script_bytes.proofs.Pushes.{Range, is-0, to-16, in-1, in-2, in-3, in-4, range, number-0, number_small, number-1, number-2, number-3}
use Rattle.script_bytes.proofs.Pushes.{number-4, long-key, long-hash, push-length}

-- ---- numbers

number-length : (n : ℕ) → Range n → length (number_bytes n) ≡ script_num_size n
unfolding words.bytes_of
number-length n (is-0 e) = rw (e, number-0)
number-length n (to-16 l h) = rw (number_small n l h, le-leb n 16 h)
number-length n (in-1 l h) = rw (number-1 n l h, lt-leb n 16 l, lt-ltb n 0x80 h)
number-length n (in-2 l h) = rw (number-2 n l h, lt-leb n 16 (omega arith), le-ltb n 0x80 l, lt-ltb n 0x8000 h)
number-length n (in-3 l h) =
    rw (number-3 n l h, lt-leb n 16 (omega arith), le-ltb n 0x80 (omega arith), le-ltb n 0x8000 l, lt-ltb n 0x80_0000 h)
number-length n (in-4 l h) =
    rw (
      number-4 n l h,
      lt-leb n 16 (omega arith),
      le-ltb n 0x80 (omega arith),
      le-ltb n 0x8000 (omega arith),
      le-ltb n 0x80_0000 l,
      lt-ltb n 0x8000_0000 h,
    )

-- ---- what a VERIFY adds: nothing where the last opcode has a VERIFY form

abbrev extra : (verified free : Bool) → ℕ
extra false free = 0
extra true free = num (not free)

verify-length : (v : Bool) → length (verify_byte v) ≡ extra v false
verify-length true = refl
verify-length false = refl

test-length : (n : ℕ) (v : Bool) → length (test_byte n v) ≡ suc (extra v true)
test-length n true = refl
test-length n false = refl

-- ---- the sizes of keys and hashes, as the figures have them

key-size : (c : Context) → suc (key_size c) ≡ key_bytes c
key-size Segwitv0 = refl
key-size Tap = refl

hash-size : (kind : HashKind) → hash_size kind + 7 ≡ (hash_ext kind).pk_cost
unfolding sha256 hash256 ripemd160 hash160
hash-size Sha256 = refl
hash-size Hash256 = refl
hash-size Ripemd160 = refl
hash-size Hash160 = refl

hash-free : (kind : HashKind) → (hash_ext kind).has_free_verify ≡ true
unfolding sha256 hash256 ripemd160 hash160
hash-free Sha256 = refl
hash-free Hash256 = refl
hash-free Ripemd160 = refl
hash-free Hash160 = refl

-- ---- each fragment's bytes, by those of its children

record Sized (c : Context) (t : Tables) (f : Fragment) : Type 0 where
  size : (v : Bool) → length (bytes_of c t v f) ≡ (figures_of c f).pk_cost + extra v (figures_of c f).has_free_verify

module _ (c : Context) (t : Tables) where
  false-sized : Sized c t False
  unfolding figures_of false_ext
  false-sized = record { size = λ v. rw (bytes-false c t v) (omega (arith, verify-length v)) }

  true-sized : Sized c t True
  unfolding figures_of true_ext
  true-sized = record { size = λ v. rw (bytes-true c t v) (omega (arith, verify-length v)) }

  key-length : (i : ℕ) → has_key c t i ≡ true → length (push_bytes (key c t i)) ≡ key_bytes c
  key-length i h = push-length (key_size c) t.keys i (long-key c) h ∙ key-size c

  pk_k-sized : (i : ℕ) → has_key c t i ≡ true → Sized c t (PkK i)
  unfolding figures_of pk_k
  pk_k-sized i h = record { size = λ v. rw (bytes-pk_k c t v i, length-append) (omega (arith, key-length i h, verify-length v)) }

  pk_h-sized : (i : ℕ) → has_key_hash t i ≡ true → Sized c t (PkH i)
  unfolding figures_of pk_h
  pk_h-sized i h = record {
    size = λ v. rw (bytes-pk_h c t v i, length-append) (omega (arith, push-length 20 t.key_hashes i (omega arith) h, verify-length v));
  }

  lock-sized : (kind : LockKind) (n : ℕ) → n ≤ max_lock → Sized c t (Lock kind n)
  unfolding figures_of after older
  lock-sized After n l = record {
    size = λ v. rw (bytes-lock c t v After n, length-append) (omega (arith, number-length n (range n (omega arith)), verify-length v));
  }
  lock-sized Older n l = record {
    size = λ v. rw (bytes-lock c t v Older n, length-append) (omega (arith, number-length n (range n (omega arith)), verify-length v));
  }

  hash-sized : (kind : HashKind) (i : ℕ) → has_hash t kind i ≡ true → Sized c t (Hash kind i)
  unfolding figures_of
  hash-sized kind i h = record {
    size = λ v.
        rw (bytes-hash c t v kind i, length-append, hash-free kind)
        (omega (arith, push-length (hash_size kind) (hash_table kind t) i (long-hash kind) h, hash-size kind, test-length 0x87 v));
  }

  module _ (x : Fragment) (sx : Sized c t x) where
    alt-sized : Sized c t (Alt x)
    unfolding figures_of cast_alt
    alt-sized = record { size = λ v. rw (bytes-alt c t v x, length-append) (omega (arith, sx.size false, verify-length v)) }

    swap-sized : Sized c t (Swap x)
    unfolding figures_of cast_swap
    swap-sized = record { size = λ v. rw (bytes-swap c t v x) (omega (arith, sx.size v)) }

    check-sized : Sized c t (Check x)
    unfolding figures_of cast_check
    check-sized = record { size = λ v. rw (bytes-check c t v x, length-append) (omega (arith, sx.size false, test-length 0xac v)) }

    dup_if-sized : Sized c t (DupIf x)
    unfolding figures_of cast_dupif
    dup_if-sized = record { size = λ v. rw (bytes-dup_if c t v x, length-append) (omega (arith, sx.size false, verify-length v)) }

    verify-sized : Sized c t (Verify x)
    unfolding figures_of cast_verify
    verify-sized = record { size = λ v. rw (bytes-verify c t v x, length-append) (omega (arith, sx.size true, verify-length v)) }

    non_zero-sized : Sized c t (NonZero x)
    unfolding figures_of cast_nonzero
    non_zero-sized = record { size = λ v. rw (bytes-non_zero c t v x, length-append) (omega (arith, sx.size false, verify-length v)) }

    zero_not_equal-sized : Sized c t (ZeroNotEqual x)
    unfolding figures_of cast_zeronotequal
    zero_not_equal-sized = record { size = λ v. rw (bytes-zero_not_equal c t v x, length-append) (omega (arith, sx.size false, verify-length v)) }

    module _ (y : Fragment) (sy : Sized c t y) where
      and_b-sized : Sized c t (AndB x y)
      unfolding figures_of and_b
      and_b-sized = record {
        size = λ v. rw (bytes-and_b c t v x y, length-append, length-append) (omega (arith, sx.size false, sy.size false, verify-length v));
      }

      and_v-sized : Sized c t (AndV x y)
      unfolding figures_of and_v
      and_v-sized = record { size = λ v. rw (bytes-and_v c t v x y, length-append) (omega (arith, sx.size false, sy.size v)) }

      or_b-sized : Sized c t (OrB x y)
      unfolding figures_of or_b
      or_b-sized = record {
        size = λ v. rw (bytes-or_b c t v x y, length-append, length-append) (omega (arith, sx.size false, sy.size false, verify-length v));
      }

      or_d-sized : Sized c t (OrD x y)
      unfolding figures_of or_d
      or_d-sized = record {
        size = λ v. rw (bytes-or_d c t v x y, length-append, length-append) (omega (arith, sx.size false, sy.size false, verify-length v));
      }

      or_c-sized : Sized c t (OrC x y)
      unfolding figures_of or_c
      or_c-sized = record {
        size = λ v. rw (bytes-or_c c t v x y, length-append, length-append) (omega (arith, sx.size false, sy.size false, verify-length v));
      }

      or_i-sized : Sized c t (OrI x y)
      unfolding figures_of or_i
      or_i-sized = record {
        size = λ v. rw (bytes-or_i c t v x y, length-append, length-append) (omega (arith, sx.size false, sy.size false, verify-length v));
      }

      and_or-sized : (z : Fragment) → Sized c t z → Sized c t (AndOr x y z)
      unfolding figures_of and_or
      and_or-sized z sz = record {
        size = λ v.
            rw (bytes-and_or c t v x y z, length-append, length-append, length-append)
            (omega (arith, sx.size false, sy.size false, sz.size false, verify-length v));
      }

  -- ---- thresholds

  -- the children of a Thresh after the first
  AllSized : Fragments → Type 0
  AllSized end = Unit
  AllSized (x ▹ xs) = Sized c t x × AllSized xs

  adds-length : (start : ℕ) (xs : Fragments) → AllSized xs
      → costs start (figures_of_all c xs) + length (figures_of_all c xs) ≡ start + length (adds_bytes c t xs)
  unfolding AllSized figures_of_all
  adds-length start end s = rw (adds-end c t)
  adds-length start (x ▹ xs) s =
      rw (adds-more c t x xs, length-append)
      (omega (arith, s.0.size false, adds-length (start + (figures_of c x).pk_cost) xs s.1))

  thresh-sized : (k : ℕ) (xs : Fragments) → k ≤ max_lock → 1 ≤ length (to_list xs) → AllSized xs → Sized c t (Thresh k xs)
  unfolding AllSized figures_of figures_of_all threshold to_list
  thresh-sized k end l n s = absurd (omega arith)
  thresh-sized k (x ▹ xs) l n s = record {
    size = λ v.
        rw (bytes-thresh c t v k (x ▹ xs), sum_more c t x xs, length-append, length-append, length-append)
        (omega (
          arith,
          s.0.size false,
          number-length k (range k (omega arith)),
          test-length 0x87 v,
          adds-length (1 + script_num_size k + (figures_of c x).pk_cost) xs s.1,
        ));
  }

  keys_length : (keys : List ℕ) → has_keys c t keys ≡ true → length (keys_bytes c t keys) ≡ key_bytes c * length keys
  unfolding has_keys keys_bytes
  keys_length [] h = omega arith
  keys_length (i ∷ is) h =
      let both = and_both (has_key c t i) (has_keys c t is) h in
      rw length-append (omega (arith, key-length i both.0, keys_length is both.1))

  sig_adds-length : (keys : List ℕ) → has_keys c t keys ≡ true → length (sig_adds_bytes c t keys) ≡ suc (key_bytes c) * length keys
  unfolding has_keys sig_adds_bytes
  sig_adds-length [] h = omega arith
  sig_adds-length (i ∷ is) h =
      let both = and_both (has_key c t i) (has_keys c t is) h in
      rw length-append (omega (arith, key-length i both.0, sig_adds-length is both.1))

  sig_sum-length : (keys : List ℕ) → has_keys c t keys ≡ true → length (sig_sum_bytes c t keys) ≡ suc (key_bytes c) * length keys
  unfolding has_keys sig_sum_bytes
  sig_sum-length [] h = omega arith
  sig_sum-length (i ∷ is) h =
      let both = and_both (has_key c t i) (has_keys c t is) h in
      rw length-append (omega (arith, key-length i both.0, sig_adds-length is both.1))

-- k and n take a byte each
small-cost : (k n : ℕ) → k ≤ 16 → n ≤ 16 → num_cost k n ≡ 2
small-cost k n l h = rw (le-ltb 16 k l, le-ltb 16 n h)

multi-sized : (t : Tables) (k : ℕ) (keys : List ℕ) → IsThreshold k (length keys) → has_keys Segwitv0 t keys ≡ true
    → Sized Segwitv0 t (Multi k keys)
unfolding figures_of multi
multi-sized t k keys w h = record {
  size = λ v.
      rw (
        bytes-multi Segwitv0 t v k keys,
        length-append,
        length-append,
        length-append,
        number_small k w.0 (omega (arith, w)),
        number_small (length keys) (omega (arith, w)) w.2,
      )
      (omega (arith, keys_length Segwitv0 t keys h, small-cost k (length keys) (omega (arith, w)) w.2, test-length 0xae v));
}

multi_a-sized : (t : Tables) (k : ℕ) (keys : List ℕ) → IsThreshold k (length keys) → has_keys Tap t keys ≡ true → Sized Tap t (MultiA k keys)
unfolding figures_of multi_a
multi_a-sized t k keys w h = record {
  size = λ v.
      rw (bytes-multi_a Tap t v k keys, length-append, length-append, number_small k w.0 (omega (arith, w)))
      (omega (arith, sig_sum-length Tap t keys h, small-cost k (length keys) (omega (arith, w)) w.2, test-length 0x9c v, w));
}

-- ---- every tree that is well formed, has its entries and is well typed

abbrev IfOk : Result «Type» TypeError → Type 0 → Type 0
IfOk (Ok ty) P = P
IfOk (Err TypeError.IllTyped) P = Unit {0}

abbrev IfAll : Option (List «Type») → Type 0 → Type 0
IfAll (Some ts) P = P
IfAll None P = Unit {0}

always : (r : Result «Type» TypeError) {P : Type 0} → P → IfOk r P
always (Ok ty) p = p
always (Err TypeError.IllTyped) p = tt

-- a rule of one, two or three children
next : (r : Result «Type» TypeError) (k : «Type» → Result «Type» TypeError) (P Q : Type 0) → IfOk r P → ((ty : «Type») → P → IfOk (k ty) Q) → IfOk (r >>= k) Q
next (Ok ty) k P Q p f = f ty p
next (Err TypeError.IllTyped) k P Q p f = tt

module _ (c : Context) (t : Tables) where
  one : (x f : Fragment) (k : «Type» → Result «Type» TypeError) → IfOk (type_of c x) (Sized c t x) → (Sized c t x → Sized c t f)
      → IfOk (type_of c x >>= k) (Sized c t f)
  one x f k p h = next (type_of c x) k (Sized c t x) (Sized c t f) p λ ty q. always (k ty) (h q)

  two : (x y f : Fragment) (k : «Type» → «Type» → Result «Type» TypeError) → IfOk (type_of c x) (Sized c t x) → IfOk (type_of c y) (Sized c t y)
      → (Sized c t x → Sized c t y → Sized c t f) → IfOk (type_of c x >>= λ s. type_of c y >>= λ u. k s u) (Sized c t f)
  two x y f k p q h =
      next (type_of c x) (λ s. type_of c y >>= λ u. k s u) (Sized c t x) (Sized c t f) p λ s a. one y f (k s) q (h a)

  three : (x y z f : Fragment) (k : «Type» → «Type» → «Type» → Result «Type» TypeError)
      → IfOk (type_of c x) (Sized c t x) → IfOk (type_of c y) (Sized c t y) → IfOk (type_of c z) (Sized c t z)
      → (Sized c t x → Sized c t y → Sized c t z → Sized c t f)
      → IfOk (type_of c x >>= λ s. type_of c y >>= λ u. type_of c z >>= λ v. k s u v) (Sized c t f)
  three x y z f k p q r h =
      next (type_of c x) (λ s. type_of c y >>= λ u. type_of c z >>= λ v. k s u v) (Sized c t x) (Sized c t f) p λ s a. two y z f (k s) q r (h a)

  more : (r : Result «Type» TypeError) (ts : Option (List «Type»)) (P Q : Type 0) → IfOk r P → IfAll ts Q → IfAll (and_all r ts) (P × Q)
  more (Ok ty) (Some ts) P Q p q = (p, q)
  more (Ok ty) None P Q p q = tt
  more (Err TypeError.IllTyped) ts P Q p q = tt

  all : (ts : Option (List «Type»)) (k : List «Type» → Result «Type» TypeError) (P Q : Type 0) → IfAll ts P → (P → Q) → IfOk (all_typed ts k) Q
  all (Some ts) k P Q p h = always (k ts) (h p)
  all None k P Q p h = tt

-- Multi is well typed in context 0, MultiA in context 1
multi-typed : (c : Context) (t : Tables) (k : ℕ) (keys : List ℕ) → IsThreshold k (length keys) → has_keys c t keys ≡ true
    → IfOk (in_segwitv0 c rule.multi) (Sized c t (Multi k keys))
multi-typed Segwitv0 t k keys w h = multi-sized t k keys w h
multi-typed Tap t k keys w h = tt

multi_a-typed : (c : Context) (t : Tables) (k : ℕ) (keys : List ℕ) → IsThreshold k (length keys) → has_keys c t keys ≡ true
    → IfOk (in_tap c rule.multi_a) (Sized c t (MultiA k keys))
multi_a-typed Segwitv0 t k keys w h = tt
multi_a-typed Tap t k keys w h = multi_a-sized t k keys w h

module _ (c : Context) (t : Tables) where
  mutual
    unfolding type_of types_of WellFormed AllWellFormed has_entries all_have_entries AllSized

    sized : (f : Fragment) → WellFormed f → has_entries c t f ≡ true → IfOk (type_of c f) (Sized c t f)
    sized False w h = false-sized c t
    sized True w h = true-sized c t
    sized (PkK i) w h = pk_k-sized c t i h
    sized (PkH i) w h = pk_h-sized c t i h
    sized (Lock kind n) w h = lock-sized c t kind n w.1
    sized (Hash kind i) w h = hash-sized c t kind i h
    sized (Alt x) w h = one c t x (Alt x) rule.cast_alt (sized x w h) (alt-sized c t x)
    sized (Swap x) w h = one c t x (Swap x) rule.cast_swap (sized x w h) (swap-sized c t x)
    sized (Check x) w h = one c t x (Check x) rule.cast_check (sized x w h) (check-sized c t x)
    sized (DupIf x) w h = one c t x (DupIf x) (rule.cast_dupif c) (sized x w h) (dup_if-sized c t x)
    sized (Verify x) w h = one c t x (Verify x) rule.cast_verify (sized x w h) (verify-sized c t x)
    sized (NonZero x) w h = one c t x (NonZero x) rule.cast_nonzero (sized x w h) (non_zero-sized c t x)
    sized (ZeroNotEqual x) w h = one c t x (ZeroNotEqual x) rule.cast_zeronotequal (sized x w h) (zero_not_equal-sized c t x)
    sized (AndB x y) w h =
        let b = and_both (has_entries c t x) (has_entries c t y) h in
        two c t x y (AndB x y) rule.and_b (sized x w.0 b.0) (sized y w.1 b.1) λ p q. and_b-sized c t x p y q
    sized (AndV x y) w h =
        let b = and_both (has_entries c t x) (has_entries c t y) h in
        two c t x y (AndV x y) rule.and_v (sized x w.0 b.0) (sized y w.1 b.1) λ p q. and_v-sized c t x p y q
    sized (OrB x y) w h =
        let b = and_both (has_entries c t x) (has_entries c t y) h in
        two c t x y (OrB x y) rule.or_b (sized x w.0 b.0) (sized y w.1 b.1) λ p q. or_b-sized c t x p y q
    sized (OrD x y) w h =
        let b = and_both (has_entries c t x) (has_entries c t y) h in
        two c t x y (OrD x y) rule.or_d (sized x w.0 b.0) (sized y w.1 b.1) λ p q. or_d-sized c t x p y q
    sized (OrC x y) w h =
        let b = and_both (has_entries c t x) (has_entries c t y) h in
        two c t x y (OrC x y) rule.or_c (sized x w.0 b.0) (sized y w.1 b.1) λ p q. or_c-sized c t x p y q
    sized (OrI x y) w h =
        let b = and_both (has_entries c t x) (has_entries c t y) h in
        two c t x y (OrI x y) rule.or_i (sized x w.0 b.0) (sized y w.1 b.1) λ p q. or_i-sized c t x p y q
    sized (AndOr x y z) w h =
        let b = and_both (has_entries c t x) (has_entries c t y && has_entries c t z) h in
        let d = and_both (has_entries c t y) (has_entries c t z) b.1 in
        three c t x y z (AndOr x y z) rule.and_or (sized x w.0 b.0) (sized y w.1 d.0) (sized z w.2 d.1)
        λ p q r. and_or-sized c t x p y q z r
    sized (Thresh k xs) w h =
        all c t (types_of c xs) (λ ts. rule.threshold k ts) (AllSized c t xs) (Sized c t (Thresh k xs)) (all-sized xs w.1 h)
        λ s. thresh-sized c t k xs (omega (arith, w.0)) (omega (arith, w.0)) s
    sized (Multi k keys) w h = multi-typed c t k keys w.0 h
    sized (MultiA k keys) w h = multi_a-typed c t k keys w.0 h

    all-sized : (xs : Fragments) → AllWellFormed xs → all_have_entries c t xs ≡ true → IfAll (types_of c xs) (AllSized c t xs)
    all-sized end w h = tt
    all-sized (x ▹ xs) w h =
        let b = and_both (has_entries c t x) (all_have_entries c t xs) h in
        more c t (type_of c x) (types_of c xs) (Sized c t x) (AllSized c t xs) (sized x w.0 b.0) (all-sized xs w.1 b.1)

-- a tree of which all that is known
tree-length : (c : Context) (t : Tables) (f : Fragment) {ty : «Type»} → WellFormed f → has_entries c t f ≡ true → type_of c f ≡ Ok ty
    → length (script_bytes c t f) ≡ (figures_of c f).pk_cost
tree-length c t f w h e =
    let s : Sized c t f = rw e at (sized c t f w h) in
    ap length (script-bytes c t f) ∙ omega (arith, s.size false)

pub same_length : SameLength
same_length c t x bytes w =
    let k = known c t x bytes w in
    sym (ap length k.are) ∙ tree-length c t x.tree k.well k.entries k.typed

pub same-as-costed : SameAsCosted
same-as-costed c t x g h =
    tree-length c t x.tree g.formed h g.typed ∙ ap (λ (e : ExtData). e.pk_cost) (sym g.figured)

pub differences : Differences
unfolding figures_of multi multi_a after script_bytes encode push_bytes ⟦◌⟧ write signed digits
differences = record {
  multi-in-1 = (refl, refl);
  multi_a-in-0 = (refl, refl);
  seventeen-keys = (refl, refl);
  large-lock = (refl, refl);
}
