-- Zeros in a list, and in the bytes of words. Assumes nothing.
use mathlib.Core.Bool.{Bool, true, false, ◌&&◌}
use mathlib.Core.List.{List, [], ◌∷◌, ◌++◌}
use mathlib.Core.Path.{◌≡◌, refl, sym, ap, ◌∙◌}
use Prim.Native.Nat.{ℕ, zero, suc, ◌+◌, ◌*◌, ◌-◌, ◌/◌, ◌%◌, ◌<◌, ◌≤◌}
use native.Mathlib.Omega.{arith}
use native.Mathlib.Numerals.{add-one}
use borrow.Author.Tests.{eqb-true, eq-eqb, ne_eqb}
use lib.Dec.{eqb}
use lib.ListN.{length, get_or, take, drop, replicate}
use Rattle.std.specs.Prelude.{IsTrue, ◌↔◌, EachIndex, slice_index}
use lib.Seq.{drop-cons}
use Rattle.records.proofs.Forms.{and_left, and_right}
use Rattle.words.specs.Bytes.{little, bytes_of}
use Rattle.chosen.specs.Form.{bytes_in}
use Rattle.chosen.specs.Chosen.{all_zero}
use Rattle.chosen.proofs.Words.{little-bytes}

pub zero-append : (xs ys : List ℕ) → all_zero (xs ++ ys) ≡ (all_zero xs && all_zero ys)
unfolding all_zero
zero-append [] ys = refl
zero-append (x ∷ xs) ys = rw (zero-append xs ys) (regroup (eqb x 0) (all_zero xs) (all_zero ys))
  where
    regroup : (a b c : Bool) → (a && (b && c)) ≡ (a && b && c)
    regroup true b c = refl
    regroup false b c = refl

pub zero-bytes : (width : ℕ) → all_zero (bytes_of width 0) ≡ true
unfolding all_zero bytes_of
zero-bytes zero = refl
zero-bytes (suc width) = zero-bytes width

zero-little : (bytes : List ℕ) → all_zero bytes ≡ true → little bytes ≡ 0
unfolding all_zero little
zero-little [] e = refl
zero-little (b ∷ bytes) e =
    let first = eqb-true b 0 (and_left (eqb b 0) (all_zero bytes) e) in
    let others = zero-little bytes (and_right (eqb b 0) (all_zero bytes) e) in
    omega arith

pub some_bytes : (w : ℕ) → 0 < w → w < 18446744073709551616 → all_zero (bytes_of 8 w) ≡ false
some_bytes w l h = by-test (all_zero (bytes_of 8 w)) refl
  where
    by-test : (t : Bool) → all_zero (bytes_of 8 w) ≡ t → t ≡ false
    by-test true e = absurd (omega (arith, zero-little (bytes_of 8 w) e, little-bytes 8 w h))
    by-test false e = refl

-- ---- one after another

pub zero-next : (s : List ℕ) (i : ℕ) → i < length s → get_or s i 0 ≡ 0 → all_zero (drop (i + 1) s) ≡ all_zero (drop i s)
unfolding all_zero
zero-next s i h e = rw (add-one i, drop-cons s i 0 h, e)

pub zero-not : (s : List ℕ) (i : ℕ) → i < length s → (get_or s i 0 ≡ 0 → ⊥) → all_zero (drop i s) ≡ false
unfolding all_zero
zero-not s i h n = rw (drop-cons s i 0 h, ne_eqb (get_or s i 0) 0 n)

pub zero-done : (s : List ℕ) (i : ℕ) → length s ≤ i → all_zero (drop i s) ≡ true
unfolding all_zero
zero-done [] zero h = refl
zero-done [] (suc i) h = refl
zero-done (x ∷ s) zero h = absurd (omega arith)
zero-done (x ∷ s) (suc i) h = zero-done s i (omega arith)

-- ---- word by word

module _ (words : List ℕ) (i : ℕ) (h : i < length words) where
  first_word : bytes_in (drop i words) ≡ bytes_of 8 (get_or words i 0) ++ bytes_in (drop (i + 1) words)
  unfolding bytes_in
  first_word = rw (add-one i, drop-cons words i 0 h)

  pub word_next : get_or words i 0 ≡ 0 → all_zero (bytes_in (drop (i + 1) words)) ≡ all_zero (bytes_in (drop i words))
  word_next e =
      sym (ap all_zero first_word ∙ zero-append (bytes_of 8 (get_or words i 0)) (bytes_in (drop (i + 1) words))
      ∙ ap (λ (t : Bool). t && all_zero (bytes_in (drop (i + 1) words))) (ap (λ (w : ℕ). all_zero (bytes_of 8 w)) e ∙ zero-bytes 8))

  pub word-not : (get_or words i 0 ≡ 0 → ⊥) → get_or words i 0 < 18446744073709551616 → all_zero (bytes_in (drop i words)) ≡ false
  word-not n l =
      ap all_zero first_word ∙ zero-append (bytes_of 8 (get_or words i 0)) (bytes_in (drop (i + 1) words))
      ∙ ap (λ (t : Bool). t && all_zero (bytes_in (drop (i + 1) words))) (some_bytes (get_or words i 0) (positive (get_or words i 0) n) l)
    where
      positive : (w : ℕ) → (w ≡ 0 → ⊥) → 0 < w
      positive zero n = absurd (n refl)
      positive (suc w) n = omega arith

pub word-done : (words : List ℕ) (i : ℕ) → length words ≤ i → all_zero (bytes_in (drop i words)) ≡ true
unfolding all_zero bytes_in
word-done [] zero h = refl
word-done [] (suc i) h = refl
word-done (w ∷ words) zero h = absurd (omega arith)
word-done (w ∷ words) (suc i) h = word-done words i (omega arith)

-- zeros are as many zeros
pub zeros-are : (s : List ℕ) → all_zero s ≡ true → s ≡ replicate (length s) 0
unfolding all_zero
zeros-are [] e = refl
zeros-are (x ∷ s) e =
    let first = eqb-true x 0 (and_left (eqb x 0) (all_zero s) e) in
    rw first (ap (λ (r : List ℕ). 0 ∷ r) (zeros-are s (and_right (eqb x 0) (all_zero s) e)))

pub zeros-zero : (n : ℕ) → all_zero (replicate n 0) ≡ true
unfolding all_zero
zeros-zero zero = refl
zeros-zero (suc n) = zeros-zero n

pub zero-drop : (n : ℕ) (s : List ℕ) → all_zero s ≡ true → all_zero (drop n s) ≡ true
unfolding all_zero
zero-drop zero s e = e
zero-drop (suc n) [] e = refl
zero-drop (suc n) (x ∷ s) e = zero-drop n s (and_right (eqb x 0) (all_zero s) e)

-- a test of each word, told by what holds at each index, is that of all their bytes
each-zero : (s : List ℕ) → ((k : ℕ) → k < length s → get_or s k 0 ≡ 0) → all_zero (bytes_in s) ≡ true
unfolding all_zero bytes_in
each-zero [] g = refl
each-zero (w ∷ s) g =
    zero-append (bytes_of 8 w) (bytes_in s)
    ∙ rw (g 0 (omega arith), zero-bytes 8) (each-zero s (λ k h. g (suc k) (omega arith)))

zero-each : (s : List ℕ) → ((k : ℕ) → get_or s k 0 < 18446744073709551616) → all_zero (bytes_in s) ≡ true → (k : ℕ) → k < length s → get_or s k 0 ≡ 0
unfolding all_zero bytes_in
zero-each [] f e k h = absurd (omega arith)
zero-each (w ∷ s) f e zero h =
    let both = sym (zero-append (bytes_of 8 w) (bytes_in s)) ∙ e in
    sym (little-bytes 8 w (f 0)) ∙ zero-little (bytes_of 8 w) (and_left (all_zero (bytes_of 8 w)) (all_zero (bytes_in s)) both)
zero-each (w ∷ s) f e (suc k) h =
    let both = sym (zero-append (bytes_of 8 w) (bytes_in s)) ∙ e in
    zero-each s (λ j. f (suc j)) (and_right (all_zero (bytes_of 8 w)) (all_zero (bytes_in s)) both) k (omega arith)

pub words-tested : (words : List ℕ) (b : Bool) → IsTrue b ↔ EachIndex words (λ k. get_or words k 0 ≡ 0)
    → ((k : ℕ) → get_or words k 0 < 18446744073709551616) → b ≡ all_zero (bytes_in words)
words-tested words true h f = sym (each-zero words (h.0 refl))
words-tested words false h f = by-test (all_zero (bytes_in words)) refl
  where
    by-test : (t : Bool) → all_zero (bytes_in words) ≡ t → false ≡ t
    by-test true e = h.1 (zero-each words f e)
    by-test false e = refl
