-- The bytes of an index, one by one. Assumes nothing.
use Prim.Native.Nat.{ℕ, zero, suc, ◌+◌, ◌-◌, ◌*◌, ◌/◌, ◌%◌, ◌<◌}
use mathlib.Core.Bool.{Bool, true, false}
use mathlib.Core.List.{List, [], ◌∷◌, ◌++◌, append_assoc}
use mathlib.Core.Path.{◌≡◌, refl, sym, ap, subst, ◌∙◌}
use native.Mathlib.Numerals.{add-one}
use native.Mathlib.Nat.{add-mul-mod_self_right}
use native.Mathlib.Omega.{arith}
use borrow.Author.Tests.{ltb-true, ltb-false}
use lib.Dec.{ltb}
use Rattle.std.proofs.lemmas.List.{append-nil}
use lib.ListN.{length, get_or, set, take, drop, length-append, get_or-append, drop_of_length-le}
use lib.Seq.{set-append_seam, drop-cons, take-suc, take-length, length-take-le}
use Rattle.words.specs.Bytes.{bytes_of}
use Rattle.words.proofs.Packing.{digit, rest}
use Rattle.index_memory.specs.Entries.{Entry, entry_bytes, entries_bytes, part}
use Rattle.index_memory.specs.Entries as Entries
use Rattle.index_memory.specs.Memory.{size_in, first_in, subtree_in, entry_in}
use Rattle.types.specs.TypeOrder.{pack}
use Rattle.trees.specs.declared.Subtree.{Subtree}

pub entry-long : (e : Entry) → length (entry_bytes e) ≡ 16
unfolding bytes_of
entry-long e = refl

pub entries-long : (e : ℕ → Entry) (n : ℕ) → length (entries_bytes e n) ≡ 16 * n
unfolding entries_bytes
entries-long e zero = refl
entries-long e (suc n) = length-append (entries_bytes e n) (entry_bytes (e n)) ∙ omega (arith, entries-long e n, entry-long (e n))

of-sixteen : (e : Entry) (k : ℕ) → k < 16 → get_or (entry_bytes e) k 0 ≡ Entries.digit (k % 4) (part e (k / 4))
unfolding bytes_of
of-sixteen e zero h = refl
of-sixteen e (suc zero) h = refl
of-sixteen e (suc (suc zero)) h = refl
of-sixteen e (suc (suc (suc zero))) h = refl
of-sixteen e (suc (suc (suc (suc zero)))) h = refl
of-sixteen e (suc (suc (suc (suc (suc zero))))) h = refl
of-sixteen e (suc (suc (suc (suc (suc (suc zero)))))) h = refl
of-sixteen e (suc (suc (suc (suc (suc (suc (suc zero))))))) h = refl
of-sixteen e (suc (suc (suc (suc (suc (suc (suc (suc zero)))))))) h = refl
of-sixteen e (suc (suc (suc (suc (suc (suc (suc (suc (suc zero))))))))) h = refl
of-sixteen e (suc (suc (suc (suc (suc (suc (suc (suc (suc (suc zero)))))))))) h = refl
of-sixteen e (suc (suc (suc (suc (suc (suc (suc (suc (suc (suc (suc zero))))))))))) h = refl
of-sixteen e (suc (suc (suc (suc (suc (suc (suc (suc (suc (suc (suc (suc zero)))))))))))) h = refl
of-sixteen e (suc (suc (suc (suc (suc (suc (suc (suc (suc (suc (suc (suc (suc zero))))))))))))) h = refl
of-sixteen e (suc (suc (suc (suc (suc (suc (suc (suc (suc (suc (suc (suc (suc (suc zero)))))))))))))) h = refl
of-sixteen e (suc (suc (suc (suc (suc (suc (suc (suc (suc (suc (suc (suc (suc (suc (suc zero))))))))))))))) h = refl
of-sixteen e (suc (suc (suc (suc (suc (suc (suc (suc (suc (suc (suc (suc (suc (suc (suc (suc k)))))))))))))))) h = absurd (omega arith)

past-append : (xs ys : List ℕ) (k : ℕ) → get_or (xs ++ ys) (length xs + k) 0 ≡ get_or ys k 0
past-append [] ys k =
    let z : 0 + k ≡ k = omega arith in
    rw z
past-append (x ∷ xs) ys k =
    let z : suc (length xs) + k ≡ suc (length xs + k) = omega arith in
    rw z (past-append xs ys k)

pub byte-is : (e : ℕ → Entry) (n j : ℕ) → j < 16 * n → get_or (entries_bytes e n) j 0 ≡ Entries.digit (j % 4) (part (e (j / 16)) (j % 16 / 4))
unfolding entries_bytes
byte-is e zero j h = absurd (omega arith)
byte-is e (suc n) j h = by-test (ltb j (16 * n)) refl (λ l. byte-is e n j l)
  where
    in-last : (k : ℕ) → k < 16 → j ≡ k + n * 16 → get_or (entries_bytes e n ++ entry_bytes (e n)) j 0 ≡ Entries.digit (j % 4) (part (e (j / 16)) (j % 16 / 4))
    in-last k l is =
        let whole : j / 16 ≡ n = ap (λ (m : ℕ). m / 16) is ∙ rest 16 k n l in
        let left : j % 16 ≡ k = ap (λ (m : ℕ). m % 16) is ∙ digit 16 k n l in
        let fours : j ≡ k + (n * 4) * 4 = omega arith in
        let small : j % 4 ≡ k % 4 = ap (λ (m : ℕ). m % 4) fours ∙ add-mul-mod_self_right k (n * 4) 4 in
        let place : length (entries_bytes e n) + k ≡ j = omega (arith, entries-long e n) in
        ap (λ (m : ℕ). get_or (entries_bytes e n ++ entry_bytes (e n)) m 0) (sym place) ∙ past-append (entries_bytes e n) (entry_bytes (e n)) k ∙ of-sixteen (e n) k l
        ∙ sym (rw (whole, left, small))

    by-test : (b : Bool) → ltb j (16 * n) ≡ b → (j < 16 * n → get_or (entries_bytes e n) j 0 ≡ Entries.digit (j % 4) (part (e (j / 16)) (j % 16 / 4)))
        → get_or (entries_bytes e n ++ entry_bytes (e n)) j 0 ≡ Entries.digit (j % 4) (part (e (j / 16)) (j % 16 / 4))
    by-test true b rec =
        let l = ltb-true j (16 * n) b in
        get_or-append (entries_bytes e n) (entry_bytes (e n)) 0 j (omega (arith, entries-long e n)) ∙ rec l
    by-test false b rec =
        let l = ltb-false j (16 * n) b in
        in-last (j - 16 * n) (omega arith) (omega arith)

pub same_entries : (e e' : ℕ → Entry) (n : ℕ) → ((i : ℕ) → i < n → e i ≡ e' i) → entries_bytes e n ≡ entries_bytes e' n
unfolding entries_bytes
same_entries e e' zero h = refl
same_entries e e' (suc n) h = rw (same_entries e e' n (λ i l. h i (omega arith)), h n (omega arith))

-- ---- written one by one

pub record WriteOn (index before out : List ℕ) (j : ℕ) : Type 0 where
  pub are : out ≡ take j index ++ drop j before

pub write-begins : (index out : List ℕ) → WriteOn index out out 0
write-begins index out = record { are = refl }

module _ {index before out : List ℕ} {j : ℕ} (on : WriteOn index before out j) (h : j < length index) (l : j < length before) where
  pub write-more : {b : ℕ} → b ≡ get_or index j 0 → WriteOn index before (set out j b) (j + 1)
  write-more {b} e =
      let xs = take j index in
      let long : length xs ≡ j = length-take-le j index (omega arith) in
      let first : drop j before ≡ get_or before j 0 ∷ drop (j + 1) before = rw (add-one j) (drop-cons before j 0 l) in
      let next : take (j + 1) index ≡ xs ++ (get_or index j 0 ∷ []) = rw (add-one j) (take-suc index j 0 h) in
      let seam : set (xs ++ (get_or before j 0 ∷ drop (j + 1) before)) j b ≡ xs ++ (b ∷ drop (j + 1) before) =
      subst (λ (n : ℕ). set (xs ++ (get_or before j 0 ∷ drop (j + 1) before)) n b ≡ xs ++ (b ∷ drop (j + 1) before)) long (set-append_seam xs (get_or before j 0) (drop (j + 1) before) b) in
      record {
        are = ap (λ (m : List ℕ). set m j b) (on.are ∙ ap (λ (r : List ℕ). xs ++ r) first) ∙ seam
            ∙ ap (λ (b : ℕ). xs ++ (b ∷ drop (j + 1) before)) e
            ∙ sym (append_assoc xs (get_or index j 0 ∷ []) (drop (j + 1) before)) ∙ ap (λ (z : List ℕ). z ++ drop (j + 1) before) (sym next);
      }

pub write-ends : {index before out : List ℕ} {j : ℕ} → WriteOn index before out j → j ≡ length index → j ≡ length before → out ≡ index
write-ends {index} {before} {out} {j} on e f =
    on.are ∙ ap (λ (m : ℕ). take m index ++ drop j before) e ∙ ap (λ (z : List ℕ). z ++ drop j before) (take-length index)
    ∙ ap (λ (z : List ℕ). index ++ z) (drop_of_length-le before {i = j} (omega arith)) ∙ append-nil index

-- ---- the numbers of an entry, and the digits of a number

pub last-digit : (place : ℕ) {n m : ℕ} → (place ≡ 0 → ⊥) → (place ≡ 1 → ⊥) → (place ≡ 2 → ⊥) → m ≡ n → m / 256 / 256 / 256 % 256 ≡ Entries.digit place n
last-digit zero a b c e = absurd (a refl)
last-digit (suc zero) a b c e = absurd (b refl)
last-digit (suc (suc zero)) a b c e = absurd (c refl)
last-digit (suc (suc (suc p))) a b c e = rw e

module _ (work : List ℕ) (i : ℕ) where
  pub type-part : {place : ℕ} → place ≡ 0 → {x : Subtree} → x ≡ subtree_in work i → {p : ℕ} → p ≡ pack x.ty → p ≡ part (entry_in work i) place
  unfolding entry_in
  type-part z e f = f ∙ ap (λ (x : Subtree). pack x.ty) e ∙ sym (rw z)

  pub height-part : {place : ℕ} → place ≡ 1 → {x : Subtree} → x ≡ subtree_in work i → x.height ≡ part (entry_in work i) place
  unfolding entry_in
  height-part z e = ap (λ (x : Subtree). x.height) e ∙ sym (rw z)

  pub first_part : {place : ℕ} → place ≡ 2 → {n : ℕ} → n ≡ first_in work i → n ≡ part (entry_in work i) place
  unfolding entry_in
  first_part z e = e ∙ sym (rw z)

  pub size-part : (place : ℕ) → (place ≡ 0 → ⊥) → (place ≡ 1 → ⊥) → (place ≡ 2 → ⊥) → {n : ℕ} → n ≡ size_in work false i → n ≡ part (entry_in work i) place
  unfolding entry_in
  size-part zero a b c e = absurd (a refl)
  size-part (suc zero) a b c e = absurd (b refl)
  size-part (suc (suc zero)) a b c e = absurd (c refl)
  size-part (suc (suc (suc p))) a b c e = e
