-- Extremes in work memory: a word is read back, and each record's two words are its own. Assumes nothing.
use Prim.Native.Nat.{ℕ, zero, suc, ◌+◌, ◌*◌, ◌-◌, ◌/◌, ◌%◌, ◌≤◌, ◌<◌}
use mathlib.Core.Bool.{Bool, true, false}
use mathlib.Core.List.{List, [], ◌∷◌, map}
use Rattle.std.specs.Prelude.{None, Some}
use mathlib.Core.Path.{◌≡◌, refl, sym, ap, ◌∙◌}
use native.Mathlib.Omega.{arith}
use native.Mathlib.Nat.{mod-lt, div-lt_iff_lt-mul}
use borrow.Author.Tests.{eqb-true, eqb-false, ltb-true, ltb-false}
use lib.Dec.{eqb, ltb}
use lib.ListN.{length, get_or, set, take, replicate, length-set, length-map, get_or-replicate, get_or-eq_default}
use lib.Seq.{get_or-set_same, get_or-set_other, get_or-take, ext_get_or, length-take-le}
use Rattle.words.proofs.Packing.{digit, rest}
use Rattle.witness_ways.specs.Extremes.{Extremes, bytes}
use Rattle.witness_ways.specs.declared.Both.{Both}
use Rattle.witness_rules.specs.Bounds.{Below, none, both, BothBelow, AllBelow, neither, small}
use Rattle.witness_rules.specs.ByKind.{child}
use Rattle.witness_entry.specs.Memory.{word_of, extremes_in, both_in, put_both, Loaded}

-- ---- a word

pub word_back : (e : Extremes) → Below 2147483648 e → extremes_in (word_of e) ≡ e
word_back None h = refl
word_back (Some x) (both k l) =
    let one : 1 + (x.fewest + x.most * 4294967296) ≡ suc (x.fewest + x.most * 4294967296) = omega arith in
    rw (one, digit 4294967296 x.fewest x.most (omega arith), rest 4294967296 x.fewest x.most (omega arith))

pub not-zero : (w : ℕ) → (w ≡ 0 → ⊥) → bytes ((w - 1) % 4294967296) ((w - 1) / 4294967296) ≡ extremes_in w
not-zero zero h = absurd (h refl)
not-zero (suc w) h =
    let same : suc w - 1 ≡ w = omega arith in
    rw same

pub word-few : (w : ℕ) → w < 18446744073709551616 → Below small (bytes ((w - 1) % 4294967296) ((w - 1) / 4294967296))
word-few w h =
    let low = mod-lt (w - 1) {m = 4294967296} (omega arith) in
    let high = (div-lt_iff_lt-mul {k = 4294967296} {x = w - 1} {y = 4294967296} (omega arith)).1 (omega arith) in
    both (omega (arith, low)) (omega (arith, high))

-- ---- a record's two words

pub put-length : (work : List ℕ) (i : ℕ) (x : Both) → length (put_both work i x) ≡ length work
unfolding put_both
put-length work i x = length-set (set work (2 * i) _) (2 * i + 1) _ ∙ length-set work (2 * i) _

pub put_same : (work : List ℕ) (i : ℕ) (x : Both) → 2 * i + 1 < length work → BothBelow 2147483648 x → both_in (put_both work i x) i ≡ x
unfolding both_in put_both
put_same work i x h b =
    let s = word_of x.satisfied in
    let d = word_of x.dissatisfied in
    let first : get_or (set (set work (2 * i) s) (2 * i + 1) d) (2 * i) 0 ≡ s =
    get_or-set_other (set work (2 * i) s) (2 * i + 1) (2 * i) d 0 (λ e. omega arith) ∙ get_or-set_same work (2 * i) s 0 (omega arith) in
    let second : get_or (set (set work (2 * i) s) (2 * i + 1) d) (2 * i + 1) 0 ≡ d =
    get_or-set_same (set work (2 * i) s) (2 * i + 1) d 0 (omega (arith, length-set work (2 * i) s)) in
    rw (first, second, word_back x.satisfied b.satisfied, word_back x.dissatisfied b.dissatisfied)

pub put_other : (work : List ℕ) (i j : ℕ) (x : Both) → (j ≡ i → ⊥) → both_in (put_both work i x) j ≡ both_in work j
unfolding both_in put_both
put_other work i j x h =
    let s = word_of x.satisfied in
    let d = word_of x.dissatisfied in
    let first : get_or (set (set work (2 * i) s) (2 * i + 1) d) (2 * j) 0 ≡ get_or work (2 * j) 0 =
    get_or-set_other (set work (2 * i) s) (2 * i + 1) (2 * j) d 0 (λ e. omega arith) ∙ get_or-set_other work (2 * i) (2 * j) s 0 (λ e. h (omega arith)) in
    let second : get_or (set (set work (2 * i) s) (2 * i + 1) d) (2 * j + 1) 0 ≡ get_or work (2 * j + 1) 0 =
    get_or-set_other (set work (2 * i) s) (2 * i + 1) (2 * j + 1) d 0 (λ e. h (omega arith))
    ∙ get_or-set_other work (2 * i) (2 * j + 1) s 0 (λ e. omega arith) in
    rw (first, second)

-- ---- loading, one by one

pub load-start : (work numbers : List ℕ) → Loaded work numbers 0 (replicate 16 neither)
load-start work numbers =
    record { long = refl; each = λ j h. absurd (omega arith); past = λ j h. nothing j (ltb j 16) refl; few = few }
  where
    nothing : (j : ℕ) (b : Bool) → ltb j 16 ≡ b → get_or (replicate 16 neither) j neither ≡ neither
    nothing j true t = get_or-replicate 16 j neither neither (ltb-true j 16 t)
    nothing j false t = get_or-eq_default (replicate 16 neither) neither {n = j} (ltb-false j 16 t)

    few : AllBelow small (replicate 16 neither)
    few j h =
        let same : get_or (replicate 16 neither) j neither ≡ neither = get_or-replicate 16 j neither neither h in
        rw same (record { satisfied = none; dissatisfied = none })

module _ {work numbers : List ℕ} {n : ℕ} {out : List Both} (on : Loaded work numbers n out) where
  pub load-more : {x : Both} → n < 16 → x ≡ both_in work (get_or numbers n 0) → BothBelow small x → Loaded work numbers (n + 1) (set out n x)
  load-more {x} l e b =
      record {
        long = length-set out n x ∙ on.long;
        each = λ j h. by_place j (eqb j n) refl h;
        past = λ j h. get_or-set_other out n j x neither (λ e. omega arith) ∙ on.past j (omega arith);
        few = few;
      }
    where
      by_place : (j : ℕ) (b : Bool) → eqb j n ≡ b → j < n + 1 → get_or (set out n x) j neither ≡ both_in work (get_or numbers j 0)
      by_place j true t h =
          let same = eqb-true j n t in
          rw same (get_or-set_same out n x neither (omega (arith, on.long)) ∙ e)
      by_place j false t h =
          get_or-set_other out n j x neither (eqb-false j n t) ∙ on.each j (omega (arith, eqb-false j n t))

      small_one : (j : ℕ) (b : Bool) → eqb j n ≡ b → j < length out → BothBelow small (get_or (set out n x) j neither)
      small_one j true t h =
          let same = eqb-true j n t in
          let put : get_or (set out n x) n neither ≡ x = get_or-set_same out n x neither (omega (arith, on.long)) in
          rw (same, put) b
      small_one j false t h =
          let kept : get_or (set out n x) j neither ≡ get_or out j neither = get_or-set_other out n j x neither (eqb-false j n t) in
          rw kept (on.few j h)

      few : AllBelow small (set out n x)
      few j h = small_one j (eqb j n) refl (omega (arith, length-set out n x))

  -- the loaded children are those of a list of the same numbers
  module _ (js : List ℕ) (same : take n numbers ≡ js) (many : n ≡ length js) (room : n ≤ 16) where
    number_is : (j : ℕ) → j < n → get_or numbers j 0 ≡ get_or js j 0
    number_is j h = sym (get_or-take n numbers j 0 h) ∙ ap (λ (l : List ℕ). get_or l j 0) same

    mapped : (js : List ℕ) (j : ℕ) → j < length js → get_or (map (both_in work) js) j neither ≡ both_in work (get_or js j 0)
    mapped [] j h = absurd (omega arith)
    mapped (k ∷ js) zero h = refl
    mapped (k ∷ js) (suc j) h = mapped js j (omega arith)

    pub loaded-child : (j : ℕ) → child out j ≡ child (map (both_in work) js) j
    loaded-child j = by_place (ltb j n) refl
      where
        by_place : (b : Bool) → ltb j n ≡ b → child out j ≡ child (map (both_in work) js) j
        by_place true t =
            let h = ltb-true j n t in
            on.each j h ∙ ap (both_in work) (number_is j h) ∙ sym (mapped js j (omega arith))
        by_place false t =
            let h = ltb-false j n t in
            on.past j h ∙ sym (get_or-eq_default (map (both_in work) js) neither {n = j} (omega (arith, length-map js (both_in work))))

    pub loaded-all : take n out ≡ take n (map (both_in work) js)
    loaded-all =
        let xs = map (both_in work) js in
        let long-out : length (take n out) ≡ n = length-take-le n out (omega (arith, on.long)) in
        let long-xs : length (take n xs) ≡ n = length-take-le n xs (omega (arith, length-map js (both_in work))) in
        ext_get_or neither (take n out) (take n xs) (long-out ∙ sym long-xs)
        (λ j h. get_or-take n out j neither (omega (arith, long-out)) ∙ loaded-child j ∙ sym (get_or-take n xs j neither (omega (arith, long-out))))
