-- The blocks cover every assignment to at most twelve variables. Assumes nothing.
use Prim.Native.Nat.{ℕ, zero, suc, ◌+◌, ◌*◌, ◌/◌, ◌%◌, ◌≤◌, ◌<◌}
use mathlib.Core.Bool.{Bool, true, false, cond, ◌&&◌}
use mathlib.Core.List.{List, [], ◌∷◌, map}
use mathlib.Core.Path.{◌≡◌, refl, sym, ap, ◌∙◌}
use native.Mathlib.Omega.{arith}
use borrow.Author.Tests.{ltb-true}
use lib.Dec.{eqb, ltb}
use lib.ListN.{length, get_or}
use Rattle.contexts.specs.Lists.{one}
use Rattle.meaning.specs.Meaning.{Variable, key, Assignment}
use Rattle.variables.specs.Variables.{same, member}
use Rattle.variables.specs.Gathering.{code_of}
use Rattle.variables.proofs.Members.{same-is}
use Rattle.truth.specs.Words.{bit_at, word_for, block_words}
use Rattle.truth.proofs.BitLaws.{bit-full}

-- ---- every value of six bools, computed

eq_b : Bool → Bool → Bool
eq_b true true = true
eq_b true false = false
eq_b false true = false
eq_b false false = true

eq_b-is : (a b : Bool) → eq_b a b ≡ true → a ≡ b
unfolding eq_b
eq_b-is true true h = refl
eq_b-is true false h = sym h
eq_b-is false true h = h
eq_b-is false false h = refl

every_bool : (Bool → Bool) → Bool
every_bool p = p true && p false

both_true : (a b : Bool) → a && b ≡ true → (a ≡ true) × (b ≡ true)
both_true true b h = (refl, h)
both_true false b h = (h, cc)

every-bool : (p : Bool → Bool) → every_bool p ≡ true → (b : Bool) → p b ≡ true
unfolding every_bool
every-bool p h true = (both_true (p true) (p false) h).0
every-bool p h false = (both_true (p true) (p false) h).1

every6 : (Bool → Bool → Bool → Bool → Bool → Bool → Bool) → Bool
every6 p = every_bool λ a. every_bool λ b. every_bool λ c. every_bool λ d. every_bool λ e. every_bool λ f. p a b c d e f

every6-at : (p : Bool → Bool → Bool → Bool → Bool → Bool → Bool) → every6 p ≡ true → (a b c d e f : Bool) → p a b c d e f ≡ true
unfolding every6
every6-at p h a b c d e f =
    every-bool (λ f. p a b c d e f)
    (every-bool (λ e. every_bool λ f. p a b c d e f)
    (every-bool (λ d. every_bool λ e. every_bool λ f. p a b c d e f)
    (every-bool (λ c. every_bool λ d. every_bool λ e. every_bool λ f. p a b c d e f)
    (every-bool (λ b. every_bool λ c. every_bool λ d. every_bool λ e. every_bool λ f. p a b c d e f)
    (every-bool (λ a. every_bool λ b. every_bool λ c. every_bool λ d. every_bool λ e. every_bool λ f. p a b c d e f) h a) b) c) d) e) f

-- the number with these six binary digits, the lowest first
six : Bool → Bool → Bool → Bool → Bool → Bool → ℕ
six a b c d e f = one a + 2 * one b + 4 * one c + 8 * one d + 16 * one e + 32 * one f

low_test : Bool → Bool → Bool → Bool → Bool → Bool → Bool
low_test a b c d e f =
    eq_b (bit_at 0xaaaa_aaaa_aaaa_aaaa (six a b c d e f)) a && (eq_b (bit_at 0xcccc_cccc_cccc_cccc (six a b c d e f)) b
    && (eq_b (bit_at 0xf0f0_f0f0_f0f0_f0f0 (six a b c d e f)) c && (eq_b (bit_at 0xff00_ff00_ff00_ff00 (six a b c d e f)) d
    && (eq_b (bit_at 0xffff_0000_ffff_0000 (six a b c d e f)) e && (eq_b (bit_at 0xffff_ffff_0000_0000 (six a b c d e f)) f && ltb (six a b c d e f) 64)))))

high_test : Bool → Bool → Bool → Bool → Bool → Bool → Bool
high_test a b c d e f =
    eq_b (eqb (six a b c d e f % 2) 1) a && (eq_b (eqb (six a b c d e f / 2 % 2) 1) b
    && (eq_b (eqb (six a b c d e f / 4 % 2) 1) c && (eq_b (eqb (six a b c d e f / 8 % 2) 1) d
    && (eq_b (eqb (six a b c d e f / 16 % 2) 1) e && (eq_b (eqb (six a b c d e f / 32 % 2) 1) f && ltb (six a b c d e f) 64)))))

low-checked : every6 low_test ≡ true
unfolding every6 every_bool low_test six eq_b bit_at
low-checked = refl

high-checked : every6 high_test ≡ true
unfolding every6 every_bool high_test six eq_b
high-checked = refl

-- ---- seven tests apart

seven : (a b c d e f g : Bool) → a && (b && (c && (d && (e && (f && g))))) ≡ true
    → (a ≡ true) × (b ≡ true) × (c ≡ true) × (d ≡ true) × (e ≡ true) × (f ≡ true) × (g ≡ true)
seven true true true true true true true h = (refl, refl, refl, refl, refl, refl, refl)
seven true true true true true true false h = absurd (let z : ◌≡◌ {A = ℕ} 0 1 = cc in omega arith)
seven true true true true true false g h = absurd (let z : ◌≡◌ {A = ℕ} 0 1 = cc in omega arith)
seven true true true true false f g h = absurd (let z : ◌≡◌ {A = ℕ} 0 1 = cc in omega arith)
seven true true true false e f g h = absurd (let z : ◌≡◌ {A = ℕ} 0 1 = cc in omega arith)
seven true true false d e f g h = absurd (let z : ◌≡◌ {A = ℕ} 0 1 = cc in omega arith)
seven true false c d e f g h = absurd (let z : ◌≡◌ {A = ℕ} 0 1 = cc in omega arith)
seven false b c d e f g h = absurd (let z : ◌≡◌ {A = ℕ} 0 1 = cc in omega arith)

-- ---- a block and a place in it for any values of twelve variables

pub record Place (value : ℕ → Bool) : Type 0 where
  pub block : ℕ
  pub bit : ℕ
  pub block-low : block < 64
  pub bit-low : bit < 64
  pub holds : (i : ℕ) → i < 12 → bit_at (get_or (block_words block) i 0) bit ≡ value i

pub place : (value : ℕ → Bool) → Place value
unfolding low_test high_test block_words
place v =
    let l = seven _ _ _ _ _ _ _ (every6-at low_test low-checked (v 0) (v 1) (v 2) (v 3) (v 4) (v 5)) in
    let h = seven _ _ _ _ _ _ _ (every6-at high_test high-checked (v 6) (v 7) (v 8) (v 9) (v 10) (v 11)) in
    let j = six (v 0) (v 1) (v 2) (v 3) (v 4) (v 5) in
    let b = six (v 6) (v 7) (v 8) (v 9) (v 10) (v 11) in
    let j-low = ltb-true j 64 l.6 in
    let b-low = ltb-true b 64 h.6 in
    record {
      block = b;
      bit = j;
      block-low = b-low;
      bit-low = j-low;
      holds = λ i m. at b j j-low
          (eq_b-is _ _ l.0) (eq_b-is _ _ l.1) (eq_b-is _ _ l.2) (eq_b-is _ _ l.3) (eq_b-is _ _ l.4) (eq_b-is _ _ l.5)
          (eq_b-is _ _ h.0) (eq_b-is _ _ h.1) (eq_b-is _ _ h.2) (eq_b-is _ _ h.3) (eq_b-is _ _ h.4) (eq_b-is _ _ h.5) i m;
    }
  where
    at : (b j : ℕ) → j < 64
        → bit_at 0xaaaa_aaaa_aaaa_aaaa j ≡ v 0 → bit_at 0xcccc_cccc_cccc_cccc j ≡ v 1 → bit_at 0xf0f0_f0f0_f0f0_f0f0 j ≡ v 2
        → bit_at 0xff00_ff00_ff00_ff00 j ≡ v 3 → bit_at 0xffff_0000_ffff_0000 j ≡ v 4 → bit_at 0xffff_ffff_0000_0000 j ≡ v 5
        → eqb (b % 2) 1 ≡ v 6 → eqb (b / 2 % 2) 1 ≡ v 7 → eqb (b / 4 % 2) 1 ≡ v 8 → eqb (b / 8 % 2) 1 ≡ v 9 → eqb (b / 16 % 2) 1 ≡ v 10
        → eqb (b / 32 % 2) 1 ≡ v 11 → (i : ℕ) → i < 12 → bit_at (get_or (block_words b) i 0) j ≡ v i
    at b j l p0 p1 p2 p3 p4 p5 p6 p7 p8 p9 p10 p11 zero m = p0
    at b j l p0 p1 p2 p3 p4 p5 p6 p7 p8 p9 p10 p11 (suc zero) m = p1
    at b j l p0 p1 p2 p3 p4 p5 p6 p7 p8 p9 p10 p11 (suc (suc zero)) m = p2
    at b j l p0 p1 p2 p3 p4 p5 p6 p7 p8 p9 p10 p11 (suc (suc (suc zero))) m = p3
    at b j l p0 p1 p2 p3 p4 p5 p6 p7 p8 p9 p10 p11 (suc (suc (suc (suc zero)))) m = p4
    at b j l p0 p1 p2 p3 p4 p5 p6 p7 p8 p9 p10 p11 (suc (suc (suc (suc (suc zero))))) m = p5
    at b j l p0 p1 p2 p3 p4 p5 p6 p7 p8 p9 p10 p11 (suc (suc (suc (suc (suc (suc zero)))))) m = bit-full (eqb (b % 2) 1) j l ∙ p6
    at b j l p0 p1 p2 p3 p4 p5 p6 p7 p8 p9 p10 p11 (suc (suc (suc (suc (suc (suc (suc zero))))))) m = bit-full (eqb (b / 2 % 2) 1) j l ∙ p7
    at b j l p0 p1 p2 p3 p4 p5 p6 p7 p8 p9 p10 p11 (suc (suc (suc (suc (suc (suc (suc (suc zero)))))))) m = bit-full (eqb (b / 4 % 2) 1) j l ∙ p8
    at b j l p0 p1 p2 p3 p4 p5 p6 p7 p8 p9 p10 p11 (suc (suc (suc (suc (suc (suc (suc (suc (suc zero))))))))) m = bit-full (eqb (b / 8 % 2) 1) j l ∙ p9
    at b j l p0 p1 p2 p3 p4 p5 p6 p7 p8 p9 p10 p11 (suc (suc (suc (suc (suc (suc (suc (suc (suc (suc zero)))))))))) m = bit-full (eqb (b / 16 % 2) 1) j l ∙ p10
    at b j l p0 p1 p2 p3 p4 p5 p6 p7 p8 p9 p10 p11 (suc (suc (suc (suc (suc (suc (suc (suc (suc (suc (suc zero))))))))))) m = bit-full (eqb (b / 32 % 2) 1) j l ∙ p11
    at b j l p0 p1 p2 p3 p4 p5 p6 p7 p8 p9 p10 p11 (suc (suc (suc (suc (suc (suc (suc (suc (suc (suc (suc (suc i)))))))))))) m = absurd (omega arith)

-- ---- the words of a row give a variable of it its value

pub looked-up : (vs : List Variable) (words : List ℕ) (a : Assignment) (j : ℕ) → length vs ≤ length words
    → ((i : ℕ) → i < length vs → bit_at (get_or words i 0) j ≡ a (get_or vs i (key 0))) → (v : Variable) → member v vs ≡ true
    → bit_at (word_for (map code_of vs) words (code_of v)) j ≡ a v
unfolding member word_for
looked-up [] words a j l h v m = absurd (let z : ◌≡◌ {A = ℕ} 0 1 = cc in omega arith)
looked-up (w ∷ ws) [] a j l h v m = absurd (omega arith)
looked-up (w ∷ ws) (x ∷ xs) a j l h v m = by-test (same v w) refl (looked-up ws xs a j (omega arith) (λ i k. h (suc i) (omega arith)) v)
  where
    by-test : (b : Bool) → same v w ≡ b → (member v ws ≡ true → bit_at (word_for (map code_of ws) xs (code_of v)) j ≡ a v)
        → bit_at (cond (same v w) x (word_for (map code_of ws) xs (code_of v))) j ≡ a v
    by-test true e rest = ap (λ (b : Bool). bit_at (cond b x (word_for (map code_of ws) xs (code_of v))) j) e ∙ h 0 (omega arith) ∙ ap a (sym (same-is v w e))
    by-test false e rest =
        let there : member v ws ≡ true = rw e at m in
        ap (λ (b : Bool). bit_at (cond b x (word_for (map code_of ws) xs (code_of v))) j) e ∙ rest there
