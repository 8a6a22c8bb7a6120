-- The fragment of any number of children agrees, but for the difference named of its e: by induction on the children. Assumes nothing.
use mathlib.Core.Bool.{Bool, true, false, cond, not, ◌&&◌, ◌||◌, and-false, true≢false}
use mathlib.Core.List.{List, [], ◌∷◌, map}
use Rattle.std.specs.Prelude.{Option, None, Some, Result}
use mathlib.Core.Path.{◌≡◌, refl, sym, ap, ◌∙◌}
use Prim.Native.Nat.{ℕ, zero, suc, ◌+◌, ◌-◌, ◌≤◌, ◌<◌}
use native.Mathlib.Omega.{arith}
use native.Mathlib.Nat.{not-suc-le-zero}
use lib.Dec.{T, leb, ltb, eqb, leb→le, eqb-suc-zero, eqb-suc-suc}
use lib.ListN.{length}
use lib.Ieee.Fits.{and_l, and_r}
use borrow.Author.Tests.{leb-true, leb-false, le-leb, lt-leb, eqb-true, eqb-false, eq-eqb, ne_eqb}
use Rattle.correctness.specs.Letters.{is_b, is_w, is_zero, is_one, is_non_zero}
use Rattle.malleability.specs.Letters.{is_unique}
use Rattle.contexts.specs.Lists.{all, sum, one}
use Rattle.correctness.specs.CorrectnessRules.{ok_if, correctness, first_b, num_args, threshold_input}
use Rattle.malleability.specs.MalleabilityRules.{malleability, safe_count, all_unique}
use Rattle.correctness.specs.CorrectnessRules as corr
use Rattle.malleability.specs.MalleabilityRules as mall
use Rattle.types.specs.TypeRules.{typed, typed_if, k_of_n, threshold}
use Rattle.bip379.specs.Rust.{Base, B, K, «V», W, Input, Zero, One, Any, OneNonZero, AnyNonZero, Unique, Unknown}
use Rattle.bip379.specs.Rust.{Correctness, Malleability, «Type», TypeError}
use Rattle.bip379.specs.Correctness.{Context, Correct, each_wdu, first_bdu, all_z, all_z_but_one_o, requires}
use Rattle.bip379.specs.Correctness as C
use Rattle.bip379.specs.Malleability.{Malleable, all_m, all_e, all_s, one_more_if, not_s}
use Rattle.bip379.specs.Bip379.{Letters, thresh, rows, type_of}
use Rattle.bip379.specs.Agreement.{correct, letters, in_letters, e-of-thresh, only_if, thresh_difference, AgreeButFor}

-- the children's letters, and the children, by table
abbrev their_cs : List «Type» → List Correct
their_cs xs = map (λ X. X.corr) (map letters xs)

abbrev our_cs : List «Type» → List Correctness
our_cs xs = map (λ x. x.corr) xs

abbrev their_ms : List «Type» → List Malleable
their_ms xs = map (λ X. X.mall) (map letters xs)

abbrev our_ms : List «Type» → List Malleability
our_ms xs = map (λ x. x.mall) xs

-- the requirement

abbrev bare : Base → Correct
bare b = correct (correctness b Zero false false)

b-agrees : (b : Base) → C.is_b (bare b) ≡ is_b b
b-agrees B = refl
b-agrees K = refl
b-agrees «V» = refl
b-agrees W = refl

w-agrees : (b : Base) → C.is_w (bare b) ≡ is_w b
w-agrees B = refl
w-agrees K = refl
w-agrees «V» = refl
w-agrees W = refl

regroup : (w d u p q : Bool) → (w && d && u && (p && q)) ≡ ((w && p) && ((u && d) && q))
regroup false d u p q = refl
regroup true true true p q = refl
regroup true true false p q = sym (and-false p)
regroup true false true p q = sym (and-false p)
regroup true false false p q = sym (and-false p)

each-agrees : (xs : List «Type»)
    → each_wdu (their_cs xs) ≡ (all (λ y. is_w y.base) (our_cs xs) && all (λ x. x.unit && x.dissatisfiable) (our_cs xs))
unfolding all
each-agrees [] = refl
each-agrees (x ∷ xs) =
    (λ i. w-agrees x.corr.base i && x.corr.dissatisfiable && x.corr.unit && each-agrees xs i)
    ∙ regroup (is_w x.corr.base) x.corr.dissatisfiable x.corr.unit _ _

first-agrees : (x : «Type») (xs : List «Type»)
    → first_bdu (their_cs (x ∷ xs)) ≡ (first_b (our_cs (x ∷ xs)) && all (λ x. x.unit && x.dissatisfiable) (our_cs (x ∷ xs)))
unfolding all
first-agrees x xs =
    (λ i. b-agrees x.corr.base i && x.corr.dissatisfiable && x.corr.unit && each-agrees xs i)
    ∙ regroup (is_b x.corr.base) x.corr.dissatisfiable x.corr.unit _ _

-- z, o and n

abbrev takes : List «Type» → ℕ
takes xs = sum (λ x. num_args x.input) (our_cs xs)

-- the Rust's choice of an input, by cases
abbrev input_of : ℕ → Input
input_of zero = Zero
input_of (suc zero) = One
input_of (suc (suc s)) = Any

input-agrees : (s : ℕ) → input_of s ≡ threshold_input s
input-agrees zero = refl
input-agrees (suc zero) = refl
input-agrees (suc (suc s)) =
    sym (λ i. cond (eqb-suc-zero (suc s) i) Zero (cond ((eqb-suc-suc (suc s) 0 ∙ eqb-suc-zero s) i) One Any))

some-taken : (s : ℕ) → false ≡ is_zero (input_of (suc s))
some-taken zero = refl
some-taken (suc s) = refl

z-step : (i : Input) (s : ℕ) → (is_zero i && is_zero (input_of s)) ≡ is_zero (input_of (num_args i + s))
z-step Zero s = let e : s ≡ 0 + s = omega arith in ap (λ (n : ℕ). is_zero (input_of n)) e
z-step One s = let e : suc s ≡ 1 + s = omega arith in some-taken s ∙ ap (λ (n : ℕ). is_zero (input_of n)) e
z-step OneNonZero s = let e : suc s ≡ 1 + s = omega arith in some-taken s ∙ ap (λ (n : ℕ). is_zero (input_of n)) e
z-step Any s = let e : suc (suc s) ≡ 2 + s = omega arith in ap (λ (n : ℕ). is_zero (input_of n)) e
z-step AnyNonZero s = let e : suc (suc s) ≡ 2 + s = omega arith in ap (λ (n : ℕ). is_zero (input_of n)) e

one-taken : (s : ℕ) → (is_zero (input_of s) || false) ≡ is_one (input_of (suc s))
one-taken zero = refl
one-taken (suc zero) = refl
one-taken (suc (suc s)) = refl

o-step : (i : Input) (s : ℕ)
    → (is_one i && is_zero (input_of s) || is_zero i && is_one (input_of s)) ≡ is_one (input_of (num_args i + s))
o-step Zero s = let e : s ≡ 0 + s = omega arith in ap (λ (n : ℕ). is_one (input_of n)) e
o-step One s = let e : suc s ≡ 1 + s = omega arith in one-taken s ∙ ap (λ (n : ℕ). is_one (input_of n)) e
o-step OneNonZero s = let e : suc s ≡ 1 + s = omega arith in one-taken s ∙ ap (λ (n : ℕ). is_one (input_of n)) e
o-step Any s = let e : suc (suc s) ≡ 2 + s = omega arith in ap (λ (n : ℕ). is_one (input_of n)) e
o-step AnyNonZero s = let e : suc (suc s) ≡ 2 + s = omega arith in ap (λ (n : ℕ). is_one (input_of n)) e

z-counts : (xs : List «Type») → all_z (their_cs xs) ≡ is_zero (input_of (takes xs))
unfolding sum
z-counts [] = refl
z-counts (x ∷ xs) = (λ i. is_zero x.corr.input && z-counts xs i) ∙ z-step x.corr.input (takes xs)

o-counts : (xs : List «Type») → all_z_but_one_o (their_cs xs) ≡ is_one (input_of (takes xs))
unfolding sum
o-counts [] = refl
o-counts (x ∷ xs) =
    (λ i. is_one x.corr.input && z-counts xs i || is_zero x.corr.input && o-counts xs i) ∙ o-step x.corr.input (takes xs)

n-counts : (s : ℕ) → false ≡ is_non_zero (input_of s)
n-counts zero = refl
n-counts (suc zero) = refl
n-counts (suc (suc s)) = refl

abbrev ours : List «Type» → Correctness
ours xs = correctness B (threshold_input (takes xs)) true true

corrs-agree : (xs : List «Type»)
    → record { base = C.B; z = all_z (their_cs xs); o = all_z_but_one_o (their_cs xs); n = false; d = true; u = true } ≡ correct (ours xs)
corrs-agree xs =
    let e = input-agrees (takes xs) in
    let z = z-counts xs ∙ ap is_zero e in
    let o = o-counts xs ∙ ap is_one e in
    let n = n-counts (takes xs) ∙ ap is_non_zero e in
    λ i. record { base = C.B; z = z i; o = o i; n = n i; d = true; u = true }

-- malleability

e-agrees : (xs : List «Type») → all_e (their_ms xs) ≡ all_unique (our_ms xs)
unfolding all
e-agrees [] = refl
e-agrees (x ∷ xs) = λ i. is_unique x.mall.dissat && e-agrees xs i

m-agrees : (xs : List «Type») → all_m (their_ms xs) ≡ all (λ x. x.non_malleable) (our_ms xs)
unfolding all
m-agrees [] = refl
m-agrees (x ∷ xs) = λ i. x.mall.non_malleable && m-agrees xs i

-- those that are s and those that are not are all
count-step : (b : Bool) (a s n : ℕ) → a + s ≡ n → one_more_if (not b) a + (one b + s) ≡ suc n
count-step true a s n h = omega arith
count-step false a s n h = omega arith

counted : (xs : List «Type») → not_s (their_ms xs) + safe_count (our_ms xs) ≡ length xs
unfolding sum
counted [] = refl
counted (x ∷ xs) = count-step x.mall.safe (not_s (their_ms xs)) (safe_count (our_ms xs)) (length xs) (counted xs)

lengths : (xs : List «Type») → length (our_ms xs) ≡ length xs
lengths [] = refl
lengths (x ∷ xs) = ap suc (lengths xs)

none-step : (b S : Bool) (a : ℕ) → S ≡ eqb a 0 → (b && S) ≡ eqb (one_more_if (not b) a) 0
none-step true S a h = h
none-step false S a h = sym (eqb-suc-zero a)

none-not-s : (xs : List «Type») → all_s (their_ms xs) ≡ eqb (not_s (their_ms xs)) 0
none-not-s [] = refl
none-not-s (x ∷ xs) = none-step x.mall.safe (all_s (their_ms xs)) (not_s (their_ms xs)) (none-not-s xs)

-- with a not s and s safe of n: a is 0 where s is n, a ≤ k where n - k ≤ s, and a ≤ k - 1 where n - k < s
none_left : (a s n : ℕ) → a + s ≡ n → eqb a 0 ≡ eqb s n
none_left a s n h = go (eqb s n) refl
  where
    go : (b : Bool) → eqb s n ≡ b → eqb a 0 ≡ b
    go true e = let q : s ≡ n = eqb-true s n e in eq-eqb a 0 (omega arith)
    go false e = ne_eqb a 0 λ z. eqb-false s n e (omega arith)

at_most : (a b c d : ℕ) → (c ≤ d → a ≤ b) → (d < c → b < a) → leb a b ≡ leb c d
at_most a b c d f g = go (leb c d) refl
  where
    go : (t : Bool) → leb c d ≡ t → leb a b ≡ t
    go true e = le-leb a b (f (leb-true c d e))
    go false e = lt-leb a b (g (leb-false c d e))

k-left : (k a s n : ℕ) → a + s ≡ n → k ≤ n → leb a k ≡ leb (n - k) s
k-left k a s n h l = at_most a k (n - k) s (λ p. omega arith) (λ p. omega arith)

k-1-left : (k a s n : ℕ) → a + s ≡ n → 1 ≤ k → k ≤ n → leb a (k - 1) ≡ ltb (n - k) s
k-1-left k a s n h l m = at_most a (k - 1) (suc (n - k)) s (λ p. omega arith) (λ p. omega arith)

s-agrees : (xs : List «Type») → all_s (their_ms xs) ≡ eqb (safe_count (our_ms xs)) (length (our_ms xs))
s-agrees xs = none-not-s xs ∙ none_left (not_s (their_ms xs)) (safe_count (our_ms xs)) (length (our_ms xs)) (counted xs ∙ sym (lengths xs))

reorder : (e l m : Bool) → (e && l && m) ≡ ((m && l) && e)
reorder true true true = refl
reorder true true false = refl
reorder true false true = refl
reorder true false false = refl
reorder false l true = sym (and-false l)
reorder false l false = refl

-- the difference: e where all are s (S), against e where all are e (E) and s; r is what the children are required to be

granted : Option Letters → Bool
granted (Some X) = X.mall.e
granted None = false

by-r-S-E : (r S E : Bool) (x : Correctness) (m s : Bool)
    → AgreeButFor (only_if (r && S && not E) e-of-thresh) (rows (requires r (correct x)) (record { m = m; s = s; f = false; e = S }))
    (in_letters (typed (ok_if r x) (malleability (cond (E && S) Unique Unknown) s m)))
unfolding granted
by-r-S-E false S E x m s = record { agree = refl; differ = λ k. absurd (k refl) }
by-r-S-E true false true x m s = record { agree = refl; differ = λ k. absurd (k refl) }
by-r-S-E true false false x m s = record { agree = refl; differ = λ k. absurd (k refl) }
by-r-S-E true true true x m s = record { agree = refl; differ = λ k. absurd (k refl) }
by-r-S-E true true false x m s = record { agree = refl; differ = λ k e. true≢false (ap granted e) }

range : (n n' k : ℕ) → n ≡ n' → k ≤ n' → k ≤ n
range n n' k e h = omega arith

in-range : (ctx : Context) (k : ℕ) (x : «Type») (xs : List «Type») → 1 ≤ k → k ≤ length (x ∷ xs)
    → AgreeButFor (thresh_difference (map letters (x ∷ xs))) (type_of ctx (thresh k (map letters (x ∷ xs))))
    (in_letters (typed (corr.threshold (our_cs (x ∷ xs))) (mall.threshold k (our_ms (x ∷ xs)))))
in-range ctx k x xs l h =
    let ys = x ∷ xs in
    let a = not_s (their_ms ys) in
    let b = safe_count (our_ms ys) in
    let n = length (our_ms ys) in
    let c = counted ys ∙ sym (lengths ys) in
    let h' = range n (length ys) k (lengths ys) h in
    let r = first-agrees x xs in
    let t = corrs-agree ys in
    let E = e-agrees ys in
    let S = s-agrees ys in
    let s = k-1-left k a b n c l h' in
    let m = (λ i. E i && k-left k a b n c h' i && m-agrees ys i)
    ∙ reorder (all_unique (our_ms ys)) (leb (n - k) b) (all (λ x. x.non_malleable) (our_ms ys)) in
    coe 1 0
    (i.
    AgreeButFor (only_if (r i && S i && not (E i)) e-of-thresh)
    (rows (requires (r i) (t i)) (record { m = m i; s = s i; f = false; e = S i }))
    (in_letters (typed (corr.threshold (our_cs ys)) (mall.threshold k (our_ms ys)))))
    (by-r-S-E (r 1) (S 1) (E 1) (ours ys) (m 1) (s 1))

typed-if : (b : Bool) (r : Result «Type» TypeError) → T b → r ≡ typed_if b r
typed-if true r h = refl
typed-if false r h = absurd h

pub thresh-agrees : (ctx : Context) (k : ℕ) (xs : List «Type») → T (k_of_n k (length xs))
    → AgreeButFor (thresh_difference (map letters xs)) (type_of ctx (thresh k (map letters xs))) (in_letters (threshold k xs))
thresh-agrees ctx k [] h =
    let l : 1 ≤ k = leb→le 1 k (and_l (leb 1 k) _ h) in
    let g : k ≤ 0 = leb→le k 0 (and_l (leb k 0) _ (and_r (leb 1 k) _ h)) in
    let e : 1 ≤ 0 = omega arith in
    absurd (not-suc-le-zero e)
thresh-agrees ctx k (x ∷ xs) h =
    let n = length (x ∷ xs) in
    let r = typed (corr.threshold (our_cs (x ∷ xs))) (mall.threshold k (our_ms (x ∷ xs))) in
    let l = leb→le 1 k (and_l (leb 1 k) _ h) in
    let g = leb→le k n (and_l (leb k n) _ (and_r (leb 1 k) _ h)) in
    let e = typed-if (k_of_n k n) r h in
    coe 0 1
    (i. AgreeButFor (thresh_difference (map letters (x ∷ xs))) (type_of ctx (thresh k (map letters (x ∷ xs)))) (in_letters (e i)))
    (in-range ctx k x xs l g)
