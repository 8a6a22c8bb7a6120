-- A threshold's children taken one after another come to what TypeRules says of all of them. Assumes nothing.
use mathlib.Core.Path.{◌≡◌, refl, sym, ap, ◌∙◌}
use mathlib.Core.Bool.{Bool, true, false, ◌&&◌, and_assoc, and-true}
use mathlib.Core.List.{List, [], ◌∷◌, map}
use Prim.Native.Nat.{ℕ, suc, ◌+◌, ◌-◌, ◌<◌, ◌≤◌}
use native.Mathlib.Nat.{add-zero, zero-add, add_assoc}
use native.Mathlib.Numerals.{add-one}
use native.Mathlib.Omega.{arith}
use lib.ListN.{length, take, drop, get_or, length-map}
use lib.Seq.{drop-cons, length-take-le}
use borrow.Author.Tests.{le-leb, lt-ltb}
use Rattle.types.specs.Names.{Correctness, Malleability, «Type»}
use Rattle.types.specs.declared.TypeSoFar.{TypeSoFar}
use Rattle.correctness.specs.Letters.{is_b, is_w}
use Rattle.malleability.specs.Letters.{is_unique}
use Rattle.contexts.specs.Lists.{all, sum, one, count}
use Rattle.correctness.specs.CorrectnessRules.{num_args, threshold_input, or_b_input}
use Rattle.types.specs.TypeRules.{typed_if, threshold, threshold_of}
use Rattle.malleability.specs.ThresholdSteps.{counted}
use Rattle.types.specs.ThresholdSteps.{type_first, type_next, type_result, after}
use Rattle.correctness.proofs.Inputs.{count-input}

exchange : (a b c d : Bool) → (a && b) && (c && d) ≡ (a && c) && (b && d)
exchange false b c d = refl
exchange true true c d = refl
exchange true false true d = refl
exchange true false false d = refl

more : (b : Bool) (n : ℕ) → n < 16 → counted n b ≡ n + one b
more true n h = rw (lt-ltb n 16 h)
more false n h = sym (add-zero n)

at_most_one : (b : Bool) → one b ≤ 1
at_most_one true = omega arith
at_most_one false = omega arith

first_of : {A : Type 0} (n : ℕ) (xs : List A) (d : A) → 0 < n → 0 < length xs → take n xs ≡ get_or xs 0 d ∷ take (n - 1) (drop 1 xs)
first_of n xs d h l =
    let e : n ≡ suc (n - 1) = omega arith in
    ap (take n) (drop-cons xs 0 d l) ∙ ap (λ (m : ℕ). take m (get_or xs 0 d ∷ drop 1 xs)) e

abbrev corrs : List «Type» → List Correctness
corrs ts = map (λ t. t.corr) ts

abbrev malls : List «Type» → List Malleability
malls ts = map (λ t. t.mall) ts

abbrev is_ud : Correctness → Bool
is_ud c = c.unit && c.dissatisfiable

all-and : {A : Type 0} (p q : A → Bool) (xs : List A) → all (λ x. p x && q x) xs ≡ all p xs && all q xs
unfolding all
all-and p q [] = refl
all-and p q (x ∷ xs) = ap (λ (b : Bool). (p x && q x) && b) (all-and p q xs) ∙ exchange (p x) (q x) (all p xs) (all q xs)

-- each field of what the children come to

fits : (s : TypeSoFar) (ts : List «Type»)
    → (after s ts).corr.fits ≡ s.corr.fits && all (λ c. is_w c.base && is_ud c) (corrs ts)
unfolding after all
fits s [] = sym (and-true s.corr.fits)
fits s (t ∷ ts) = fits (type_next s t) ts ∙ and_assoc s.corr.fits _ _

taken : (s : TypeSoFar) (ts : List «Type») (m : ℕ) → s.corr.input ≡ threshold_input m
    → (after s ts).corr.input ≡ threshold_input (m + sum (λ c. num_args c.input) (corrs ts))
unfolding after sum
taken s [] m e = e ∙ ap threshold_input (sym (add-zero m))
taken s (t ∷ ts) m e =
    taken (type_next s t) ts (m + num_args t.corr.input)
    (ap (λ i. or_b_input i t.corr.input) e ∙ count-input m t.corr.input)
    ∙ ap threshold_input (add_assoc m (num_args t.corr.input) (sum (λ c. num_args c.input) (corrs ts)))

safes : (s : TypeSoFar) (ts : List «Type») → s.mall.safe_count + length ts ≤ 16
    → (after s ts).mall.safe_count ≡ s.mall.safe_count + count (λ m. m.safe) (malls ts)
unfolding after sum
safes s [] h = sym (add-zero s.mall.safe_count)
safes s (t ∷ ts) h =
    let one_more : counted s.mall.safe_count t.mall.safe ≡ s.mall.safe_count + one t.mall.safe =
    more t.mall.safe s.mall.safe_count (omega arith) in
    let few : one t.mall.safe ≤ 1 = at_most_one t.mall.safe in
    safes (type_next s t) ts (omega arith) ∙ omega arith

uniques : (s : TypeSoFar) (ts : List «Type»)
    → (after s ts).mall.all_unique ≡ s.mall.all_unique && all (λ m. is_unique m.dissat) (malls ts)
unfolding after all
uniques s [] = sym (and-true s.mall.all_unique)
uniques s (t ∷ ts) = uniques (type_next s t) ts ∙ and_assoc s.mall.all_unique _ _

non-malleables : (s : TypeSoFar) (ts : List «Type»)
    → (after s ts).mall.all_non_malleable ≡ s.mall.all_non_malleable && all (λ m. m.non_malleable) (malls ts)
unfolding after all
non-malleables s [] = sym (and-true s.mall.all_non_malleable)
non-malleables s (t ∷ ts) = non-malleables (type_next s t) ts ∙ and_assoc s.mall.all_non_malleable _ _

-- all of them together
agree : (k : ℕ) (t : «Type») (ts : List «Type») → 1 ≤ k → k ≤ length (t ∷ ts) → length (t ∷ ts) ≤ 16
    → type_result (after (type_first t) ts) (length (t ∷ ts)) (length (t ∷ ts) - k) ≡ threshold k (t ∷ ts)
unfolding all sum
agree k t ts low mid high =
    rw (
      fits (type_first t) ts,
      taken (type_first t) ts (num_args t.corr.input)
          (count-input 0 t.corr.input ∙ ap threshold_input (zero-add (num_args t.corr.input))),
      safes (type_first t) ts (omega (arith, at_most_one t.mall.safe)),
      uniques (type_first t) ts,
      non-malleables (type_first t) ts,
      all-and (λ c. is_w c.base) is_ud (corrs ts),
      exchange (is_b t.corr.base) (is_ud t.corr) (all (λ c. is_w c.base) (corrs ts)) (all is_ud (corrs ts)),
      le-leb 1 k low,
      le-leb k (length (t ∷ ts)) mid,
      le-leb (length (t ∷ ts)) 16 high,
      length-map ts (λ t. t.mall),
    )

-- the loop over the children after the first

turn : (s : TypeSoFar) (ts : List «Type») (d : «Type») (n i : ℕ) → i < n → i < length ts
    → after s (take (n - i) (drop i ts)) ≡ after (type_next s (get_or ts i d)) (take (n - (i + 1)) (drop (i + 1) ts))
unfolding after
turn s ts d n i h l =
    let e : n - i ≡ suc (n - (i + 1)) = omega arith in
    rw (drop-cons ts i d l, e, add-one i)

pub again : (s r : TypeSoFar) (ts : List «Type») (d : «Type») (n i : ℕ) (whole : TypeSoFar) → i < n → i < length ts
    → r ≡ type_next s (get_or ts i d) → after s (take (n - i) (drop i ts)) ≡ whole
    → after r (take (n - (i + 1)) (drop (i + 1) ts)) ≡ whole
again s r ts d n i whole h l e inv = rw e (sym (turn s ts d n i h l) ∙ inv)

-- all children are read: the result is the threshold's type
pub done : (s first : TypeSoFar) (ts : List «Type») (d : «Type») (k n i : ℕ) → 1 ≤ k → k ≤ n → n ≤ 16 → length ts ≡ 16 → n ≤ i
    → first ≡ type_first (get_or ts 0 d) → after s (take (n - i) (drop i ts)) ≡ after first (take (n - 1) (drop 1 ts))
    → type_result s n (n - k) ≡ threshold_of k n ts
unfolding after
done s first ts d k n i low mid high len end e inv =
    let x = get_or ts 0 d in
    let rest = take (n - 1) (drop 1 ts) in
    let ended : n - i ≡ 0 = omega arith in
    let read : s ≡ after (type_first x) rest =
    ap (λ (m : ℕ). after s (take m (drop i ts))) (sym ended) ∙ inv ∙ ap (λ (f : TypeSoFar). after f rest) e in
    let split : take n ts ≡ x ∷ rest = first_of n ts d (omega arith) (omega arith) in
    let size : length (x ∷ rest) ≡ n = ap length (sym split) ∙ length-take-le n ts (omega arith) in
    ap (λ (z : TypeSoFar). type_result z n (n - k)) read
    ∙ ap (λ (m : ℕ). type_result (after (type_first x) rest) m (m - k)) (sym size)
    ∙ agree k x rest low (omega (arith, size)) (omega (arith, size))
    ∙ ap (threshold k) (sym split)
    ∙ ap (λ (b : Bool). typed_if b (threshold k (take n ts))) (sym (le-leb n 16 high))
