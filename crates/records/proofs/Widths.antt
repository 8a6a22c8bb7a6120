-- How many bytes a record's number has, by its kind: document 02, R-3. Assumes nothing.
use mathlib.Core.Path.{◌≡◌, refl}
use mathlib.Core.Bool.{Bool, true, false, ◌||◌}
use mathlib.Core.List.{List}
use mathlib.Core.Logic.{◌⊎◌, inl, inr, ⊎_elim}
use Prim.Native.Nat.{ℕ, ◌+◌, ◌*◌, ◌-◌, ◌<◌, ◌≤◌}
use native.Mathlib.Nat.{mul-zero, mul-suc, mul-le-mul}
use native.Mathlib.Numerals.{add-one}
use native.Mathlib.Omega.{arith}
use borrow.Author.Tests.{leb-true, le-leb, lt-leb, eqb-true, eq-eqb, ne_eqb}
use lib.Dec.{leb, eqb}
use Rattle.records.specs.Numbers.{between}
use Rattle.records.specs.Shapes.{is_long, meant}
use Rattle.records.specs.Payloads.{written_kind, width}
use Rattle.records.specs.RecordForm.{kind_of}
use Rattle.records.proofs.Forms.{and_left, and_right}

-- ---- places of keys

pub first-place : (w : ℕ) → 8 + w * 0 ≡ 8
first-place w = omega (arith, mul-zero w)

pub next_place : (w j : ℕ) → 8 + w * (j + 1) ≡ 8 + w * j + w
next_place w j =
    let e : w * (j + 1) ≡ w * j + w = rw add-one (mul-suc w j) in
    omega arith

-- a key's place is no large number
pub few-places : (w j : ℕ) → w ≤ 8 → j ≤ 65535 → w * j ≤ 524280
few-places w j l m = mul-le-mul l m

-- ---- by whether the written kind is one of keys of 64 bits

pub width-long : (s : List ℕ) → is_long (written_kind s) ≡ true → width s ≡ 8
unfolding width
width-long s e = rw e

pub width-short : (s : List ℕ) → is_long (written_kind s) ≡ false → width s ≡ 4
unfolding width
width-short s e = rw e

pub width_few : (s : List ℕ) → width s ≤ 8
width_few s = by-test (is_long (written_kind s)) refl
  where
    by-test : (t : Bool) → is_long (written_kind s) ≡ t → width s ≤ 8
    by-test true e = rw (width-long s e) (omega arith)
    by-test false e = rw (width-short s e) (omega arith)

-- ---- which numbers are such kinds, and what they stand for

-- 19, 84 and 85, 107 and 108
pub data Long (kind : ℕ) : Type 0 where
  key : kind ≡ 19 → Long kind
  one_key : 84 ≤ kind → kind ≤ 85 → Long kind
  more-keys : 107 ≤ kind → kind ≤ 108 → Long kind

bounds : (low high n : ℕ) → between low high n ≡ true → (low ≤ n) × (n ≤ high)
bounds low high n e =
    (leb-true low n (and_left (leb low n) (leb n high) e), leb-true n high (and_right (leb low n) (leb n high) e))

pub long-is : (kind : ℕ) → is_long kind ≡ true → Long kind
long-is kind e = by_tests (eqb kind 19) (between 84 85 kind) (between 107 108 kind) refl refl refl e
  where
    by_tests : (a b c : Bool) → eqb kind 19 ≡ a → between 84 85 kind ≡ b → between 107 108 kind ≡ c → a || (b || c) ≡ true → Long kind
    by_tests true b c e₁ e₂ e₃ e = key (eqb-true kind 19 e₁)
    by_tests false true c e₁ e₂ e₃ e = one_key (bounds 84 85 kind e₂).0 (bounds 84 85 kind e₂).1
    by_tests false false true e₁ e₂ e₃ e = more-keys (bounds 107 108 kind e₃).0 (bounds 107 108 kind e₃).1
    by_tests false false false e₁ e₂ e₃ e = absurd (let z : ◌≡◌ {A = ℕ} 0 1 = cc in omega arith)

-- by ranges of numbers
pub is_key : (kind : ℕ) → kind ≡ 19 → true ≡ is_long kind
is_key kind e = rw (eq-eqb kind 19 e)

pub is_one : (kind : ℕ) → 84 ≤ kind → kind ≤ 85 → true ≡ is_long kind
is_one kind l h = rw (ne_eqb kind 19 (omega arith), le-leb 84 kind l, le-leb kind 85 h)

pub is-more : (kind : ℕ) → 107 ≤ kind → kind ≤ 108 → true ≡ is_long kind
is-more kind l h =
    rw (ne_eqb kind 19 (omega arith), le-leb 84 kind (omega arith), lt-leb kind 85 (omega arith), le-leb 107 kind l, le-leb kind 108 h)

pub not-below : (kind : ℕ) → kind < 84 → (kind ≡ 19 → ⊥) → false ≡ is_long kind
not-below kind h other = rw (ne_eqb kind 19 other, lt-leb 84 kind h, lt-leb 107 kind (omega arith))

pub not-later : (kind : ℕ) → 85 < kind → kind < 107 → false ≡ is_long kind
not-later kind l h = rw (ne_eqb kind 19 (omega arith), le-leb 84 kind (omega arith), lt-leb kind 85 (omega arith), lt-leb 107 kind (omega arith))

pub not-above : (kind : ℕ) → 108 < kind → false ≡ is_long kind
not-above kind l =
    rw (
      ne_eqb kind 19 (omega arith),
      le-leb 84 kind (omega arith),
      lt-leb kind 85 (omega arith),
      le-leb 107 kind (omega arith),
      lt-leb kind 108 (omega arith),
    )

pub meant-key : (kind : ℕ) → kind ≡ 19 → meant kind ≡ 3
meant-key kind e = rw (eq-eqb kind 19 e)

pub meant-one : (kind : ℕ) → 84 ≤ kind → kind ≤ 85 → meant kind ≡ kind - 50
meant-one kind l h = rw (ne_eqb kind 19 (omega arith), le-leb 84 kind l, le-leb kind 85 h)

pub meant-more : (kind : ℕ) → 107 ≤ kind → kind ≤ 108 → meant kind ≡ kind - 50
meant-more kind l h =
    rw (ne_eqb kind 19 (omega arith), le-leb 84 kind (omega arith), lt-leb kind 85 (omega arith), le-leb 107 kind l, le-leb kind 108 h)

-- any other number stands for itself
pub meant_itself : (kind : ℕ) → is_long kind ≡ false → meant kind ≡ kind
meant_itself kind e = by_tests (eqb kind 19) (between 84 85 kind || between 107 108 kind) refl refl e
  where
    by_tests : (a b : Bool) → eqb kind 19 ≡ a → between 84 85 kind || between 107 108 kind ≡ b → a || b ≡ false → meant kind ≡ kind
    by_tests false false e₁ e₂ e = rw (e₁, e₂)
    by_tests false true e₁ e₂ e = absurd (let z : ◌≡◌ {A = ℕ} 0 1 = cc in omega arith)
    by_tests true b e₁ e₂ e = absurd (let z : ◌≡◌ {A = ℕ} 0 1 = cc in omega arith)

-- ---- by the kind that is meant: those that are no key's have short numbers

long-kind : (kind : ℕ) → Long kind → (meant kind ≡ 3) ⊎ ((34 ≤ meant kind) × (meant kind ≤ 35)) ⊎ (57 ≤ meant kind)
long-kind kind (key e) = inl (meant-key kind e)
long-kind kind (one_key l h) = inr (inl (rw (meant-one kind l h) (omega arith, omega arith)))
long-kind kind (more-keys l h) = inr (inr (rw (meant-more kind l h) (omega arith)))

module _ (s : List ℕ) where
  unless : ((kind_of s ≡ 3) ⊎ ((34 ≤ kind_of s) × (kind_of s ≤ 35)) ⊎ (57 ≤ kind_of s) → ⊥) → width s ≡ 4
  unfolding kind_of
  unless apart = by-test (is_long (written_kind s)) refl
    where
      by-test : (t : Bool) → is_long (written_kind s) ≡ t → width s ≡ 4
      by-test true e = absurd (apart (long-kind (written_kind s) (long-is (written_kind s) e)))
      by-test false e = width-short s e

  pub short-policy : 4 ≤ kind_of s → kind_of s ≤ 33 → width s ≡ 4
  short-policy l h =
      unless (⊎_elim (λ (e : kind_of s ≡ 3). omega arith)
      (⊎_elim (λ (e : (34 ≤ kind_of s) × (kind_of s ≤ 35)). omega (arith, e.0)) (λ (e : 57 ≤ kind_of s). omega arith)))

  pub short-fragment : 36 ≤ kind_of s → kind_of s ≤ 56 → width s ≡ 4
  short-fragment l h =
      unless (⊎_elim (λ (e : kind_of s ≡ 3). omega arith)
      (⊎_elim (λ (e : (34 ≤ kind_of s) × (kind_of s ≤ 35)). omega (arith, e.1)) (λ (e : 57 ≤ kind_of s). omega arith)))
