-- The order of keys: it is strict and total, and where neither of two keys comes before the other, they are the same.
use mathlib.Core.Bool.{Bool, true, false, cond}
use mathlib.Core.Path.{◌≡◌, refl, sym, ◌∙◌}
use Prim.Native.Nat.{ℕ, ◌+◌, ◌*◌, ◌<◌, ◌≤◌}
use native.Mathlib.Omega.{arith}
use lib.Dec.{ltb}
use borrow.Author.Tests.{ltb-true, ltb-false, lt-ltb, le-ltb}
use Rattle.contexts.specs.Bools.{bool_rank}
use Rattle.types.specs.TypeOrder.{pack}
use Rattle.definition.specs.Candidates.{Candidate}
use Rattle.definition.specs.Tables.{free_verify, same_bool, key_sub, key_before}
use Rattle.types.proofs.PackLaws.{pack-injective}
use Rattle.type_laws.proofs.SubtypeLaws.{sub_refl}

-- ---- keys as numbers

bool-below : (b : Bool) → bool_rank b < 2
bool-below true = omega arith
bool-below false = omega arith

same_rank : (a b : Bool) → bool_rank a ≡ bool_rank b → a ≡ b
same_rank true true e = refl
same_rank true false e = absurd (omega (arith, e))
same_rank false true e = absurd (omega (arith, e))
same_rank false false e = refl

-- the digits of one number are the same
digits₂ : (a b x y : ℕ) → x < 2 → y < 2 → a * 2 + x ≡ b * 2 + y → (a ≡ b) × (x ≡ y)
digits₂ a b x y p q e = (omega arith, omega arith)

same_self : (b : Bool) → same_bool b b ≡ true
same_self true = refl
same_self false = refl

abbrev pub key_number : Candidate → ℕ
key_number x = pack x.ty * 2 + bool_rank (free_verify x)

lexical : (a b x y : ℕ) → x < 2 → y < 2 → cond (ltb a b) true (cond (ltb b a) false (ltb x y)) ≡ ltb (a * 2 + x) (b * 2 + y)
lexical a b x y p q = by_tests (ltb a b) (ltb b a) (ltb x y) refl refl refl
  where
    by_tests : (s t u : Bool) → ltb a b ≡ s → ltb b a ≡ t → ltb x y ≡ u → cond s true (cond t false u) ≡ ltb (a * 2 + x) (b * 2 + y)
    by_tests true t u d e f = sym (lt-ltb (a * 2 + x) (b * 2 + y) (omega (arith, ltb-true a b d)))
    by_tests false true u d e f = sym (le-ltb (a * 2 + x) (b * 2 + y) (omega (arith, ltb-true b a e)))
    by_tests false false true d e f = sym (lt-ltb (a * 2 + x) (b * 2 + y) (omega (arith, ltb-false a b d, ltb-false b a e, ltb-true x y f)))
    by_tests false false false d e f = sym (le-ltb (a * 2 + x) (b * 2 + y) (omega (arith, ltb-false a b d, ltb-false b a e, ltb-false x y f)))

key-before : (x y : Candidate) → key_before x y ≡ ltb (key_number x) (key_number y)
key-before x y = lexical (pack x.ty) (pack y.ty) _ _ (bool-below (free_verify x)) (bool-below (free_verify y))

pub before : (x y : Candidate) → key_before x y ≡ true → key_number x < key_number y
before x y h = ltb-true _ _ (sym (key-before x y) ∙ h)

pub not-before : (x y : Candidate) → key_before x y ≡ false → key_number y ≤ key_number x
not-before x y h = ltb-false _ _ (sym (key-before x y) ∙ h)

pub is-before : (x y : Candidate) → key_number x < key_number y → key_before x y ≡ true
is-before x y h = key-before x y ∙ lt-ltb _ _ h

pub before-trans : (x y z : Candidate) → key_before x y ≡ true → key_before y z ≡ true → key_before x z ≡ true
before-trans x y z p q = is-before x z (omega (arith, before x y p, before y z q))

-- a key that is the same is a subtype
pub key-self : (x y : Candidate) → x.ty ≡ y.ty → free_verify x ≡ free_verify y → key_sub x y ≡ true
key-self x y p q = rw (p, q, sub_refl y.ty, same_self (free_verify y))

pub same_key : (x y : Candidate) → key_number x ≡ key_number y → key_sub x y ≡ true
same_key x y e =
    let d = digits₂ _ _ _ _ (bool-below (free_verify x)) (bool-below (free_verify y)) e in
    key-self x y (pack-injective _ _ d.0) (same_rank _ _ d.1)
