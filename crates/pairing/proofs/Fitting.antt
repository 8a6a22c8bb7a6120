-- What is ill-typed by its sides' types is passed over, whatever else its sides are. Assumes nothing.
use Rattle.candidates.specs.declared.NotMade.{NotMade}
use Rattle.correctness.specs.declared.TypeError.{TypeError}
use Rattle.std.specs.Prelude.{Result, Ok, Err, is_ok}
use mathlib.Core.Path.{◌≡◌, refl, sym, ap, ◌∙◌}
use mathlib.Core.Bool.{Bool, true, false, cond, true≢false}
use mathlib.Core.List.{List, [], ◌∷◌}
use Prim.Native.Nat.{ℕ, ◌<◌, ◌≤◌}
use native.Mathlib.Omega.{arith}
use borrow.Author.Tests.{ne_eqb}
use lib.Dec.{eqb}
use lib.Ieee.{Float}
use Rattle.types.specs.declared.«Type».{«Type»}
use Rattle.types.specs.TypeRules as type
use Rattle.candidates.specs.declared.Candidate.{Candidate}
use Rattle.candidates.specs.Pairs.{Row, all_pairs, pair_by, pair_from, pair_of, and_or}
use Rattle.pairing.specs.Fits.{fits_from}

ill : (r : Result «Type» TypeError) → is_ok r ≡ false → r ≡ Err TypeError.IllTyped
ill (Ok t) e = absurd (true≢false e)
ill (Err TypeError.IllTyped) e = refl

module _ (kind : ℕ) (x y : Candidate) (l r : ℕ) (lw rw' : Float) where
  passed : (pairs : List Row) → fits_from pairs kind x.ty y.ty ≡ false → Err NotMade.PassedOver ≡ pair_from pairs kind x l y r lw rw'
  unfolding fits_from pair_from
  passed [] e = refl
  passed (p ∷ pairs) e = by-test (eqb kind p.kind) e (passed pairs)
    where
      by-test : (b : Bool) → cond b (is_ok (p.type_rule x.ty y.ty)) (fits_from pairs kind x.ty y.ty) ≡ false →
          (fits_from pairs kind x.ty y.ty ≡ false → Err NotMade.PassedOver ≡ pair_from pairs kind x l y r lw rw') →
          Err NotMade.PassedOver ≡ cond b (pair_by p x l y r lw rw') (pair_from pairs kind x l y r lw rw')
      by-test true e k = let is = ill (p.type_rule x.ty y.ty) e in sym (rw is)
      by-test false e k = k e

  pub pair-passed : {a b : «Type»} {fit : Bool} → a ≡ x.ty → b ≡ y.ty → fit ≡ fits_from all_pairs kind a b → fit ≡ false →
      Err NotMade.PassedOver ≡ pair_of kind x l y r lw rw'
  pair-passed {b} p q is e =
      passed all_pairs
      (sym (is ∙ ap (λ (t : «Type»). fits_from all_pairs kind t b) p ∙ ap (λ (t : «Type»). fits_from all_pairs kind x.ty t) q) ∙ e)

pub triple-passed : (x y z : Candidate) (l r e : ℕ) (lw rw' : Float) {a b c : «Type»} {t : Result «Type» TypeError} {fit : Bool} → a ≡ x.ty → b ≡ y.ty → c ≡ z.ty
    → t ≡ type.and_or a b c → fit ≡ is_ok t → fit ≡ false → Err NotMade.PassedOver ≡ and_or x l y r z e lw rw'
triple-passed x y z l r e lw rw' p q s rule is miss =
    let told : is_ok (type.and_or x.ty y.ty z.ty) ≡ false = rw (sym p, sym q, sym s, sym rule) (sym is ∙ miss) in
    sym (rw (ill (type.and_or x.ty y.ty z.ty) told))

-- the pair and the triple of candidates that are known
pub pair-of-nodes : (kind l r : ℕ) (lw rw' : Float) {x y u v : Candidate} {z : Result Candidate NotMade} → x ≡ u → y ≡ v → z ≡ pair_of kind x l y r lw rw'
    → z ≡ pair_of kind u l v r lw rw'
pair-of-nodes kind l r lw rw' {x} {y} {u} {v} p q is =
    is ∙ ap (λ (c : Candidate). pair_of kind c l y r lw rw') p ∙ ap (λ (c : Candidate). pair_of kind u l c r lw rw') q

pub triple-of-nodes : (l r e : ℕ) (lw rw' : Float) {x y z u v w : Candidate} {m : Result Candidate NotMade} → x ≡ u → y ≡ v → z ≡ w
    → m ≡ and_or x l y r z e lw rw' → m ≡ and_or u l v r w e lw rw'
triple-of-nodes l r e lw rw' {x} {y} {z} {u} {v} {w} p q s is =
    is
    ∙ ap (λ (c : Candidate). and_or c l y r z e lw rw') p
    ∙ ap (λ (c : Candidate). and_or u l c r z e lw rw') q
    ∙ ap (λ (c : Candidate). and_or u l v r c e lw rw') s

-- another kind than a pair's

infix 40 ◌≢◌
abbrev ◌≢◌ : ℕ → ℕ → Type 0
m ≢ n = m ≡ n → ⊥

module _ (kind : ℕ) (l r : «Type») where
  pub fits-above : (((((Unit {0} × kind ≢ 49) × kind ≢ 50) × kind ≢ 51) × kind ≢ 52) × kind ≢ 53) × kind ≢ 54 → false ≡ fits_from all_pairs kind l r
  unfolding fits_from
  fits-above n =
      simp (
        ne_eqb kind 49 n.0.0.0.0.0.1,
        ne_eqb kind 50 n.0.0.0.0.1,
        ne_eqb kind 51 n.0.0.0.1,
        ne_eqb kind 52 n.0.0.1,
        ne_eqb kind 53 n.0.1,
        ne_eqb kind 54 n.1,
      )

  pub fits_below : kind < 49 → false ≡ fits_from all_pairs kind l r
  fits_below h =
      let no : (k : ℕ) → 49 ≤ k → kind ≢ k = λ k le e. omega arith in
      fits-above
      ((((((tt, no 49 (omega arith)), no 50 (omega arith)), no 51 (omega arith)), no 52 (omega arith)), no 53 (omega arith)), no 54 (omega arith))
