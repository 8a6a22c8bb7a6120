-- What is ill-typed by its type alone gives no candidate. Assumes nothing.
use Rattle.correctness.specs.declared.TypeError.{TypeError}
use mathlib.Core.Path.{◌≡◌, refl, ◌∙◌, ap}
use mathlib.Core.Bool.{false, true≢false}
use mathlib.Core.List.{List, [], ◌∷◌}
use Rattle.std.specs.Prelude.{None, Result, Ok, Err, is_ok}
use Prim.Native.Nat.{ℕ, zero, suc}
use Rattle.contexts.specs.declared.Context.{Context}
use Rattle.types.specs.declared.«Type».{«Type»}
use Rattle.candidates.specs.declared.Candidate.{Candidate}
use Rattle.candidates.specs.Casts.{Row, all_casts, cast_as, cast_from}
use Rattle.nodes.proofs.Casts.{cast_seen}
use Rattle.closure.specs.Typing.{is_typed, cast_type}

pub no-cast : (pol m : List ℕ) (rows : List Row) (number : ℕ) (x : Candidate) (node : ℕ) → is_typed (cast_type rows number x.ty) ≡ false
    → cast_seen pol m (cast_from rows number x node) ≡ None
unfolding cast_type cast_from
no-cast pol m [] number x node h = refl
no-cast pol m (r ∷ rows) zero x node h = by-type (r.type_rule x.ty) h
  where
    by-type : (t : Result «Type» TypeError) → is_typed t ≡ false
        → cast_seen pol m (cast_as r.kind (r.children node) t (r.ext_rule x.ext) (r.cost_rule x.cost)) ≡ None
    by-type (Ok t) h = absurd (true≢false h)
    by-type (Err TypeError.IllTyped) h = refl
no-cast pol m (r ∷ rows) (suc number) x node h = no-cast pol m rows number x node h

-- a type that was read is the node's
pub typed-as : (c : Context) (number : ℕ) {t u : «Type»} {r : Result «Type» TypeError} → t ≡ u → r ≡ cast_type (all_casts c) number t
    → is_ok r ≡ is_typed (cast_type (all_casts c) number u)
typed-as c number {r = r} is rule = by-type r ∙ ap is_typed (rule ∙ ap (cast_type (all_casts c) number) is)
  where
    by-type : (r : Result «Type» TypeError) → is_ok r ≡ is_typed r
    by-type (Ok t) = refl
    by-type (Err e) = refl

-- a number that is none of those of the casts

pub type-unknown : (c : Context) (number : ℕ) (t : «Type») →
    (((((((((Unit {0} × (number ≡ 0 → ⊥)) × (number ≡ 1 → ⊥)) × (number ≡ 2 → ⊥)) × (number ≡ 3 → ⊥)) × (number ≡ 4 → ⊥)) × (number ≡ 5 → ⊥))
    × (number ≡ 6 → ⊥)) × (number ≡ 7 → ⊥)) × (number ≡ 8 → ⊥)) × (number ≡ 9 → ⊥) → Err TypeError.IllTyped ≡ cast_type (all_casts c) number t
unfolding cast_type
type-unknown c zero t r = absurd (r.0.0.0.0.0.0.0.0.0.1 refl)
type-unknown c (suc zero) t r = absurd (r.0.0.0.0.0.0.0.0.1 refl)
type-unknown c (suc (suc zero)) t r = absurd (r.0.0.0.0.0.0.0.1 refl)
type-unknown c (suc (suc (suc zero))) t r = absurd (r.0.0.0.0.0.0.1 refl)
type-unknown c (suc (suc (suc (suc zero)))) t r = absurd (r.0.0.0.0.0.1 refl)
type-unknown c (suc (suc (suc (suc (suc zero))))) t r = absurd (r.0.0.0.0.1 refl)
type-unknown c (suc (suc (suc (suc (suc (suc zero)))))) t r = absurd (r.0.0.0.1 refl)
type-unknown c (suc (suc (suc (suc (suc (suc (suc zero))))))) t r = absurd (r.0.0.1 refl)
type-unknown c (suc (suc (suc (suc (suc (suc (suc (suc zero)))))))) t r = absurd (r.0.1 refl)
type-unknown c (suc (suc (suc (suc (suc (suc (suc (suc (suc zero))))))))) t r = absurd (r.1 refl)
type-unknown c (suc (suc (suc (suc (suc (suc (suc (suc (suc (suc n)))))))))) t r = refl
