-- A test that holds of each variant holds of every value: how a law over a declared enum is computed. Assumes nothing.
use mathlib.Core.Path.{◌≡◌}
use mathlib.Core.Bool.{Bool, true, false, ◌&&◌}
use Rattle.types.specs.Names.{Base, B, K, «V», W, Input, Zero, One, Any, OneNonZero, AnyNonZero, Dissat, None, Unique, Unknown}
use Rattle.contexts.proofs.Bools.{and_l, and_r}

-- the values of A can be gone through
pub record Finite (A : Type 0) : Type 1 where
  pub every : (A → Bool) → Bool
  pub at : (p : A → Bool) → every p ≡ true → (a : A) → p a ≡ true

abbrev pub bools : Finite Bool
bools =
    record {
      every = λ p. p false && p true;
      at = at;
    }
  where
    at : (p : Bool → Bool) → p false && p true ≡ true → (a : Bool) → p a ≡ true
    at p h false = and_l (p false) (p true) h
    at p h true = and_r (p false) (p true) h

abbrev pub bases : Finite Base
bases =
    record {
      every = λ p. p B && (p K && (p «V» && p W));
      at = at;
    }
  where
    at : (p : Base → Bool) → p B && (p K && (p «V» && p W)) ≡ true → (a : Base) → p a ≡ true
    at p h B = and_l (p B) _ h
    at p h K = and_l (p K) _ (and_r (p B) _ h)
    at p h «V» = and_l (p «V») _ (and_r (p K) _ (and_r (p B) _ h))
    at p h W = and_r (p «V») _ (and_r (p K) _ (and_r (p B) _ h))

abbrev pub inputs : Finite Input
inputs =
    record {
      every = λ p. p Zero && (p One && (p Any && (p OneNonZero && p AnyNonZero)));
      at = at;
    }
  where
    at : (p : Input → Bool) → p Zero && (p One && (p Any && (p OneNonZero && p AnyNonZero))) ≡ true → (a : Input) → p a ≡ true
    at p h Zero = and_l (p Zero) _ h
    at p h One = and_l (p One) _ (and_r (p Zero) _ h)
    at p h Any = and_l (p Any) _ (and_r (p One) _ (and_r (p Zero) _ h))
    at p h OneNonZero = and_l (p OneNonZero) _ (and_r (p Any) _ (and_r (p One) _ (and_r (p Zero) _ h)))
    at p h AnyNonZero = and_r (p OneNonZero) _ (and_r (p Any) _ (and_r (p One) _ (and_r (p Zero) _ h)))

abbrev pub dissats : Finite Dissat
dissats =
    record {
      every = λ p. p None && (p Unique && p Unknown);
      at = at;
    }
  where
    at : (p : Dissat → Bool) → p None && (p Unique && p Unknown) ≡ true → (a : Dissat) → p a ≡ true
    at p h None = and_l (p None) _ h
    at p h Unique = and_l (p Unique) _ (and_r (p None) _ h)
    at p h Unknown = and_r (p Unique) _ (and_r (p None) _ h)
