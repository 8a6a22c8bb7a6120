-- Three computations that do the same, unless the first stops with one of some refusals. Assumes nothing.
use mathlib.Core.Bool.{Bool, true, false, cond}
use Prim.Native.Nat.{ℕ}
use Rattle.definition.specs.Refusals.{State, Res, done, refused, M, then, ◌>>=◌}

-- how three computations end
pub data Ends (Stops : ℕ → Type 0) {A : Type 0} : Res A → Res A → Res A → Type 0 where
  stopped : {e : ℕ} {r₁ r₂ : Res A} → Stops e → Ends Stops (refused e) r₁ r₂
  same : {r : Res A} → Ends Stops r r r

pub record Alike (Stops : ℕ → Type 0) {A : Type 0} (m m₁ m₂ : M A) : Type 0 where
  pub from : (s : State) → Ends Stops (m s) (m₁ s) (m₂ s)

module _ {Stops : ℕ → Type 0} {A : Type 0} where
  pub itself : {m : M A} → Alike Stops m m m
  itself = record { from = λ s. same }

  pub cond-alike : {m m₁ m₂ n n₁ n₂ : M A} (b : Bool) → Alike Stops m m₁ m₂ → Alike Stops n n₁ n₂ →
      Alike Stops (cond b m n) (cond b m₁ n₁) (cond b m₂ n₂)
  cond-alike true h k = h
  cond-alike false h k = k

then-alike : {Stops : ℕ → Type 0} {A B : Type 0} {k k₁ k₂ : A → M B} {r r₁ r₂ : Res A} → Ends Stops r r₁ r₂ →
    ((a : A) → Alike Stops (k a) (k₁ a) (k₂ a)) → Ends Stops (then r k) (then r₁ k₁) (then r₂ k₂)
unfolding then
then-alike (stopped h) n = stopped h
then-alike (same {r = done a s}) n = (n a).from s
then-alike (same {r = refused e}) n = same

pub bind-alike : {Stops : ℕ → Type 0} {A B : Type 0} {m m₁ m₂ : M A} {k k₁ k₂ : A → M B} → Alike Stops m m₁ m₂ →
    ((a : A) → Alike Stops (k a) (k₁ a) (k₂ a)) → Alike Stops (m >>= k) (m₁ >>= k₁) (m₂ >>= k₂)
bind-alike h n = record { from = λ s. then-alike (h.from s) n }
