-- Numbers that a table of names does not have. Assumes nothing.
use mathlib.Core.Path.{◌≡◌, refl}
use mathlib.Core.List.{List, [], ◌∷◌}
use Prim.Native.Nat.{ℕ}
use Prim.Native.String.{String}
use borrow.Author.Tests.{ne_eqb}
use Rattle.names.specs.Names.{Row, ◌named◌, name_in}

-- no row has the number
pub data Absent : List Row → ℕ → Type 0 where
  none : {n : ℕ} → Absent [] n
  passed : {rows : List Row} {n m : ℕ} {name : String} → (n ≡ m → ⊥) → Absent rows n → Absent (m named name ∷ rows) n

pub unnamed : {rows : List Row} {n : ℕ} → Absent rows n → name_in rows n ≡ ""
unfolding name_in
unnamed none = refl
unnamed (passed {n = n} {m = m} other rest) = rw (ne_eqb n m other) (unnamed rest)
