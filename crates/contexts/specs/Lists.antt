-- What is said of a list of children, from the loops of `threshold` in types/correctness.rs and types/malleability.rs: of all of them, of how
-- many, and the sum over them.
use Rattle.std.specs.Prelude.{Bool, true, false, ◌&&◌, List, [], ◌∷◌, ℕ, ◌+◌}

unfoldable pub all : {A : Type 0} → (A → Bool) → List A → Bool
all p [] = true
all p (x ∷ xs) = p x && all p xs

unfoldable pub sum : {A : Type 0} → (A → ℕ) → List A → ℕ
sum f [] = 0
sum f (x ∷ xs) = f x + sum f xs

abbrev pub one : Bool → ℕ
one true = 1
one false = 0

abbrev pub count : {A : Type 0} → (A → Bool) → List A → ℕ
count p xs = sum (λ x. one (p x)) xs
