-- The number that a word writes: the CONTEXT of docs/CONSOLE.md and the numbers of docs/BENCH.md, "The stored list". A word is a list of bytes, in
-- ASCII. Assumes nothing.
use Rattle.std.specs.Prelude.{Bool, true, cond, ◌&&◌, List, [], ◌∷◌, ℕ, ◌+◌, ◌-◌, ◌*◌, ◌^◌, leb, ltb, eqb, length, Option, None, Some}

-- the value of a digit, 0 to 9 and A to F; 16 for any other sign
abbrev pub digit : ℕ → ℕ
digit b = cond (leb 48 b && leb b 57) (b - 48) (cond (leb 65 b && leb b 70) (b - 55) 16)

-- whether every sign of a word is a digit of a base
unfoldable pub all_digits : (base : ℕ) → List ℕ → Bool
all_digits base [] = true
all_digits base (b ∷ w) = ltb (digit b) base && all_digits base w

-- the value of digits: each counts for the base to the number of those after it
unfoldable pub value : (base : ℕ) → List ℕ → ℕ
value base [] = 0
value base (b ∷ w) = digit b * base ^ length w + value base w

-- the number that digits of a base write, none where a sign is no such digit
abbrev pub number_in : (base : ℕ) → List ℕ → Option ℕ
number_in base w = cond (all_digits base w) (Some (value base w)) None

abbrev pub below : ℕ → Option ℕ → Option ℕ
below limit None = None
below limit (Some n) = cond (ltb n limit) (Some n) None

-- a decimal number of 32 bits, in 1 to 10 digits
unfoldable pub decimal : List ℕ → Option ℕ
decimal w = cond (leb 1 (length w) && leb (length w) 10) (below (2 ^ 32) (number_in 10 w)) None

-- 64 bits, in 16 hexadecimal digits
unfoldable pub bits : List ℕ → Option ℕ
bits w = cond (eqb (length w) 16) (number_in 16 w) None
