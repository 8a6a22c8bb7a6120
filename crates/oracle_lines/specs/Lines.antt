-- What a line of the stored list says, from docs/BENCH.md, "The stored list". Text is a list of bytes, in ASCII. Assumes nothing.
use Rattle.std.specs.Prelude.{cond, ◌&&◌, List, [], ◌∷◌, ◌++◌, ℕ, ◌+◌, ◌*◌, ltb, eqb, length, get_or, Option, None, Some}
use Rattle.numerals.specs.Numbers.{digit, decimal, bits}

-- ---- the signs that part a text

abbrev pub newline : ℕ
newline = 10

abbrev pub space : ℕ
space = 32

abbrev pub hash : ℕ
hash = 35

abbrev pub dash : ℕ
dash = 45

-- pieces, with some bytes put before the first
abbrev pub on_first : List ℕ → List (List ℕ) → List (List ℕ)
on_first s [] = s ∷ []
on_first s (w ∷ ws) = (s ++ w) ∷ ws

-- the pieces of a text that a sign parts: one more than there are signs
unfoldable pub split : (sign : ℕ) → List ℕ → List (List ℕ)
split sign [] = [] ∷ []
split sign (b ∷ s) = cond (eqb b sign) ([] ∷ split sign s) (on_first (b ∷ []) (split sign s))

-- ---- records in a word

abbrev pub onto : ℕ → Option (List ℕ) → Option (List ℕ)
onto b None = None
onto b (Some s) = Some (b ∷ s)

-- bytes, each in two hexadecimal digits, the high one first
unfoldable pub bytes : List ℕ → Option (List ℕ)
bytes [] = Some []
bytes (h ∷ []) = None
bytes (h ∷ l ∷ s) = cond (ltb (digit h) 16 && ltb (digit l) 16) (onto (digit h * 16 + digit l) (bytes s)) None

-- the bytes of records, `-` where there are none
unfoldable pub records : List ℕ → Option (List ℕ)
records [] = None
records (b ∷ []) = cond (eqb b dash) (Some []) None
records (h ∷ l ∷ s) = bytes (h ∷ l ∷ s)

-- ---- a cost in a word

-- what is told of a cost: its bits, and 1 where it is never, else 0
pub record Told : Type 0 where
  pub bits : ℕ
  pub never : ℕ

abbrev pub finite : Option ℕ → Option Told
finite None = None
finite (Some b) = Some (record { bits = b; never = 0 })

-- a cost by its bits, `-` where it is never
unfoldable pub cost : List ℕ → Option Told
cost [] = None
cost (b ∷ []) = cond (eqb b dash) (Some (record { bits = 0; never = 1 })) None
cost (h ∷ l ∷ s) = finite (bits (h ∷ l ∷ s))

-- ---- a line

-- a line is passed over, is broken, or says what the Rust gives for a policy in a context
pub data Line : Type 0 where
  passed : Line
  broken : Line
  says : (context : ℕ) → (policy : List ℕ) → (number : ℕ) → (output : List ℕ) → (cost never nodes : ℕ) → Line

-- a line goes on with what a word says, and is broken where it says nothing
infixl 20 ◌>>=◌
abbrev pub ◌>>=◌ : {A : Type 0} → Option A → (A → Line) → Line
None >>= f = broken
Some a >>= f = f a

abbrev pub said : (context policy number output price nodes : List ℕ) → Line
said context policy number output price nodes = do
  c ← decimal context
  p ← records policy
  n ← decimal number
  o ← records output
  k ← cost price
  m ← decimal nodes
  says c p n o k.bits k.never m

-- six words
abbrev pub said_by : List (List ℕ) → Line
said_by ws =
    cond (eqb (length ws) 6)
    (said (get_or ws 0 []) (get_or ws 1 []) (get_or ws 2 []) (get_or ws 3 []) (get_or ws 4 []) (get_or ws 5 []))
    broken

-- blank lines and lines that begin with `#` are passed over
unfoldable pub line_of : List ℕ → Line
line_of [] = passed
line_of (b ∷ s) = cond (eqb b hash) passed (said_by (split space (b ∷ s)))
