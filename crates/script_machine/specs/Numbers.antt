-- Byte strings and Script numbers, written from document 01, "What a fragment's script does".
use Rattle.std.specs.Prelude.{ℕ, zero, suc, ◌+◌, ◌*◌, ◌/◌, ◌%◌, Bool, true, false, not, ◌&&◌, ◌||◌, cond, List, [], ◌∷◌, leb, ltb, eqb, ℤ, pos, negsuc, neg_ℤ}

-- A byte string is a list of bytes, a stack a list of byte strings with its top first.
abbrev pub Bytes : Type 0
Bytes = List ℕ

abbrev pub Stack : Type 0
Stack = List Bytes

-- Whether IF, NOTIF, IFDUP and VERIFY take an element for true: the empty one, zero bytes, and zero bytes ending in 0x80 are false.
unfoldable pub is_true : Bytes → Bool
is_true [] = false
is_true (b ∷ []) = not (eqb b 0x00) && not (eqb b 0x80)
is_true (b ∷ c ∷ bs) = not (eqb b 0x00) || is_true (c ∷ bs)

-- What a test pushes: the byte 1 or the empty element.
unfoldable pub element : Bool → Bytes
element true = 1 ∷ []
element false = []

-- Whether two byte strings are equal.
unfoldable pub same : Bytes → Bytes → Bool
same [] [] = true
same [] (c ∷ cs) = false
same (b ∷ bs) [] = false
same (b ∷ bs) (c ∷ cs) = eqb b c && same bs cs

-- A number is read little-endian, the top bit of its last byte being its sign; it need not be minimal.
unfoldable pub magnitude : Bytes → ℕ
magnitude [] = 0
magnitude (b ∷ []) = b % 128
magnitude (b ∷ c ∷ bs) = b + 256 * magnitude (c ∷ bs)

unfoldable pub negative : Bytes → Bool
negative [] = false
negative (b ∷ []) = leb 128 b
negative (b ∷ c ∷ bs) = negative (c ∷ bs)

unfoldable pub read : Bytes → ℤ
read bs = cond (negative bs) (neg_ℤ (pos (magnitude bs))) (pos (magnitude bs))

-- A number is written in as few bytes as hold it and its sign. `digits` has n in base 256, the lowest digit first; n bounds their count.
unfoldable pub digits : ℕ → ℕ → Bytes
digits zero n = []
digits (suc bound) n = elim (eqb n 0) [ true ↦ [] | false ↦ n % 256 ∷ digits bound (n / 256) ]

unfoldable pub signed : Bool → Bytes → Bytes
signed s [] = []
signed s (b ∷ []) = cond (ltb b 128) (cond s (b + 128) b ∷ []) (b ∷ cond s 128 0 ∷ [])
signed s (b ∷ c ∷ bs) = b ∷ signed s (c ∷ bs)

unfoldable pub write : ℤ → Bytes
write (pos n) = signed false (digits n n)
write (negsuc n) = signed true (digits (suc n) (suc n))

-- The tests of 0NOTEQUAL, BOOLAND, BOOLOR and NUMEQUAL.
unfoldable pub nonzero : ℤ → Bool
nonzero (pos n) = not (eqb n 0)
nonzero (negsuc n) = true

unfoldable pub equal : ℤ → ℤ → Bool
equal (pos m) (pos n) = eqb m n
equal (pos m) (negsuc n) = false
equal (negsuc m) (pos n) = false
equal (negsuc m) (negsuc n) = eqb m n
