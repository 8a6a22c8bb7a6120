-- Answers of the Rust (in context 1 with u for d:X), from the stored list crates/oracle_replay/data/compile.txt, which the definition of
-- compile gives too: all policy kinds, both contexts, done and refused. The bytes of policies and trees are written as there.
use Rattle.std.specs.Prelude.{Bool, true, false, ◌&&◌, List, [], ◌∷◌, ◌++◌, ℕ, zero, suc, ◌/◌, ◌%◌, eqb}
use Rattle.words.specs.Floats.{float_of_word}
use Rattle.costs.specs.declared.Price.TheVariants as Price
use Rattle.costs.specs.Price.{cost_bits, never_flag}
use Rattle.definition.specs.Compile.{Outcome, compiled, refused_with, compile}

-- so many bytes, from the digits that write them
unfoldable pub hex_onto : ℕ → ℕ → List ℕ → List ℕ
hex_onto zero n bytes = bytes
hex_onto (suc count) n bytes = hex_onto count (n / 256) (n % 256 ∷ bytes)

abbrev pub hex : (count digits : ℕ) → List ℕ
hex count digits = hex_onto count digits []

unfoldable pub same_bytes : List ℕ → List ℕ → Bool
same_bytes [] [] = true
same_bytes [] (y ∷ ys) = false
same_bytes (x ∷ xs) [] = false
same_bytes (x ∷ xs) (y ∷ ys) = eqb x y && same_bytes xs ys

abbrev pub same_outcome : Outcome → Outcome → Bool
same_outcome (compiled b c n) (compiled b' c' n') = same_bytes b b' && ((eqb (cost_bits c) (cost_bits c') && eqb (never_flag c) (never_flag c')) && eqb n n')
same_outcome (compiled b c n) (refused_with n') = false
same_outcome (refused_with n) (compiled b' c' n') = false
same_outcome (refused_with n) (refused_with n') = eqb n n'

-- one line of the stored list
pub record Line : Type 0 where
  pub context : ℕ
  pub policy : List ℕ
  pub answer : Outcome

abbrev pub answered : ℕ → List ℕ → List ℕ → (bits nodes : ℕ) → Line
answered context policy output bits nodes =
    record { context = context; policy = policy; answer = compiled output (Price.Finite (float_of_word bits)) nodes }

abbrev pub never : ℕ → List ℕ → List ℕ → (nodes : ℕ) → Line
never context policy output nodes = record { context = context; policy = policy; answer = compiled output Price.Never nodes }

abbrev pub refusal : ℕ → List ℕ → ℕ → Line
refusal context policy number = record { context = context; policy = policy; answer = refused_with number }

-- room for every tree of 4,096 records
abbrev pub plenty : ℕ
plenty = 1_000_000

abbrev pub right : Line → Bool
right l = same_outcome (compile l.context true l.policy plenty) l.answer

unfoldable pub all_right : List Line → Bool
all_right [] = true
all_right (l ∷ ls) = right l && all_right ls

unfoldable pub few : List Line
few =
    -- a key, in both contexts: document 01's whole case; the largest key of 64 bits
    answered 0 (hex 8 0x0800030007000000) (hex 18 0x0C005400070000000000000006002C000000) 0x405b000000000000 21
    ∷ answered 1 (hex 8 0x0800030007000000) (hex 18 0x0C005400070000000000000006002C000000) 0x4059000000000000 21
    ∷ answered 0 (hex 12 0x0C001300FFFFFFFFFFFFFFFF) (hex 18 0x0C005400FFFFFFFFFFFFFFFF06002C000000) 0x405b000000000000 21
    -- Unsatisfiable: no candidate in context 0, the largest cost in context 1
    ∷ refusal 0 (hex 4 0x04000100) 11
    ∷ answered 1 (hex 4 0x04000100) (hex 22 0x0400200006002E000000040021000800320001000200) 0x7fefffffffffffff 13
    -- Trivial: the chosen root is not safe
    ∷ refusal 0 (hex 4 0x04000200) 12
    -- And of a key and an age; of a key and a hash
    ∷ answered 0 (hex 24 0x0800030001000000080005006400000008000A0000000100)
    (hex 40 0x0C005400010000000000000006002C00000006002E00010008002500640000000800320002000300) 0x405bc00000000000 69
    ∷ answered 1 (hex 24 0x0800030001000000080008000500000008000A0000000100)
    (hex 40 0x0C005400010000000000000006002C00000006002E00010008002800050000000800320002000300) 0x4064000000000000 66
    -- Thresh, 2 of 2: its children are searched although its table is the And's; 1 of 1
    ∷ answered 0 (hex 28 0x080003000100000008000300070000000C000C000200020000000100)
    (hex 50 0x0C005400010000000000000006002C00000006002E0001000C005400070000000000000006002C0003000800320002000400) 0x406b000000000000 116
    ∷ refusal 1 (hex 18 0x08000600050000000A000C00010001000000) 12
    -- two parts that cannot be satisfied: never
    ∷ never 1 (hex 16 0x040001000400010008000A0000000100)
    (hex 40 0x0400200006002E0000000400200006002E0002000400210008003200030004000800320001000500) 30
    -- no record; a weight of 0; a context that is none
    ∷ refusal 0 [] 3
    ∷ refusal 1 (hex 32 0x0800030001000000080003000200000010000B00000001000000000001000000) 4
    ∷ refusal 2 (hex 8 0x0800030007000000) 1
    ∷ []

-- the desk's policy: one key or another, 4,294,967,295 to 1
unfoldable pub desk : List Line
desk = answered 0 (hex 32 0x0800030001000000080003000200000010000B0000000100FFFFFFFF01000000)
    (hex 62 0x0C005400010000000000000006002C0000000C005500020000000000000006002C00020006002E0003000800350001000400040021000800320005000600) 0x4061000000046000 119 ∷ []

-- an And in which its third search, of its right side without dissatisfaction, decides
unfoldable pub third : List Line
third = answered 1 (hex 44 0x080005000065CD1D080003000100000008000300080000000C000C00010002000200010008000A0003000000)
    (hex 46 0x18006C00010002000800000000000000010000000000000006002E000000080025000065CD1D0800320001000200) 0x4061e00000000000 157 ∷ []

unfoldable pub answers : List Line
answers = few ++ (desk ++ third)
