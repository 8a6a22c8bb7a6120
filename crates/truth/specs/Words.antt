-- Truth tables of 64 assignments in a word, and counts of true places in planes of such words.
use Rattle.std.specs.Prelude.{ℕ, suc, ◌/◌, ◌%◌, ◌^◌, ◌<◌, Bool, true, false, cond, List, [], ◌∷◌, ◌≡◌, eqb, leb, length, get_or}
use Rattle.std.specs.Int.Bits.{bit_and, bit_or}
use Rattle.variables.specs.declared.Var.{Var}
use Rattle.variables.specs.Gathering.{code_of, same_code}
use Rattle.meaning.specs.Meaning.{Assignment}

-- ---- words

-- bit j of a word: what holds under assignment j of the 64
unfoldable pub bit_at : (word j : ℕ) → Bool
bit_at word j = eqb (word / 2 ^ j % 2) 1

abbrev pub all_bits : ℕ
all_bits = 18446744073709551615

-- all bits, or none
abbrev pub full_if : Bool → ℕ
full_if true = all_bits
full_if false = 0

-- ---- the words of variables

-- the word of a variable is that of its place in a row; 0 where it has none
unfoldable pub word_for : List Var → List ℕ → Var → ℕ
word_for [] words x = 0
word_for (y ∷ ys) [] x = 0
word_for (y ∷ ys) (w ∷ ws) x = cond (same_code x y) w (word_for ys ws x)

-- assignment j of the 64
abbrev pub assigned : List Var → List ℕ → ℕ → Assignment
assigned row words j = λ v. bit_at (word_for row words (code_of v)) j

-- the words of the twelve variables in a block of 64 assignments: the first six take all values in it, the others are the block's own bits
unfoldable pub block_words : (block : ℕ) → List ℕ
block_words b =
    0xaaaa_aaaa_aaaa_aaaa ∷ 0xcccc_cccc_cccc_cccc ∷ 0xf0f0_f0f0_f0f0_f0f0 ∷ 0xff00_ff00_ff00_ff00 ∷ 0xffff_0000_ffff_0000 ∷ 0xffff_ffff_0000_0000
    ∷ full_if (eqb (b % 2) 1) ∷ full_if (eqb (b / 2 % 2) 1) ∷ full_if (eqb (b / 4 % 2) 1) ∷ full_if (eqb (b / 8 % 2) 1) ∷ full_if (eqb (b / 16 % 2) 1)
    ∷ full_if (eqb (b / 32 % 2) 1) ∷ []

-- ---- counts in planes: plane t has the assignments under which at least t places hold

pub record Planes (planes : List ℕ) (count : ℕ → ℕ) : Type 0 where
  pub long : length planes ≡ 17
  pub each : (t j : ℕ) → t < 17 → j < 64 → bit_at (get_or planes t 0) j ≡ leb t (count j)

-- one more place, that holds where x has a bit
pub record OneMore (planes : List ℕ) (x : ℕ) (next : List ℕ) : Type 0 where
  pub long : length next ≡ 17
  pub first : get_or next 0 0 ≡ get_or planes 0 0
  pub others : (t : ℕ) → t < 16 → get_or next (suc t) 0 ≡ bit_or (get_or planes (suc t) 0) (bit_and (get_or planes t 0) x)
