-- A table as words, for the functions that write and compare them: its key in three words, and its entries in a row of them. Assumes nothing.
use Rattle.std.specs.Prelude.{Bool, true, List, [], ◌∷◌, ◌≡◌, ℕ, ◌+◌, ◌*◌, ◌/◌, ◌%◌, ◌<◌, Float, length, get_or, Option, None, Some}
use Rattle.std.specs.Float.Ieee.{eq}
use Rattle.std.proofs.lemmas.List.Edits.{sets}
use Rattle.words.specs.Floats.{word_of_float, float_of_word}
use Rattle.memory.specs.Layout.{keys_from}
use Rattle.cache.specs.Slots.{dissat_in, entry_in}

abbrev pub flag_of : Option Float → ℕ
flag_of (Some p) = 1
flag_of None = 0

abbrev pub dissat_word : Option Float → ℕ
dissat_word (Some p) = word_of_float p
dissat_word None = 0

-- what a key's first word begins with
abbrev pub key_start : ℕ → Option Float → ℕ
key_start number dissat = number + flag_of dissat * 0x1_0000

-- a word holds a dissatisfaction probability
pub record Holds (dissat : Option Float) (word : ℕ) : Type 0 where
  pub is : word ≡ dissat_word dissat
  pub again : dissat_in (flag_of dissat) (dissat_word dissat) ≡ dissat

-- a dissatisfaction probability is the one of a word, if there is one
abbrev pub same_word : Option Float → ℕ → Bool
same_word (Some p) word = eq p (float_of_word word)
same_word None word = true

abbrev pub key_words : (number : ℕ) → Float → Option Float → (len : ℕ) → List ℕ
key_words number sat dissat len = (key_start number dissat + len * 0x2_0000) ∷ word_of_float sat ∷ dissat_word dissat ∷ []

-- the key of table s is written, and its words give the probabilities back
pub record KeyPut (m₀ m : List ℕ) (s number : ℕ) (sat : Float) (dissat : Option Float) (len : ℕ) : Type 0 where
  pub is : m ≡ sets m₀ (keys_from + 3 * s) (key_words number sat dissat len)
  pub small : number < 0x1_0000
  pub sat_again : float_of_word (word_of_float sat) ≡ sat
  pub dissat_again : dissat_in (flag_of dissat) (dissat_word dissat) ≡ dissat

-- a word holds four entries
pub record Fours (a b c d word : ℕ) : Type 0 where
  pub first : entry_in word 0 ≡ a
  pub second : entry_in word 1 ≡ b
  pub third : entry_in word 2 ≡ c
  pub fourth : entry_in word 3 ≡ d

-- a row of words holds the first len entries
pub record RowPut (row₀ row entries : List ℕ) (len : ℕ) : Type 0 where
  pub long : length row ≡ length row₀
  pub holds : (j : ℕ) → j < len → entry_in (get_or row (j / 4) 0) (j % 4) ≡ get_or entries j 0
