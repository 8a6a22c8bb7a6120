-- The tables that work memory remembers: document 01, "Modules, leaves first", 7 (tables are remembered by policy structure, satisfaction
-- probability and dissatisfaction probability). A policy is its number, and an entry the number of a node. Assumes nothing.
use Rattle.std.specs.Prelude.{cond, List, [], ◌∷◌, ◌++◌, ◌≡◌, ℕ, zero, suc, ◌+◌, ◌*◌, ◌/◌, ◌%◌, ◌^◌, ◌<◌, ◌≤◌, min, eqb, Float, length, Option, None, Some}
use Rattle.words.specs.Floats.{float_of_word}
use Rattle.memory.specs.Layout.{work_words, keys_from, entries_from, max_tables, max_entries, word_at, table_count}

-- a remembered table: of which policy, at which probabilities
pub record Slot : Type 0 where
  pub number : ℕ
  pub sat : Float
  pub dissat : Option Float
  pub entries : List ℕ

abbrev pub slot : ℕ → Float → Option Float → List ℕ → Slot
slot number sat dissat entries = record { number = number; sat = sat; dissat = dissat; entries = entries }

-- ---- the three words of a key

-- the number of a policy, whether there is a dissatisfaction probability, and how many entries there are, from the lowest bit on: 16, 1, 47
abbrev pub number_in : ℕ → ℕ
number_in key = key % 0x1_0000

abbrev pub flag_in : ℕ → ℕ
flag_in key = key / 0x1_0000 % 2

abbrev pub length_in : ℕ → ℕ
length_in key = min (key / 0x2_0000) max_entries

abbrev pub dissat_in : (flag word : ℕ) → Option Float
dissat_in flag word = cond (eqb flag 1) (Some (float_of_word word)) None

-- ---- the entries, four to a word

-- sixteen bits of a word, the lowest being the 0th
abbrev pub entry_in : (word i : ℕ) → ℕ
entry_in word i = word / 2 ^ (16 * i) % 0x1_0000

abbrev pub entry_at : List ℕ → (s j : ℕ) → ℕ
entry_at m s j = entry_in (word_at m (entries_from + 32 * s + j / 4)) (j % 4)

-- the first n entries of table s
unfoldable pub entries_up_to : List ℕ → (s n : ℕ) → List ℕ
entries_up_to m s zero = []
entries_up_to m s (suc n) = entries_up_to m s n ++ (entry_at m s n ∷ [])

-- ---- the tables

abbrev pub slot_at : List ℕ → ℕ → Slot
slot_at m s =
    record {
      number = number_in (word_at m (keys_from + 3 * s));
      sat = float_of_word (word_at m (keys_from + 3 * s + 1));
      dissat = dissat_in (flag_in (word_at m (keys_from + 3 * s))) (word_at m (keys_from + 3 * s + 2));
      entries = entries_up_to m s (length_in (word_at m (keys_from + 3 * s)));
    }

-- the first n tables, the newest first
unfoldable pub slots_up_to : List ℕ → ℕ → List Slot
slots_up_to m zero = []
slots_up_to m (suc n) = slot_at m n ∷ slots_up_to m n

abbrev pub slots : List ℕ → List Slot
slots m = slots_up_to m (table_count m)

-- what holds of work memory while tables are remembered in it
pub record Kept (m : List ℕ) : Type 0 where
  pub long : length m ≡ work_words
  pub few : table_count m ≤ max_tables

-- the words that hold no table are as they were
pub record SameNodes (m₀ m : List ℕ) : Type 0 where
  pub long : length m ≡ length m₀
  pub words : (at : ℕ) → at < keys_from → (at ≡ 1 → ⊥) → word_at m at ≡ word_at m₀ at
