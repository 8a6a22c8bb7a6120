-- The form in which the bytes of a chosen tree stand in work memory: document 02, R-7. Word 0 has how many bytes there are; the bytes follow, eight to
-- a word, the least significant first; every byte behind the last is zero. Assumes nothing.
use Rattle.std.specs.Prelude.{List, [], ◌∷◌, ◌++◌, ℕ, zero, suc, length, take, drop}
use Rattle.words.specs.Bytes.{little, bytes_of}
use Rattle.memory.specs.Layout.{word_at}

-- the words that there are for the bytes of a tree, and the bytes that these have
abbrev pub tree_words : ℕ
tree_words = 612359

abbrev pub tree_bytes : ℕ
tree_bytes = 4898872

-- the most bytes that a tree of 4,096 records has, a record having 136 at most
abbrev pub most_bytes : ℕ
most_bytes = 557056

-- so many words, of eight bytes each, and of zeros behind the bytes
unfoldable pub in_words : (words : ℕ) → List ℕ → List ℕ
in_words zero bytes = []
in_words (suc words) bytes = little (take 8 bytes) ∷ in_words words (drop 8 bytes)

-- the work memory that holds some bytes
unfoldable pub holding : List ℕ → List ℕ
holding bytes = length bytes ∷ in_words tree_words bytes

-- ---- read again

-- the bytes of some words
unfoldable pub bytes_in : List ℕ → List ℕ
bytes_in [] = []
bytes_in (word ∷ words) = bytes_of 8 word ++ bytes_in words

-- all bytes behind word 0
unfoldable pub room_in : List ℕ → List ℕ
room_in m = bytes_in (drop 1 m)

-- the bytes that a memory holds, if it holds any
abbrev pub held_in : List ℕ → List ℕ
held_in m = take (word_at m 0) (room_in m)
