-- What stands in work memory, a word for each record in each of four parts: where the record begins; its sizes, alone and 2^32 times before a VERIFY; its
-- first byte in the script; its type and height, as the tree check packs them.
use Rattle.std.specs.Prelude.{ℕ, ◌+◌, ◌*◌, ◌/◌, ◌%◌, Bool, true, false, List, get_or, Option, None, Some}
use Rattle.types.specs.TypeRules as rule
use Rattle.types.specs.TypeOrder.{pack}
use Rattle.trees.specs.declared.Subtree.{Subtree}
use Rattle.trees.specs.WorkMemory.{slot_of}
use Rattle.index_memory.specs.Entries.{Entry, entries_bytes}

-- the one length of work memory: four words for each record that a tree may have
abbrev pub work_words : ℕ
work_words = 16384

-- ---- sizes

abbrev pub size_digit : Bool → ℕ → ℕ
size_digit true w = w / 4294967296 % 4294967296
size_digit false w = w % 4294967296

unfoldable pub size_in : (work : List ℕ) (verified : Bool) → ℕ → ℕ
size_in work v i = size_digit v (get_or work (4096 + i) 0)

-- ---- places

unfoldable pub first_in : (work : List ℕ) → ℕ → ℕ
first_in work i = get_or work (8192 + i) 0

-- ---- types and heights

abbrev pub or_none : Option Subtree → Subtree
or_none (Some x) = x
or_none None = record { ty = rule.FALSE; height = 0 }

unfoldable pub subtree_in : (work : List ℕ) → ℕ → Subtree
subtree_in work i = or_none (slot_of (get_or work (12288 + i) 0))

-- how they stand in a word
abbrev pub tree_word : Subtree → ℕ
tree_word x = pack x.ty + 1 + x.height * 1024

-- ---- entries

unfoldable pub entry_in : (work : List ℕ) → ℕ → Entry
entry_in work i =
    record { type = pack (subtree_in work i).ty; height = (subtree_in work i).height; first = first_in work i; size = size_in work false i }

abbrev pub index_in : (work : List ℕ) → (count : ℕ) → List ℕ
index_in work count = entries_bytes (entry_in work) count
