-- The work memory of compile, in words of 64 bits: document 01, "Forms that must change" (numbered nodes in lent work memory, a bounded ordered
-- table), with its limits of nodes, tables and entries ("Numbers the console shows").
--
--   0        how many nodes there are
--   1        how many tables are remembered
--   2        how many rows there are
--   8        nodes, of 8 words each
--   524,296  rows, of 4 words each: the children of a Thresh
--   540,680  of each remembered table its policy, its probabilities and its length, in 3 words
--   546,824  of each remembered table its entries, in 32 words
use Rattle.std.specs.Prelude.{ℕ, ◌+◌, ◌*◌, ◌<◌, ◌≤◌, List, ◌≡◌, get_or}

abbrev pub work_words : ℕ
work_words = 612360

-- the most nodes: the candidates that one call accepts, and False and True
abbrev pub max_nodes : ℕ
max_nodes = 65536

abbrev pub max_rows : ℕ
max_rows = 4096

-- the most tables that are remembered, and the most entries of one
abbrev pub max_tables : ℕ
max_tables = 2048

abbrev pub max_entries : ℕ
max_entries = 128

abbrev pub nodes_from : ℕ
nodes_from = 8

abbrev pub rows_from : ℕ
rows_from = 524296

abbrev pub keys_from : ℕ
keys_from = 540680

abbrev pub entries_from : ℕ
entries_from = 546824

abbrev pub word_at : List ℕ → ℕ → ℕ
word_at m at = get_or m at 0

abbrev pub node_count : List ℕ → ℕ
node_count m = word_at m 0

abbrev pub table_count : List ℕ → ℕ
table_count m = word_at m 1

abbrev pub row_count : List ℕ → ℕ
row_count m = word_at m 2

-- the words from one place up to another are the same in two memories
abbrev pub SameWords : (from to : ℕ) → List ℕ → List ℕ → Type 0
SameWords from to m₀ m = (at : ℕ) → from ≤ at → at < to → word_at m at ≡ word_at m₀ at
