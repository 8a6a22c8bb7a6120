-- What holds of the nodes in work memory, how they grow, and what adding one leaves. Assumes nothing.
use Rattle.std.specs.Prelude.{List, ◌≡◌, ℕ, suc, ◌<◌, ◌≤◌, length, get_or, Option, None, Some}
use Rattle.figures.specs.Bounds.{Entered}
use Rattle.candidates.specs.declared.Candidate.{Candidate}
use Rattle.candidates.specs.Leaves.{false_candidate, true_candidate}
use Rattle.memory.specs.Layout.{work_words, max_nodes, max_rows, keys_from, node_count, table_count, row_count, SameWords}
use Rattle.nodes.specs.Words.{node_at, row_child}
use Rattle.nodes.specs.Views.{seen, offered}

abbrev pub thresh_kind : ℕ
thresh_kind = 56

-- a node is at most 128 high: the figure of its height begins with 0 at a leaf
abbrev pub max_figure : ℕ
max_figure = 127

-- the figures of node i have entered a table, and it is not too tall; a Thresh has a row that is there
pub record NodeHolds (m : List ℕ) (i : ℕ) : Type 0 where
  pub entered : Entered max_figure (node_at m i).ext
  pub rowed : (node_at m i).kind ≡ thresh_kind → (node_at m i).second < row_count m

-- False and True are the first two nodes
pub record Holds (m : List ℕ) : Type 0 where
  pub long : length m ≡ work_words
  pub two : 2 ≤ node_count m
  pub few : node_count m ≤ max_nodes
  pub rows : row_count m ≤ max_rows
  pub false_first : node_at m 0 ≡ false_candidate
  pub true_next : node_at m 1 ≡ true_candidate
  pub nodes : (i : ℕ) → i < node_count m → NodeHolds m i

-- nodes and rows are only appended
pub record Grows (m₀ m : List ℕ) : Type 0 where
  pub more : node_count m₀ ≤ node_count m
  pub more_rows : row_count m₀ ≤ row_count m
  pub nodes : (i : ℕ) → i < node_count m₀ → node_at m i ≡ node_at m₀ i
  pub rows : (row j : ℕ) → row < row_count m₀ → row_child m row j ≡ row_child m₀ row j

-- the remembered tables are as they were
pub record SameTables (m₀ m : List ℕ) : Type 0 where
  pub count : table_count m ≡ table_count m₀
  pub words : SameWords keys_from work_words m₀ m

-- a candidate that may become the next node
pub record Fresh (m : List ℕ) (x : Candidate) : Type 0 where
  pub entered : Entered max_figure x.ext
  pub kind : x.kind < 64
  pub rowed : x.kind ≡ thresh_kind → x.second < row_count m

-- one node more
pub record OneMore (m₀ m : List ℕ) (x : Candidate) : Type 0 where
  pub holds : Holds m
  pub grows : Grows m₀ m
  pub tables : SameTables m₀ m
  pub count : node_count m ≡ suc (node_count m₀)
  pub rows : row_count m ≡ row_count m₀
  pub is : node_at m (node_count m₀) ≡ x
  pub sees : (pol : List ℕ) → seen pol m (node_count m₀) ≡ offered pol m₀ x

-- what adding a candidate leaves
pub data Adds (m₀ m : List ℕ) (x : Candidate) : Option ℕ → Type 0 where
  full : node_count m₀ ≡ max_nodes → m ≡ m₀ → Adds m₀ m x None
  at : {e : ℕ} → e ≡ node_count m₀ → node_count m₀ < max_nodes → OneMore m₀ m x → Adds m₀ m x (Some e)

-- one row more, whose number is r
pub record OneRow (m₀ m : List ℕ) (row : List ℕ) (r : ℕ) : Type 0 where
  pub holds : Holds m
  pub grows : Grows m₀ m
  pub tables : SameTables m₀ m
  pub count : node_count m ≡ node_count m₀
  pub rows : row_count m ≡ suc (row_count m₀)
  pub is : r ≡ row_count m₀
  pub children : (j : ℕ) → j < 16 → row_child m r j ≡ get_or row j 0

-- work memory with False and True alone
pub record Begun (m : List ℕ) : Type 0 where
  pub holds : Holds m
  pub count : node_count m ≡ 2
  pub tables : table_count m ≡ 0
  pub rows : row_count m ≡ 0
