-- What storing a node or a row asks, and what its parts answer: that each figure is below its width, and that a float is one of 64 bits.
-- Assumes nothing: these are definitions.
use Rattle.std.specs.Prelude.{List, [], ◌∷◌, ◌≡◌, ℕ, ◌+◌, ◌*◌, ◌<◌, T, Float, get_or, Option, None, Some}
use Rattle.std.specs.Float.{binary64}
use Rattle.std.specs.Float.Ieee.{fits}
use Rattle.words.specs.Floats.{word_of_float}
use Rattle.figures.specs.declared.SatData.{SatData}
use Rattle.figures.specs.declared.ExtData.{ExtData}
use Rattle.candidates.specs.declared.Candidate.{Candidate}
use Rattle.nodes.specs.Words.{shape_word, dissat_word, node_words}

-- ---- each part is below its width

pub record FitData (d : SatData) : Type 0 where
  pub size : d.max_witness_stack_size < 0x200_0000
  pub count : d.max_witness_stack_count < 0x40_0000
  pub sig : d.max_script_sig_size < 0x200_0000
  pub stack : d.max_exec_stack_count < 0x40_0000
  pub ops : d.max_exec_op_count < 0x40_0000

abbrev pub FitSat : Option SatData → Type 0
FitSat (Some d) = FitData d
FitSat None = Unit

pub record FitExt (e : ExtData) : Type 0 where
  pub cost : e.pk_cost < 0x40_0000
  pub static : e.static_ops < 0x40_0000
  pub height : e.tree_height < 0x1_0000
  pub sat : FitSat e.sat_data
  pub dissat : FitSat e.dissat_data

abbrev pub FitFloat : Float → Type 0
FitFloat x = T (fits binary64 x)

abbrev pub FitDissat : Option Float → Type 0
FitDissat (Some x) = FitFloat x
FitDissat None = Unit

pub record Fit (x : Candidate) : Type 0 where
  pub kind : x.kind < 0x40
  pub first : x.first < 0x1_0000
  pub second : x.second < 0x1_0000
  pub third : x.third < 0x1_0000
  pub ext : FitExt x.ext
  pub sat : FitFloat x.cost.sat_cost
  pub dissat : FitDissat x.cost.dissat_cost

-- ---- what each word is

pub record ShapeIs (x : Candidate) (w : ℕ) : Type 0 where
  pub is : w ≡ shape_word x
  pub first : x.first < 0x1_0000
  pub second : x.second < 0x1_0000
  pub third : x.third < 0x1_0000

pub record FloatIs (x : Float) (w : ℕ) : Type 0 where
  pub is : w ≡ word_of_float x
  pub fit : FitFloat x

pub record DissatIs (x : Option Float) (w : ℕ) : Type 0 where
  pub is : w ≡ dissat_word x
  pub fit : FitDissat x

pub record WordsAre (x : Candidate) (ws : List ℕ) : Type 0 where
  pub is : ws ≡ node_words x
  pub fit : Fit x

-- ---- the words of a row

abbrev pub four_word : (a b c d : ℕ) → ℕ
four_word a b c d = a + b * 0x1_0000 + c * 0x1_0000_0000 + d * 0x1_0000_0000_0000

pub record FourFit (a b c d : ℕ) : Type 0 where
  pub first : a < 0x1_0000
  pub second : b < 0x1_0000
  pub third : c < 0x1_0000
  pub fourth : d < 0x1_0000

pub record FourIs (a b c d w : ℕ) : Type 0 where
  pub is : w ≡ four_word a b c d
  pub fit : FourFit a b c d

-- word q of a row holds the numbers from 4 q on
abbrev pub row_word : (row : List ℕ) (q : ℕ) → ℕ
row_word row q = four_word (get_or row (4 * q) 0) (get_or row (4 * q + 1) 0) (get_or row (4 * q + 2) 0) (get_or row (4 * q + 3) 0)

abbrev pub RowFit : (row : List ℕ) (q : ℕ) → Type 0
RowFit row q = FourFit (get_or row (4 * q) 0) (get_or row (4 * q + 1) 0) (get_or row (4 * q + 2) 0) (get_or row (4 * q + 3) 0)

pub record RowWordIs (row : List ℕ) (q w : ℕ) : Type 0 where
  pub is : w ≡ row_word row q
  pub fit : RowFit row q

pub record RowWordsAre (row ws : List ℕ) : Type 0 where
  pub is : ws ≡ row_word row 0 ∷ row_word row 1 ∷ row_word row 2 ∷ row_word row 3 ∷ []
  pub fit : (q : ℕ) → q < 4 → RowFit row q
