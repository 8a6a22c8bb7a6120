-- The eight words of a node, and the candidate that they hold. Figures that have entered a table are within 4,000,000 bytes of script (figures,
-- specs/Bounds.antt), so 22 bits hold those that count bytes of the script or elements, and 25 bits the sizes of witnesses. Assumes nothing.
use Rattle.figures.specs.declared.SatData.{SatData}
use Rattle.std.specs.Prelude.{cond, List, [], ◌∷◌, ℕ, ◌+◌, ◌*◌, ◌/◌, ◌%◌, ◌^◌, eqb, ltb, Float, Option, None, Some}
use Rattle.words.specs.Floats.{word_of_float, float_of_word}
use Rattle.types.specs.declared.«Type».{«Type»}
use Rattle.types.specs.TypeOrder.{pack}
use Rattle.contexts.specs.Bools.{bool_rank}
use Rattle.figures.specs.declared.ExtData.{ExtData}
use Rattle.costs.specs.declared.Cost.{Cost}
use Rattle.candidates.specs.declared.Candidate.{Candidate}
use Rattle.memory.specs.Layout.{rows_from, word_at}
use Rattle.types.specs.TypeOrder.{unpack}
use Rattle.types.specs.TypeRules as type
use Rattle.nodes.specs.declared.Head.{Head}

-- ---- a candidate as words

-- kind, children and type, from the lowest bit on: 6, three times 16, 10
abbrev pub shape_word : Candidate → ℕ
shape_word x = x.kind + x.first * 0x40 + x.second * 0x40_0000 + x.third * 0x40_0000_0000 + pack x.ty * 0x40_0000_0000_0000

abbrev pub has_sat : Option SatData → ℕ
has_sat (Some d) = 1
has_sat None = 0

abbrev pub has_dissat_cost : Option Float → ℕ
has_dissat_cost (Some d) = 1
has_dissat_cost None = 0

-- script cost, static operations, height, and four bits: 22, 22, 16, 1, 1, 1, 1
abbrev pub script_word : Candidate → ℕ
script_word x =
    x.ext.pk_cost + x.ext.static_ops * 0x40_0000 + x.ext.tree_height * 0x1000_0000_0000
    + bool_rank x.ext.has_free_verify * 0x1000_0000_0000_0000
    + has_sat x.ext.sat_data * 0x2000_0000_0000_0000
    + has_sat x.ext.dissat_data * 0x4000_0000_0000_0000
    + has_dissat_cost x.cost.dissat_cost * 0x8000_0000_0000_0000

-- the five figures of a worst case in two words, each with half of the operations: 25, 22, 11
abbrev pub witness_word : Option SatData → ℕ
witness_word (Some d) =
    d.max_witness_stack_size + d.max_witness_stack_count * 0x200_0000 + d.max_exec_op_count % 0x800 * 0x8000_0000_0000
witness_word None = 0

abbrev pub stack_word : Option SatData → ℕ
stack_word (Some d) =
    d.max_script_sig_size + d.max_exec_stack_count * 0x200_0000 + d.max_exec_op_count / 0x800 * 0x8000_0000_0000
stack_word None = 0

abbrev pub dissat_word : Option Float → ℕ
dissat_word (Some d) = word_of_float d
dissat_word None = 0

abbrev pub node_words : Candidate → List ℕ
node_words x =
    shape_word x
    ∷ script_word x
    ∷ witness_word x.ext.sat_data
    ∷ stack_word x.ext.sat_data
    ∷ witness_word x.ext.dissat_data
    ∷ stack_word x.ext.dissat_data
    ∷ word_of_float x.cost.sat_cost
    ∷ dissat_word x.cost.dissat_cost
    ∷ []

-- ---- words as a candidate

abbrev pub type_or : Option «Type» → «Type»
type_or (Some t) = t
type_or None = type.FALSE

abbrev pub type_in : ℕ → «Type»
type_in shape = type_or (unpack (shape / 0x40_0000_0000_0000 % 0x400))

abbrev pub sat_in : (has witness stack : ℕ) → Option SatData
sat_in has witness stack =
    cond (eqb has 1)
    (Some
    (record {
      max_witness_stack_size = witness % 0x200_0000;
      max_witness_stack_count = witness / 0x200_0000 % 0x40_0000;
      max_script_sig_size = stack % 0x200_0000;
      max_exec_stack_count = stack / 0x200_0000 % 0x40_0000;
      max_exec_op_count = witness / 0x8000_0000_0000 % 0x800 + stack / 0x8000_0000_0000 % 0x800 * 0x800;
    }))
    None

abbrev pub dissat_in : (has word : ℕ) → Option Float
dissat_in has word = cond (eqb has 1) (Some (float_of_word word)) None

abbrev pub ext_in : (script witness stack witness₀ stack₀ : ℕ) → ExtData
ext_in script witness stack witness₀ stack₀ =
    record {
      pk_cost = script % 0x40_0000;
      has_free_verify = eqb (script / 0x1000_0000_0000_0000 % 2) 1;
      static_ops = script / 0x40_0000 % 0x40_0000;
      sat_data = sat_in (script / 0x2000_0000_0000_0000 % 2) witness stack;
      dissat_data = sat_in (script / 0x4000_0000_0000_0000 % 2) witness₀ stack₀;
      tree_height = script / 0x1000_0000_0000 % 0x1_0000;
    }

abbrev pub cost_in : (script sat dissat : ℕ) → Cost
cost_in script sat dissat =
    record { sat_cost = float_of_word sat; dissat_cost = dissat_in (script / 0x8000_0000_0000_0000 % 2) dissat }

abbrev pub candidate_in : (shape script witness stack witness₀ stack₀ sat dissat : ℕ) → Candidate
candidate_in shape script witness stack witness₀ stack₀ sat dissat =
    record {
      kind = shape % 0x40;
      first = shape / 0x40 % 0x1_0000;
      second = shape / 0x40_0000 % 0x1_0000;
      third = shape / 0x40_0000_0000 % 0x1_0000;
      ty = type_in shape;
      ext = ext_in script witness stack witness₀ stack₀;
      cost = cost_in script sat dissat;
    }

-- what a table compares of a candidate besides its type
abbrev pub head_of : Candidate → Head
head_of x = record { free_verify = x.ext.has_free_verify; pk_cost = x.ext.pk_cost; cost = x.cost }

abbrev pub head_in : (script sat dissat : ℕ) → Head
head_in script sat dissat =
    record {
      free_verify = eqb (script / 0x1000_0000_0000_0000 % 2) 1;
      pk_cost = script % 0x40_0000;
      cost = cost_in script sat dissat;
    }

-- the candidate that node i holds
abbrev pub node_at : List ℕ → ℕ → Candidate
node_at m i =
    candidate_in (word_at m (8 * i + 8)) (word_at m (8 * i + 9)) (word_at m (8 * i + 10)) (word_at m (8 * i + 11))
    (word_at m (8 * i + 12)) (word_at m (8 * i + 13)) (word_at m (8 * i + 14)) (word_at m (8 * i + 15))

-- ---- rows: sixteen numbers in four words

abbrev pub row_child : List ℕ → (row j : ℕ) → ℕ
row_child m row j = cond (ltb j 16) (word_at m (rows_from + 4 * row + j / 4) / (0x1_0000 ^ (j % 4)) % 0x1_0000) 0
