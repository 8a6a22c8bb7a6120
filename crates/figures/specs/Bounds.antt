-- Bounds of the figures of src/miniscript/types/extra_props.rs: when no sum of a rule wraps in 64 bits, and what every rule keeps.
-- Assumes nothing: these are definitions.
use Rattle.std.specs.Prelude.{ℕ, ◌*◌, ◌<◌, ◌≤◌, Option, None, Some}
use Rattle.figures.specs.declared.SatData.{SatData}
use Rattle.figures.specs.declared.ExtData.{ExtData}
use Rattle.figures.specs.Validity.{MAX-BLOCK-WEIGHT}

-- 2 to the 32nd
abbrev pub limit : ℕ
limit = 0x1_0000_0000

pub record SmallData (d : SatData) : Type 0 where
  pub size : d.max_witness_stack_size < limit
  pub count : d.max_witness_stack_count < limit
  pub sig : d.max_script_sig_size < limit
  pub stack : d.max_exec_stack_count < limit
  pub ops : d.max_exec_op_count < limit

abbrev pub SmallSat : Option SatData → Type 0
SmallSat (Some d) = SmallData d
SmallSat None = Unit

pub record Small (x : ExtData) : Type 0 where
  pub cost : x.pk_cost < limit
  pub static : x.static_ops < limit
  pub sat : SmallSat x.sat_data
  pub dissat : SmallSat x.dissat_data
  pub height : x.tree_height < limit

-- What every rule keeps: no figure exceeds the bytes of its script, and no size five times those bytes. The height is no
-- figure of this kind: it grows by one with each rule, and its bound is the number of fragments made.
pub record WithinData (bytes : ℕ) (d : SatData) : Type 0 where
  pub size : d.max_witness_stack_size ≤ 5 * bytes
  pub count : d.max_witness_stack_count ≤ bytes
  pub sig : d.max_script_sig_size ≤ 5 * bytes
  pub stack : d.max_exec_stack_count ≤ bytes
  pub ops : d.max_exec_op_count ≤ bytes

abbrev pub WithinSat : ℕ → Option SatData → Type 0
WithinSat bytes (Some d) = WithinData bytes d
WithinSat bytes None = Unit

pub record Within (x : ExtData) : Type 0 where
  pub static : x.static_ops ≤ x.pk_cost
  pub sat : WithinSat x.pk_cost x.sat_data
  pub dissat : WithinSat x.pk_cost x.dissat_data

-- figures within a script of at most so many bytes, at most so high
pub record Bounded (bytes height : ℕ) (x : ExtData) : Type 0 where
  pub within : Within x
  pub cost : x.pk_cost ≤ bytes
  pub low : x.tree_height ≤ height

-- what has entered a table is locally valid, so that its script is no longer than a block; a candidate is made of at most 16 such
abbrev pub Entered : ℕ → ExtData → Type 0
Entered height x = Bounded MAX-BLOCK-WEIGHT height x

abbrev pub Candidate : ℕ → ExtData → Type 0
Candidate height x = Bounded (17 * MAX-BLOCK-WEIGHT) height x
