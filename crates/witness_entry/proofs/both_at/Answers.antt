use Rattle.witness_entry.specs.Memory.{both_in}
use Rattle.witness_entry.proofs.both_at.Goals as goal

pub returns : goal.returns
unfolding both_in
returns c = record {
  value = rw (c.extremes_in.ensures.value, c.extremes_in-2.ensures.value);
  both_below = record { satisfied = c.extremes_in.ensures.below; dissatisfied = c.extremes_in-2.ensures.below };
}
