use mathlib.Core.Path.{◌∙◌}
use Rattle.witness_entry.proofs.Promised.{root-inside, root_is}
use Rattle.witness_entry.proofs.root_extremes.Goals as goal

pub overflow_sub-count : goal.overflow_sub-count
overflow_sub-count c = (root-inside c.fill-count.ensures.filled c.requires.0 (c.fill-count.ensures.work_len_unchanged ∙ c.requires.1)).0

pub both_at-requires : goal.both_at-requires
both_at-requires c = (root-inside c.fill-count.ensures.filled c.requires.0 (c.fill-count.ensures.work_len_unchanged ∙ c.requires.1)).1

pub returns : goal.returns
returns c = record {
  value = root_is c.fill-count.ensures.filled c.both_at.ensures.value;
  work_len_unchanged = c.fill-count.ensures.work_len_unchanged;
}
