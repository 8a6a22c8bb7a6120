-- `index_entry::index_in` meets its contract. Assumes nothing.
use mathlib.Core.Path.{refl, sym, ◌∙◌}
use Rattle.index_entry.proofs.Promised.{index-fits, index-too-long}
use Rattle.index_entry.proofs.index_in.Goals as goal

pub returns-then-out-bytes : goal.returns-then-out-bytes
returns-then-out-bytes c = record {
  outcome = index-too-long c.build-count.ensures c.if-out-bytes.true;
  work_len_unchanged = c.build-count.ensures.room ∙ sym c.requires.1;
}

pub returns : goal.returns
returns c = record {
  outcome = index-fits c.build-count.ensures refl c.if-out-bytes.false c.write_index.ensures;
  work_len_unchanged = c.build-count.ensures.room ∙ sym c.requires.1;
}
