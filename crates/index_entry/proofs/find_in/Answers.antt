-- `index_entry::find_in` meets its contract. Assumes nothing.
use mathlib.Core.Path.{sym, ◌∙◌}
use Rattle.index_entry.proofs.Lookups.{finds, finds-another}
use Rattle.index_entry.proofs.find_in.Goals as goal

pub returns-then-not-same : goal.returns-then-not-same
returns-then-not-same c = record {
  find_outcome = finds-another c.requires.0 c.build-count.ensures c.args.at c.same_index-same.ensures c.if-not-same.true;
  work_len_unchanged = c.build-count.ensures.room ∙ sym c.requires.1;
}

pub returns : goal.returns
returns c = record {
  find_outcome = finds c.requires.0 c.build-count.ensures c.args.at c.same_index-same.ensures c.if-not-same.false c.first_holding.ensures;
  work_len_unchanged = c.build-count.ensures.room ∙ sym c.requires.1;
}
