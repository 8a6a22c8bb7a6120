-- `index_entry::find` meets its contract. Assumes nothing.
use Rattle.std.proofs.lemmas.Result.{err_from_is_err_and}
use mathlib.Core.Path.{◌∙◌}
use Rattle.index_entry.proofs.Promised.{its-room, tree-checked}
use Rattle.index_entry.proofs.Lookups.{found, found-refused}
use Rattle.index_entry.proofs.find.Goals as goal

pub find_in-requires : goal.find_in-requires
find_in-requires c =
    let p = c.in_ok-c.ensures in
    (tree-checked p.passing, p.work_len_unchanged ∙ its-room p.passing)

pub returns : goal.returns
returns c = record {
  find_answered = found c.in_ok-c.ensures.passing c.find_in.ensures.find_outcome;
  work_len_unchanged = c.find_in.ensures.work_len_unchanged ∙ c.in_ok-c.ensures.work_len_unchanged;
}

pub returns-in_err-c : goal.returns-in_err-c
returns-in_err-c c =
    let p = err_from_is_err_and c.from_residual.result c.from_residual.ensures.1 in
    rw (p.1, p.2) (record {
      find_answered = found-refused c.in_err-c.ensures.passing;
      work_len_unchanged = c.in_err-c.ensures.work_len_unchanged;
    })
