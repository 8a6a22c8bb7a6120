-- `index_entry::index` meets its contract. Assumes nothing.
use Rattle.std.proofs.lemmas.Result.{err_from_is_err_and}
use mathlib.Core.Path.{refl, ◌∙◌}
use Rattle.index_entry.proofs.Promised.{its-room, tree-checked, answered, answered-refused}
use Rattle.index_entry.proofs.index.Goals as goal

pub index_in-requires : goal.index_in-requires
index_in-requires c =
    let p = c.in_ok-c.ensures in
    (tree-checked p.passing, p.work_len_unchanged ∙ its-room p.passing)

pub returns : goal.returns
returns c = record {
  answered = answered c.in_ok-c.ensures.passing c.index_in.ensures.outcome;
  work_len_unchanged = c.index_in.ensures.work_len_unchanged ∙ c.in_ok-c.ensures.work_len_unchanged;
}

pub returns-in_err-c : goal.returns-in_err-c
returns-in_err-c c =
    let p = err_from_is_err_and c.from_residual.result c.from_residual.ensures.1 in
    rw (p.1, p.2) (record {
      answered = answered-refused c.in_err-c.ensures.passing refl;
      work_len_unchanged = c.in_err-c.ensures.work_len_unchanged;
    })
