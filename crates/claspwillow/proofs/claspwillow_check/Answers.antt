-- `claspwillow::claspwillow_check` meets its contract: its parts are those of the tree check. Assumes nothing.
use mathlib.Core.Path.{ap, ◌∙◌}
use Rattle.claspwillow.specs.Promises.{number_of, type_number}
use Rattle.claspwillow.proofs.claspwillow_check.Goals as goal

pub returns-in-Ok : goal.returns-in-Ok
returns-in-Ok c = record {
  gives = ap number_of c.in-Ok.ensures.result_value;
  types = c.pack.ensures ∙ ap type_number c.in-Ok.ensures.result_value;
  clears = c.check.ensures.work_after;
}

pub returns-in-Err : goal.returns-in-Err
returns-in-Err c = record {
  gives = c.number.ensures ∙ ap number_of c.in-Err.ensures.result_value;
  types = ap type_number c.in-Err.ensures.result_value;
  clears = c.check.ensures.work_after;
}
