-- `trees::check` meets its contract: the context by its number. Assumes nothing.
use lib.ListN.{length}
use Rattle.trees.proofs.Theorem.{checked-0, checked-1, bad-context}
use Rattle.trees.proofs.check.Goals as goal

pub returns-in-0 : goal.returns-in-0
returns-in-0 c = record {
  result_value = checked-0 c.args.tree.now (length c.args.work.now) c.args.context c.in-0.is c.check_in.ensures.result_value;
  work_after = c.check_in.ensures.work_after;
}

pub returns-in-1 : goal.returns-in-1
returns-in-1 c = record {
  result_value = checked-1 c.args.tree.now (length c.args.work.now) c.args.context c.in-1.is c.check_in-in-1.ensures.result_value;
  work_after = c.check_in-in-1.ensures.work_after;
}

pub returns-in_default : goal.returns-in_default
returns-in_default c = record {
  result_value = bad-context c.args.tree.now (length c.args.work.now) c.args.context c.in_default.in_default-own.rest.0.1 c.in_default.in_default-own.rest.1;
  work_after = c.clear.ensures;
}
