-- `trees::check_in` meets its contract: the types by kind give what the check gives, and clearing keeps the length. Assumes nothing.
use mathlib.Core.Path.{ap, ◌∙◌}
use Prim.Native.Nat.{ℕ}
use lib.ListN.{length, replicate}
use Rattle.trees.proofs.Theorem.{checked-in, bad-work}
use Rattle.trees.proofs.check_in.Goals as goal

pub returns : goal.returns
returns c = record {
  result_value = checked-in c.args.tree.now (length c.args.work.now) c.args.context c.if-work-ne-MAX_RECORDS.false c.check_records-r.ensures.result_value;
  work_after = c.clear-2.ensures ∙ ap (λ (n : ℕ). replicate n 0) c.check_records-r.ensures.work_len_unchanged;
}

pub returns-then-work-ne-MAX_RECORDS : goal.returns-then-work-ne-MAX_RECORDS
returns-then-work-ne-MAX_RECORDS c = record {
  result_value = bad-work c.args.tree.now (length c.args.work.now) c.args.context c.if-work-ne-MAX_RECORDS.true;
  work_after = c.clear.ensures;
}
