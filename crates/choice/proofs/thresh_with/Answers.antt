-- `choice::thresh_with` meets its contract. Assumes nothing.
use Rattle.std.proofs.lemmas.Result.{err_from_is_err_and}
use native.Mathlib.Omega.{arith}
use lib.ListN.{length}
use Rattle.choice.proofs.Threshes.{with-ill, with-missing, with-made}
use Rattle.choice.proofs.thresh_with.Goals as goal

pub returns-in_default : goal.returns-in_default
returns-in_default c = with-ill c.args.work.now c.args.r c.args.k (length c.args.row.now) c.args.row.now c.args.ext c.requires.1 _ c.types_of.ensures
    c.threshold.ensures c.in_default.not-Ok

pub returns-in_err-cost : goal.returns-in_err-cost
returns-in_err-cost c =
    let p = err_from_is_err_and c.from_residual.result c.from_residual.ensures.1 in
    rw (p.1, p.2)
    (with-missing c.args.work.now c.args.r c.args.k (length c.args.row.now) c.args.row.now c.args.ext c.requires.1 _ c.types_of.ensures
    c.threshold.ensures _ _ c.in-Ok.is (omega arith) c.costs_of.ensures c.threshold-2.ensures
    c.ok_or.ensures.value c.in_err-cost.was)

pub returns : goal.returns
returns c = with-made c.args.work.now c.args.r c.args.k (length c.args.row.now) c.args.row.now c.args.ext c.requires.1 _ c.types_of.ensures
    c.threshold.ensures _ _ c.in-Ok.is (omega arith) c.costs_of.ensures c.threshold-2.ensures
    c.ok_or.ensures.value c.in_ok-cost.was
