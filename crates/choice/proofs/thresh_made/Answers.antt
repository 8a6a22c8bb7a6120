-- `choice::thresh_made` meets its contract. Assumes nothing.
use Rattle.std.proofs.Common.{rules}
use Rattle.std.proofs.lemmas.Result.{err_from_is_err_and}
use mathlib.Core.Path.{◌≡◌}
use native.Mathlib.Omega.{arith}
use lib.ListN.{length, take}
use lib.Seq.{length-take-le}
use Rattle.choice.proofs.Threshes.{not-made, thresh-made}
use Rattle.choice.proofs.thresh_made.Goals as goal

pub thresh_of-requires : goal.thresh_of-requires
thresh_of-requires c =
    let long : length c.args.row ≡ 16 = search rules in
    let count : length (take c.args.n c.args.row) ≡ c.args.n = length-take-le c.args.n c.args.row (omega (arith, c.requires.1.1.1.1.0)) in
    (c.requires.0, (omega (arith, c.requires.1.1.0, c.requires.1.1.1.0), (omega (arith, c.requires.1.1.1.1.0), c.requires.1.1.1.1.1)))

pub returns-in_err-x : goal.returns-in_err-x
returns-in_err-x c =
    let p = err_from_is_err_and c.from_residual.result c.from_residual.ensures.1 in
    rw (p.1, p.2)
    (not-made c.args.context c.args.r c.args.k c.args.n c.args.row c.args.work.now c.requires (search rules) c.thresh_of.ensures c.in_err-x.was)

pub returns : goal.returns
returns c = thresh-made c.args.context c.args.r c.args.k c.args.n c.args.row c.args.work.now c.requires (search rules) _
    c.thresh_of.ensures c.in_ok-x.was _ _ c.add_row-second.ensures c.with_row.ensures
