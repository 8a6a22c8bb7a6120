-- `policies::put_children` meets its contract: after j turns the first j children are stored. Assumes nothing.
use Rattle.std.proofs.Common.{rules, ◌*◌, ◌+◌}
use mathlib.Core.Path.{◌≡◌}
use lib.ListN.{length}
use Rattle.policies.proofs.Rows.{store-next, store-all}
use native.Mathlib.Omega.{arith}
use Rattle.policies.proofs.put_children.Goals as goal

pub loop-j-preserved : goal.loop-j-preserved
loop-j-preserved c = let long : length c.args.children ≡ 16 = search rules in
    store-next c.args.pol.now c.loop-j.pol c.args.children (40 * c.args.i + 6) c.loop-j.j c.loop-j.invariant (omega (arith, long))

pub returns : goal.returns
returns c = let long : length c.args.children ≡ 16 = search rules in
    store-all c.args.pol.now c.loop-j.pol c.args.children c.args.i c.loop-j.j c.loop-j.invariant (omega (arith, long))
