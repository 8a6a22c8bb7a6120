-- `policies::word` meets its contract: past its end the list has nothing. Assumes nothing.
use mathlib.Core.Path.{sym}
use Prim.Native.Nat.{◌+◌, ◌*◌, ◌≤◌}
use native.Mathlib.Omega.{arith}
use lib.ListN.{length, get_or-eq_default}
use Rattle.policies.proofs.word.Goals as goal

pub returns : goal.returns
returns c = let h : length c.args.pol.now ≤ 40 * c.args.i + c.args.f = omega arith in
    sym (get_or-eq_default c.args.pol.now 0 h)
