-- `policies::put_head` meets its contract. Assumes nothing.
use mathlib.Core.Path.{◌≡◌}
use Prim.Native.Nat.{suc, ◌+◌, ◌*◌}
use Rattle.policies.specs.Array.{put_head}
use native.Mathlib.Omega.{arith}
use lib.ListN.{length-set}
use Rattle.policies.proofs.put_head.Goals as goal

pub bounds-pol-at-2 : goal.bounds-pol-at-2
bounds-pol-at-2 c = simp length-set (omega arith)

pub bounds-pol-at-3 : goal.bounds-pol-at-3
bounds-pol-at-3 c = simp length-set (omega arith)

pub bounds-pol-at-4 : goal.bounds-pol-at-4
bounds-pol-at-4 c = simp length-set (omega arith)

pub bounds-pol-at-5 : goal.bounds-pol-at-5
bounds-pol-at-5 c = simp length-set (omega arith)

pub bounds-pol-at-6 : goal.bounds-pol-at-6
bounds-pol-at-6 c = simp length-set (omega arith)

pub bounds-pol-at-7 : goal.bounds-pol-at-7
bounds-pol-at-7 c = simp length-set (omega arith)

pub returns : goal.returns
unfolding put_head
returns c = let at = 40 * c.args.i in
    let e₁ : at + 1 ≡ suc at = omega arith in
    let e₂ : at + 2 ≡ suc (suc at) = omega arith in
    let e₃ : at + 3 ≡ suc (suc (suc at)) = omega arith in
    let e₄ : at + 4 ≡ suc (suc (suc (suc at))) = omega arith in
    let e₅ : at + 5 ≡ suc (suc (suc (suc (suc at)))) = omega arith in
    rw (e₁, e₂, e₃, e₄, e₅)
