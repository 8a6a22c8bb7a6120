-- `spend_asks::group_below` meets its contract. Assumes nothing.
use Prim.Native.Nat.{◌-◌}
use mathlib.Core.Bool.{false}
use mathlib.Core.Path.{◌≡◌}
use lib.Dec.{leb}
use lib.ListN.{length}
use Rattle.spend_elements.specs.Elements.{bytes_in}
use Rattle.spend_elements.specs.Signed.{IsRead}
use Rattle.spend_stack.specs.Machines.{element_at}
use Rattle.spend_asks.proofs.Groups.{group-none, group-long, group-negative, group-large, group-there}
use Rattle.spend_asks.proofs.group_below.Goals as goal

pub returns-then-n-lt1 : goal.returns-then-n-lt1
returns-then-n-lt1 c = group-none c.args.log.now c.args.main.now c.args.n c.if-n-lt1.true

pub returns-in_err-x : goal.returns-in_err-x
returns-in_err-x c = let long : leb (length (bytes_in c.args.log.now (element_at c.args.main.now (c.args.n - 1)))) 4 ≡ false = rw c.get.ensures at c.in_err-x.ensures in
    rw c.from_residual.ensures (group-long c.args.log.now c.args.main.now c.args.n c.if-n-lt1.false long)

pub returns-then-below_zero : goal.returns-then-below_zero
returns-then-below_zero c = let number : IsRead (bytes_in c.args.log.now (element_at c.args.main.now (c.args.n - 1))) c.in_ok-x.x = rw c.get.ensures at c.in_ok-x.ensures in
    group-negative c.args.log.now c.args.main.now c.args.n c.in_ok-x.x c.if-n-lt1.false number (rw c.nonzero.ensures at c.if-below_zero.true)

pub returns-then-rest-x : goal.returns-then-rest-x
returns-then-rest-x c = let number : IsRead (bytes_in c.args.log.now (element_at c.args.main.now (c.args.n - 1))) c.in_ok-x.x = rw c.get.ensures at c.in_ok-x.ensures in
    group-large c.args.log.now c.args.main.now c.args.n c.in_ok-x.x c.if-n-lt1.false number (rw c.nonzero.ensures at c.if-below_zero.false) c.if-rest-x.true

pub returns : goal.returns
returns c = let number : IsRead (bytes_in c.args.log.now (element_at c.args.main.now (c.args.n - 1))) c.in_ok-x.x = rw c.get.ensures at c.in_ok-x.ensures in
    group-there c.args.log.now c.args.main.now c.args.n c.in_ok-x.x c.if-n-lt1.false number (rw c.nonzero.ensures at c.if-below_zero.false) c.if-rest-x.false
