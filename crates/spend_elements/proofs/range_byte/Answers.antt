-- `spend_elements::range_byte` meets its contract. Assumes nothing.
use native.Mathlib.Omega.{arith}
use Prim.Native.Nat.{◌<◌, ◌≤◌}
use lib.ListN.{length}
use mathlib.Core.Path.{sym}
use Rattle.spend_elements.specs.Elements.{range_length}
use Rattle.spend_elements.proofs.Ranges.{within, range-byte, range-past}
use Rattle.spend_elements.proofs.range_byte.Goals as goal

pub overflow_add-place : goal.overflow_add-place
overflow_add-place c = let near : c.args.j < range_length (length c.args.log.now) c.args.at c.args.len = rw c.range_length.ensures at c.if-j-range_length.true in
    omega (arith, (within (length c.args.log.now) c.args.at c.args.len c.args.j near).inside)

pub bounds-log-place : goal.bounds-log-place
bounds-log-place c = let near : c.args.j < range_length (length c.args.log.now) c.args.at c.args.len = rw c.range_length.ensures at c.if-j-range_length.true in
    (within (length c.args.log.now) c.args.at c.args.len c.args.j near).inside

pub returns-then-j-range_length : goal.returns-then-j-range_length
returns-then-j-range_length c = let near : c.args.j < range_length (length c.args.log.now) c.args.at c.args.len = rw c.range_length.ensures at c.if-j-range_length.true in
    sym (range-byte c.args.log.now c.args.at c.args.len c.args.j near)

pub returns : goal.returns
returns c = let past : range_length (length c.args.log.now) c.args.at c.args.len ≤ c.args.j = rw c.range_length.ensures at c.if-j-range_length.false in
    sym (range-past c.args.log.now c.args.at c.args.len c.args.j past)
