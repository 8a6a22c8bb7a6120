-- `spend_elements::number_of` meets its contract. Assumes nothing.
use native.Mathlib.Omega.{arith}
use mathlib.Core.Path.{sym, ◌∙◌, ap}
use borrow.Author.Tests.{le-leb, lt-leb}
use Prim.Native.Nat.{◌≤◌, ◌<◌}
use lib.ListN.{length}
use Rattle.spend_elements.specs.Elements.{bytes_in}
use Rattle.spend_elements.specs.Signed.{sign_bit}
use Rattle.spend_elements.proofs.Reading.{reads_as}
use Rattle.spend_elements.proofs.number_of.Goals as goal

pub returns-then-n-gt4 : goal.returns-then-n-gt4
returns-then-n-gt4 c = let long : 4 < length (bytes_in c.args.log.now c.args.e) = rw c.length_of-n.ensures at c.if-n-gt4.true in
    lt-leb _ 4 long

pub returns-then-value-bit : goal.returns-then-value-bit
returns-then-value-bit c = let few : length (bytes_in c.args.log.now c.args.e) ≤ 4 = rw c.length_of-n.ensures at c.if-n-gt4.false in
    let told = reads_as (bytes_in c.args.log.now c.args.e) _ _ few c.value_of-value.ensures (c.sign_bit-bit.ensures ∙ ap sign_bit c.length_of-n.ensures) in
    record { short = le-leb _ 4 few; small = told.less c.if-value-bit.true; is = sym (told.low c.if-value-bit.true) }

pub returns : goal.returns
returns c = let few : length (bytes_in c.args.log.now c.args.e) ≤ 4 = rw c.length_of-n.ensures at c.if-n-gt4.false in
    let told = reads_as (bytes_in c.args.log.now c.args.e) _ _ few c.value_of-value.ensures (c.sign_bit-bit.ensures ∙ ap sign_bit c.length_of-n.ensures) in
    record { short = le-leb _ 4 few; small = told.rest; is = sym (told.high c.if-value-bit.false) }
