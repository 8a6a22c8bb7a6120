-- `spend_elements::byte_of` meets its contract. Assumes nothing.
use Prim.Native.Nat.{ℕ}
use mathlib.Core.List.{List}
use mathlib.Core.Path.{sym, ◌∙◌, ap}
use lib.ListN.{get_or}
use Rattle.spend_elements.proofs.Ranges.{in-range, in_place, small-at-most}
use Rattle.spend_elements.proofs.byte_of.Goals as goal

pub returns-then-len-lt-HELD : goal.returns-then-len-lt-HELD
returns-then-len-lt-HELD c = c.range_byte.ensures ∙ sym (ap (λ (l : List ℕ). get_or l c.args.j 0) (in-range c.args.log.now c.args.e c.if-len-lt-HELD.true))

pub small_byte-requires : goal.small_byte-requires
small_byte-requires c = rw c.small_length.ensures (small-at-most c.args.e.len)

pub returns : goal.returns
returns c = c.small_byte.ensures ∙ rw c.small_length.ensures (sym (ap (λ (l : List ℕ). get_or l c.args.j 0) (in_place c.args.log.now c.args.e c.if-len-lt-HELD.false)))
