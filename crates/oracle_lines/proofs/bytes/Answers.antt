-- `oracle_lines::bytes` meets its contract: the room fills byte by byte. Assumes nothing.
use Rattle.oracle_lines.proofs.Pairs.{held_none, held_next, held_all, odd, high-wrong, low-wrong}
use mathlib.Core.Path.{◌≡◌}
use native.Mathlib.Omega.{arith}
use Rattle.oracle_lines.proofs.bytes.Goals as goal

pub loop-n-init : goal.loop-n-init
loop-n-init c = held_none c.args.word.now c.args.room.now

pub returns-then-n-word : goal.returns-then-n-word
returns-then-n-word c = odd c.args.word.now c.args.room.now c.loop-n.room c.loop-n.n c.loop-n.invariant c.requires (omega arith) c.if-n-word.true

pub returns-then-high-ge-NO_DIGIT : goal.returns-then-high-ge-NO_DIGIT
returns-then-high-ge-NO_DIGIT c = high-wrong c.args.word.now c.args.room.now c.loop-n.room c.loop-n.n c.loop-n.invariant c.requires (omega arith) c.if-n-word.false
    c.digit-high.result c.digit-high.ensures c.if-high-ge-NO_DIGIT.true

pub returns-then-low-ge-NO_DIGIT : goal.returns-then-low-ge-NO_DIGIT
returns-then-low-ge-NO_DIGIT c = low-wrong c.args.word.now c.args.room.now c.loop-n.room c.loop-n.n c.loop-n.invariant c.requires (omega arith) c.if-n-word.false
    c.digit-high.result c.digit-low.result c.digit-high.ensures c.if-high-ge-NO_DIGIT.false c.digit-low.ensures c.if-low-ge-NO_DIGIT.true

pub loop-n-preserved : goal.loop-n-preserved
loop-n-preserved c = held_next c.args.word.now c.args.room.now c.loop-n.room c.loop-n.n c.loop-n.invariant c.requires (omega arith) c.if-n-word.false
    c.digit-high.result c.digit-low.result c.digit-high.ensures c.if-high-ge-NO_DIGIT.false c.digit-low.ensures c.if-low-ge-NO_DIGIT.false

pub returns : goal.returns
returns c =
    let e : c.loop-n.n ≡ c.div_ceil-pairs.result = omega arith in
    rw (← e) (held_all c.args.word.now c.args.room.now c.loop-n.room c.loop-n.n c.loop-n.invariant c.requires (λ h. omega arith))
