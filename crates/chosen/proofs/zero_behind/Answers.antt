-- `chosen::zero_behind` meets its contract: bytes up to the end of their word, then words. Assumes nothing.
use Prim.Native.Nat.{◌/◌}
use mathlib.Core.Path.{◌≡◌, refl, sym, ◌∙◌}
use native.Mathlib.Omega.{arith}
use Rattle.chosen.specs.Form.{room_in}
use Rattle.chosen.proofs.Words.{room_whole}
use Rattle.chosen.proofs.Zeros.{zero-next, zero-not}
use Rattle.chosen.proofs.Reading.{words-behind}
use Rattle.chosen.proofs.zero_behind.Goals as goal

pub loop-i-init : goal.loop-i-init
loop-i-init c = (refl, omega arith)

pub byte_at-requires : goal.byte_at-requires
byte_at-requires c = (c.requires.0, omega arith)

pub returns-then-byte_at-ne0 : goal.returns-then-byte_at-ne0
returns-then-byte_at-ne0 c = sym (sym c.loop-i.invariant.0
    ∙ zero-not (room_in c.args.work.now) c.loop-i.i (omega (arith, room_whole c.args.work.now c.requires.0)) (λ e. c.if-byte_at-ne0.true (c.byte_at.ensures ∙ e)))

pub loop-i-preserved : goal.loop-i-preserved
loop-i-preserved c = (
  zero-next (room_in c.args.work.now) c.loop-i.i (omega (arith, room_whole c.args.work.now c.requires.0)) (sym c.byte_at.ensures ∙ c.if-byte_at-ne0.false)
      ∙ c.loop-i.invariant.0,
  omega arith,
)

pub returns : goal.returns
returns c =
    let w : c.div_ceil-words.result ≡ c.loop-i.i / 8 = omega arith in
    (rw w at c.zero_from.ensures) ∙ words-behind c.args.work.now c.loop-i.i (omega arith) ∙ c.loop-i.invariant.0
