-- `words::put_u64` meets its contract: where all eight bytes are there, two numbers of four are the number written. Assumes nothing.
use mathlib.Core.Path.{sym, ap, ◌∙◌}
use native.Mathlib.Omega.{arith}
use Prim.Native.Nat.{◌+◌, ◌/◌}
use Rattle.words.specs.Bytes.{put_le}
use Rattle.words.proofs.Bytes.{room, unwritten, written_8}
use Rattle.words.proofs.put_u64.Goals as goal

pub overflow_add-at : goal.overflow_add-at
overflow_add-at c = omega (arith, room 8 c.args.s.now c.args.at (sym c.has_bytes.ensures ∙ c.if-has_bytes.true))

pub returns-then-has_bytes : goal.returns-then-has_bytes
returns-then-has_bytes c = let there = sym c.has_bytes.ensures ∙ c.if-has_bytes.true in
    record {
      value = sym there;
      s_after = c.put_u32-then-has_bytes.ensures.s_after ∙ ap (λ t. put_le 4 t (c.args.at + 4) (c.args.v / 4294967296)) c.put_u32.ensures.s_after ∙ written_8 c.args.s.now c.args.at c.args.v there;
    }

pub returns : goal.returns
returns c = let absent = sym c.has_bytes.ensures ∙ c.if-has_bytes.false in
    record {
      value = sym absent;
      s_after = sym (unwritten 8 c.args.s.now c.args.at c.args.v absent);
    }
