-- `words::put_u16` meets its contract: where both bytes are there, the two stores are the number written. Assumes nothing.
use Rattle.std.proofs.Common.{rules}
use mathlib.Core.Bool.{true}
use mathlib.Core.Path.{◌≡◌, sym, ◌∙◌}
use Prim.Native.Nat.{◌+◌, ◌≤◌}
use native.Mathlib.Omega.{arith}
use lib.ListN.{length, length-set}
use Rattle.words.specs.Bytes.{has_bytes}
use Rattle.words.proofs.Bytes.{room, written_2, unwritten}
use Rattle.words.proofs.put_u16.Goals as goal

-- the bytes are there
there : (c : goal.Then-has_bytes) → has_bytes 2 c.args.s.now c.args.at ≡ true
there c = sym c.has_bytes.ensures ∙ c.if-has_bytes.true

within : (c : goal.Then-has_bytes) → c.args.at + 2 ≤ length c.args.s.now
within c = room 2 c.args.s.now c.args.at (there c)

pub bounds-s-at : goal.bounds-s-at
bounds-s-at c = omega (arith, within c)

pub overflow_add-s : goal.overflow_add-s
overflow_add-s c = omega (arith, within c)

pub bounds-s-at-then-has_bytes : goal.bounds-s-at-then-has_bytes
bounds-s-at-then-has_bytes c = simp length-set (omega (arith, within c))

pub returns-then-has_bytes : goal.returns-then-has_bytes
returns-then-has_bytes c = record {
  value = sym (there c);
  s_after = written_2 c.args.s.now c.args.at c.args.v (there c) (search rules);
}

pub returns : goal.returns
returns c = let absent = sym c.has_bytes.ensures ∙ c.if-has_bytes.false in
    record {
      value = sym absent;
      s_after = sym (unwritten 2 c.args.s.now c.args.at c.args.v absent);
    }
