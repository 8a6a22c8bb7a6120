-- `spend_stack::from_alt` meets its contract: the element's words are moved, and nothing behind the stacks. Assumes nothing.
use Prim.Native.Nat.{◌≤◌}
use mathlib.Core.Path.{◌≡◌, sym, ◌∙◌, ap, refl}
use native.Mathlib.Omega.{arith}
use lib.ListN.{length}
use Rattle.spend_stack.specs.Memory.{main_in, alt_in}
use Rattle.spend_stack.proofs.Memory.{keeps-all, alt-long, main-keeps}
use Rattle.spend_stack.proofs.Stacks.{put-length}
use Rattle.spend_stack.proofs.Laws.{stays, one-stack, from-alts, no-alt, moved_down}
use Rattle.spend_stack.proofs.from_alt.Goals as goal

pub returns-then-a-lt1 : goal.returns-then-a-lt1
returns-then-a-lt1 c = let wide : 8192 ≤ length (alt_in c.args.work.now) = omega (arith, alt-long c.args.work.now c.requires.1) in
    let going = sym c.is_going.ensures ∙ c.if-is_going.true in
    record {
      does_both = no-alt going c.requires.0 wide c.if-a-lt1.true c.with_status.ensures;
      keeps = keeps-all c.args.work.now;
    }

pub returns : goal.returns
returns c = record {
  does_both = one-stack (stays (sym c.is_going.ensures ∙ c.if-is_going.false) c.requires.0);
  keeps = keeps-all c.args.work.now;
}

pub returns-then-is_going : goal.returns-then-is_going
returns-then-is_going c = let wide : 8192 ≤ length (alt_in c.args.work.now) = omega (arith, alt-long c.args.work.now c.requires.1) in
    let same : length c.put.new.memory ≡ length (main_in c.args.work.now) = ap length c.put.ensures ∙ put-length (main_in c.args.work.now) _ _ in record {
      does_both = moved_down c.args.work.now c.requires.1 c.put.new.memory same
          (from-alts (sym c.is_going.ensures ∙ c.if-is_going.true) c.requires.0 wide c.if-a-lt1.false c.get-e.ensures c.put.ensures refl);
      keeps = main-keeps c.args.work.now c.requires.1 c.put.new.memory same;
    }
