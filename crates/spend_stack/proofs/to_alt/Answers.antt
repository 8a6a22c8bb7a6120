-- `spend_stack::to_alt` meets its contract: the element's words are moved, and nothing behind the stacks. Assumes nothing.
use Prim.Native.Nat.{◌≤◌}
use mathlib.Core.Path.{◌≡◌, sym, ◌∙◌, ap, refl}
use native.Mathlib.Omega.{arith}
use lib.ListN.{length}
use Rattle.script_machine.specs.Words.{TOALTSTACK}
use Rattle.spend_stack.specs.Memory.{main_in, alt_in}
use Rattle.spend_stack.proofs.Memory.{keeps-all, alt-long, alt-keeps}
use Rattle.spend_stack.proofs.Stacks.{put-length}
use Rattle.spend_stack.proofs.Laws.{not-ready, one-stack, to-alts, moved_up}
use Rattle.spend_stack.proofs.Steps.{without-one, to-alt-none}
use Rattle.spend_stack.proofs.to_alt.Goals as goal

pub returns-in-Err : goal.returns-in-Err
returns-in-Err c = record {
  does_both = one-stack (not-ready 1 c.requires.0 c.in-Err.ensures (without-one c.args.log.now (main_in c.args.work.now) c.args.m TOALTSTACK to-alt-none));
  keeps = keeps-all c.args.work.now;
}

pub returns-in-Ok : goal.returns-in-Ok
returns-in-Ok c = let wide : 8192 ≤ length (alt_in c.args.work.now) = omega (arith, alt-long c.args.work.now c.requires.1) in
    let same : length c.put.new.memory ≡ length (alt_in c.args.work.now) = ap length c.put.ensures ∙ put-length (alt_in c.args.work.now) _ _ in record {
      does_both = moved_up c.args.work.now c.requires.1 c.put.new.memory same
          (to-alts c.in-Ok.ensures.0 c.requires.0 wide c.in-Ok.ensures.1 c.get-e.ensures c.put.ensures refl);
      keeps = alt-keeps c.args.work.now c.requires.1 c.put.new.memory same;
    }
