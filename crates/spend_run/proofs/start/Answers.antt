-- `spend_run::start` meets its contract: on both stacks, or in the main stack's part of the memory. Assumes nothing.
use mathlib.Core.List.{[]}
use mathlib.Core.Path.{◌≡◌}
use lib.ListN.{length}
use Rattle.script_bytes.specs.Tables.{tables}
use Rattle.spend_stack.specs.Memory.{main_in, alt_in}
use Rattle.spend_stack.proofs.Memory.{main-keeps}
use Rattle.spend_run.proofs.Turning.{turns_as, both_at, turns-back, start-alt}
use Rattle.spend_run.proofs.start.Goals as goal

pub to_alt-a-requires : goal.to_alt-a-requires
to_alt-a-requires c = (c.requires.0, c.requires.1)

pub returns-then-kind-eq-ALT_WRAPPER : goal.returns-then-kind-eq-ALT_WRAPPER
returns-then-kind-eq-ALT_WRAPPER c = record {
  turns = λ t. turns_as (λ y s. start-alt c.args.context t c.args.kind c.args.n y s c.if-kind-eq-ALT_WRAPPER.true) (both_at c.args.context t 0 c.to_alt-a.ensures.does_both);
  keeps = c.to_alt-a.ensures.keeps;
}

pub start_on_main-requires : goal.start_on_main-requires
start_on_main-requires c = (c.requires.0, c.if-kind-eq-ALT_WRAPPER.false)

pub returns : goal.returns
returns c = let same : length c.start_on_main.new.main ≡ length (main_in c.args.work.now) = (c.start_on_main.ensures (tables [] [] [] []) []).same in
    record {
      turns = λ t. turns-back c.args.work.now c.requires.1 c.start_on_main.new.main same (c.start_on_main.ensures t (alt_in c.args.work.now));
      keeps = main-keeps c.args.work.now c.requires.1 c.start_on_main.new.main same;
    }
