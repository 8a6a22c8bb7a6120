-- `spend_run::finish` meets its contract: on both stacks, or in the main stack's part of the memory. Assumes nothing.
use mathlib.Core.List.{[]}
use mathlib.Core.Path.{◌≡◌}
use lib.ListN.{length}
use Rattle.contexts.specs.declared.Context.TheVariants.{Segwitv0}
use Rattle.script_bytes.specs.Tables.{tables}
use Rattle.spend_stack.specs.Memory.{main_in, alt_in}
use Rattle.spend_stack.proofs.Memory.{main-keeps}
use Rattle.spend_run.proofs.Turning.{moves-as, both-moves, moves-back, end-alt}
use Rattle.spend_run.proofs.finish.Goals as goal

pub from_alt-requires : goal.from_alt-requires
from_alt-requires c = (c.requires.0, c.requires.1)

pub returns-then-kind-eq-ALT_WRAPPER : goal.returns-then-kind-eq-ALT_WRAPPER
returns-then-kind-eq-ALT_WRAPPER c = record {
  moves = λ z t. moves-as (λ s. end-alt z t c.args.kind c.args.k s c.if-kind-eq-ALT_WRAPPER.true) (both-moves z t c.from_alt.ensures.does_both);
  keeps = c.from_alt.ensures.keeps;
}

pub finish_on_main-requires : goal.finish_on_main-requires
finish_on_main-requires c = (c.requires.0, c.if-kind-eq-ALT_WRAPPER.false)

pub returns : goal.returns
returns c = let same : length c.finish_on_main.new.main ≡ length (main_in c.args.work.now) = (c.finish_on_main.ensures Segwitv0 (tables [] [] [] []) []).same in
    record {
      moves = λ z t. moves-back c.args.work.now c.requires.1 c.finish_on_main.new.main same (c.finish_on_main.ensures z t (alt_in c.args.work.now));
      keeps = main-keeps c.args.work.now c.requires.1 c.finish_on_main.new.main same;
    }
