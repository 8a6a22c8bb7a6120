-- `spend_run::run_leaf_at` meets its contract: what stands between the start and the end is record i. Assumes nothing.
use mathlib.Core.Path.{sym, ap}
use Rattle.script_leaves.specs.Leaves.{leaf_of}
use Rattle.spend_log.specs.Places.{tables_in}
use Rattle.spend_leaves.proofs.Pieces.{named}
use Rattle.spend_stack.specs.Memory.{alt_in}
use Rattle.spend_stack.proofs.Memory.{main-keeps}
use Rattle.spend_run.proofs.Turning.{acts-moves, moves-back}
use Rattle.spend_run.proofs.Recursion.{leaf-bytes}
use Rattle.spend_run.proofs.run_leaf_at.Goals as goal

pub start_of-start-requires : goal.start_of-start-requires
start_of-start-requires c = c.requires.0.long

pub run_leaf-requires : goal.run_leaf-requires
run_leaf-requires c = (c.requires.1, rw (leaf-bytes c.requires.0 c.start_of-start.ensures c.record_end-end.ensures) c.requires.3)

pub returns : goal.returns
returns c = let its-tables = tables_in c.args.log.now c.args.head in
    let acts = named c.args.context its-tables (ap leaf_of (sym (leaf-bytes c.requires.0 c.start_of-start.ensures c.record_end-end.ensures))) c.run_leaf.ensures in
    record {
      moves = moves-back c.args.work.now c.requires.2 c.run_leaf.new.main acts.same (acts-moves (alt_in c.args.work.now) acts);
      keeps = main-keeps c.args.work.now c.requires.2 c.run_leaf.new.main acts.same;
    }
