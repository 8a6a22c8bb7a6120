-- `spend_entry::verdict_on` meets its contract: a small entry is run from its own stack and judged. Assumes nothing.
use native.Mathlib.Omega.{arith}
use mathlib.Core.List.{◌++◌}
use mathlib.Core.Path.{◌∙◌}
use lib.ListN.{drop}
use Rattle.spend_stack.proofs.Memory.{keeps-all, keeps_on, keeps-long, main-long, main-keeps}
use Rattle.spend_entry.proofs.Judged.{few-elements, loaded-back, still-runs, verdict-small, verdict-large}
use Rattle.spend_entry.proofs.verdict_on.Goals as goal

pub load-n-requires : goal.load-n-requires
load-n-requires c = (
  c.requires.1.start,
  few-elements c.args.log.now c.args.e c.small_entry.ensures c.if-small_entry.true,
  omega (arith, main-long c.args.work.now c.requires.2),
)

pub judge-requires : goal.judge-requires
judge-requires c = (c.run_record-r.ensures.played.fits, c.requires.1.ending)

pub returns : goal.returns
returns c = record {
  value = verdict-large c.args.context c.args.log.now c.args.head c.args.tree.now c.args.root c.args.e c.small_entry.ensures c.if-small_entry.false;
  keeps = keeps-all c.args.work.now;
}

pub begin-m-requires : goal.begin-m-requires
begin-m-requires c = let kept = main-keeps c.args.work.now c.requires.2 c.load-n.new.main c.load-n.ensures.same in
    (c.load-n.ensures.few, omega (arith, main-long (c.load-n.new.main ++ drop 8192 c.args.work.now) (keeps-long c.requires.2 kept)), c.requires.1.outcomes)

pub run_record-r-requires : goal.run_record-r-requires
run_record-r-requires c = let kept = main-keeps c.args.work.now c.requires.2 c.load-n.new.main c.load-n.ensures.same in
    (still-runs c.requires.0 kept.starts, c.begin-m.ensures.fits, keeps-long c.requires.2 kept)

pub shape_of-work-then-small_entry : goal.shape_of-work-then-small_entry
shape_of-work-then-small_entry c = let kept = main-keeps c.args.work.now c.requires.2 c.load-n.new.main c.load-n.ensures.same in
    c.run_record-r.ensures.keeps.same ∙ kept.same

pub returns-then-small_entry : goal.returns-then-small_entry
returns-then-small_entry c = record {
  value = verdict-small c.args.context c.args.log.now c.args.head c.args.tree.now c.args.root c.args.e c.small_entry.ensures c.if-small_entry.true
      (loaded-back c.args.work.now c.requires.2 c.load-n.new.main c.load-n.ensures.same c.load-n.ensures) c.begin-m.ensures c.run_record-r.ensures.played c.judge.ensures;
  keeps = keeps_on (main-keeps c.args.work.now c.requires.2 c.load-n.new.main c.load-n.ensures.same) c.run_record-r.ensures.keeps;
}
