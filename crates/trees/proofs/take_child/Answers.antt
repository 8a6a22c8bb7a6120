-- `trees::take_child` meets its contract: a slot within the records read, or none. Assumes nothing.
use mathlib.Core.Path.{refl, sym, ◌∙◌}
use lib.ListN.{length-set}
use Rattle.trees.proofs.InMemory.{slot-at, slot-beyond, slot-taken, slot-not-there}
use Rattle.trees.proofs.take_child.Goals as goal

pub returns-then-child-read : goal.returns-then-child-read
returns-then-child-read c = record {
  value = c.slot_of.ensures ∙ sym (slot-at c.args.work.now c.args.read c.args.child c.if-child-read.true);
  read_after = slot-taken c.args.work.now c.args.read c.args.child c.if-child-read.true;
  work_len_unchanged = length-set c.args.work.now c.args.child 0;
}

pub returns : goal.returns
returns c = record {
  value = sym (slot-beyond c.args.work.now c.args.read c.args.child c.requires c.if-child-read.false);
  read_after = slot-not-there c.args.work.now c.args.read c.args.child c.requires c.if-child-read.false;
  work_len_unchanged = refl;
}
