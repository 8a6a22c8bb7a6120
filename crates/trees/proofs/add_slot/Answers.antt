-- `trees::add_slot` meets its contract: the word behind the others holds the tree. Assumes nothing.
use lib.ListN.{length-set}
use Rattle.trees.proofs.InMemory.{slot_added}
use Rattle.trees.proofs.add_slot.Goals as goal

pub returns : goal.returns
returns c = record {
  read_after = rw c.pack.ensures (slot_added c.args.work.now c.args.read c.args.x c.requires.0);
  work_len_unchanged = length-set c.args.work.now c.args.read _;
}
