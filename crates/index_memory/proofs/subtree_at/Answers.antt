-- `index_memory::subtree_at` meets its contract. Assumes nothing.
use Prim.Native.Nat.{◌+◌}
use lib.ListN.{get_or}
use Rattle.index_memory.proofs.Words.{free-is, taken_is}
use Rattle.index_memory.specs.Memory.{subtree_in}
use Rattle.index_memory.proofs.subtree_at.Goals as goal

pub returns-in-Some : goal.returns-in-Some
unfolding subtree_in
returns-in-Some c = free-is (get_or c.args.work.now (12288 + c.args.i) 0) c.slot_of.ensures c.in-Some.is

pub returns-in-None : goal.returns-in-None
unfolding subtree_in
returns-in-None c = taken_is (get_or c.args.work.now (12288 + c.args.i) 0) c.slot_of.ensures c.in-None.is c.of_false.ensures
