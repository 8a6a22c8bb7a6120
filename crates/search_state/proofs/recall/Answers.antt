-- `search_state::recall` meets its contract. Assumes nothing.
use native.Mathlib.Omega.{arith}
use Rattle.search_state.proofs.Lookups.{class-small, recalled}
use Rattle.search_state.proofs.recall.Goals as goal

pub overflow_cast-class : goal.overflow_cast-class
overflow_cast-class c = let small = class-small c.requires.0 c.args.r c.requires.1.0 in
    omega (arith, small.0, small.1, c.class_of-class.ensures)

pub returns : goal.returns
returns c = recalled c.requires.0 c.requires.1.1 c.args.r c.requires.1.0 c.args.sat c.args.dissat c.class_of-class.ensures c.find.ensures
