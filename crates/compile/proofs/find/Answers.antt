-- `compile::find` meets its contract: the search begins where nothing is remembered, and its root is picked. Assumes nothing.
use Rattle.policies.specs.Array.{policy_at}
use Rattle.compile.proofs.Finding.{goes, no_table, choosable, picked}
use Rattle.std.proofs.lemmas.Result.{err_from_is_err_and}
use Rattle.compile.proofs.find.Goals as goal

pub search-requires : goal.search-requires
search-requires c = goes c.requires.0 c.begin.ensures

pub returns-in_err-s : goal.returns-in_err-s
returns-in_err-s c = let p = err_from_is_err_and c.from_residual.result c.from_residual.ensures.1 in
    rw (p.1, p.2)
    (no_table c.args.context c.args.pol.now (policy_at c.args.pol.now c.args.root) c.begin.ensures c.search.ensures _ c.in_err-s.was)

pub pick-requires : goal.pick-requires
pick-requires c = choosable c.args.context c.args.pol.now (policy_at c.args.pol.now c.args.root) c.begin.ensures c.search.ensures _ c.in_ok-s.was

pub returns : goal.returns
returns c = picked c.args.context c.args.pol.now (policy_at c.args.pol.now c.args.root) c.begin.ensures c.search.ensures _ c.in_ok-s.was c.pick.ensures
