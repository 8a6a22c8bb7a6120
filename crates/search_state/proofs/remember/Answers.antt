-- `search_state::remember` meets its contract: a refusal is passed on, an empty table is refused, and any other is stored under its policy's class.
-- Assumes nothing.
use Rattle.std.proofs.Common.{rules}
use Rattle.std.proofs.lemmas.Result.{err_from_is_err_and}
use mathlib.Core.Path.{◌≡◌}
use native.Mathlib.Omega.{arith}
use lib.ListN.{length}
use Rattle.policies.specs.Array.{policy_at}
use Rattle.definition.specs.Tables.{probs}
use Rattle.search_state.proofs.Lookups.{class-small}
use Rattle.search_state.proofs.Storing.{passed_on, empty-refused, stores_as}
use Rattle.search_state.proofs.remember.Goals as goal

pub returns-in_err-c : goal.returns-in_err-c
returns-in_err-c c =
    let p = err_from_is_err_and c.from_residual.result c.from_residual.ensures.1 in
    rw (p.1, p.2)
    (passed_on c.requires.1.1.0 (policy_at c.args.pol.now c.args.r) (probs c.args.sat c.args.dissat) c.args.c c.in_err-c.was)

pub returns-then-table-eq0 : goal.returns-then-table-eq0
returns-then-table-eq0 c = empty-refused c.requires.1.1.0 (policy_at c.args.pol.now c.args.r) (probs c.args.sat c.args.dissat) c.args.c
    c.in_ok-c.was c.if-table-eq0.true

pub overflow_cast-class : goal.overflow_cast-class
overflow_cast-class c = let small = class-small c.requires.0 c.args.r c.requires.1.0 in
    omega (arith, small.0, small.1, c.class_of-class.ensures)

pub returns : goal.returns
returns c =
    let long : length c.args.c.table.entries ≡ 128 = search rules in
    stores_as c.requires.0 c.requires.1.1.0 c.args.r c.requires.1.0 c.args.sat c.args.dissat c.args.c c.requires.1.1.1 long
    c.if-table-eq0.false c.in_ok-c.was c.class_of-class.ensures c.ok_or.ensures.value c.store.ensures
