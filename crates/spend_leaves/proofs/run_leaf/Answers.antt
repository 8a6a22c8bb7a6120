-- `spend_leaves::run_leaf` meets its contract: Multi, MultiA, and the leaves of one number or none. Assumes nothing.
use mathlib.Core.Path.{sym, ◌∙◌}
use native.Mathlib.Omega.{arith}
use Rattle.records.proofs.Widths.{short-fragment}
use Rattle.script_leaves.proofs.Leaves.{is-multi, is-multi-a}
use Rattle.spend_log.specs.Places.{tables_in}
use Rattle.spend_leaves.proofs.Pieces.{named, multi-ready, multi-a-ready, other-kind, numbered-ready}
use Rattle.spend_leaves.proofs.run_leaf.Goals as goal

pub run_multi-requires : goal.run_multi-requires
run_multi-requires c = let its-tables = tables_in c.args.log.now c.args.head in
    (c.requires.0, multi-ready c.args.context its-tables c.args.bytes.now c.requires.1 (sym c.kind_of-kind.ensures ∙ c.in-57.is))

pub run_multi_a-requires : goal.run_multi_a-requires
run_multi_a-requires c = let its-tables = tables_in c.args.log.now c.args.head in
    (c.requires.0, multi-a-ready c.args.context its-tables c.args.bytes.now c.requires.1 (sym c.kind_of-kind.ensures ∙ c.in-58.is))

pub run_numbered-requires : goal.run_numbered-requires
run_numbered-requires c = let its-tables = tables_in c.args.log.now c.args.head in (
  c.requires.0,
  numbered-ready c.args.context its-tables c.args.bytes.now c.kind_of-kind.ensures c.number_of-n.ensures.value c.in_default.in_default-own.rest.0.1
      c.in_default.in_default-own.rest.1 c.requires.1,
  λ l h.
      c.number_of-n.ensures.upper_bound
      (short-fragment c.args.bytes.now (omega (arith, c.kind_of-kind.ensures)) (omega (arith, c.kind_of-kind.ensures))),
)

pub shape_of-main-in-57 : goal.shape_of-main-in-57
shape_of-main-in-57 c = c.run_multi.ensures.same

pub returns-in-57 : goal.returns-in-57
returns-in-57 c = let its-tables = tables_in c.args.log.now c.args.head in
    named c.args.context its-tables (is-multi c.args.bytes.now (sym c.kind_of-kind.ensures ∙ c.in-57.is)) c.run_multi.ensures

pub shape_of-main-in-58 : goal.shape_of-main-in-58
shape_of-main-in-58 c = c.run_multi_a.ensures.same

pub returns-in-58 : goal.returns-in-58
returns-in-58 c = let its-tables = tables_in c.args.log.now c.args.head in
    named c.args.context its-tables (is-multi-a c.args.bytes.now (sym c.kind_of-kind.ensures ∙ c.in-58.is)) c.run_multi_a.ensures

pub shape_of-main-in_default : goal.shape_of-main-in_default
shape_of-main-in_default c = c.run_numbered.ensures.same

pub returns-in_default : goal.returns-in_default
returns-in_default c = let its-tables = tables_in c.args.log.now c.args.head in
    named c.args.context its-tables (other-kind c.args.context its-tables c.args.bytes.now c.kind_of-kind.ensures c.number_of-n.ensures.value c.in_default.in_default-own.rest.0.1
    c.in_default.in_default-own.rest.1) c.run_numbered.ensures
