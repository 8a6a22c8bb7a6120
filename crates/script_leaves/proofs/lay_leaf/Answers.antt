-- `script_leaves::lay_leaf` meets its contract: Multi, MultiA, and the leaves of one number or none. Assumes nothing.
use mathlib.Core.Path.{sym, ◌∙◌}
use native.Mathlib.Omega.{arith}
use Rattle.records.proofs.Widths.{short-fragment}
use Rattle.script_leaves.specs.Lent.{lent}
use Rattle.script_leaves.proofs.Laws.{keeps-length, laid_as}
use Rattle.script_leaves.proofs.Leaves.{multi-ready, multi-a-ready, multi-leaf, multi-a-leaf, numbered-ready, numbered-leaf}
use Rattle.script_leaves.proofs.lay_leaf.Goals as goal

pub shape_of-out-in-57 : goal.shape_of-out-in-57
shape_of-out-in-57 c = keeps-length c.lay_multi.ensures

pub shape_of-out-in-58 : goal.shape_of-out-in-58
shape_of-out-in-58 c = keeps-length c.lay_multi_a.ensures

pub shape_of-out-in_default : goal.shape_of-out-in_default
shape_of-out-in_default c = keeps-length c.lay_numbered.ensures

pub lay_multi-requires : goal.lay_multi-requires
lay_multi-requires c = multi-ready c.args.context c.args.tables.keys.now c.args.tables.key_hashes.now c.args.tables.hashes32.now c.args.tables.hashes20.now c.args.verified
    c.args.bytes.now c.requires (sym c.kind_of-kind.ensures ∙ c.in-57.is)

pub lay_multi_a-requires : goal.lay_multi_a-requires
lay_multi_a-requires c = multi-a-ready c.args.context c.args.tables.keys.now c.args.tables.key_hashes.now c.args.tables.hashes32.now c.args.tables.hashes20.now c.args.verified
    c.args.bytes.now c.requires (sym c.kind_of-kind.ensures ∙ c.in-58.is)

pub lay_numbered-requires : goal.lay_numbered-requires
lay_numbered-requires c = let t = lent c.args.tables in (
  numbered-ready c.args.context t c.args.verified c.args.bytes.now _ _ c.kind_of-kind.ensures c.number_of-n.ensures.value (λ e. omega arith)
      (λ e. omega arith) c.requires,
  λ l h. c.number_of-n.ensures.upper_bound (short-fragment c.args.bytes.now (omega (arith, c.kind_of-kind.ensures)) (omega (arith, c.kind_of-kind.ensures))),
)

pub returns-in-57 : goal.returns-in-57
returns-in-57 c = laid_as (multi-leaf c.args.context c.args.tables.keys.now c.args.tables.key_hashes.now c.args.tables.hashes32.now c.args.tables.hashes20.now c.args.verified
    c.args.bytes.now (sym c.kind_of-kind.ensures ∙ c.in-57.is)) c.lay_multi.ensures

pub returns-in-58 : goal.returns-in-58
returns-in-58 c = laid_as (multi-a-leaf c.args.context c.args.tables.keys.now c.args.tables.key_hashes.now c.args.tables.hashes32.now c.args.tables.hashes20.now c.args.verified
    c.args.bytes.now (sym c.kind_of-kind.ensures ∙ c.in-58.is)) c.lay_multi_a.ensures

pub returns-in_default : goal.returns-in_default
returns-in_default c = let t = lent c.args.tables in
    laid_as (numbered-leaf c.args.context t c.args.verified c.args.bytes.now _ _ c.kind_of-kind.ensures c.number_of-n.ensures.value (λ e. omega arith)
    (λ e. omega arith)) c.lay_numbered.ensures
