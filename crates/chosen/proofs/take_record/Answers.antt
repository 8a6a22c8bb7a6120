-- `chosen::take_record` meets its contract: the children must be the last roots, which the record replaces. Assumes nothing.
use mathlib.Core.Bool.{false}
use mathlib.Core.Path.{◌≡◌, sym, ap, ◌∙◌}
use native.Mathlib.Omega.{arith}
use borrow.Author.Tests.{not-true, not-false}
use lib.ListN.{length-set}
use Rattle.records.specs.Payloads.{written_kind}
use Rattle.records.proofs.Arities.{Found, found, not_found, few-children}
use Rattle.chosen.specs.Chosen.{is_short}
use Rattle.chosen.specs.Answers.{broken}
use Rattle.chosen.proofs.Steps.{with-short, with-unfit}
use Rattle.chosen.proofs.Reading.{record-left, record-untaken, roots-enough, children-wide}
use Rattle.chosen.proofs.take_record.Goals as goal

pub returns-then-is_short : goal.returns-then-is_short
returns-then-is_short c = broken (with-short _ _ _ (ap is_short (sym c.written_kind.ensures) ∙ sym c.is_short.ensures ∙ c.if-is_short.true)) c.requires.0

pub last_are-requires : goal.last_are-requires
last_are-requires c = (omega arith, few-children (found c.args.bytes.now c.fragment_parts-parts.ensures (not-false _ c.if-not-parts.false) c.kind_of.ensures c.arity-n.ensures))

pub overflow_sub-left : goal.overflow_sub-left
overflow_sub-left c = roots-enough c.args.roots.now _ c.args.top _ (omega arith) (few-children (found c.args.bytes.now c.fragment_parts-parts.ensures (not-false _ c.if-not-parts.false) c.kind_of.ensures c.arity-n.ensures)) (children-wide (found c.args.bytes.now c.fragment_parts-parts.ensures (not-false _ c.if-not-parts.false) c.kind_of.ensures c.arity-n.ensures)) (sym c.last_are.ensures ∙ c.if-not-last_are.false)

pub shape_of-roots : goal.shape_of-roots
shape_of-roots c = simp length-set

pub returns : goal.returns
returns c = record-left c.args.roots.now c.args.top c.args.own (found c.args.bytes.now c.fragment_parts-parts.ensures (not-false _ c.if-not-parts.false) c.kind_of.ensures c.arity-n.ensures) (ap is_short (sym c.written_kind.ensures) ∙ sym c.is_short.ensures ∙ c.if-is_short.false) (omega arith) (sym c.last_are.ensures ∙ c.if-not-last_are.false) (omega arith)
    (omega arith) c.requires.0

pub returns-then-not-last_are : goal.returns-then-not-last_are
returns-then-not-last_are c = broken (record-untaken c.args.roots.now c.args.top c.args.own (found c.args.bytes.now c.fragment_parts-parts.ensures (not-false _ c.if-not-parts.false) c.kind_of.ensures c.arity-n.ensures) (ap is_short (sym c.written_kind.ensures) ∙ sym c.is_short.ensures ∙ c.if-is_short.false) (omega arith) (sym c.last_are.ensures ∙ c.if-not-last_are.true)) c.requires.0

pub returns-then-not-parts : goal.returns-then-not-parts
returns-then-not-parts c = broken (with-unfit _ _ _ (not_found c.args.bytes.now c.fragment_parts-parts.ensures (not-true _ c.if-not-parts.true))) c.requires.0
