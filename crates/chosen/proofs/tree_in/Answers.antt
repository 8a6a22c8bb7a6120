-- `chosen::tree_in` meets its contract: each test tells. Assumes nothing.
use mathlib.Core.Path.{sym, ◌∙◌}
use native.Mathlib.Omega.{arith}
use Rattle.chosen.specs.Answers.{bytes, nothing}
use Rattle.chosen.proofs.Holding.{holds}
use Rattle.chosen.proofs.Filling.{no_length, no-count, no-zeros, no-tree}
use Rattle.chosen.proofs.tree_in.Goals as goal

pub returns-then-work-ne-WORK_WORDS : goal.returns-then-work-ne-WORK_WORDS
returns-then-work-ne-WORK_WORDS c = nothing (no_length c.args.work.now c.if-work-ne-WORK_WORDS.true)

pub returns-then-count-gt-TREE_BYTES : goal.returns-then-count-gt-TREE_BYTES
returns-then-count-gt-TREE_BYTES c = nothing (no-count c.args.work.now c.if-work-ne-WORK_WORDS.false (omega arith))

pub zero_behind-requires : goal.zero_behind-requires
zero_behind-requires c = (c.if-work-ne-WORK_WORDS.false, c.if-count-gt-TREE_BYTES.false)

pub returns-then-not-zero_behind : goal.returns-then-not-zero_behind
returns-then-not-zero_behind c =
    nothing (no-zeros c.args.work.now c.if-work-ne-WORK_WORDS.false c.if-count-gt-TREE_BYTES.false (sym c.zero_behind.ensures ∙ c.if-not-zero_behind.true))

pub is_written-requires : goal.is_written-requires
is_written-requires c = (c.if-work-ne-WORK_WORDS.false, c.if-count-gt-TREE_BYTES.false)

pub returns-then-not-is_written : goal.returns-then-not-is_written
returns-then-not-is_written c =
    nothing (no-tree c.args.work.now c.if-work-ne-WORK_WORDS.false c.if-count-gt-TREE_BYTES.false (sym c.zero_behind.ensures ∙ c.if-not-zero_behind.false) (sym c.is_written.ensures ∙ c.if-not-is_written.true))

pub returns : goal.returns
returns c = bytes (holds c.args.work.now c.if-work-ne-WORK_WORDS.false c.if-count-gt-TREE_BYTES.false (sym c.zero_behind.ensures ∙ c.if-not-zero_behind.false) (sym c.is_written.ensures ∙ c.if-not-is_written.false))
    c.if-count-gt-TREE_BYTES.false c.if-work-ne-WORK_WORDS.false
