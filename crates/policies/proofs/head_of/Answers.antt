-- `policies::head_of` meets its contract: the words of a row, by its kind; past the rows, an And. Assumes nothing.
use mathlib.Core.Path.{◌∙◌}
use native.Mathlib.Omega.{arith}
use Rattle.policies.proofs.Views.{past_head, stored-head}
use Rattle.policies.proofs.head_of.Goals as goal

pub returns-then-r-ge-MAX_RECORDS : goal.returns-then-r-ge-MAX_RECORDS
returns-then-r-ge-MAX_RECORDS c = c.pair.ensures ∙ past_head c.args.pol.now c.args.r c.if-r-ge-MAX_RECORDS.true

pub returns : goal.returns
returns c = stored-head c.args.pol.now c.args.r (omega arith) c.word-kind.result c.word-number.result c.word-k.result c.word-n.result c.word-left_weight.result
    c.word-right_weight.result c.word-kind.ensures c.word-number.ensures c.word-k.ensures c.word-n.ensures c.word-left_weight.ensures c.word-right_weight.ensures
    c.head_from.ensures
