-- `spend_leaves::run_multi_a` meets its contract: the keys with their checks, k and the comparison. Assumes nothing.
use mathlib.Core.Path.{◌∙◌}
use Rattle.script_leaves.proofs.Leaves.{counted-keys}
use Rattle.spend_log.specs.Places.{tables_in}
use mathlib.Core.Bool.{true}
use Rattle.spend_leaves.proofs.Multis.{multi-a-runs}
use Rattle.spend_leaves.proofs.run_multi_a.Goals as goal

pub sum_sigs-a-requires : goal.sum_sigs-a-requires
sum_sigs-a-requires c = let its-tables = tables_in c.args.log.now c.args.head in
    (c.requires.0, counted-keys c.args.context its-tables true c.args.bytes.now _ _ c.k_of-k.ensures c.count_of-count.ensures c.requires.1)

pub push_number-b-requires : goal.push_number-b-requires
push_number-b-requires c = c.sum_sigs-a.ensures.fits

pub two_numbers-requires : goal.two_numbers-requires
two_numbers-requires c = c.push_number-b.ensures.fits

pub shape_of-main : goal.shape_of-main
shape_of-main c = c.two_numbers.ensures.same ∙ c.push_number-b.ensures.same ∙ c.sum_sigs-a.ensures.same

pub returns : goal.returns
returns c = let its-tables = tables_in c.args.log.now c.args.head in
    multi-a-runs c.args.context its-tables c.args.bytes.now c.k_of-k.ensures c.count_of-count.ensures c.sum_sigs-a.ensures c.push_number-b.ensures
    c.two_numbers.ensures
