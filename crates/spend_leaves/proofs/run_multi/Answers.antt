-- `spend_leaves::run_multi` meets its contract: k, the keys, their count and the check. Assumes nothing.
use mathlib.Core.Path.{◌∙◌}
use Rattle.script_leaves.proofs.Leaves.{counted-keys}
use Rattle.spend_log.specs.Places.{tables_in}
use mathlib.Core.Bool.{true}
use Rattle.spend_leaves.proofs.Multis.{multi-runs}
use Rattle.spend_leaves.proofs.run_multi.Goals as goal

pub push_number-a-requires : goal.push_number-a-requires
push_number-a-requires c = c.requires.0

pub push_keys-b-requires : goal.push_keys-b-requires
push_keys-b-requires c = let its-tables = tables_in c.args.log.now c.args.head in
    (c.push_number-a.ensures.fits, counted-keys c.args.context its-tables true c.args.bytes.now _ _ c.k_of-k.ensures c.count_of-count.ensures c.requires.1)

pub push_number-d-requires : goal.push_number-d-requires
push_number-d-requires c = c.push_keys-b.ensures.fits

pub check_multi_sig-requires : goal.check_multi_sig-requires
check_multi_sig-requires c = c.push_number-d.ensures.fits

pub shape_of-main : goal.shape_of-main
shape_of-main c = c.check_multi_sig.ensures.same ∙ c.push_number-d.ensures.same ∙ c.push_keys-b.ensures.same ∙ c.push_number-a.ensures.same

pub returns : goal.returns
returns c = let its-tables = tables_in c.args.log.now c.args.head in
    multi-runs c.args.context its-tables c.args.bytes.now c.k_of-k.ensures c.count_of-count.ensures c.push_number-a.ensures c.push_keys-b.ensures
    c.push_number-d.ensures c.check_multi_sig.ensures
