-- `script_leaves::lay_multi_a` meets its contract: the keys, then k and the test. Assumes nothing.
use native.Mathlib.Omega.{arith}
use Rattle.script_leaves.specs.Laying.{only_keys}
use Rattle.script_leaves.proofs.Laws.{then-laid, laid_as}
use Rattle.script_leaves.proofs.Leaves.{counted-keys, multi-a-bytes}
use Rattle.script_leaves.proofs.lay_multi_a.Goals as goal

pub put_sig_sum-to-requires : goal.put_sig_sum-to-requires
put_sig_sum-to-requires c = counted-keys c.args.context (only_keys c.args.keys.now) c.args.verified c.args.bytes.now _ _ c.k_of-k.ensures
    c.count_of-count.ensures c.requires

pub put_counted-requires : goal.put_counted-requires
put_counted-requires c = omega arith

pub returns : goal.returns
returns c = laid_as (multi-a-bytes c.args.context (only_keys c.args.keys.now) c.args.verified c.args.bytes.now _ _ c.k_of-k.ensures
    c.count_of-count.ensures) (then-laid c.put_sig_sum-to.ensures c.put_counted.ensures)
