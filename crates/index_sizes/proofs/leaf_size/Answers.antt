-- `index_sizes::leaf_size` meets its contract. Assumes nothing.
use Rattle.index_sizes.proofs.LeafSizes.{size-multi, size-multi-a, size-numbered}
use native.Mathlib.Omega.{arith}
use Rattle.records.proofs.Widths.{short-fragment}
use Rattle.index_sizes.proofs.leaf_size.Goals as goal

pub numbered_size-requires : goal.numbered_size-requires
numbered_size-requires c = λ l h. c.number_of.ensures.upper_bound (short-fragment c.args.bytes.now (omega (arith, c.kind_of-kind.ensures)) (omega (arith, c.kind_of-kind.ensures)))

pub returns-in-57 : goal.returns-in-57
returns-in-57 c = size-multi c.args.context c.args.verified c.args.bytes.now c.kind_of-kind.ensures c.k_of-k.ensures c.count_of-count.ensures c.in-57.is c.number_size.ensures.0 c.key_push.ensures.0 c.number_size-in-57.ensures.0

pub returns-in-58 : goal.returns-in-58
returns-in-58 c = size-multi-a c.args.context c.args.verified c.args.bytes.now c.kind_of-kind.ensures c.k_of-k.ensures c.count_of-count.ensures c.in-58.is c.number_size-in-58.ensures.0 c.key_push-in-58.ensures.0

pub returns-in_default : goal.returns-in_default
returns-in_default c = size-numbered c.args.context c.args.verified c.args.bytes.now c.kind_of-kind.ensures c.k_of-k.ensures c.count_of-count.ensures (λ e. omega arith) (λ e. omega arith) c.number_of.ensures.value c.numbered_size.ensures.0
