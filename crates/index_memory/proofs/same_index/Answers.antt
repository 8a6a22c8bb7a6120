-- `index_memory::same_index` meets its contract. Assumes nothing.
use mathlib.Core.Path.{sym, ◌∙◌}
use native.Mathlib.Omega.{arith}
use Rattle.index_memory.specs.Memory.{entry_in}
use Rattle.index_memory.proofs.IndexBytes.{entries-long, byte-is}
use Rattle.index_memory.proofs.Lookups.{same-begins, same_more, other_length, other_byte, all-bytes}
use Rattle.index_memory.proofs.same_index.Goals as goal

pub returns-then-index-count : goal.returns-then-index-count
returns-then-index-count c = other_length _ _ (λ e. c.if-index-count.true (e ∙ entries-long (entry_in c.args.work.now) c.args.count))

pub loop-j-init : goal.loop-j-init
loop-j-init c = same-begins _ _

pub returns-then-byte-byte_at : goal.returns-then-byte-byte_at
returns-then-byte-byte_at c = other_byte _ _ c.loop-j.j
    (λ e. c.if-byte-byte_at.true (e ∙ byte-is (entry_in c.args.work.now) c.args.count c.loop-j.j (omega arith) ∙ sym c.byte_at.ensures))

pub loop-j-preserved : goal.loop-j-preserved
loop-j-preserved c =
    same_more c.loop-j.invariant (c.if-byte-byte_at.false ∙ c.byte_at.ensures ∙ sym (byte-is (entry_in c.args.work.now) c.args.count c.loop-j.j (omega arith)))

pub returns : goal.returns
returns c = all-bytes _ _ (c.if-index-count.false ∙ sym (entries-long (entry_in c.args.work.now) c.args.count)) (λ m h. c.loop-j.invariant.each m (omega arith))
