-- `index_memory::write_index` meets its contract. Assumes nothing.
use Rattle.std.proofs.lemmas.List.{length-take}
use Prim.Native.Nat.{ℕ, ◌<◌, ◌*◌}
use mathlib.Core.List.{List, ◌++◌}
use mathlib.Core.Path.{◌≡◌, sym, ap, ◌∙◌}
use lib.ListN.{drop}
use Rattle.index_memory.specs.Memory.{entry_in}
use Rattle.index_memory.proofs.IndexBytes.{entries-long, byte-is, write-begins, write-more, write-ends}
use native.Mathlib.Omega.{arith}
use Rattle.index_memory.proofs.write_index.Goals as goal

pub loop-j-init : goal.loop-j-init
loop-j-init c = write-begins _ _

pub loop-j-preserved : goal.loop-j-preserved
loop-j-preserved c =
    let inside : c.loop-j.j < 16 * c.args.count = omega (arith, length-take {A = ℕ}) in
    write-more c.loop-j.invariant (omega (arith, entries-long (entry_in c.args.work.now) c.args.count)) (omega arith)
    (c.byte_at.ensures ∙ sym (byte-is (entry_in c.args.work.now) c.args.count c.loop-j.j inside))

pub returns : goal.returns
returns c =
    let last : c.loop-j.j ≡ 16 * c.args.count = omega (arith, length-take {A = ℕ}) in
    ap (λ (z : List ℕ). z ++ drop (16 * c.args.count) c.args.out.now)
    (write-ends c.loop-j.invariant (last ∙ sym (entries-long (entry_in c.args.work.now) c.args.count)) (omega (arith, length-take {A = ℕ})))
