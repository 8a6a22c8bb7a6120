-- `cache::length_of` meets its contract. Assumes nothing.
use mathlib.Core.Path.{◌≡◌, sym, ◌∙◌}
use Prim.Native.Nat.{◌+◌, ◌*◌, min, ◌/◌}
use native.Mathlib.Omega.{arith}
use lib.ListN.{get_or}
use Rattle.cache.proofs.Tables.{entries-count}
use Rattle.cache.proofs.length_of.Goals as goal

pub returns-then-len-lt-MAX_ENTRIES : goal.returns-then-len-lt-MAX_ENTRIES
returns-then-len-lt-MAX_ENTRIES c = let few : min (get_or c.args.work.now (540680 + 3 * c.args.s) 0 / 0x2_0000) 128 ≡ get_or c.args.work.now (540680 + 3 * c.args.s) 0 / 0x2_0000 = omega arith in
    sym (entries-count c.args.work.now c.args.s ∙ few)

pub returns-else-len-lt-MAX_ENTRIES : goal.returns-else-len-lt-MAX_ENTRIES
returns-else-len-lt-MAX_ENTRIES c = let few : min (get_or c.args.work.now (540680 + 3 * c.args.s) 0 / 0x2_0000) 128 ≡ 128 = omega arith in
    sym (entries-count c.args.work.now c.args.s ∙ few)
