-- `search_state::table_of` meets its contract: the entries of a slot are copied one by one. Assumes nothing.
use mathlib.Core.Path.{refl, ◌∙◌}
use native.Mathlib.Omega.{arith}
use lib.ListN.{length-set}
use Rattle.cache.specs.Slots.{slot_at}
use Rattle.cache.proofs.Tables.{entries-few}
use Rattle.search_state.proofs.Copying.{copied_next, copied_all}
use Rattle.search_state.proofs.table_of.Goals as goal

pub loop-j-init : goal.loop-j-init
loop-j-init c = (omega arith, (refl, refl))

pub entry-requires : goal.entry-requires
entry-requires c = (c.requires.0, (c.requires.1, omega (arith, c.length_of-len.ensures)))

pub bounds-entries-j : goal.bounds-entries-j
bounds-entries-j c = omega (arith, c.length_of-len.ensures, entries-few c.args.work.now c.args.s)

pub loop-j-preserved : goal.loop-j-preserved
loop-j-preserved c = let few = entries-few c.args.work.now c.args.s in (
  omega arith,
  (
    length-set c.loop-j.entries c.loop-j.j c.entry.result ∙ c.loop-j.invariant.1.0,
    copied_next (slot_at c.args.work.now c.args.s).entries c.loop-j.entries c.loop-j.j c.loop-j.invariant.1.1 c.entry.ensures
        (omega (arith, c.length_of-len.ensures)) (omega (arith, c.length_of-len.ensures)),
  ),
)

pub returns : goal.returns
returns c = record {
  are =
      copied_all (slot_at c.args.work.now c.args.s).entries c.loop-j.entries c.loop-j.j c.loop-j.invariant.1.1 c.length_of-len.ensures (omega arith) c.loop-j.invariant.0;
  few = omega (arith, c.length_of-len.ensures, entries-few c.args.work.now c.args.s);
}
