-- `offers::cast_entries` meets its contract: before entry j, the entries still to come give what all entries give. Assumes nothing.
use mathlib.Core.Path.{refl, sym, ◌∙◌}
use native.Mathlib.Omega.{arith}
use Rattle.offers.proofs.Ends.{end-done}
use Rattle.definition.specs.Tables.{probs}
use Rattle.table.proofs.Kept.{extends-trans}
use Rattle.closure.proofs.Extending.{still-long}
use Rattle.offers.proofs.Entries.{still-there, still_kept, still-entries, entry-was, entry-below}
use Rattle.offers.proofs.Entries.{entries-begin, entries-end, entries-stop, entries-go-on}
use Rattle.offers.proofs.cast_entries.Goals as goal

pub length_of-n-requires : goal.length_of-n-requires
length_of-n-requires c = (c.requires.0.tables, c.requires.0.there)

pub loop-j-init : goal.loop-j-init
loop-j-init c = (entries-begin c.args.context (probs c.args.sat c.args.dissat) c.requires.0.nodes c.requires.1.0, refl, c.length_of-n.ensures)

pub entry-e-requires : goal.entry-e-requires
entry-e-requires c = (still_kept c.requires.0 c.loop-j.invariant.0.extends, (still-there c.requires.0 c.loop-j.invariant.0.extends, omega (arith, c.loop-j-test.true, c.loop-j.invariant.2, still-entries c.requires.0 c.loop-j.invariant.0.extends)))

pub insert_cast-done-requires : goal.insert_cast-done-requires
insert_cast-done-requires c = (
  c.loop-j.invariant.0.extends.holds,
  (
    c.loop-j.invariant.0.table,
    (
      entry-below c.requires.0 c.loop-j.invariant.0.extends (entry-was c.requires.0 c.loop-j.invariant.0.extends c.loop-j.j c.entry-e.ensures) (omega (arith, c.loop-j-test.true, c.loop-j.invariant.2)),
      c.requires.1.1,
    ),
  ),
)

pub shape_of-work-then-is_err : goal.shape_of-work-then-is_err
shape_of-work-then-is_err c = still-long c.requires.0.nodes (extends-trans c.loop-j.invariant.0.extends c.insert_cast-done.ensures.extends)

pub returns-then-is_err : goal.returns-then-is_err
returns-then-is_err c = entries-stop c.args.context (probs c.args.sat c.args.dissat) c.requires.0 c.loop-j.invariant.0
    (entry-was c.requires.0 c.loop-j.invariant.0.extends c.loop-j.j c.entry-e.ensures) (omega (arith, c.loop-j-test.true, c.loop-j.invariant.2)) c.insert_cast-done.ensures
    (sym c.is_err.ensures.value ∙ c.if-is_err.true)

pub loop-j-preserved : goal.loop-j-preserved
loop-j-preserved c =
    let well = sym c.is_err.ensures.value ∙ c.if-is_err.false in (
      entries-go-on c.args.context (probs c.args.sat c.args.dissat) c.requires.0 c.loop-j.invariant.0
          (entry-was c.requires.0 c.loop-j.invariant.0.extends c.loop-j.j c.entry-e.ensures) (omega (arith, c.loop-j-test.true, c.loop-j.invariant.2))
          c.insert_cast-done.ensures
          well,
      end-done _ well,
      c.loop-j.invariant.2,
    )

pub shape_of-work : goal.shape_of-work
shape_of-work c = still-long c.requires.0.nodes c.loop-j.invariant.0.extends

pub returns : goal.returns
returns c = entries-end c.args.context (probs c.args.sat c.args.dissat) c.loop-j.invariant.0 c.loop-j.invariant.1
    (omega (arith, c.loop-j-test.false, c.loop-j.auto.j-end, c.loop-j.invariant.2))
