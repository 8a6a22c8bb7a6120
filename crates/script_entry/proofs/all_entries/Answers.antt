-- `script_entry::all_entries` meets its contract: the entries of the records passed are looked for. Assumes nothing.
use Prim.Native.Nat.{◌+◌}
use mathlib.Core.Bool.{true}
use mathlib.Core.Path.{◌≡◌, refl, sym, ◌∙◌}
use native.Mathlib.Omega.{arith}
use Rattle.walk.specs.Folds.{over_records}
use Rattle.script_leaves.specs.Lent.{lent}
use Rattle.script_entry.proofs.Scanning.{entries-more, still-false}
use Rattle.script_entry.proofs.all_entries.Goals as goal

pub loop-i-init : goal.loop-i-init
unfolding over_records
loop-i-init c = refl

pub entries_at-own-requires : goal.entries_at-own-requires
entries_at-own-requires c = c.requires.placed c.loop-i.i (omega (arith, c.loop-i-test.true))

pub returns-then-not-own : goal.returns-then-not-own
returns-then-not-own c =
    let t = lent c.args.tables in
    let next = entries-more c.args.context t (c.requires.placed c.loop-i.i (omega arith)).row true _ (sym c.loop-i.invariant) c.entries_at-own.ensures refl in
    sym (still-false c.args.context t c.args.tree.now (c.loop-i.i + 1) c.args.count (omega arith) (sym next ∙ c.if-not-own.true))

pub loop-i-preserved : goal.loop-i-preserved
loop-i-preserved c =
    let t = lent c.args.tables in
    let next = entries-more c.args.context t (c.requires.placed c.loop-i.i (omega arith)).row true _ (sym c.loop-i.invariant) c.entries_at-own.ensures refl in
    sym next ∙ c.if-not-own.false

pub returns : goal.returns
returns c =
    let t = lent c.args.tables in
    let all : c.loop-i.i ≡ c.args.count = omega arith in
    sym (rw all at c.loop-i.invariant)
