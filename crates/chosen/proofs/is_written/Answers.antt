-- `chosen::is_written` meets its contract: the bytes behind the records read decide. Assumes nothing.
use mathlib.Core.Path.{◌≡◌, refl, sym}
use native.Mathlib.Omega.{arith}
use lib.ListN.{length, take}
use lib.Seq.{length-take-le}
use Rattle.chosen.specs.Form.{room_in}
use Rattle.chosen.proofs.Words.{room_whole}
use Rattle.chosen.proofs.Records.{progress-starts, progress-full, progress-broken, progress-next, progress-later, progress-ends}
use Rattle.chosen.proofs.Reading.{next-told, stop-told}
use Rattle.chosen.proofs.is_written.Goals as goal

pub loop-at-init : goal.loop-at-init
loop-at-init c = progress-starts (take c.args.n (room_in c.args.work.now)) _ refl

pub returns-then-own-eq-MAX_RECORDS : goal.returns-then-own-eq-MAX_RECORDS
returns-then-own-eq-MAX_RECORDS c = sym (progress-full c.loop-at.invariant (omega (arith, (length-take-le c.args.n (room_in c.args.work.now) (omega (arith, room_whole c.args.work.now c.requires.0))))) c.if-own-eq-MAX_RECORDS.true)

pub next_record-requires : goal.next_record-requires
next_record-requires c = record {
  work_len = (c.requires.0, (omega arith, c.requires.1));
  roots_len = (c.loop-at.invariant.room, (c.loop-at.invariant.rooted, omega arith));
}

pub returns-in_default : goal.returns-in_default
returns-in_default c = sym (progress-broken c.loop-at.invariant (stop-told c.next_record.ensures c.in_default.is))

pub overflow_add-at : goal.overflow_add-at
overflow_add-at c = let told = next-told c.next_record.ensures c.in-Some.is in
    omega (arith, progress-later c.loop-at.invariant told.0, (length-take-le c.args.n (room_in c.args.work.now) (omega (arith, room_whole c.args.work.now c.requires.0))))

pub loop-at-smaller : goal.loop-at-smaller
loop-at-smaller c = let told = next-told c.next_record.ensures c.in-Some.is in
    omega (arith, progress-later c.loop-at.invariant told.0, (length-take-le c.args.n (room_in c.args.work.now) (omega (arith, room_whole c.args.work.now c.requires.0))))

pub loop-at-preserved : goal.loop-at-preserved
loop-at-preserved c = let told = next-told c.next_record.ensures c.in-Some.is in
    progress-next c.loop-at.invariant (omega (arith, (length-take-le c.args.n (room_in c.args.work.now) (omega (arith, room_whole c.args.work.now c.requires.0))))) (omega (arith, c.loop-at.invariant.few)) _ _ _ told.0 told.1 told.2 told.3

pub returns : goal.returns
returns c = progress-ends c.loop-at.invariant (omega (arith, (length-take-le c.args.n (room_in c.args.work.now) (omega (arith, room_whole c.args.work.now c.requires.0)))))
