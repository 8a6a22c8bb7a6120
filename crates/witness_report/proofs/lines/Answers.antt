-- `witness_report::lines` meets its contract: one line after the other. Assumes nothing.
use Rattle.std.proofs.Common.{rules}
use mathlib.Core.Path.{◌≡◌, ◌∙◌}
use lib.ListN.{length}
use Rattle.witness_tally.proofs.Tallies.{tally-none}
use Rattle.witness_report.proofs.Outcomes.{answers-small}
use Rattle.witness_report.proofs.Lists.{part-short, kept-first, going-first, few-lines, going_next, all-reported}
use native.Mathlib.Omega.{arith}
use Rattle.witness_report.proofs.lines.Goals as goal

pub loop-at-init : goal.loop-at-init
loop-at-init g c = (going-first c.args.text.now _ tally-none, kept-first c.args.room.now c.args.work.now c.args.out.now)

pub slice_bounds-tell-count : goal.slice_bounds-tell-count
slice_bounds-tell-count g c = c.line_end-end.ensures.after

pub tell-told-requires : goal.tell-told-requires
tell-told-requires g c = let short = part-short c.args.text.now c.loop-at.at c.line_end-end.result in
    (c.loop-at.invariant.1.files ∙ c.requires.files, c.loop-at.invariant.1.whole ∙ c.requires.whole, c.loop-at.invariant.1.within, omega (arith, short, c.loop-at.invariant.1.block, c.requires.lines))

pub counted-tally-requires : goal.counted-tally-requires
counted-tally-requires g c = (c.loop-at.invariant.0.few, few-lines c.args.text.now c.loop-at.invariant.0 c.requires.few c.loop-at-test.true, answers-small c.tell-told.ensures.answers)

pub overflow_add-at : goal.overflow_add-at
overflow_add-at g c = omega (arith, c.line_end-end.ensures.within, c.requires.few)

pub loop-at-smaller : goal.loop-at-smaller
loop-at-smaller g c = omega (arith, c.line_end-end.ensures.after, c.loop-at-test.true)

pub loop-at-preserved : goal.loop-at-preserved
loop-at-preserved g c = let room : length c.tell-told.new.room ≡ length c.loop-at.room = search rules in
    let work : length c.tell-told.new.work ≡ length c.loop-at.work = search rules in
    let out : length c.tell-told.new.out ≡ length c.loop-at.out = search rules in (
      going_next c.args.text.now c.loop-at.invariant.0 c.line_end-end.ensures c.tell-told.ensures.answers c.counted-tally.ensures,
      record { files = room ∙ c.loop-at.invariant.1.files; whole = work ∙ c.loop-at.invariant.1.whole; block = out ∙ c.loop-at.invariant.1.block; within = c.tell-told.ensures.shows.within },
    )

pub shape_of-room : goal.shape_of-room
shape_of-room g c = c.loop-at.invariant.1.files

pub shape_of-work : goal.shape_of-work
shape_of-work g c = c.loop-at.invariant.1.whole

pub shape_of-out : goal.shape_of-out
shape_of-out g c = c.loop-at.invariant.1.block

pub returns : goal.returns
returns g c = (all-reported c.args.text.now c.loop-at.invariant.0 (λ h. omega arith), c.loop-at.invariant.1.within)
