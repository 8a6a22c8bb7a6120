-- `oracle_replay::replay` meets its contract: the counts grow line by line. Assumes nothing.
use Rattle.std.proofs.Common.{rules}
use mathlib.Core.Path.{◌≡◌, ◌∙◌}
use lib.ListN.{length}
use Rattle.oracle_verdicts.proofs.Tallies.{part-short, kept-first, going-first, counts-small, counts_all, going_next}
use native.Mathlib.Omega.{arith}
use Rattle.oracle_replay.proofs.replay.Goals as goal

pub loop-t-init : goal.loop-t-init
loop-t-init g c = (
  going-first c.args.text.now (length c.args.out.now),
  kept-first c.args.policy.now c.args.stored.now c.args.out.now
      c.args.work.now,
)

pub end_of-end-requires : goal.end_of-end-requires
end_of-end-requires g c = c.loop-t.invariant.0.within

pub slice_bounds-judge_line-count : goal.slice_bounds-judge_line-count
slice_bounds-judge_line-count g c = c.end_of-end.ensures.after

pub judge_line-v-requires : goal.judge_line-v-requires
judge_line-v-requires g c = let short = part-short c.args.text.now c.loop-t.at c.end_of-end.result in
    (omega (arith, short, c.requires.policies, c.loop-t.invariant.1.policies), omega (arith, short, c.requires.outputs, c.loop-t.invariant.1.outputs), c.loop-t.invariant.1.whole ∙ c.requires.whole)

pub counted-t-requires : goal.counted-t-requires
counted-t-requires g c = counts-small c.args.text.now (length c.args.out.now) c.loop-t.t c.loop-t.at c.loop-t.n c.loop-t.invariant.0 c.requires.few

pub returns-then-end-text : goal.returns-then-end-text
returns-then-end-text g c = counts_all c.args.text.now (length c.args.out.now) c.loop-t.t c.loop-t.at c.loop-t.n c.loop-t.invariant.0 c.end_of-end.result
    c.end_of-end.ensures (length c.loop-t.out) c.loop-t.invariant.1.room c.judge_line-v.result c.judge_line-v.ensures.verdict c.counted-t.result
    c.counted-t.ensures c.if-end-text.true

pub overflow_add-at : goal.overflow_add-at
overflow_add-at g c = omega (arith, c.end_of-end.ensures.within, c.requires.few)

pub overflow_add-n : goal.overflow_add-n
overflow_add-n g c = omega (arith, c.loop-t.invariant.0.lines, c.loop-t.invariant.0.within, c.requires.few)

pub loop-t-smaller : goal.loop-t-smaller
loop-t-smaller g c = omega (arith, c.end_of-end.ensures.after, c.end_of-end.ensures.within, c.if-end-text.false)

pub loop-t-preserved : goal.loop-t-preserved
loop-t-preserved g c = let policy : length c.judge_line-v.new.policy ≡ length c.loop-t.policy = search rules in
    let stored : length c.judge_line-v.new.stored ≡ length c.loop-t.stored = search rules in
    let out : length c.judge_line-v.new.out ≡ length c.loop-t.out = search rules in
    let work : length c.judge_line-v.new.work ≡ length c.loop-t.work = search rules in (
      going_next c.args.text.now (length c.args.out.now) c.loop-t.t c.loop-t.at c.loop-t.n c.loop-t.invariant.0 c.end_of-end.result
          c.end_of-end.ensures (length c.loop-t.out) c.loop-t.invariant.1.room c.judge_line-v.result c.judge_line-v.ensures.verdict c.counted-t.result
          c.counted-t.ensures c.if-end-text.false,
      record
          { policies = policy ∙ c.loop-t.invariant.1.policies; outputs = stored ∙ c.loop-t.invariant.1.outputs; room = out ∙ c.loop-t.invariant.1.room; whole = work ∙ c.loop-t.invariant.1.whole },
    )
