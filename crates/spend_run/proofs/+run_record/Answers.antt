-- `spend_run::run_record` meets its contract. What falls is the record's number: children come before their parents. Assumes nothing.
use mathlib.Core.List.{[]}
use mathlib.Core.Path.{sym, ◌∙◌}
use native.Mathlib.Omega.{arith}
use Rattle.spend_log.specs.Places.{tables_in}
use Rattle.spend_stack.proofs.Memory.{keeps-all, keeps_on, keeps-long, main-keeps}
use Rattle.spend_run.proofs.Recursion.{below, not-played, none-gone, one-gone, gone-back, runs-below, few-children, child-less}
use Rattle.spend_run.proofs.Recursion.{leaf-played, all-played}
use Rattle.spend_run.proofs.+run_record.Goals as goal

pub returns-then-not-is_going-clause-played : goal.returns-then-not-is_going-clause-played
returns-then-not-is_going-clause-played t c = not-played (sym c.is_going.ensures ∙ c.if-not-is_going.true) c.requires.1

pub returns-then-n-eq0-clause-played : goal.returns-then-n-eq0-clause-played
returns-then-n-eq0-clause-played t c = leaf-played c.requires.0 c.node_at-node.ensures c.if-n-eq0.true c.run_leaf_at.ensures.moves

pub loop-place-init : goal.loop-place-init
loop-place-init t c =
    (none-gone (c.start-first.ensures.turns (tables_in c.args.log.now c.args.head)).fits, keeps-all c.start-first.new.work)

pub offset_bounds-children-place : goal.offset_bounds-children-place
offset_bounds-children-place t c = omega (arith, few-children c.requires.0 c.node_at-node.ensures, c.loop-place-test.true)

pub bounds-children-place : goal.bounds-children-place
bounds-children-place t c = omega (arith, few-children c.requires.0 c.node_at-node.ensures, c.loop-place-test.true)

pub run_record-r-requires : goal.run_record-r-requires
run_record-r-requires t c =
    let kept = keeps_on c.start-first.ensures.keeps c.loop-place.invariant.1 in
    let less = child-less c.requires.0 c.node_at-node.ensures c.loop-place.place c.loop-place-test.true in
    (below less c.decreases, (runs-below c.requires.0 _ less kept.starts, c.loop-place.invariant.0.fits, keeps-long c.requires.2 kept))

pub loop-place-preserved : goal.loop-place-preserved
loop-place-preserved t c =
    let kept = keeps_on (keeps_on c.start-first.ensures.keeps c.loop-place.invariant.1) c.run_record-r.ensures.keeps in
    let long = keeps-long c.requires.2 kept in
    let same = (c.next-turn.ensures.turns (tables_in c.args.log.now c.args.head) []).same in (
      gone-back c.run_record-r.new.work long c.next-turn.new.main same
          (one-gone c.loop-place.invariant.0 c.loop-place-test.true c.run_record-r.ensures.played c.next-turn.ensures.turns),
      keeps_on c.loop-place.invariant.1 (keeps_on c.run_record-r.ensures.keeps (main-keeps c.run_record-r.new.work long c.next-turn.new.main same)),
    )

pub returns-clause-played : goal.returns-clause-played
returns-clause-played t c =
    all-played c.requires.0 c.node_at-node.ensures c.if-n-eq0.false c.start-first.ensures.turns c.loop-place.invariant.0 c.loop-place-test.false
    c.finish.ensures.moves

pub returns-clause-keeps : goal.returns-clause-keeps
returns-clause-keeps t c = keeps_on (keeps_on c.start-first.ensures.keeps c.loop-place.invariant.1) c.finish.ensures.keeps
