-- `cache::find` meets its contract: what is found among the first n tables is what is found among all. Assumes nothing.
use mathlib.Core.Path.{◌≡◌, refl, sym, ◌∙◌}
use native.Mathlib.Omega.{arith}
use Rattle.cache.proofs.Tables.{here-below, older-below, find_none}
use Rattle.cache.proofs.find.Goals as goal

pub loop-n-init : goal.loop-n-init
loop-n-init c = (c.requires.few, refl)

pub same_key-requires : goal.same_key-requires
same_key-requires c = (c.requires, (omega (arith, c.loop-n.invariant.0), c.key_start-start.ensures))

pub returns-then-same_key : goal.returns-then-same_key
returns-then-same_key c = here-below c.args.work.now c.args.number c.args.sat c.args.dissat c.loop-n.n c.loop-n-test.true
    c.same_key.ensures c.if-same_key.true
    ∙ c.loop-n.invariant.1

pub loop-n-preserved : goal.loop-n-preserved
loop-n-preserved c = (
  omega (arith, c.loop-n.invariant.0),
  older-below c.args.work.now c.args.number c.args.sat c.args.dissat c.loop-n.n c.loop-n-test.true
      c.same_key.ensures c.if-same_key.false
      ∙ c.loop-n.invariant.1,
)

pub returns : goal.returns
returns c = let none_left : c.loop-n.n ≡ 0 = omega arith in
    sym (find_none c.args.work.now c.args.number c.args.sat c.args.dissat) ∙ rw none_left at c.loop-n.invariant.1
