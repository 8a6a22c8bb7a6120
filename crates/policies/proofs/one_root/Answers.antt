-- `policies::one_root` meets its contract: what is still to come of the slots has the root that all have. Assumes nothing.
use mathlib.Core.Path.{sym, ◌∙◌}
use Rattle.policies.proofs.Roots.{root-starts, root-unused, root-more, root-last}
use Rattle.policies.proofs.one_root.Goals as goal

pub loop-i-init : goal.loop-i-init
loop-i-init c = root-starts c.args.pol.now c.args.last

pub returns-then-word-eq0 : goal.returns-then-word-eq0
returns-then-word-eq0 c = root-unused c.args.pol.now c.args.last c.loop-i.i c.loop-i.invariant c.loop-i-test.true (sym c.word.ensures ∙ c.if-word-eq0.true)

pub loop-i-preserved : goal.loop-i-preserved
loop-i-preserved c = root-more c.args.pol.now c.args.last c.loop-i.i c.loop-i.invariant c.loop-i-test.true (λ z. c.if-word-eq0.false (c.word.ensures ∙ z))

pub returns : goal.returns
returns c = root-last c.args.pol.now c.args.last c.loop-i.i c.loop-i.invariant c.loop-i-test.false c.word-2.ensures
