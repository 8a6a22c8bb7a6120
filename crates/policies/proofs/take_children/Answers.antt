-- `policies::take_children` meets its contract: what is still to come of the taking gives what the taking of all gives. Assumes nothing.
use mathlib.Core.Path.{sym, ◌∙◌}
use Rattle.policies.proofs.Slots.{took-starts, took-later, took-twice, took_more, took-all}
use Rattle.policies.proofs.take_children.Goals as goal

pub loop-j-init : goal.loop-j-init
loop-j-init c = took-starts c.args.i c.args.n c.args.pol.now

pub shape_of-pol-then-i-c : goal.shape_of-pol-then-i-c
shape_of-pol-then-i-c c = c.loop-j.invariant.marked.long

pub returns-then-i-c : goal.returns-then-i-c
returns-then-i-c c = took-later c.args.i c.args.n c.args.pol.now c.loop-j.pol c.loop-j.j c.requires.0 c.requires.1.0 c.requires.1.1 c.loop-j.invariant
    c.loop-j-test.true c.word-c.ensures c.if-i-c.true

pub shape_of-pol-then-word-ne0 : goal.shape_of-pol-then-word-ne0
shape_of-pol-then-word-ne0 c = c.loop-j.invariant.marked.long

pub returns-then-word-ne0 : goal.returns-then-word-ne0
returns-then-word-ne0 c = took-twice c.args.i c.args.n c.args.pol.now c.loop-j.pol c.loop-j.j c.requires.0 c.requires.1.0 c.requires.1.1 c.loop-j.invariant
    c.loop-j-test.true c.word-c.ensures c.if-i-c.false (λ z. c.if-word-ne0.true (c.word.ensures ∙ z))

pub loop-j-preserved : goal.loop-j-preserved
loop-j-preserved c = took_more c.args.i c.args.n c.args.pol.now c.loop-j.pol c.loop-j.j c.requires.0 c.requires.1.0 c.requires.1.1 c.loop-j.invariant
    c.loop-j-test.true c.word-c.ensures c.if-i-c.false (sym c.word.ensures ∙ c.if-word-ne0.false)

pub shape_of-pol : goal.shape_of-pol
shape_of-pol c = c.loop-j.invariant.marked.long

pub returns : goal.returns
returns c = took-all c.args.i c.args.n c.args.pol.now c.loop-j.pol c.loop-j.j c.requires.0 c.requires.1.0 c.requires.1.1 c.loop-j.invariant
    c.loop-j-test.false
