-- `records::parts_of` meets its contract: each arm is a shape. Assumes nothing.
use Rattle.records.specs.Payloads.{payload_of}
use Rattle.records.proofs.parts_of.Goals as goal

pub returns-in-Nothing : goal.returns-in-Nothing
returns-in-Nothing c = simp (c.nothing.ensures, c.in-Nothing.is)

pub returns-in-Number : goal.returns-in-Number
returns-in-Number c = simp (c.number.ensures, c.in-Number.is)

pub returns-in-Lock : goal.returns-in-Lock
returns-in-Lock c = simp (c.lock.ensures, c.in-Lock.is)

pub returns-in-OneChild : goal.returns-in-OneChild
unfolding payload_of
returns-in-OneChild c = simp (c.some_children.ensures, c.in-OneChild.is)

pub returns-in-TwoChildren : goal.returns-in-TwoChildren
unfolding payload_of
returns-in-TwoChildren c = simp (c.some_children-in-TwoChildren.ensures, c.in-TwoChildren.is)

pub returns-in-ThreeChildren : goal.returns-in-ThreeChildren
unfolding payload_of
returns-in-ThreeChildren c = simp (c.some_children-in-ThreeChildren.ensures, c.in-ThreeChildren.is)

pub returns-in-Weighted : goal.returns-in-Weighted
returns-in-Weighted c = simp (c.weighted.ensures, c.in-Weighted.is)

pub returns-in-Threshold : goal.returns-in-Threshold
returns-in-Threshold c = simp (c.threshold.ensures, c.in-Threshold.is)

pub returns-in-Keys : goal.returns-in-Keys
returns-in-Keys c = simp (c.keys.ensures, c.in-Keys.is)
