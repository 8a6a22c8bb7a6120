-- `trees::leaf_type` meets its contract: a kind at a time, the hashes last. Assumes nothing.
use Rattle.trees.specs.Tree.{find}
use Rattle.records.proofs.Arities.{past}
use Rattle.trees.proofs.ByKind.{hash-rule}
use Rattle.trees.proofs.leaf_type.Goals as goal

pub returns-in-32 : goal.returns-in-32
unfolding find
returns-in-32 c = λ context k. simp (c.in-32.is, c.of_false.ensures)

pub returns-in-33 : goal.returns-in-33
unfolding find
returns-in-33 c = λ context k. simp (c.in-33.is, c.of_true.ensures)

pub returns-in-34 : goal.returns-in-34
unfolding find
returns-in-34 c = λ context k. simp (c.in-34.is, c.pk_k.ensures)

pub returns-in-35 : goal.returns-in-35
unfolding find
returns-in-35 c = λ context k. simp (c.in-35.is, c.pk_h.ensures)

pub returns-in-36 : goal.returns-in-36
unfolding find
returns-in-36 c = λ context k. simp (c.in-36.is, c.time.ensures)

pub returns-in-37 : goal.returns-in-37
unfolding find
returns-in-37 c = λ context k. simp (c.in-37.is, c.time-in-37.ensures)

pub returns-in_default : goal.returns-in_default
returns-in_default c = let l = past (past (past (past (past (past c.requires.0 c.in_default.in_default-own.rest.0.0.0.0.0.1) c.in_default.in_default-own.rest.0.0.0.0.1) c.in_default.in_default-own.rest.0.0.0.1) c.in_default.in_default-own.rest.0.0.1)
    c.in_default.in_default-own.rest.0.1) c.in_default.in_default-own.rest.1 in
    λ context k. rw c.hash.ensures (hash-rule c.args.kind l c.requires.1 context k)
