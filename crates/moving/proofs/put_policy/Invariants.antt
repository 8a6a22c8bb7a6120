-- `moving::put_policy` meets its contract: what is still to come is written after what was written. Assumes nothing.
use Rattle.moving.proofs.Records.{WriteInv}
use Rattle.moving.proofs.put_policy.Given as goal

abbrev pub invariant-loop-i : goal.invariant-loop-i
invariant-loop-i l = WriteInv l.form l.policy l.initial.out l.out l.from l.to l.i
