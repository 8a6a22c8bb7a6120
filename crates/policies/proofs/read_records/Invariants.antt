-- `policies::read_records` meets its contract: what is still to come of the reading gives what the reading of all gives. Assumes nothing.
use Prim.Native.Nat.{◌-◌}
use lib.ListN.{length}
use Rattle.policies.proofs.Records.{ReadInv}
use Rattle.policies.proofs.read_records.Given as goal

abbrev pub invariant-loop-at : goal.invariant-loop-at
invariant-loop-at l = ReadInv l.bytes l.pol l.at l.i

abbrev pub decreases-loop-at : goal.decreases-loop-at
decreases-loop-at l = length l.bytes - l.at
