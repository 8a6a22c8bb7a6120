-- `witness_tally::counted` meets its contract: by the outcome; no sum wraps, since each outcome adds at most 2^31 to it. Assumes nothing.
use native.Mathlib.Omega.{arith}
use Rattle.witness_tally.proofs.Tallies.{small_bytes}
use Rattle.witness_tally.proofs.counted.Goals as goal

pub overflow_add-result-in-Bytes : goal.overflow_add-result-in-Bytes
overflow_add-result-in-Bytes c = let few = small_bytes c.in-Bytes.is c.requires.2 in
    omega (arith, c.requires.0.smallest, few.0, few.1)

pub overflow_add-result-in-Bytes-2 : goal.overflow_add-result-in-Bytes-2
overflow_add-result-in-Bytes-2 c = let few = small_bytes c.in-Bytes.is c.requires.2 in
    omega (arith, c.requires.0.largest, few.0, few.1)

pub returns-in-Bytes : goal.returns-in-Bytes
returns-in-Bytes c = simp c.in-Bytes.is

pub returns-in-NoWay : goal.returns-in-NoWay
returns-in-NoWay c = simp c.in-NoWay.is

pub returns-in-Refused : goal.returns-in-Refused
returns-in-Refused c = simp c.in-Refused.is
