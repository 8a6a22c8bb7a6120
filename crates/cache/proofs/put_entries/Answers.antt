-- `cache::put_entries` meets its contract: after k turns the first 4 k entries are written. Assumes nothing.
use Rattle.std.proofs.Common.{rules}
use native.Mathlib.Omega.{arith}
use Rattle.cache.proofs.put_entries.Goals as goal

pub loop-k-init : goal.loop-k-init
loop-k-init c = λ j h. absurd (omega arith)

pub returns : goal.returns
returns c = record { long = search rules; holds = λ j h. c.loop-k.invariant j (omega arith) }
