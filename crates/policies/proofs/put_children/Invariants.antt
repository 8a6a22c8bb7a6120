-- `policies::put_children` meets its contract: after j turns the first j children are stored. Assumes nothing.
use mathlib.Core.Path.{◌≡◌}
use lib.ListN.{take}
use lib.Seq.{sets}
use Rattle.policies.proofs.put_children.Given as goal

abbrev pub invariant-loop-j : goal.invariant-loop-j
invariant-loop-j l = l.pol ≡ sets l.initial.pol l.at (take l.j l.fn.children)
