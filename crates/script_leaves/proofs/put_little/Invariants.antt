-- `script_leaves::put_little` meets its contract: the bytes still to come are laid after those before them. Assumes nothing.
use Prim.Native.Nat.{◌-◌, ◌≤◌}
use Rattle.words.specs.Bytes as Little
use Rattle.script_leaves.proofs.Laws.{Coming}
use Rattle.script_leaves.proofs.put_little.Given as goal

abbrev pub invariant-loop-i : goal.invariant-loop-i
invariant-loop-i l = Coming l.initial.out l.at (Little.bytes_of l.width l.n) l.out l.to (Little.bytes_of (l.width - l.i) l.rest) × (l.i ≤ l.width)
