-- `script_entry::lay_record`: what falls is the record's number, since children come before their parents.
use Prim.Native.Nat.{◌≤◌}
use lib.ListN.{get_or}
use Rattle.script_leaves.specs.Lent.{lent}
use Rattle.walk.specs.TreeRecords.{fragment_at}
use Rattle.script_leaves.specs.Laying.{Lays}
use Rattle.script_entry.specs.Pieces.{up_to}
use Rattle.script_entry.proofs.+lay_record.Given as goal

abbrev pub decreases-lay_record : goal.decreases-lay_record
decreases-lay_record l = l.i

abbrev pub invariant-loop-j : goal.invariant-loop-j
invariant-loop-j l =
    Lays l.initial.out l.out l.initial.to
    (up_to l.context (lent l.tables) l.kind l.verified (λ x. fragment_at l.tree (get_or l.children x 0)) l.j) l.to
    × (l.j ≤ l.n)
