-- `script_entry::all_entries` meets its contract: the entries of the records passed are looked for. Assumes nothing.
use mathlib.Core.Bool.{true}
use mathlib.Core.Path.{◌≡◌}
use Rattle.script_leaves.specs.Lent.{lent}
use Rattle.script_bytes.specs.Entries.{entries_below}
use Rattle.script_entry.proofs.all_entries.Given as goal

abbrev pub invariant-loop-i : goal.invariant-loop-i
invariant-loop-i l = entries_below l.context (lent l.tables) l.tree l.i ≡ true
