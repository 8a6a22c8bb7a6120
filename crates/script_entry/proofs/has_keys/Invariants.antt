-- `script_entry::has_keys` meets its contract: the keys passed are there, and the others are still to come. Assumes nothing.
use mathlib.Core.Bool.{true}
use Rattle.script_leaves.specs.Laying.{only_keys}
use Rattle.script_entry.proofs.Entries.{KeysToCome}
use Rattle.script_entry.proofs.has_keys.Given as goal

abbrev pub invariant-loop-j : goal.invariant-loop-j
invariant-loop-j l = KeysToCome l.context (only_keys l.keys) l.bytes l.count l.j true
