-- `spend_leaves::push_keys` meets its contract: the keys still to come are pushed after those before them. Assumes nothing.
use mathlib.Core.Bool.{true}
use mathlib.Core.Path.{◌≡◌}
use Rattle.records.specs.Payloads.{first_keys, keys_from}
use Rattle.script_bytes.specs.ScriptOf.{has_keys}
use Rattle.spend_machine.specs.Playing.{keys_pushed}
use Rattle.spend_log.specs.Places.{tables_in}
use Rattle.spend_leaves.proofs.Multis.{Coming}
use Rattle.spend_leaves.proofs.push_keys.Given as goal

abbrev pub invariant-loop-j : goal.invariant-loop-j
invariant-loop-j l = Coming (keys_pushed l.context (tables_in l.log l.head) (first_keys l.bytes l.count)) (keys_pushed l.context (tables_in l.log l.head)
    (keys_from l.bytes l.count l.j)) l.log l.initial.main l.main l.initial.r l.r
    × (has_keys l.context (tables_in l.log l.head) (keys_from l.bytes l.count l.j) ≡ true)
