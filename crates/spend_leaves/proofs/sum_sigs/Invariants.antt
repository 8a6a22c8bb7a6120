-- `spend_leaves::sum_sigs` meets its contract: the keys still to come are run after those before them. Assumes nothing.
use mathlib.Core.Bool.{true}
use mathlib.Core.Path.{◌≡◌}
use lib.Dec.{eqb}
use Rattle.records.specs.Payloads.{first_keys, keys_from}
use Rattle.script_bytes.specs.ScriptOf.{has_keys}
use Rattle.spend_machine.specs.Playing.{sigs_summed}
use Rattle.spend_log.specs.Places.{tables_in}
use Rattle.spend_leaves.proofs.Multis.{Coming, sigs_from}
use Rattle.spend_leaves.proofs.sum_sigs.Given as goal

abbrev pub invariant-loop-j : goal.invariant-loop-j
invariant-loop-j l = Coming (sigs_summed l.context (tables_in l.log l.head) (first_keys l.bytes l.count))
    (sigs_from l.context (tables_in l.log l.head) l.bytes l.count (eqb l.j 0) (keys_from l.bytes l.count l.j)) l.log l.initial.main l.main l.initial.r l.r
    × (has_keys l.context (tables_in l.log l.head) (keys_from l.bytes l.count l.j) ≡ true)
