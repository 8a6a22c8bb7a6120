-- `script_leaves::put_sig_sum` meets its contract: the keys still to come are laid after those before them. Assumes nothing.
use mathlib.Core.Bool.{true}
use mathlib.Core.Path.{◌≡◌}
use Prim.Native.Nat.{◌≤◌}
use Rattle.records.specs.Payloads.{first_keys, keys_from}
use Rattle.script_bytes.specs.ScriptOf.{has_keys}
use Rattle.script_bytes.specs.Layout.{sig_sum_bytes}
use Rattle.script_leaves.specs.Laying.{only_keys}
use Rattle.script_leaves.proofs.Laws.{Coming}
use Rattle.script_leaves.proofs.Keys.{sigs_bytes}
use Rattle.script_leaves.proofs.put_sig_sum.Given as goal

abbrev pub invariant-loop-j : goal.invariant-loop-j
invariant-loop-j l = Coming l.initial.out l.at (sig_sum_bytes l.context (only_keys l.keys) (first_keys l.bytes l.count)) l.out l.to
    (sigs_bytes l.context (only_keys l.keys) l.opcode (keys_from l.bytes l.count l.j))
    × (has_keys l.context (only_keys l.keys) (keys_from l.bytes l.count l.j) ≡ true)
    × (l.j ≤ l.count)
