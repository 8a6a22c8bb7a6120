-- `script_entry::has_keys` meets its contract: the keys passed are there, and the others are still to come. Assumes nothing.
use Prim.Native.Nat.{ℕ}
use mathlib.Core.Bool.{true}
use mathlib.Core.Path.{sym, ap, ◌∙◌}
use Rattle.records.specs.Payloads.{first_keys}
use Rattle.script_bytes.specs.ScriptOf.{has_keys}
use Rattle.script_leaves.specs.Laying.{only_keys}
use Rattle.script_entry.proofs.Entries.{keys-begin, keys-more, keys-done}
use Rattle.script_entry.proofs.has_keys.Goals as goal

pub loop-j-init : goal.loop-j-init
loop-j-init c = keys-begin c.args.context (only_keys c.args.keys.now) c.args.bytes.now c.count_of-count.result

pub returns-then-not-has_key : goal.returns-then-not-has_key
returns-then-not-has_key c =
    keys-more c.args.context (only_keys c.args.keys.now) c.args.bytes.now c.count_of-count.result c.loop-j.j _ true c.loop-j-test.true
    c.key_at-i.ensures c.has_key.ensures (sym c.if-not-has_key.true) c.loop-j.invariant
    ∙ ap (λ (n : ℕ). has_keys c.args.context (only_keys c.args.keys.now) (first_keys c.args.bytes.now n)) c.count_of-count.ensures

pub loop-j-preserved : goal.loop-j-preserved
loop-j-preserved c =
    keys-more c.args.context (only_keys c.args.keys.now) c.args.bytes.now c.count_of-count.result c.loop-j.j _ true c.loop-j-test.true
    c.key_at-i.ensures c.has_key.ensures (sym c.if-not-has_key.false) c.loop-j.invariant

pub returns : goal.returns
returns c =
    keys-done c.args.context (only_keys c.args.keys.now) c.args.bytes.now c.count_of-count.result c.loop-j.j true c.loop-j-test.false c.loop-j.invariant
    ∙ ap (λ (n : ℕ). has_keys c.args.context (only_keys c.args.keys.now) (first_keys c.args.bytes.now n)) c.count_of-count.ensures
