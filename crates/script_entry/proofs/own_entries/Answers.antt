-- `script_entry::own_entries` meets its contract: kind by kind. Assumes nothing.
use mathlib.Core.Path.{◌∙◌}
use Rattle.script_leaves.specs.Lent.{lent}
use Rattle.records.specs.Payloads.{keys_in}
use Rattle.script_entry.proofs.Entries.{same_keys}
use Rattle.script_entry.proofs.Entries.{multi-entries, multi-a-entries}
use Rattle.script_entry.proofs.own_entries.Goals as goal

pub returns-in-57 : goal.returns-in-57
returns-in-57 c = let t = lent c.args.tables in
    c.has_keys.ensures ∙ same_keys c.args.context c.args.tables.keys.now c.args.tables.key_hashes.now c.args.tables.hashes32.now c.args.tables.hashes20.now (keys_in
    c.args.bytes.now) ∙ multi-entries c.args.context t c.args.bytes.now c.kind_of.ensures c.in-57.is

pub returns-in-58 : goal.returns-in-58
returns-in-58 c = let t = lent c.args.tables in
    c.has_keys-in-58.ensures ∙ same_keys c.args.context c.args.tables.keys.now c.args.tables.key_hashes.now c.args.tables.hashes32.now c.args.tables.hashes20.now
    (keys_in c.args.bytes.now) ∙ multi-a-entries c.args.context t c.args.bytes.now c.kind_of.ensures c.in-58.is
