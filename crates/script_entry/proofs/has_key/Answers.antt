-- `script_entry::has_key` meets its contract: context by context. Assumes nothing.
use mathlib.Core.Path.{sym, ap, ◌∙◌}
use Rattle.contexts.specs.declared.Context.{Context}
use Rattle.script_bytes.specs.Tables.{key_size, whole}
use Rattle.script_entry.proofs.has_key.Goals as goal

pub returns-in-Segwitv0 : goal.returns-in-Segwitv0
returns-in-Segwitv0 c = c.has_entry.ensures ∙ ap (λ (x : Context). whole (key_size x) c.args.keys.now c.args.i) (sym c.in-Segwitv0.is)

pub returns-in-Tap : goal.returns-in-Tap
returns-in-Tap c = c.has_entry-in-Tap.ensures ∙ ap (λ (x : Context). whole (key_size x) c.args.keys.now c.args.i) (sym c.in-Tap.is)
