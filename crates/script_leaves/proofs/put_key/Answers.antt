-- `script_leaves::put_key` meets its contract: a key is an entry of the table of keys. Assumes nothing.
use mathlib.Core.Path.{ap}
use Prim.Native.Nat.{ℕ}
use Rattle.script_bytes.specs.Tables.{entry}
use Rattle.script_bytes.specs.Encoding.{push_bytes}
use Rattle.script_leaves.proofs.Laws.{laid_as}
use Rattle.script_leaves.proofs.Pushes.{key-ready}
use Rattle.script_leaves.proofs.put_key.Goals as goal

pub put_entry-requires : goal.put_entry-requires
put_entry-requires c = key-ready c.args.context _ c.args.keys.now c.args.i c.key_size.ensures c.requires

pub returns : goal.returns
returns c = laid_as (ap (λ (s : ℕ). push_bytes (entry s c.args.keys.now c.args.i)) c.key_size.ensures) c.put_entry.ensures
