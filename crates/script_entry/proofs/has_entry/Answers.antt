-- `script_entry::has_entry` meets its contract: no product is made that could be too large. Assumes nothing.
use lib.ListN.{length}
use Rattle.script_entry.proofs.Entries.{entry-fits}
use Rattle.script_entry.proofs.has_entry.Goals as goal

pub returns : goal.returns
returns c = entry-fits c.args.i c.args.size (length c.args.table.now) c.requires
