-- `cache::entry` meets its contract: an entry is sixteen bits of its word. Assumes nothing.
use mathlib.Core.Path.{sym}
use native.Mathlib.Omega.{arith}
use Rattle.cache.proofs.Tables.{entries-few, entry_of}
use Rattle.cache.proofs.entry.Goals as goal

pub offset_bounds-work-at : goal.offset_bounds-work-at
offset_bounds-work-at c = omega (arith, entries-few c.args.work.now c.args.s)

pub bounds-work-at : goal.bounds-work-at
bounds-work-at c = omega (arith, entries-few c.args.work.now c.args.s)

pub returns : goal.returns
returns c = sym (entry_of c.args.work.now c.args.s c.args.j c.requires.1.1)
