-- `index_entry::build` meets its contract. Assumes nothing.
use Rattle.index_entry.proofs.Promised.{root-there, written, enough, scanned, ready, built}
use mathlib.Core.Path.{◌∙◌}
use Rattle.index_entry.proofs.build.Goals as goal

pub scan-count-requires : goal.scan-count-requires
scan-count-requires c = (written c.requires.0, enough c.requires.0 c.args.work.now c.requires.1)

pub fill-requires : goal.fill-requires
fill-requires c = scanned c.requires.0 c.args.work.now c.requires.1 c.scan-count.ensures

pub overflow_sub-count : goal.overflow_sub-count
overflow_sub-count c = (root-there c.requires.0 c.args.work.now c.requires.1 c.scan-count.ensures).0

pub give_root-requires : goal.give_root-requires
give_root-requires c = (
  c.fill.ensures.room ∙ (scanned c.requires.0 c.args.work.now c.requires.1 c.scan-count.ensures).room,
  (root-there c.requires.0 c.args.work.now c.requires.1 c.scan-count.ensures).1,
)

pub give_all-requires : goal.give_all-requires
give_all-requires c = ready c.requires.0 c.args.work.now c.requires.1 c.scan-count.ensures c.fill.ensures c.give_root.ensures

pub returns : goal.returns
returns c = built c.requires.0 c.args.work.now c.requires.1 c.scan-count.ensures c.fill.ensures c.give_root.ensures c.give_all.ensures
