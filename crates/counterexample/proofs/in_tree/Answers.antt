-- `counterexample::in_tree` meets its contract. Assumes nothing.
use mathlib.Core.Path.{◌∙◌}
use lib.ListN.{take}
use Rattle.claspwillow.proofs.CheckLaws.{same-room}
use Rattle.accept_entry.proofs.Judging.{first-long, joined-long, tree-written}
use Rattle.counterexample.proofs.in_tree.Goals as goal

pub in_both-requires : goal.in_both-requires
in_both-requires c =
    let room = first-long c.args.work.now c.requires.1 in
    let long = joined-long c.args.work.now c.check.new.work c.requires.1 (same-room (take 4096 c.args.work.now) c.check.ensures.work_after ∙ room) in
    (c.requires.0, (tree-written c.args.context c.args.tree.now (take 4096 c.args.work.now) room c.in-Ok.ensures.result_value, long))
