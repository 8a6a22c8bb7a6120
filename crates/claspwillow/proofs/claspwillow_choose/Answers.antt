-- `claspwillow::claspwillow_choose` meets its contract: each part is told by the answer. Assumes nothing.
use Rattle.claspwillow.proofs.Choosing.{chosen-promised}
use Rattle.claspwillow.proofs.claspwillow_choose.Goals as goal

pub returns : goal.returns
returns c = chosen-promised c.args.context c.args.policy.now c.args.work.now c.choose-r.ensures c.tell.ensures.number c.tell.ensures.bytes
    c.tell.ensures.cost c.tell.ensures.never c.tell.ensures.nodes
