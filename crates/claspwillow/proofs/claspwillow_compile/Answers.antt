-- `claspwillow::claspwillow_compile` meets its contract: each part is told by the answer, and the memory is cleared. Assumes nothing.
use Rattle.std.proofs.Common.{rules}
use mathlib.Core.Path.{◌≡◌}
use lib.ListN.{length}
use Rattle.claspwillow.proofs.Outcomes.{promised}
use Rattle.claspwillow.proofs.claspwillow_compile.Goals as goal

pub returns : goal.returns
returns c =
    let same : length c.compile_numbered-r.new.work ≡ length c.args.work.now = search rules in
    promised c.args.context c.args.policy.now c.args.out.now c.args.work.now c.compile_numbered-r.new.work c.compile_numbered-r.ensures
    c.tell.ensures.number c.tell.ensures.bytes c.tell.ensures.cost c.tell.ensures.never c.tell.ensures.nodes same c.clear.ensures
