-- `oracle_verdicts::judge_case` meets its contract: what the port gives is the definition's, and is compared. Assumes nothing.
use Rattle.std.proofs.Common.{rules}
use mathlib.Core.Path.{◌≡◌}
use lib.ListN.{length, take}
use Rattle.oracle_verdicts.proofs.Agreement.{bytes_fit, judges-agrees, judges-differs}
use Rattle.oracle_verdicts.proofs.judge_case.Goals as goal

pub slice_bounds-agrees-end : goal.slice_bounds-agrees-end
slice_bounds-agrees-end c = let long : length c.claspwillow_compile-number.new.out ≡ length c.args.out.now = search rules in
    bytes_fit c.args.said.context (take c.args.said.policy c.args.policy.now) c.args.out.now c.args.work.now
    c.claspwillow_compile-number.ensures long

pub returns-then-agrees : goal.returns-then-agrees
returns-then-agrees c = judges-agrees c.args.said.context (take c.args.said.policy c.args.policy.now) c.args.out.now c.args.work.now
    c.claspwillow_compile-number.ensures c.requires.2 c.args.said.number (take c.args.said.output c.args.stored.now)
    c.args.said.cost c.args.said.never c.args.said.nodes c.agrees.ensures c.if-agrees.true

pub returns : goal.returns
returns c = judges-differs c.args.said.context (take c.args.said.policy c.args.policy.now) c.args.out.now c.args.work.now
    c.claspwillow_compile-number.ensures c.requires.2 c.args.said.number (take c.args.said.output c.args.stored.now)
    c.args.said.cost c.args.said.never c.args.said.nodes c.agrees.ensures c.if-agrees.false
