-- `claspwillow::choose_through` meets its contract: what compile laid in the output is held by work memory. Assumes nothing.
use Rattle.std.proofs.Common.{rules}
use mathlib.Core.Path.{◌≡◌, ◌∙◌}
use lib.ListN.{length}
use Rattle.claspwillow.proofs.Choosing.{choice-ready, choice-held, choice-refused}
use Rattle.claspwillow.proofs.choose_through.Goals as goal

pub returns-in-Ok : goal.returns-in-Ok
returns-in-Ok c = choice-held c.args.context c.args.policy.now c.args.work.now c.args.out.now c.requires.0 c.requires.1 c.in-Ok.ensures c.hold.ensures

pub hold-requires-clause-work_len : goal.hold-requires-clause-work_len
hold-requires-clause-work_len c =
    let same : length c.compile_numbered.new.out ≡ length c.args.out.now = search rules in
    let worked : length c.compile_numbered.new.work ≡ length c.args.work.now = search rules in
    let ready = choice-ready c.args.context c.args.policy.now c.args.work.now c.args.out.now c.requires.0 c.requires.1 c.in-Ok.ensures in
    (worked ∙ ready.0, (same ∙ c.requires.0, ready.1 same))

pub hold-requires-clause-bytes_value : goal.hold-requires-clause-bytes_value
hold-requires-clause-bytes_value c =
    let ready = choice-ready c.args.context c.args.policy.now c.args.work.now c.args.out.now c.requires.0 c.requires.1 c.in-Ok.ensures in
    ready.2

pub returns-in-Err : goal.returns-in-Err
returns-in-Err c =
    let worked : length c.compile_numbered.new.work ≡ length c.args.work.now = search rules in
    choice-refused c.args.context c.args.policy.now c.args.work.now c.args.out.now c.requires.0 c.requires.1 c.in-Err.ensures
    c.compile_numbered.new.work c.clear.ensures worked
