-- `claspwillow::compile_in` meets its contract: work memory has its length or not. Assumes nothing.
use mathlib.Core.Path.{refl}
use Rattle.compile.specs.Answers.{refuses}
use Rattle.claspwillow.proofs.Outcomes.{retold, fits, bad-work}
use Rattle.claspwillow.proofs.compile_in.Goals as goal

pub returns-then-work-ne-WORK_WORDS : goal.returns-then-work-ne-WORK_WORDS
returns-then-work-ne-WORK_WORDS c =
    refuses (bad-work c.args.policy.now c.args.out.now c.args.work.now c.args.context c.if-work-ne-WORK_WORDS.true) refl

pub returns : goal.returns
returns c = retold (fits c.args.policy.now c.args.out.now c.args.work.now c.args.context c.if-work-ne-WORK_WORDS.false) c.compile.ensures.compiles
