-- `claspwillow::compile_numbered` meets its contract: the context by its number. Assumes nothing.
use mathlib.Core.Path.{refl}
use native.Mathlib.Omega.{arith}
use Rattle.compile.specs.Answers.{refuses}
use Rattle.claspwillow.proofs.Outcomes.{retold, segwit, tap, bad-context}
use Rattle.claspwillow.proofs.compile_numbered.Goals as goal

pub returns-in-0 : goal.returns-in-0
returns-in-0 c = retold (segwit c.args.policy.now c.args.out.now c.args.work.now c.args.context c.in-0.is) c.compile_in.ensures

pub returns-in-1 : goal.returns-in-1
returns-in-1 c = retold (tap c.args.policy.now c.args.out.now c.args.work.now c.args.context c.in-1.is) c.compile_in-in-1.ensures

pub returns-in_default : goal.returns-in_default
returns-in_default c = refuses (bad-context c.args.policy.now c.args.out.now c.args.work.now c.args.context (omega arith) (omega arith)) refl
