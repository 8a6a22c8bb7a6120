-- `policies::head_from` meets its contract, kind by kind. Assumes nothing.
use mathlib.Core.Path.{◌∙◌}
use native.Mathlib.Omega.{arith}
use Rattle.policies.proofs.Forms.{trivial-head, number-head, and-head, or-head, thresh-head, other-head}
use Rattle.policies.proofs.head_from.Goals as goal
use Rattle.policies.proofs.head_from.Goals.{in_default-via-then-kind-lt2, in_default-via-else-kind-lt2+else-kind-lt10}

pub returns-in-2 : goal.returns-in-2
returns-in-2 c = λ cs l. c.leaf.ensures ∙ trivial-head c.args.number c.args.k c.args.n c.args.left_weight c.args.right_weight c.args.kind (omega arith) cs l

pub returns-in-10 : goal.returns-in-10
returns-in-10 c = λ cs l. c.pair.ensures ∙ and-head c.args.number c.args.k c.args.n c.args.left_weight c.args.right_weight c.args.kind (omega arith) cs l

pub returns-in-11 : goal.returns-in-11
returns-in-11 c = λ cs l. c.pair-in-11.ensures ∙ or-head c.args.number c.args.k c.args.n c.args.left_weight c.args.right_weight c.args.kind (omega arith) cs l

pub returns-in-12 : goal.returns-in-12
returns-in-12 c = thresh-head c.args.number c.args.k c.args.n c.args.left_weight c.args.right_weight c.args.kind (omega arith)

pub returns-in-3-to-9 : goal.returns-in-3-to-9
returns-in-3-to-9 c = λ cs l. c.leaf-in-3-to-9.ensures ∙ number-head c.args.number c.args.k c.args.n c.args.left_weight c.args.right_weight c.args.kind (omega arith) (omega arith) cs l

pub returns-in_default : goal.returns-in_default
returns-in_default c = λ cs l. c.leaf-in_default.ensures
    ∙ other-head c.args.number c.args.k c.args.n c.args.left_weight c.args.right_weight c.args.kind
    (λ low high. elim c.in_default.branch [ in_default-via-then-kind-lt2 w ↦ omega arith | in_default-via-else-kind-lt2+else-kind-lt10 w ↦ omega arith ]) cs l
