-- `counterexample::in_both` meets its contract. Assumes nothing.
use Rattle.counterexample.proofs.in_both.Goals as goal

pub add_policy-second-requires : goal.add_policy-second-requires
add_policy-second-requires c = (c.requires.0.0, (c.requires.0.1, c.none_yet-first.ensures.roomy))

pub in_blocks-requires : goal.in_blocks-requires
in_blocks-requires c = (c.requires.0, (c.requires.1.0, (c.requires.1.1, c.add_tree-vars.ensures.roomy)))

pub returns-in_err-example : goal.returns-in_err-example
returns-in_err-example c = rw c.from_residual.ensures (λ f r. tt)
