-- `counterexample::example_of` meets its contract. Assumes nothing.
use mathlib.Core.Path.{refl}
use Rattle.accept_entry.proofs.Judging.{policy-good}
use Rattle.counterexample.proofs.Showing.{shown_of}
use Rattle.counterexample.proofs.example_of.Goals as goal

pub in_tree-requires : goal.in_tree-requires
in_tree-requires c = (policy-good c.args.policy.now _ _ refl c.in-Ok.ensures refl, c.if-work-ne-WORK_WORDS.false)

pub returns-in-Ok : goal.returns-in-Ok
returns-in-Ok c = λ p e f r. shown_of c.args.policy.now _ _ refl c.in-Ok.ensures p e f _ (c.in_tree.ensures f r)
