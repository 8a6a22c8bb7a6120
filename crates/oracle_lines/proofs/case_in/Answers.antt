-- `oracle_lines::case_in` meets its contract: one word after the other, and the first that says nothing breaks the line. Assumes nothing.
use mathlib.Core.Path.{refl, sym}
use Rattle.oracle_lines.specs.Reads.{tells}
use Rattle.oracle_lines.proofs.Cases.{told-bytes, told-no-bytes, stops-0, stops-1, stops-2, stops-3, stops-4, stops-5, says_all}
use Rattle.oracle_lines.proofs.case_in.Goals as goal

pub returns-in_err-context : goal.returns-in_err-context
returns-in_err-context c = rw c.from_residual.ensures (stops-0 c.args.line.now c.args.ends _ _ (sym c.in_err-context.ensures))

pub returns-in_err-policy : goal.returns-in_err-policy
returns-in_err-policy c = rw c.from_residual-in_err-policy.ensures (stops-1 c.args.line.now c.args.ends _ _ (sym c.in_ok-context.ensures) (told-no-bytes c.in_err-policy.ensures refl))

pub returns-in_err-number : goal.returns-in_err-number
returns-in_err-number c = rw c.from_residual-in_err-number.ensures (stops-2 c.args.line.now c.args.ends _ _ (sym c.in_ok-context.ensures) (told-bytes c.in_ok-policy.ensures refl).0 (sym c.in_err-number.ensures))

pub returns-in_err-output : goal.returns-in_err-output
returns-in_err-output c = rw c.from_residual-in_err-output.ensures (stops-3 c.args.line.now c.args.ends _ _ (sym c.in_ok-context.ensures) (told-bytes c.in_ok-policy.ensures refl).0 (sym c.in_ok-number.ensures) (told-no-bytes c.in_err-output.ensures refl))

pub returns-in_err-cost : goal.returns-in_err-cost
returns-in_err-cost c = rw c.from_residual-in_err-cost.ensures (stops-4 c.args.line.now c.args.ends _ _ (sym c.in_ok-context.ensures) (told-bytes c.in_ok-policy.ensures refl).0 (sym c.in_ok-number.ensures) (told-bytes c.in_ok-output.ensures refl).0 (sym c.in_err-cost.ensures))

pub returns-in_err-nodes : goal.returns-in_err-nodes
returns-in_err-nodes c = rw c.from_residual-in_err-nodes.ensures (stops-5 c.args.line.now c.args.ends _ _ (sym c.in_ok-context.ensures) (told-bytes c.in_ok-policy.ensures refl).0 (sym c.in_ok-number.ensures) (told-bytes c.in_ok-output.ensures refl).0 (sym c.in_ok-cost.ensures) (sym c.in_err-nodes.ensures))

pub returns : goal.returns
returns c = tells
    (says_all c.args.line.now c.args.ends c.args.policy.now c.args.output.now (sym c.in_ok-context.ensures) (told-bytes c.in_ok-policy.ensures refl).0 (sym c.in_ok-number.ensures) (told-bytes c.in_ok-output.ensures refl).0 (sym c.in_ok-cost.ensures) (sym c.in_ok-nodes.ensures))
    (told-bytes c.in_ok-policy.ensures refl).1 (told-bytes c.in_ok-output.ensures refl).1
