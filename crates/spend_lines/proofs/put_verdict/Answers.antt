-- `spend_lines::put_verdict` meets its contract: the words of each verdict. Assumes nothing.
use Rattle.script_leaves.proofs.Laws.{laid_as}
use Rattle.spend_lines.proofs.Texts.{agrees-text, differs-text, mismatched-text, too-large-text}
use Rattle.spend_lines.proofs.put_verdict.Goals as goal

pub returns-in-0 : goal.returns-in-0
returns-in-0 c = laid_as (agrees-text c.args.verdict c.in-0.is) c.put_bytes.ensures

pub returns-in-1 : goal.returns-in-1
returns-in-1 c = laid_as (differs-text c.args.verdict c.in-1.is) c.put_bytes-in-1.ensures

pub returns-in-2 : goal.returns-in-2
returns-in-2 c = laid_as (mismatched-text c.args.verdict c.in-2.is) c.put_bytes-in-2.ensures

pub returns-in_default : goal.returns-in_default
returns-in_default c = laid_as (too-large-text c.args.verdict c.in_default.in_default-own.rest.0.0.1 c.in_default.in_default-own.rest.0.1 c.in_default.in_default-own.rest.1) c.put_bytes-in_default.ensures
