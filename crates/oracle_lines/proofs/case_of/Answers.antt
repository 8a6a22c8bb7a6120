-- `oracle_lines::case_of` meets its contract: six words, or a line that is broken. Assumes nothing.
use Rattle.oracle_lines.proofs.Cases.{told-six, told-other, told-as}
use Rattle.oracle_lines.proofs.case_of.Goals as goal

pub returns-in_err-ends : goal.returns-in_err-ends
returns-in_err-ends c = rw c.from_residual.ensures (told-other c.args.line.now c.in_err-ends.ensures)

pub case_in-requires : goal.case_in-requires
case_in-requires c = record { in_order = (told-six c.args.line.now c.in_ok-ends.ensures).0; line_len_bound = c.requires }

pub returns : goal.returns
returns c = told-as (told-six c.args.line.now c.in_ok-ends.ensures).1 c.case_in.ensures
