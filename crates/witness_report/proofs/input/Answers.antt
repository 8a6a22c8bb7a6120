-- `witness_report::input` meets its contract: by how the file was read. Assumes nothing.
use borrow.Author.Rules.{rules}
use Rattle.witness_report.specs.Answers.{unreadable, too_long}
use Rattle.witness_report.proofs.Outcomes.{whole-less, input-read}
use Rattle.witness_report.proofs.input.Goals as goal

pub returns-in-Ok : goal.returns-in-Ok
returns-in-Ok g c =
    input-read c.read_path.new.room (whole-less c.read_path.ensures c.in-Ok.is) (search rules) c.costs.ensures

pub returns-in-Err-TooLong : goal.returns-in-Err-TooLong
returns-in-Err-TooLong g c = too_long

pub returns-in-Err-Failed : goal.returns-in-Err-Failed
returns-in-Err-Failed g c = unreadable
