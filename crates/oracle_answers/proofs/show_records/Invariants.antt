use Rattle.std.specs.Prelude.{◌-◌, length}
use Rattle.oracle_answers.proofs.show_records.Given as goal
