-- The number of a verdict, what loading a stack leaves, and a run before its first word: document 02, R-6.
use Rattle.std.specs.Prelude.{ℕ, ◌≤◌, List, [], ◌≡◌, length}
use Rattle.script_machine.specs.Numbers.{Bytes, Stack}
use Rattle.script_machine.specs.Machine.{state}
use Rattle.spend_machine.specs.Recorded.{stands}
use Rattle.spend_stack.specs.declared.Machine.{Machine}
use Rattle.spend_stack.specs.Machines.{stack_of, run_of, Fits}
use Rattle.spend_judge.specs.declared.Verdict.{Verdict}
use Rattle.spend_judge.specs.declared.Verdict.TheVariants as Verdict
use Rattle.spend_judge.specs.Places.{outcomes_in}

-- the number that a report has for a verdict
abbrev pub report_number : Verdict → ℕ
report_number Verdict.Agrees = 0
report_number Verdict.Differs = 1
report_number Verdict.Mismatched = 2
report_number Verdict.TooLarge = 3

-- The lowest n elements of the main stack's memory are this stack.
pub record Loaded (log before after : List ℕ) (n : ℕ) (m : Stack) : Type 0 where
  pub is : stack_of log after n ≡ m
  pub few : n ≤ 4096
  pub same : length after ≡ length before

-- A run that begins with the lowest n elements on its main stack, none on its alternate stack, and the outcomes that begin at a place.
pub record Begins (log memory : List ℕ) (n outcomes : ℕ) (r : Machine) : Type 0 where
  pub says : (alt : List ℕ) → run_of log memory alt r ≡ stands (state (stack_of log memory n) [] []) (outcomes_in log outcomes)
  pub fits : Fits log memory r
