-- One recorded spend, from document 02, R-6: a number of its own, the stack it started on, the outcomes in the order asked, and how it ended.
use Rattle.std.specs.Prelude.{ℕ, List}
use Rattle.script_machine.specs.Numbers.{Bytes, Stack}

-- What a check came to: no or yes; for a hash, the digest.
pub data Outcome : Type 0 where
  no yes : Outcome
  digest : Bytes → Outcome

-- A spend aborts, or leaves a main stack.
pub data End : Type 0 where
  aborts : End
  leaves : Stack → End

-- Both stacks have the top element first, as the machine's have; a log writes the bottom one first.
pub record Entry : Type 0 where
  pub number : ℕ
  pub start : Stack
  pub outcomes : List Outcome
  pub recorded : End
