-- An entry where it stands in the log: document 02, R-6, by the places of `spend_log`, specs/Places.antt. proofs/Entries.antt shows that what
-- stands there is what the readers of `spend_log`, specs/Logs.antt, read.
use Rattle.std.specs.Prelude.{ℕ, zero, suc, ◌+◌, ◌≤◌, ◌<◌, cond, List, [], ◌∷◌, reverse, ◌≡◌, eqb, length, get_or, take, drop, Some}
use Rattle.records.specs.Numbers.{u32}
use Rattle.script_machine.specs.Numbers.{Bytes, Stack}
use Rattle.spend_machine.specs.Entries.{Outcome, End, aborts, leaves, Entry}
use Rattle.spend_log.specs.Readers.{Read}
use Rattle.spend_log.specs.Logs.{entry}
use Rattle.spend_log.specs.Places.{element_at}
use Rattle.spend_stack.specs.Outcomes.{outcomes_from, outcomes_end}
use Rattle.spend_judge.specs.declared.EntryAt.{EntryAt}

-- the bytes of the element that begins at a place; so many elements from a place on, the bottom one first, and where they end
abbrev pub element_in : Bytes → ℕ → Bytes
element_in log at = take (element_at log at).len (drop (element_at log at).start log)

unfoldable pub elements_from : Bytes → ℕ → ℕ → List Bytes
elements_from log at zero = []
elements_from log at (suc n) = element_in log at ∷ elements_from log (element_at log at).next n

unfoldable pub elements_end : Bytes → ℕ → ℕ → ℕ
elements_end log at zero = at
elements_end log at (suc n) = elements_end log (element_at log at).next n

-- a stack, a count in front of its elements; outcomes, likewise; where they end
unfoldable pub stack_in : Bytes → ℕ → Stack
stack_in log at = reverse (elements_from log (at + 4) (u32 log at))

unfoldable pub stack_end : Bytes → ℕ → ℕ
stack_end log at = elements_end log (at + 4) (u32 log at)

unfoldable pub outcomes_in : Bytes → ℕ → List Outcome
outcomes_in log at = outcomes_from log (at + 4) (u32 log at)

unfoldable pub outcomes_past : Bytes → ℕ → ℕ
outcomes_past log at = outcomes_end log (at + 4) (u32 log at)

-- a recorded end: the byte 0 is an abort, and behind any other stands a stack; where it ends
unfoldable pub end_in : Bytes → ℕ → End
end_in log at = cond (eqb (get_or log at 0) 0) aborts (leaves (stack_in log (at + 1)))

unfoldable pub end_past : Bytes → ℕ → ℕ
end_past log at = cond (eqb (get_or log at 0) 0) (at + 1) (stack_end log (at + 1))

-- an entry that begins at a place: its number, where its parts begin, and where it ends
unfoldable pub entry_at : Bytes → ℕ → EntryAt
entry_at log at =
    let start = at + 4 in
    let outcomes = stack_end log start in
    let ending = outcomes_past log outcomes in
    record { number = u32 log at; start = start; outcomes = outcomes; ending = ending; next = end_past log ending }

-- the entry that such parts are
unfoldable pub entry_in : Bytes → EntryAt → Entry
entry_in log e =
    record { number = e.number; start = stack_in log e.start; outcomes = outcomes_in log e.outcomes; recorded = end_in log e.ending }

-- The parts of an entry lie within the log.
pub record Lie (log : Bytes) (e : EntryAt) : Type 0 where
  pub start : stack_end log e.start ≤ length log
  pub outcomes : outcomes_past log e.outcomes ≤ length log
  pub ending : end_past log e.ending ≤ length log

-- An entry is read at a place of a log.
pub record Stands (log : Bytes) (at : ℕ) : Type 0 where
  pub within : at ≤ length log
  pub read : Read Entry
  pub reads : entry (drop at log) ≡ Some read
