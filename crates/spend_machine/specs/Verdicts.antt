-- What the replay reports of each entry, from document 02, R-6.
use Rattle.std.specs.Prelude.{ℕ, Bool, true, false, ◌&&◌, cond, List, [], ◌∷◌, map, leb, length}
use Rattle.contexts.specs.declared.Context.{Context}
use Rattle.contexts.specs.Lists.{all}
use Rattle.trees.specs.Fragment.{Fragment}
use Rattle.script_machine.specs.Numbers.{Bytes, Stack}
use Rattle.script_machine.specs.Machine.{State, aborted, state}
use Rattle.script_machine.specs.Translation.{script}
use Rattle.script_machine.specs.WorkedRuns.{same_stack}
use Rattle.script_bytes.specs.Tables.{Tables}
use Rattle.spend_machine.specs.Entries.{Outcome, no, yes, digest, End, aborts, leaves, Entry}
use Rattle.spend_machine.specs.Recorded.{max_elements, Run, stands, stuck, large, recorded_run}

pub data Verdict : Type 0 where
  agrees differs mismatched too_large : Verdict

-- The numbers that a report has for them.
abbrev pub verdict_number : Verdict → ℕ
verdict_number agrees = 0
verdict_number differs = 1
verdict_number mismatched = 2
verdict_number too_large = 3

-- The bench's own limits, in the entry: 4,096 elements on a stack, 520 bytes in an element and in a digest.
abbrev pub max_bytes : ℕ
max_bytes = 520

abbrev pub small_bytes : Bytes → Bool
small_bytes x = leb (length x) max_bytes

abbrev pub small_stack : Stack → Bool
small_stack m = leb (length m) max_elements && all small_bytes m

abbrev pub small_outcome : Outcome → Bool
small_outcome no = true
small_outcome yes = true
small_outcome (digest x) = small_bytes x

abbrev pub small_end : End → Bool
small_end aborts = true
small_end (leaves m) = small_stack m

unfoldable pub small_entry : Entry → Bool
small_entry e = small_stack e.start && (all small_outcome e.outcomes && small_end e.recorded)

-- Two ends are equal where both abort, or both leave equal main stacks.
abbrev pub same_end : State → End → Bool
same_end aborted aborts = true
same_end aborted (leaves n) = false
same_end (state m a cs) aborts = false
same_end (state m a cs) (leaves n) = same_stack m n

-- What a run comes to, against the recorded end: outcomes that are left, or an outcome that was missing, are no match.
abbrev pub judged : Run → End → Verdict
judged large end' = too_large
judged stuck end' = mismatched
judged (stands s (r ∷ rs)) end' = mismatched
judged (stands s []) end' = cond (same_end s end') agrees differs

module _ (c : Context) (t : Tables) (f : Fragment) where
  -- The run of an entry: the words of the tree's script, from the entry's stack and an empty alternate stack.
  unfoldable pub replay : Entry → Run
  replay e = recorded_run c t (script f) (stands (state e.start [] []) e.outcomes)

  unfoldable pub verdict : Entry → Verdict
  verdict e = cond (small_entry e) (judged (replay e) e.recorded) too_large

  -- A report is the entry's number and its verdict.
  abbrev pub report : Entry → ℕ × Verdict
  report e = (e.number, verdict e)

  abbrev pub reports : List Entry → List (ℕ × Verdict)
  reports es = map report es
