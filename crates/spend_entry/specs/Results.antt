-- Reports in an output, and what the runs that write them ask and leave: document 02, R-6.
use Rattle.std.specs.Prelude.{ℕ, suc, ◌+◌, ◌*◌, ◌≤◌, ◌<◌, List, [], ◌∷◌, ◌≡◌, length, drop, Option, None, Some, Result, Ok, Err}
use Rattle.words.specs.Bytes.{put_le}
use Rattle.contexts.specs.declared.Context.{Context}
use Rattle.trees.specs.Fragment.{Fragment}
use Rattle.trees.specs.Reading.{Answer}
use Rattle.trees.specs.TreeCheck.{bad_context, bad_work, context_of}
use Rattle.script_machine.specs.Numbers.{Bytes}
use Rattle.script_bytes.specs.Tables.{Tables}
use Rattle.refusals.specs.declared.Refusal.{Refusal}
use Rattle.claspwillow.specs.Promises.{number_of}
use Rattle.claspwillow.specs.Results.{number_in}
use Rattle.spend_machine.specs.Entries.{Entry}
use Rattle.spend_machine.specs.Verdicts.{verdict_number, report}
use Rattle.spend_log.specs.Readers.{Read, to_end}
use Rattle.spend_log.specs.Logs.{entry, log_of}
use Rattle.spend_log.specs.Places.{Lies, head_in}
use Rattle.spend_log.specs.declared.Offsets.{Offsets}
use Rattle.spend_replay.specs.Replay.{Report, reports_after, entries_replayed}

-- a report as number i of an output, and reports from number i on
abbrev pub put_numbers : Bytes → (i number verdict : ℕ) → Bytes
put_numbers out i number verdict = put_le 4 (put_le 4 out (8 * i) number) (8 * i + 4) verdict

abbrev pub put_report : Bytes → ℕ → Report → Bytes
put_report out i r = put_numbers out i r.0 (verdict_number r.1)

unfoldable pub put_reports : Bytes → ℕ → List Report → Bytes
put_reports out i [] = out
put_reports out i (r ∷ rs) = put_reports (put_report out i r) (suc i) rs

-- the entries that stand from a place on up to the log's end
abbrev pub read_or : {A : Type 0} → A → Option (Read A) → A
read_or x None = x
read_or x (Some r) = r.value

abbrev pub entries_from : Bytes → ℕ → List Entry
entries_from log at = read_or [] (to_end entry (drop at log))

-- Entries stand from a place on.
pub record Follow (log : Bytes) (at : ℕ) : Type 0 where
  pub within : at ≤ length log
  pub read : Read (List Entry)
  pub reads : to_end entry (drop at log) ≡ Some read

-- The entry that stands at a place is reported as number i, and the next one begins at a place behind.
pub record Reported (c : Context) (t : Tables) (f : Fragment) (log : Bytes) (at i : ℕ) (before after : Bytes) (next : ℕ) : Type 0 where
  pub tells : (g : Read Entry) → entry (drop at log) ≡ Some g → after ≡ put_report before i (report c t f g.value)
  pub behind : (g : Read Entry) → entry (drop at log) ≡ Some g → g.behind ≡ drop next log
  pub onwards : at < next
  pub within : next ≤ length log
  pub same : length after ≡ length before

-- how many entries were replayed, 0 on a refusal
abbrev pub count_in : Result ℕ Refusal → ℕ
count_in (Ok count) = count
count_in (Err e) = 0

-- A number, what stands where the reports go and a count of entries are those of an answer.
pub record Gives (answer : Answer (List Report)) (out left : Bytes) (r : Result ℕ Refusal) : Type 0 where
  pub number : number_in r ≡ number_of answer
  pub writes : left ≡ reports_after answer out
  pub counts : count_in r ≡ entries_replayed answer

-- A log whose head lies at these places, and whose entries are so many.
pub record Whole (log : Bytes) (h : Offsets) (count : ℕ) : Type 0 where
  pub lies : Lies log h
  pub follow : Follow log h.entries
  pub counts : count ≡ length (entries_from log h.entries)
  pub is-log : log_of log ≡ Some (record { front = head_in log h; entries = entries_from log h.entries })

-- the number where work memory has another length than its one
abbrev pub wrong_number : Option Context → ℕ
wrong_number (Some c) = bad_work
wrong_number None = bad_context

abbrev pub wrong_length : (context : ℕ) → ℕ
wrong_length context = wrong_number (context_of context)
