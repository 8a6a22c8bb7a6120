-- What the replay of a log gives: document 02, R-6. A broken log is 14; then come the refusals of R-1: 1, 2, the tree check's, 17; and 13 where
-- the reports do not fit.
use Rattle.std.specs.Prelude.{ℕ, ◌+◌, ◌*◌, cond, List, ◌++◌, ◌≡◌, leb, eqb, length, drop, None, Some}
use Rattle.words.specs.Bytes.{bytes_of}
use Rattle.words.specs.Memory.{zeroed}
use Rattle.contexts.specs.declared.Context.{Context}
use Rattle.trees.specs.Fragment.{Fragment}
use Rattle.trees.specs.Reading.{Answer, refused, done, ◌>>=◌, or_refuse, max_records}
use Rattle.trees.specs.TreeCheck.{bad_context, bad_work, context_of, typed_tree_of}
use Rattle.script_machine.specs.Numbers.{Bytes}
use Rattle.script_bytes.specs.Tables.{Tables}
use Rattle.script_bytes.specs.ScriptOf.{no_entry, output_too_small, has_entries}
use Rattle.claspwillow.specs.Promises.{number_of}
use Rattle.spend_machine.specs.Entries.{Entry}
use Rattle.spend_machine.specs.Recorded.{max_elements}
use Rattle.spend_machine.specs.Verdicts.{Verdict, verdict_number, reports}
use Rattle.spend_log.specs.Logs.{Log, log_of}
use Rattle.spend_log.specs.Written.{several_bytes}

-- the number of a broken log
abbrev pub bad_log : ℕ
bad_log = 14

-- the one length of work memory, in words: two for each element that the main stack and the alternate stack may hold, one for each record
abbrev pub replay_words : ℕ
replay_words = 2 * max_elements + 2 * max_elements + max_records

-- an entry's number and its verdict, and their 8 bytes
abbrev pub Report : Type 0
Report = ℕ × Verdict

abbrev pub report_bytes : Report → Bytes
report_bytes r = bytes_of 4 r.0 ++ bytes_of 4 (verdict_number r.1)

-- reports that fit in so much room
abbrev pub fitting : (room : ℕ) → List Report → Answer (List Report)
fitting room rs = cond (leb (8 * length rs) room) (done rs) (refused output_too_small)

-- the reports of entries over a tree that the check passed
abbrev pub reports_in : Context → Tables → (room : ℕ) → List Entry → Fragment → Answer (List Report)
reports_in c t room es f = cond (has_entries c t f) (fitting room (reports c t f es)) (refused no_entry)

-- the reports of a log that is read, with work memory of so many words
unfoldable pub replay_log : Log → (room words : ℕ) → Answer (List Report)
replay_log l room words = do
  c ← or_refuse bad_context (context_of l.front.context)
  _ ← or_refuse bad_work (cond (eqb words replay_words) (Some words) None)
  x ← typed_tree_of c l.front.tree
  reports_in c l.front.tables room l.entries x.tree

-- The reports of a log, or the number of a refusal, given the log, room for the reports and work memory.
unfoldable pub replay_of : (log out : Bytes) → (work : List ℕ) → Answer (List Report)
replay_of log out work = do
  l ← or_refuse bad_log (log_of log)
  replay_log l (length out) (length work)

-- what stands where the reports go: the reports, then what stood there; all that stood there on a refusal
abbrev pub reports_after : Answer (List Report) → Bytes → Bytes
reports_after (refused n) out = out
reports_after (done rs) out = several_bytes report_bytes rs ++ drop (8 * length rs) out

-- how many entries were replayed, 0 on a refusal
abbrev pub entries_replayed : Answer (List Report) → ℕ
entries_replayed (refused n) = 0
entries_replayed (done rs) = length rs

-- The entry, given these, leaves a number, what stands where the reports go, a count of entries and work memory.
pub record ReplayPromise
    (log out : Bytes) (work : List ℕ) (number : ℕ) (left : Bytes) (entries : ℕ) (after : List ℕ)
    : Type 0 where
  pub gives : number ≡ number_of (replay_of log out work)
  pub writes : left ≡ reports_after (replay_of log out work) out
  pub counts : entries ≡ entries_replayed (replay_of log out work)
  pub clears : after ≡ zeroed work

-- Any two outcomes that the promise allows are equal.
abbrev pub ReplayDetermined : Type 0
ReplayDetermined =
    (log out : Bytes) (work : List ℕ) (number number' : ℕ) (left left' : Bytes) (entries entries' : ℕ) (after after' : List ℕ)
    → ReplayPromise log out work number left entries after → ReplayPromise log out work number' left' entries' after'
    → (number ≡ number') × (left ≡ left') × (entries ≡ entries') × (after ≡ after')
