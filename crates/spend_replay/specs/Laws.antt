-- Entries don't affect one another: document 02, R-6. A log with its entries in another order gives the reports in that order.
use Rattle.std.specs.Prelude.{ℕ, ◌<◌, ◌≤◌, List, ◌++◌, ◌≡◌, length, Some}
use Rattle.trees.specs.Reading.{done}
use Rattle.script_machine.specs.Numbers.{Bytes}
use Rattle.spend_machine.specs.Entries.{Entry}
use Rattle.spend_machine.specs.Laws.{in_order}
use Rattle.spend_log.specs.Logs.{Head, Log, log_of}
use Rattle.spend_log.specs.Written.{head_bytes, several_bytes, entry_bytes, log_bytes, All, ShortHead, ShortEntry}
use Rattle.spend_replay.specs.Replay.{Report, replay_of}

-- the bytes of a log
abbrev pub log_with : Head → List Entry → Bytes
log_with h es = head_bytes h ++ several_bytes entry_bytes es

-- The reports stand in this order; r is the report of the entry that stands for places that there are not.
pub record InOrder (log out : Bytes) (work : List ℕ) (rs : List Report) (order : List ℕ) : Type 0 where
  pub other : Report
  pub gives : replay_of log out work ≡ done (in_order rs other order)

-- Of a log that is replayed, the same head before its entries in an order, of as many places at most, is replayed to the reports in that order.
abbrev pub Reordered : Type 0
Reordered =
    (h : Head) (es : List Entry) (e : Entry) (order : List ℕ) (out : Bytes) (work : List ℕ) (rs : List Report)
    → ShortHead h → All ShortEntry es → ShortEntry e → length order ≤ length es → replay_of (log_with h es) out work ≡ done rs
    → InOrder (log_with h (in_order es e order)) out work rs order

-- That speaks of every log: bytes that read as a log are those that write it.
abbrev pub IsByte : ℕ → Type 0
IsByte b = b < 256

abbrev pub OneForm : Type 0
OneForm = (s : Bytes) (l : Log) → All IsByte s → log_of s ≡ Some l → s ≡ log_bytes l
