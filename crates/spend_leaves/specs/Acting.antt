-- What a piece of a script does to the replay's main stack, and where a table's entry lies in the log.
use Rattle.std.specs.Prelude.{ℕ, ◌+◌, ◌*◌, ◌≤◌, Bool, true, false, List, ◌≡◌, length}
use Rattle.script_machine.specs.Numbers.{Bytes}
use Rattle.script_machine.specs.Words.{Word, CHECKSIG, CHECKSIGADD}
use Rattle.spend_machine.specs.Recorded.{Run}
use Rattle.spend_elements.specs.declared.Element.{Element}
use Rattle.spend_stack.specs.declared.Machine.{Machine}
use Rattle.spend_stack.specs.Machines.{run_of, Fits}

-- a machine was brought from one run to what g makes of it, whatever the alternate stack holds
pub record Acts (g : Run → Run) (log before after : List ℕ) (m r : Machine) : Type 0 where
  pub says : (alt : List ℕ) → run_of log after alt r ≡ g (run_of log before alt m)
  pub fits : Fits log after r
  pub same : length after ≡ length before

-- entry i of a table that begins at a place of the log, with so many bytes an entry; that all of it is there
abbrev pub entry_at : (from size i : ℕ) → Element
entry_at from size i = record { at = from + i * size; len = size }

pub record Reaches (log : Bytes) (from size i : ℕ) : Type 0 where
  pub within : from + (i * size + size) ≤ length log
  pub small : size ≤ 33

-- the word behind a key of a MultiA, by whether it is the first
abbrev pub sig_word : (first : Bool) → Word
sig_word true = CHECKSIG
sig_word false = CHECKSIGADD
