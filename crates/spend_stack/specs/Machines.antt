-- What run a machine and its memory stand for: the run with recorded outcomes of `spend_machine`, specs/Recorded.antt, between two words and
-- with no condition open.
use Rattle.std.specs.Prelude.{ℕ, zero, suc, ◌+◌, ◌*◌, ◌-◌, ◌≤◌, Bool, true, false, List, [], ◌∷◌, ◌≡◌, length, get_or, set}
use Rattle.contexts.specs.declared.Context.{Context}
use Rattle.script_machine.specs.Numbers.{Bytes, Stack}
use Rattle.script_machine.specs.Words.{Word}
use Rattle.script_machine.specs.Machine.{State, aborted, state}
use Rattle.script_bytes.specs.Tables.{Tables}
use Rattle.spend_machine.specs.Entries.{Outcome}
use Rattle.spend_machine.specs.Recorded.{Run, stands, stuck, large, within, recorded_step}
use Rattle.spend_log.specs.Places.{outcome_at}
use Rattle.spend_elements.specs.declared.Element.{Element}
use Rattle.spend_elements.specs.Elements.{bytes_in}
use Rattle.spend_stack.specs.declared.Machine.{Machine}
use Rattle.spend_stack.specs.declared.Status.{Status}
use Rattle.spend_stack.specs.declared.Status.TheVariants as Status
use Rattle.spend_stack.specs.Outcomes.{outcomes_from, outcomes_end}

-- two words for each element, the bottom one first
abbrev pub element_at : List ℕ → ℕ → Element
element_at memory i = record { at = get_or memory (2 * i) 0; len = get_or memory (2 * i + 1) 0 }

abbrev pub put_element : List ℕ → ℕ → Element → List ℕ
put_element memory i e = set (set memory (2 * i) e.at) (2 * i + 1) e.len

-- the stack that the lowest n elements are, its top first
unfoldable pub stack_of : (log memory : List ℕ) → ℕ → Stack
stack_of log memory zero = []
stack_of log memory (suc n) = bytes_in log (element_at memory n) ∷ stack_of log memory n

abbrev pub going : Status → Bool
going Status.Going = true
going Status.Aborted = false
going Status.Stuck = false
going Status.Large = false

abbrev pub is_going : Machine → Bool
is_going m = going m.status

-- the same run standing otherwise, with another count of elements, and behind the next outcome
abbrev pub with_status : Machine → Status → Machine
with_status m s = record { main = m.main; alt = m.alt; at = m.at; left = m.left; status = s }

abbrev pub with_main : Machine → ℕ → Machine
with_main m n = record { main = n; alt = m.alt; at = m.at; left = m.left; status = m.status }

abbrev pub after_one : (log : List ℕ) → Machine → Machine
after_one log m =
    record { main = m.main; alt = m.alt; at = (outcome_at log m.at).next; left = m.left - 1; status = m.status }

abbrev pub standing : Status → State → List Outcome → Run
standing Status.Going s rs = stands s rs
standing Status.Aborted s rs = stands aborted rs
standing Status.Stuck s rs = stuck
standing Status.Large s rs = large

-- the outcomes that are left
abbrev pub left_of : (log : List ℕ) → Machine → List Outcome
left_of log m = outcomes_from log m.at m.left

-- the run that a machine stands for, over the memory of both stacks
unfoldable pub run_of : (log main alt : List ℕ) → Machine → Run
run_of log main alt m = standing m.status (state (stack_of log main m.main) (stack_of log alt m.alt) []) (left_of log m)

-- the outcomes that are left lie within the log
pub record Asks (log : List ℕ) (m : Machine) : Type 0 where
  pub ends : outcomes_end log m.at m.left ≤ length log

-- and there is room for both stacks together
pub record Fits (log memory : List ℕ) (m : Machine) : Type 0 where
  pub few : m.main + m.alt ≤ 4096
  pub room : 8192 ≤ length memory
  pub asks : Asks log m

-- e was put over the lowest n elements of the main stack of a run that goes on
pub record Over (log before after : List ℕ) (m : Machine) (n : ℕ) (e : Element) (r : Machine) : Type 0 where
  pub says : is_going m ≡ true → (alt : List ℕ)
      → run_of log after alt r ≡ within (state (bytes_in log e ∷ stack_of log before n) (stack_of log alt m.alt) []) (left_of log m)
  pub fits : Fits log after r
  pub same : length after ≡ length before

-- an element was pushed
abbrev pub pushed : Bytes → Run → Run
pushed x (stands aborted rs) = stands aborted rs
pushed x (stands (state m a cs) rs) = within (state (x ∷ m) a cs) rs
pushed x stuck = stuck
pushed x large = large

pub record Pushes (log before after : List ℕ) (m : Machine) (e : Element) (r : Machine) : Type 0 where
  pub says : (alt : List ℕ) → run_of log after alt r ≡ pushed (bytes_in log e) (run_of log before alt m)
  pub fits : Fits log after r
  pub same : length after ≡ length before

-- a word was carried out, if the run went on
pub record Does (w : Word) (log before after : List ℕ) (m r : Machine) : Type 0 where
  pub says : (c : Context) (t : Tables) (alt : List ℕ) → run_of log after alt r ≡ recorded_step c t w (run_of log before alt m)
  pub fits : Fits log after r
  pub same : length after ≡ length before

-- the same of a word that moves an element from one stack to the other
pub record DoesBoth (w : Word) (log main alt main' alt' : List ℕ) (m r : Machine) : Type 0 where
  pub says : (c : Context) (t : Tables) → run_of log main' alt' r ≡ recorded_step c t w (run_of log main alt m)
  pub fits : Fits log main' r
  pub same : length main' ≡ length main
