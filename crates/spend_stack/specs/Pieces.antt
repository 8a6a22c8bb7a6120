-- What the functions between the words answer.
use Rattle.std.specs.Prelude.{ℕ, ◌≤◌, ◌<◌, Bool, true, false, ◌&&◌, ◌||◌, cond, List, [], ◌∷◌, ◌≡◌, ◌⊎◌, ℤ, ◌+ℤ◌, Result, Ok, Err}
use Rattle.contexts.specs.declared.Context.{Context}
use Rattle.script_machine.specs.Numbers.{Bytes, Stack, is_true, element, write, nonzero, equal}
use Rattle.script_machine.specs.Words.{Word, BOOLAND, BOOLOR, ADD, NUMEQUAL}
use Rattle.spend_machine.specs.Playing.{opened}
use Rattle.spend_stack.specs.declared.Pair.{Pair}
use Rattle.spend_stack.specs.declared.Pair.TheVariants as Pair
use Rattle.spend_stack.specs.declared.Machine.{Machine}
use Rattle.spend_stack.specs.declared.Status.TheVariants as Status
use Rattle.spend_stack.specs.Machines.{is_going, with_status, run_of, Fits}

-- a run goes on and has so many elements at least; else what becomes of it at a word that takes so many: it stays as it is, or aborts
abbrev pub Readied : Machine → ℕ → Result (Unit {0}) Machine → Type 0
Readied m n (Ok u) = (is_going m ≡ true) × (n ≤ m.main)
Readied m n (Err r) = ((is_going m ≡ false) × (r ≡ m)) ⊎ ((is_going m ≡ true) × (m.main < n) × (r ≡ with_status m Status.Aborted))

-- the words that take two numbers, and what they push
abbrev pub word_of : Pair → Word
word_of Pair.NumEqual = NUMEQUAL
word_of Pair.BoolAnd = BOOLAND
word_of Pair.BoolOr = BOOLOR
word_of Pair.Add = ADD

abbrev pub combine : Pair → ℤ → ℤ → Bytes
combine Pair.NumEqual i j = element (equal i j)
combine Pair.BoolAnd i j = element (nonzero i && nonzero j)
combine Pair.BoolOr i j = element (nonzero i || nonzero j)
combine Pair.Add i j = write (i +ℤ j)

-- whether the top element is true to IF; that IF or NOTIF takes it, if it may
abbrev pub top_true : Stack → Bool
top_true [] = false
top_true (x ∷ m) = is_true x

pub record Opens (c : Context) (log memory : List ℕ) (m r : Machine) : Type 0 where
  pub says : (alt : List ℕ) → run_of log memory alt r ≡ opened c (run_of log memory alt m)
  pub fits : Fits log memory r
