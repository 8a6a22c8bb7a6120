-- Where the run of a fragment with children goes, by its kind's number: what it does before the first child that it runs, behind each child,
-- and at its end. A branch that is not taken is not run. `y j` stands for all that comes from child number j on, `y n` for the end alone.
-- proofs/Continuing.antt shows that this is the run of `spend_machine`, specs/Playing.antt.
use Rattle.std.specs.Prelude.{ℕ, zero, suc, ◌+◌, List, [], ◌∷◌, ◌≡◌, length, Option, None, Some}
use Rattle.contexts.specs.declared.Context.{Context}
use Rattle.trees.specs.Tree.{◌is◌, find}
use Rattle.script_machine.specs.Words.{Word, <n>, DUP, IFDUP, SWAP, SIZE, TOALTSTACK, FROMALTSTACK, VERIFY, 0NOTEQUAL, BOOLAND, BOOLOR, ADD}
use Rattle.script_machine.specs.Words.{EQUAL, CHECKSIG}
use Rattle.script_bytes.specs.Tables.{Tables}
use Rattle.spend_machine.specs.Recorded.{Run, recorded_step}
use Rattle.spend_machine.specs.Playing.{if, if_not}
use Rattle.spend_stack.specs.declared.Machine.{Machine}
use Rattle.spend_stack.specs.Machines.{run_of, Fits}
use Rattle.spend_run.specs.declared.Turn.{Turn}

abbrev pub or_else : {A : Type 0} → A → Option A → A
or_else a (Some x) = x
or_else a None = a

module _ (c : Context) (t : Tables) where
  -- a word; one piece after another
  infix 90 !◌
  abbrev !◌ : Word → Run → Run
  (! w) s = recorded_step c t w s

  infixr 40 ◌then◌
  abbrev ◌then◌ : (Run → Run) → (Run → Run) → Run → Run
  (g then h) s = h (g s)

  -- IF: one child comes next where the top element is true, another where it is false; NOTIF the other way round
  abbrev pub branching : (holding failing : ℕ) → (ℕ → Run → Run) → Run → Run
  branching holding failing y = if c t (y holding) (y failing)

  abbrev pub branching_not : (failing holding : ℕ) → (ℕ → Run → Run) → Run → Run
  branching_not failing holding y = if_not c t (y failing) (y holding)

  -- before the first child
  unfoldable pub starting : (kind n : ℕ) → (ℕ → Run → Run) → Run → Run
  starting kind n y = or_else (y 0) (find kind (
      42 is (! TOALTSTACK then y 0)
      ∷ 43 is (! SWAP then y 0)
      ∷ 45 is (! DUP then branching 0 n y)
      ∷ 47 is (! SIZE then ! 0NOTEQUAL then branching 0 n y)
      ∷ 54 is branching 0 1 y
      ∷ []))

  -- behind the first child, behind any other, and behind child number j
  unfoldable pub behind_first : (kind n : ℕ) → (ℕ → Run → Run) → Run → Run
  behind_first kind n y = or_else (y n) (find kind (
      49 is y 1
      ∷ 50 is y 1
      ∷ 51 is y 1
      ∷ 52 is (! IFDUP then branching_not 1 n y)
      ∷ 53 is branching_not 1 n y
      ∷ 55 is branching_not 2 1 y
      ∷ 56 is y 1
      ∷ []))

  unfoldable pub behind_later : (kind n j : ℕ) → (ℕ → Run → Run) → Run → Run
  behind_later kind n j y = or_else (y n) (find kind (56 is (! ADD then y (j + 1)) ∷ []))

  abbrev pub behind : (kind n j : ℕ) → (ℕ → Run → Run) → Run → Run
  behind kind n zero y = behind_first kind n y
  behind kind n (suc j) y = behind_later kind n (suc j) y

  -- at the end
  unfoldable pub ending : (kind k : ℕ) → Run → Run
  ending kind k = or_else (λ s. s) (find kind (
      42 is (! FROMALTSTACK)
      ∷ 44 is (! CHECKSIG)
      ∷ 46 is (! VERIFY)
      ∷ 48 is (! 0NOTEQUAL)
      ∷ 49 is (! BOOLAND)
      ∷ 51 is (! BOOLOR)
      ∷ 56 is (! (<n> k) then ! EQUAL)
      ∷ []))

-- A machine was brought from one run to another, and to the child that comes next: what comes from there on is what g makes of what comes.
pub record Turns (g : (ℕ → Run → Run) → Run → Run) (log main alt main' alt' : List ℕ) (m : Machine) (r : Turn) : Type 0 where
  pub says : (y : ℕ → Run → Run) → y r.place (run_of log main' alt' r.m) ≡ g y (run_of log main alt m)
  pub fits : Fits log main' r.m
  pub same : length main' ≡ length main

-- the same with no child to come
pub record Moves (g : Run → Run) (log main alt main' alt' : List ℕ) (m r : Machine) : Type 0 where
  pub says : run_of log main' alt' r ≡ g (run_of log main alt m)
  pub fits : Fits log main' r
  pub same : length main' ≡ length main
