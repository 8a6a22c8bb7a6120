-- What a search does besides its answer: it counts acceptances, remembers tables, and may refuse: document 01, "Numbers the console shows".
use Rattle.std.specs.Prelude.{Bool, not, cond, ◌&&◌, List, [], ◌∷◌, ℕ, suc, ◌+◌, leb, eqb, length, Float, Option, None, Some}
use Rattle.std.specs.Float.Ieee.{eq}
use Rattle.policies.specs.Policy.{Policy}
use Rattle.definition.specs.SamePolicy.{same}
use Rattle.costs.specs.Probabilities.{same_prob}
use Rattle.definition.specs.Tables.{Probs, Table}

-- ---- the numbers and the limits

abbrev pub BadContext : ℕ
BadContext = 1

abbrev pub BadWork : ℕ
BadWork = 2

abbrev pub NodesFull : ℕ
NodesFull = 6

abbrev pub TableFull : ℕ
TableFull = 7

abbrev pub CacheFull : ℕ
CacheFull = 8

abbrev pub FuelSpent : ℕ
FuelSpent = 9

abbrev pub NotACost : ℕ
NotACost = 10

abbrev pub LimitsExceeded : ℕ
LimitsExceeded = 11

abbrev pub TopLevelNonSafe : ℕ
TopLevelNonSafe = 12

abbrev pub OutputTooSmall : ℕ
OutputTooSmall = 13

-- the most candidates that one call accepts, entries of a table, tables remembered, and elements that one closure pops
abbrev pub max_accepted : ℕ
max_accepted = 65534

abbrev pub max_entries : ℕ
max_entries = 128

abbrev pub max_tables : ℕ
max_tables = 2048

abbrev pub max_pops : ℕ
max_pops = 4096

-- ---- the state, and computations on it

-- a table that is remembered: of which policy, at which probabilities
pub record Stored : Type 0 where
  pub policy : Policy
  pub at : Probs
  pub table : Table

pub record State : Type 0 where
  pub accepted : ℕ
  pub stored : List Stored

abbrev pub state : ℕ → List Stored → State
state n ts = record { accepted = n; stored = ts }

-- an answer and the state after it, or a refusal, which carries no state
pub data Res (A : Type 0) : Type 0 where
  done : A → State → Res A
  refused : ℕ → Res A

abbrev pub M : Type 0 → Type 0
M A = State → Res A

unfoldable pub then : {A B : Type 0} → Res A → (A → M B) → Res B
then (done a s) k = k a s
then (refused e) k = refused e

infixl 20 ◌>>=◌
abbrev pub ◌>>=◌ : {A B : Type 0} → M A → (A → M B) → M B
◌>>=◌ m k = λ s. then (m s) k

abbrev pub pure : {A : Type 0} → A → M A
pure a = λ s. done a s

abbrev pub refuse : {A : Type 0} → ℕ → M A
refuse e = λ s. refused e

-- ---- acceptances

-- one candidate more, unless it is one too many
abbrev pub accept : M (Unit {0})
accept s = cond (leb (suc s.accepted) max_accepted) (done tt (state (suc s.accepted) s.stored)) (refused NodesFull)

-- ---- what is remembered

abbrev pub same_probs : Probs → Probs → Bool
same_probs p q = eq p.sat q.sat && same_prob p.dissat q.dissat

-- the table remembered of a policy at these probabilities, if there is one
unfoldable pub lookup : Policy → Probs → List Stored → Option Table
lookup q p [] = None
lookup q p (t ∷ ts) = cond (same q t.policy && same_probs p t.at) (Some t.table) (lookup q p ts)

-- the table remembered of a policy
abbrev pub store : Policy → Probs → Table → M (Unit {0})
store q p t s =
    cond (leb (suc (length s.stored)) max_tables)
    (done tt (state s.accepted (record { policy = q; at = p; table = t } ∷ s.stored)))
    (refused CacheFull)
