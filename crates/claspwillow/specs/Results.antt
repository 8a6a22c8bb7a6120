-- What the parts of compile's entry hand on: what one context gives, and the numbers in an answer of the crate compile (document 01,
-- "Numbers the console shows").
use Rattle.refusals.specs.Numbers.{number_of}
use Rattle.refusals.specs.declared.Refusal.{Refusal}
use Rattle.std.specs.Prelude.{cond, List, ◌++◌, ◌≡◌, ℕ, eqb, length, drop, Result, Ok, Err}
use Rattle.contexts.specs.declared.Context.{Context}
use Rattle.memory.specs.Layout.{work_words}
use Rattle.policies.specs.Reading.{read_policy}
use Rattle.definition.specs.Refusals.{BadWork}
use Rattle.words.specs.Memory.{zeroed}
use Rattle.definition.specs.Compile.{Outcome, compiled, refused_with, compile_read}
use Rattle.chosen.specs.Form.{holding}
use Rattle.claspwillow.specs.Promises.{Writing, wrote, unwritten}
use Rattle.costs.specs.declared.Price.{Price}
use Rattle.costs.specs.Price.{cost_bits, never_flag}
use Rattle.compile.specs.declared.Compiled.{Compiled}

-- what compile gives in a context, for a policy, an output and work memory
abbrev pub given_in : Context → (policy out work : List ℕ) → Outcome
given_in c policy out work =
    cond (eqb (length work) work_words) (compile_read c (length out) (read_policy policy)) (refused_with BadWork)

-- ---- the numbers in an answer

-- the number that the caller is told: 0 is done
abbrev pub number_in : {A : Type 0} → Result A Refusal → ℕ
number_in (Ok a) = 0
number_in (Err r) = number_of r

abbrev pub bytes_in : Result Compiled Refusal → ℕ
bytes_in (Ok c) = c.bytes
bytes_in (Err r) = 0

abbrev pub cost_in : Result Compiled Refusal → ℕ
cost_in (Ok c) = c.cost
cost_in (Err r) = 0

abbrev pub never_in : Result Compiled Refusal → ℕ
never_in (Ok c) = c.never
never_in (Err r) = 0

abbrev pub nodes_in : Result Compiled Refusal → ℕ
nodes_in (Ok c) = c.nodes
nodes_in (Err r) = 0

-- ---- the choice

-- work memory holds the bytes of the tree, with how many they are, what is told of the cost, and the nodes used; or a refusal
pub data Chooses (o : Outcome) (work after : List ℕ) : Result Compiled Refusal → Type 0 where
  chooses : {c : Compiled} (bytes : List ℕ) (price : Price)
      → o ≡ compiled bytes price c.nodes → c.cost ≡ cost_bits price → c.never ≡ never_flag price → length bytes ≡ c.bytes → after ≡ holding bytes
      → Chooses o work after (Ok c)
  refuses : {r : Refusal} → o ≡ refused_with (number_of r) → after ≡ zeroed work → Chooses o work after (Err r)

-- ---- the writing

-- the bytes stand at the front of the output, or a refusal
pub data Puts (w : Writing) (out left : List ℕ) : Result ℕ Refusal → Type 0 where
  puts : {n : ℕ} (bytes : List ℕ) → w ≡ wrote bytes → length bytes ≡ n → left ≡ bytes ++ drop n out → Puts w out left (Ok n)
  leaves : {r : Refusal} → w ≡ unwritten (number_of r) → left ≡ out → Puts w out left (Err r)
