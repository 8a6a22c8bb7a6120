-- What each public entry promises: document 01, "Numbers the console shows" and "Promises that useless programs break".
use Rattle.std.specs.Prelude.{ℕ, cond, List, ◌++◌, ◌≡◌, eqb, leb, length, drop, Option, None, Some}
use Rattle.words.specs.Memory.{zeroed}
use Rattle.types.specs.declared.«Type».{«Type»}
use Rattle.costs.specs.Price.{cost_bits, never_flag}
use Rattle.types.specs.TypeOrder.{pack}
use Rattle.trees.specs.Reading.{Answer, refused, done}
use Rattle.trees.specs.TreeCheck.{check_of}
use Rattle.trees.specs.Checked.{type_only}
use Rattle.memory.specs.Layout.{work_words}
use Rattle.definition.specs.Refusals.{BadWork, OutputTooSmall}
use Rattle.definition.specs.Compile.{Outcome, compiled, refused_with, compile}
use Rattle.chosen.specs.Form.{most_bytes, holding}
use Rattle.chosen.specs.Chosen.{chosen_of}

-- ---- the tree check

-- document 01's number of an answer: 0 is done
abbrev pub number_of : {A : Type 0} → Answer A → ℕ
number_of (refused n) = n
number_of (done a) = 0

-- the packed type, 0 on a refusal
abbrev pub type_number : Answer «Type» → ℕ
type_number (refused n) = 0
type_number (done t) = pack t

-- The tree check, given a context, a tree and work memory, leaves a number, a type and work memory.
pub record CheckPromise (context : ℕ) (tree work : List ℕ) (number ty : ℕ) (after : List ℕ) : Type 0 where
  pub gives : number ≡ number_of (type_only (check_of context tree (length work)))
  pub types : ty ≡ type_number (type_only (check_of context tree (length work)))
  pub clears : after ≡ zeroed work

-- Any two outcomes that the promise allows are equal.
abbrev pub CheckDetermined : Type 0
CheckDetermined =
    (context : ℕ) (tree work : List ℕ) (number number' ty ty' : ℕ) (after after' : List ℕ)
    → CheckPromise context tree work number ty after → CheckPromise context tree work number' ty' after'
    → (number ≡ number') × (ty ≡ ty') × (after ≡ after')

-- ---- compile

-- document 01's number of what compile gives: 0 is done
abbrev pub number_of_outcome : Outcome → ℕ
number_of_outcome (compiled bytes cost nodes) = 0
number_of_outcome (refused_with n) = n

-- the output: the bytes of the tree, then what stood there; all that stood there on a refusal
abbrev pub output_after : Outcome → List ℕ → List ℕ
output_after (compiled bytes cost nodes) out = bytes ++ drop (length bytes) out
output_after (refused_with n) out = out

-- the bytes written, the bits of the cost, whether it is never, and the nodes used, each 0 on a refusal
abbrev pub bytes_written : Outcome → ℕ
bytes_written (compiled bytes cost nodes) = length bytes
bytes_written (refused_with n) = 0

abbrev pub cost_given : Outcome → ℕ
cost_given (compiled bytes cost nodes) = cost_bits cost
cost_given (refused_with n) = 0

abbrev pub never_given : Outcome → ℕ
never_given (compiled bytes cost nodes) = never_flag cost
never_given (refused_with n) = 0

abbrev pub nodes_used : Outcome → ℕ
nodes_used (compiled bytes cost nodes) = nodes
nodes_used (refused_with n) = 0

-- what compile gives, by its definition, for a context's number, a policy, an output and work memory
abbrev pub given : (context : ℕ) → (policy out work : List ℕ) → Outcome
given context policy out work = compile context (eqb (length work) work_words) policy (length out)

-- Compile, given a context, a policy, an output and work memory, leaves a number, an output, four results and work memory.
pub record CompilePromise
    (context : ℕ) (policy out work : List ℕ) (number : ℕ) (left : List ℕ) (bytes cost never nodes : ℕ) (after : List ℕ)
    : Type 0 where
  pub gives : number ≡ number_of_outcome (given context policy out work)
  pub writes : left ≡ output_after (given context policy out work) out
  pub counts : bytes ≡ bytes_written (given context policy out work)
  pub costs : cost ≡ cost_given (given context policy out work)
  pub tells : never ≡ never_given (given context policy out work)
  pub uses : nodes ≡ nodes_used (given context policy out work)
  pub clears : after ≡ zeroed work

-- Any two outcomes that the promise allows are equal.
abbrev pub CompileDetermined : Type 0
CompileDetermined =
    (context : ℕ) (policy out work : List ℕ)
    (number number' : ℕ) (left left' : List ℕ) (bytes bytes' cost cost' never never' nodes nodes' : ℕ) (after after' : List ℕ)
    → CompilePromise context policy out work number left bytes cost never nodes after
    → CompilePromise context policy out work number' left' bytes' cost' never' nodes' after'
    → (number ≡ number') × (left ≡ left') × (bytes ≡ bytes') × (cost ≡ cost') × (never ≡ never') × (nodes ≡ nodes') × (after ≡ after')

-- ---- the choice (document 02, R-7)

-- what the choice gives: what compile does where there is room for every tree of at most 4,096 records
abbrev pub choice : (context : ℕ) → (policy work : List ℕ) → Outcome
choice context policy work = compile context (eqb (length work) work_words) policy most_bytes

-- work memory after it: the bytes of the tree in their form, and zeros on a refusal
abbrev pub memory_after : Outcome → List ℕ → List ℕ
memory_after (compiled bytes cost nodes) work = holding bytes
memory_after (refused_with n) work = zeroed work

-- The choice, given a context, a policy and work memory, leaves a number, four results and work memory.
pub record ChoosePromise (context : ℕ) (policy work : List ℕ) (number bytes cost never nodes : ℕ) (after : List ℕ) : Type 0 where
  pub gives : number ≡ number_of_outcome (choice context policy work)
  pub counts : bytes ≡ bytes_written (choice context policy work)
  pub costs : cost ≡ cost_given (choice context policy work)
  pub tells : never ≡ never_given (choice context policy work)
  pub uses : nodes ≡ nodes_used (choice context policy work)
  pub leaves : after ≡ memory_after (choice context policy work) work

-- Any two outcomes that the promise allows are equal.
abbrev pub ChooseDetermined : Type 0
ChooseDetermined =
    (context : ℕ) (policy work : List ℕ)
    (number number' bytes bytes' cost cost' never never' nodes nodes' : ℕ) (after after' : List ℕ)
    → ChoosePromise context policy work number bytes cost never nodes after
    → ChoosePromise context policy work number' bytes' cost' never' nodes' after'
    → (number ≡ number') × (bytes ≡ bytes') × (cost ≡ cost') × (never ≡ never') × (nodes ≡ nodes') × (after ≡ after')

-- ---- the writing (document 02, R-7)

-- the bytes that are written, or the number of a refusal
pub data Writing : Type 0 where
  wrote : (bytes : List ℕ) → Writing
  unwritten : ℕ → Writing

-- what writing gives for the bytes that a memory holds, if any, and so many bytes of room
abbrev pub writing : Option (List ℕ) → (room : ℕ) → Writing
writing None room = unwritten BadWork
writing (Some bytes) room = cond (leb (length bytes) room) (wrote bytes) (unwritten OutputTooSmall)

abbrev pub number_of_writing : Writing → ℕ
number_of_writing (wrote bytes) = 0
number_of_writing (unwritten n) = n

abbrev pub output_of_writing : Writing → List ℕ → List ℕ
output_of_writing (wrote bytes) out = bytes ++ drop (length bytes) out
output_of_writing (unwritten n) out = out

abbrev pub bytes_of_writing : Writing → ℕ
bytes_of_writing (wrote bytes) = length bytes
bytes_of_writing (unwritten n) = 0

-- The writing, given an output and work memory, whoever filled it, leaves a number, an output, how many bytes were written, and work memory.
pub record WritePromise (out work : List ℕ) (number : ℕ) (left : List ℕ) (bytes : ℕ) (after : List ℕ) : Type 0 where
  pub gives : number ≡ number_of_writing (writing (chosen_of work) (length out))
  pub writes : left ≡ output_of_writing (writing (chosen_of work) (length out)) out
  pub counts : bytes ≡ bytes_of_writing (writing (chosen_of work) (length out))
  pub clears : after ≡ zeroed work

-- Any two outcomes that the promise allows are equal.
abbrev pub WriteDetermined : Type 0
WriteDetermined =
    (out work : List ℕ) (number number' : ℕ) (left left' : List ℕ) (bytes bytes' : ℕ) (after after' : List ℕ)
    → WritePromise out work number left bytes after → WritePromise out work number' left' bytes' after'
    → (number ≡ number') × (left ≡ left') × (bytes ≡ bytes') × (after ≡ after')
