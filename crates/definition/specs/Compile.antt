-- What compile gives, from best_compilation and best_t in policy/compiler.rs: document 01, "Records" (the output), "Numbers the console shows" and
-- "Modules, leaves first", 8.
use Rattle.std.specs.Prelude.{Bool, cond, ◌&&◌, List, [], ◌∷◌, ◌++◌, ℕ, suc, ◌+◌, leb, eqb, length, Option, None, Some}
use Rattle.contexts.specs.declared.Context.{Context}
use Rattle.contexts.specs.declared.Context.TheVariants.{Segwitv0, Tap}
use Rattle.costs.specs.declared.Price.{Price}
use Rattle.costs.specs.Arithmetic.{1·}
use Rattle.policies.specs.Policy.{Policy}
use Rattle.policies.specs.Reading as Reading
use Rattle.policies.specs.Reading.{read_policy}
use Rattle.trees.specs.Fragment.{Fragment}
use Rattle.definition.specs.Candidates.{Candidate}
use Rattle.definition.specs.Tables.{Probs, probs, cost_at}
use Rattle.definition.specs.Refusals.{M, State, state, Res, done, refused, then, ◌>>=◌, pure, refuse}
use Rattle.definition.specs.Refusals.{BadContext, BadWork, TopLevelNonSafe, OutputTooSmall}
use Rattle.writing.specs.Writing.{size, bytes_of_tree}
use Rattle.definition.specs.Search.{search, cheapest, chosen, is_base_b}

-- the most records of a tree that is written
abbrev pub max_records : ℕ
max_records = 4096

-- the root is always satisfied and never dissatisfied
abbrev pub root_probs : Probs
root_probs = probs 1· None

abbrev pub if_safe : Candidate → M Candidate
if_safe x = cond x.ty.mall.safe (pure x) (refuse TopLevelNonSafe)

-- the tree of a policy: the cheapest of base B, which must be safe
unfoldable pub best_compilation : Context → Policy → M Candidate
best_compilation c q = do
  t ← search c q root_probs
  x ← chosen (cheapest root_probs is_base_b t)
  if_safe x

-- what compile tells besides its number 0: the bytes of the tree, what it costs, and the nodes used; or the number of a refusal
pub data Outcome : Type 0 where
  compiled : (bytes : List ℕ) → (cost : Price) → (nodes : ℕ) → Outcome
  refused_with : ℕ → Outcome

-- the records of a tree that has not too many, where they fit
abbrev pub fitting : (room : ℕ) → Fragment → (cost : Price) → (nodes : ℕ) → Outcome
fitting room x cost nodes =
    cond (leb (size x) max_records && leb (length (bytes_of_tree x)) room) (compiled (bytes_of_tree x) cost nodes) (refused_with OutputTooSmall)

abbrev pub outcome : (room : ℕ) → Res Candidate → Outcome
outcome room (done x s) = fitting room x.tree (cost_at root_probs x) (s.accepted + 2)
outcome room (refused n) = refused_with n

-- what a policy gives, with so many bytes of room for the output
unfoldable pub compile_policy : Context → (room : ℕ) → Policy → Outcome
compile_policy c room q = outcome room (best_compilation c q (state 0 []))

abbrev pub compile_read : Context → (room : ℕ) → Reading.Answer Policy → Outcome
compile_read c room (Reading.refused n) = refused_with n
compile_read c room (Reading.done q) = compile_policy c room q

abbrev pub compile_in : ℕ → (work_fits : Bool) → (room : ℕ) → List ℕ → Option Context → Outcome
compile_in context work_fits room bytes None = refused_with BadContext
compile_in context work_fits room bytes (Some c) = cond work_fits (compile_read c room (read_policy bytes)) (refused_with BadWork)

abbrev pub context_of : ℕ → Option Context
context_of n = cond (eqb n 0) (Some Segwitv0) (cond (eqb n 1) (Some Tap) None)

-- what compile gives for a context's number, the bytes of a policy and room for the output; `work_fits` says that the work memory has its one length
unfoldable pub compile : (context : ℕ) → (work_fits : Bool) → (policy : List ℕ) → (room : ℕ) → Outcome
compile context work_fits policy room = compile_in context work_fits room policy (context_of context)
