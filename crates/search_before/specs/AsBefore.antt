-- What the test of height changes: nothing, where no candidate over 128 arises in the search. Document 02, R-8, on demand 2. Assumes nothing.
use Rattle.std.specs.Prelude.{Bool, true, false, not, cond, List, [], ◌≡◌, ℕ, leb, Option, None, Some}
use Rattle.contexts.specs.declared.Context.{Context}
use Rattle.trees.specs.Height.{max_height}
use Rattle.policies.specs.Policy.{Policy}
use Rattle.policies.specs.Reading as Reading
use Rattle.policies.specs.Reading.{read_policy}
use Rattle.definition.specs.Candidates.{Candidate}
use Rattle.definition.specs.Tables.{Probs, Table, cost_at}
use Rattle.definition.specs.Refusals.{M, State, state, Res, refused, ◌>>=◌, refuse, BadContext, BadWork}
use Rattle.definition.specs.Insertion.{Offered, if_priced, any, filter, valid, height, beats, turned_away, entered}
use Rattle.definition.specs.Search.{cheapest, chosen, is_base_b}
use Rattle.definition.specs.Compile.{root_probs, if_safe, Outcome, refused_with, outcome, context_of, compile}
use Rattle.search_before.specs.AnyInsertion.{Insertion, search_by}

-- ---- insertion as the Rust has it

-- a valid candidate, however tall it is, is turned away or enters
abbrev pub offered : Probs → Candidate → Table → M Offered
offered p x t =
    if_priced (cost_at p x)
    (cond (any (λ e. beats p e x) t) (turned_away t) (entered x (filter (λ e. not (beats p x e)) t)))

unfoldable pub insert_before : Insertion
insert_before c p x t = cond (valid c x) (offered p x t) (turned_away t)

-- ---- whether a candidate over 128 arises

abbrev pub too_tall : ℕ
too_tall = 19

-- insertion as the Rust has it, as far as no valid candidate over 128 arises: the first that does ends the search
unfoldable pub insert_until : Insertion
insert_until c p x t = cond (valid c x) (cond (leb (height x) max_height) (offered p x t) (refuse too_tall)) (turned_away t)

-- a valid candidate over 128 arises in the search of a policy
abbrev pub TallArises : Context → Policy → Type 0
TallArises c q = search_by insert_until c q root_probs (state 0 []) ≡ refused too_tall

-- ---- compile as it was before

unfoldable pub best_before : Context → Policy → M Candidate
best_before c q = do
  t ← search_by insert_before c q root_probs
  x ← chosen (cheapest root_probs is_base_b t)
  if_safe x

unfoldable pub policy_before : Context → (room : ℕ) → Policy → Outcome
policy_before c room q = outcome room (best_before c q (state 0 []))

abbrev pub read_before : Context → (room : ℕ) → Reading.Answer Policy → Outcome
read_before c room (Reading.refused n) = refused_with n
read_before c room (Reading.done q) = policy_before c room q

abbrev pub in_before : (work_fits : Bool) → (room : ℕ) → List ℕ → Option Context → Outcome
in_before work_fits room bytes None = refused_with BadContext
in_before work_fits room bytes (Some c) = cond work_fits (read_before c room (read_policy bytes)) (refused_with BadWork)

unfoldable pub compile_before : (context : ℕ) → (work_fits : Bool) → (policy : List ℕ) → (room : ℕ) → Outcome
compile_before context work_fits policy room = in_before work_fits room policy (context_of context)

-- ---- what is proved

abbrev pub AsBefore : Type 0
AsBefore =
    (context : ℕ) (work_fits : Bool) (policy : List ℕ) (room : ℕ) →
    ((c : Context) (q : Policy) → context_of context ≡ Some c → read_policy policy ≡ Reading.done q → TallArises c q → ⊥) →
    compile context work_fits policy room ≡ compile_before context work_fits policy room
