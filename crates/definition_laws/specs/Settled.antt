-- A table that the casts of a remembered table change no more, whatever enters it later (definition, specs/Search.antt, `wrapped`). Assumes nothing.
use Rattle.std.specs.Prelude.{true, List, ◌≡◌, Some}
use Rattle.contexts.specs.declared.Context.{Context}
use Rattle.policies.specs.Policy.{Policy}
use Rattle.definition.specs.Candidates.{Candidate, Cast, all_casts}
use Rattle.definition.specs.Tables.{Probs, Table}
use Rattle.definition.specs.Refusals.{State, lookup}
use Rattle.definition.specs.Insertion.{worthwhile, beats}
use Rattle.definition.specs.Search.{without}
use Rattle.definition_laws.specs.Laws.{All, IfSome}
use Rattle.definition_laws.specs.NothingBetter.{SomeOf}

-- the candidate is turned away: it is not worth an offer, or some entry is a subtype of it at the same or a lower cost
abbrev pub TurnsAway : Context → Probs → Table → Candidate → Type 0
TurnsAway c p t x = worthwhile c x ≡ true → SomeOf (λ e. beats p e x ≡ true) t

-- each cast of each entry is turned away
abbrev pub AllAway : Context → Probs → (found : Table) → List Cast → Table → Type 0
AllAway c p found fs t = All (λ (f : Cast). All (λ (x : Candidate). IfSome (TurnsAway c p t) (f x)) found) fs

-- the policy's table without dissatisfaction is remembered, and each cast of each of its entries is turned away
pub record Settled (c : Context) (q : Policy) (p : Probs) (s : State) (t : Table) : Type 0 where
  pub found : Table
  pub remembered : lookup q (without p) s.stored ≡ Some found
  pub away : AllAway c p found (all_casts c) t
