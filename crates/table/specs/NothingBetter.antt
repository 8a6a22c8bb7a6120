-- Nothing better was thrown away of the table in work memory either: document 02, R-12, by what each offer leaves (Inserted.antt) and the theorem on
-- the definition's table (definition_laws, specs/NothingBetter.antt). Assumes nothing.
use Rattle.refusals.specs.declared.Refusal.{Refusal}
use Rattle.std.specs.Prelude.{List, [], ◌∷◌, ◌≡◌, ℕ, Result, Ok, Err}
use Rattle.contexts.specs.declared.Context.{Context}
use Rattle.candidates.specs.declared.Candidate as code
use Rattle.definition.specs.Candidates.{Candidate}
use Rattle.definition.specs.Tables.{Probs}
use Rattle.definition_laws.specs.NothingBetter.{NothingBetter}
use Rattle.nodes.specs.Views.{offered}
use Rattle.table.specs.declared.Table.{Table}
use Rattle.table.specs.declared.Offer.{Offer}
use Rattle.table.specs.declared.Step.{Step}
use Rattle.table.specs.Inserted.{Inserted, seen_table}

abbrev pub NotRefused : Result Offer Refusal → Type 0
NotRefused (Ok Offer.Entered) = Unit {0}
NotRefused (Ok Offer.TurnedAway) = Unit {0}
NotRefused (Err n) = ⊥

-- the memory and the table that offers leave, one after another, of which none is refused; with the candidates that were offered
pub data InTurn (c : Context) (p : Probs) (pol m' : List ℕ) (t' : Table) : (m : List ℕ) → Table → List Candidate → Type 0 where
  nobody : InTurn c p pol m' t' m' t' []
  offer : {m₀ m : List ℕ} {t : Table} {x : code.Candidate} {r : Step} {xs : List Candidate} →
      Inserted c p x t r m₀ m → NotRefused r.offer → InTurn c p pol m' t' m r.table xs →
      InTurn c p pol m' t' m₀ t (offered pol m₀ x ∷ xs)

-- from an empty table
abbrev pub NothingThrownAwayInMemory : Type 0
NothingThrownAwayInMemory =
    (c : Context) (p : Probs) (pol m m' : List ℕ) (t t' : Table) (xs : List Candidate) → t.len ≡ 0 →
    InTurn c p pol m' t' m t xs → NothingBetter c p xs (seen_table pol m' t')
