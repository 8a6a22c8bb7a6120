-- Nothing better was thrown away of the table in work memory (specs/NothingBetter.antt): offers in turn are the definition's. Assumes nothing.
use Rattle.refusals.specs.declared.Refusal.{Refusal}
use Rattle.std.specs.Prelude.{Result, Ok, Err}
use mathlib.Core.Bool.{Bool, true, false}
use mathlib.Core.List.{List, [], map}
use mathlib.Core.Path.{◌≡◌, refl, ap, ◌∙◌}
use Prim.Native.Nat.{ℕ}
use lib.ListN.{take}
use Rattle.contexts.specs.declared.Context.{Context}
use Rattle.definition.specs.Candidates.{Candidate}
use Rattle.definition.specs.Tables as definition-tables
use Rattle.definition.specs.Tables.{Probs}
use Rattle.definition.specs.Refusals.{State, done}
use Rattle.definition_laws.specs.NothingBetter.{offers}
use Rattle.definition_laws.proofs.Steps.{then-done}
use Rattle.definition_laws.proofs.NothingBetter.{nothing-thrown-away}
use Rattle.nodes.specs.Views.{seen}
use Rattle.table.specs.declared.Table.{Table}
use Rattle.table.specs.declared.Offer.{Offer}
use Rattle.table.specs.Inserted.{state_of, seen_table, offer_answer}
use Rattle.table.specs.NothingBetter.{NotRefused, InTurn, nobody, offer, NothingThrownAwayInMemory}

abbrev took_one : Result Offer Refusal → Bool
took_one (Ok Offer.Entered) = true
took_one (Ok Offer.TurnedAway) = false
took_one (Err n) = false

answers : (o : Result Offer Refusal) (t : definition-tables.Table) (s : State) → NotRefused o →
    offer_answer o t s ≡ done (record { table = t; accepted = took_one o }) s
answers (Ok Offer.Entered) t s h = refl
answers (Ok Offer.TurnedAway) t s h = refl
answers (Err n) t s h = absurd h

-- offers in turn, in memory, are offers in turn by the definition
in-turn : (c : Context) (p : Probs) (pol m' : List ℕ) (t' : Table) {m : List ℕ} {t : Table} {xs : List Candidate} →
    InTurn c p pol m' t' m t xs → offers c p xs (seen_table pol m t) (state_of m []) ≡ done (seen_table pol m' t') (state_of m' [])
unfolding offers
in-turn c p pol m' t' nobody = refl
in-turn c p pol m' t' (offer {m} {r} {xs} i n rest) =
    then-done (λ o. offers c p xs o.table) (i.says pol [] ∙ answers r.offer (seen_table pol m r.table) (state_of m []) n)
    ∙ in-turn c p pol m' t' rest

pub nothing-thrown-away-in-memory : NothingThrownAwayInMemory
nothing-thrown-away-in-memory c p pol m m' t t' xs e h =
    nothing-thrown-away c p xs (state_of m []) (state_of m' []) (seen_table pol m' t')
    (ap (λ rows. offers c p xs rows (state_of m [])) (empty t.len e) ∙ in-turn c p pol m' t' h)
  where
    empty : (n : ℕ) → n ≡ 0 → [] ≡ map (seen pol m) (take n t.entries)
    empty n e = rw e
