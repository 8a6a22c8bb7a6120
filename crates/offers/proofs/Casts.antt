-- One cast of a node, with its closure: what the call of `closure::insert_closure` leaves is what the definition gives. Assumes nothing.
use Rattle.candidates.specs.declared.CastError.{CastError}
use mathlib.Core.Path.{◌≡◌, refl, sym, ◌∙◌, ap}
use mathlib.Core.List.{List}
use Rattle.std.specs.Prelude.{Option, None, Result, Ok, Err}
use Prim.Native.Nat.{ℕ, ◌<◌}
use Rattle.contexts.specs.declared.Context.{Context}
use Rattle.candidates.specs.declared.Candidate as code
use Rattle.candidates.specs.Casts.{cast_of}
use Rattle.definition.specs.Candidates.{Candidate, cast_no}
use Rattle.definition.specs.Tables.{Probs}
use Rattle.definition.specs.Search.{inserted_if_typed}
use Rattle.definition_laws.proofs.Steps.{inserted_if_typed-none, inserted_if_typed-some}
use Rattle.memory.specs.Layout.{node_count}
use Rattle.nodes.specs.Words.{node_at}
use Rattle.nodes.specs.Views.{seen, offered}
use Rattle.nodes.specs.Answers.{Holds}
use Rattle.nodes.proofs.Casts.{cast_seen, cast-seen}
use Rattle.table.specs.declared.Table.{Table}
use Rattle.table.specs.Rows.{TableHolds}
use Rattle.table.specs.Inserted.{state_of, seen_table}
use Rattle.table.proofs.Kept.{extends-refl}
use Rattle.closure.specs.declared.Closed.{Closed}
use Rattle.closure.specs.Closed.{Closes}
use Rattle.closure.proofs.Offering.{closed}
use Rattle.offers.specs.Offering.{InsertedCast}

nothing_seen : (pol m : List ℕ) (e : CastError) → cast_seen pol m (Err e) ≡ None
nothing_seen pol m CastError.IllTyped = refl
nothing_seen pol m CastError.Unknown = refl

module _ (c : Context) (p : Probs) {m₀ : List ℕ} (holds : Holds m₀) {e : ℕ} (l : e < node_count m₀) (number : ℕ) where
  -- the definition's cast is what the code's stands for
  cast_is : {r : Result code.Candidate CastError} → cast_of c number (node_at m₀ e) e ≡ r → (pol : List ℕ) → cast_no c number (seen pol m₀ e) ≡ cast_seen pol m₀ r
  cast_is is pol = sym (cast-seen holds pol e l c number) ∙ ap (cast_seen pol m₀) is

  -- no candidate
  pub nothing-inserted : {n : CastError} → cast_of c number (node_at m₀ e) e ≡ Err n →
      {t : Table} → TableHolds m₀ t → InsertedCast c p e number t (closed t (Ok tt)) m₀ m₀
  nothing-inserted {n} is {t} table =
      record {
        says =
            λ pol ts.
            ap (λ (o : Option Candidate). inserted_if_typed c p o (seen_table pol m₀ t) (state_of m₀ ts)) (cast_is is pol ∙ nothing_seen pol m₀ n)
            ∙ inserted_if_typed-none c p (seen_table pol m₀ t) (state_of m₀ ts);
        extends = extends-refl holds;
        table = table;
      }

  -- a candidate, with its closure
  pub cast-inserted : {y : code.Candidate} → cast_of c number (node_at m₀ e) e ≡ Ok y → {t : Table} {r : Closed} {m : List ℕ} →
      Closes c p y t r m₀ m → InsertedCast c p e number t r m₀ m
  cast-inserted {y} is {t} closes =
      record {
        says =
            λ pol ts.
            ap (λ (o : Option Candidate). inserted_if_typed c p o (seen_table pol m₀ t) (state_of m₀ ts)) (cast_is is pol)
            ∙ inserted_if_typed-some c p (offered pol m₀ y) (seen_table pol m₀ t) (state_of m₀ ts)
            ∙ closes.says pol ts;
        extends = closes.extends;
        table = closes.table;
      }
