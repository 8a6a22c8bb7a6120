-- The ten casts of a node in turn: the casts that are still to come, on what waits by then, give what all ten give on what waited before the
-- first. Assumes nothing.
use Rattle.refusals.specs.declared.Refusal.{Refusal}
use Rattle.std.specs.Prelude.{Result, Ok, Err}
use mathlib.Core.Path.{◌≡◌, refl, sym, ◌∙◌, ap}
use mathlib.Core.List.{List}
use mathlib.Core.Bool.{false}
use Prim.Native.Nat.{ℕ, suc, ◌+◌, ◌<◌, ◌≤◌}
use native.Mathlib.Numerals.{add-one}
use native.Mathlib.Omega.{arith}
use lib.ListN.{drop}
use Rattle.contexts.specs.declared.Context.{Context}
use Rattle.candidates.specs.Casts.{all_casts as code-casts}
use Rattle.definition.specs.Candidates.{Candidate, Cast, all_casts, cast_no}
use Rattle.definition.specs.Tables.{Probs}
use Rattle.definition.specs.Refusals.{Stored, Res, M, then}
use Rattle.definition.specs.Insertion.{Queued, offer, cast_all}
use Rattle.definition_laws.proofs.Steps.{then-done, then-refused, cast_all-none, cast_all-next}
use Rattle.memory.specs.Layout.{node_count}
use Rattle.nodes.specs.Words.{node_at}
use Rattle.nodes.specs.Views.{seen}
use Rattle.nodes.specs.Answers.{Holds}
use Rattle.nodes.proofs.Grown.{seen-kept}
use Rattle.nodes.proofs.Casts.{casts-from}
use Rattle.table.specs.declared.Table.{Table}
use Rattle.table.specs.Rows.{TableHolds}
use Rattle.table.specs.Inserted.{state_of, Extends}
use Rattle.closure.specs.declared.Closed.{Closed}
use Rattle.closure.specs.Closed.{answer, OfferedCast, OfferedCasts}
use Rattle.closure.specs.Typing.{is_typed, cast_type}
use Rattle.closure.proofs.Waiting.{queue_at}
use Rattle.table.proofs.Kept.{extends-refl, extends-trans}
use Rattle.closure.proofs.Extending.{still-below}
use Rattle.closure.proofs.Offering.{closed, ill-offered}

-- before the cast of a number, in memory m, with the table t
pub record Casting (c : Context) (p : Probs) (e : ℕ) (t₀ : Table) (m₀ : List ℕ) (number : ℕ) (t : Table) (m : List ℕ) : Type 0 where
  pub says : (pol : List ℕ) (ts : List Stored) (h : ℕ) → h ≤ node_count m₀ →
      cast_all c p (seen pol m₀ e) (drop number (all_casts c)) (queue_at pol m t h) (state_of m ts)
      ≡ cast_all c p (seen pol m₀ e) (all_casts c) (queue_at pol m₀ t₀ h) (state_of m₀ ts)
  pub extends : Extends m₀ m
  pub table : TableHolds m t

-- the casts of node e after the cast of a number
abbrev others : Context → Probs → (pol m : List ℕ) → (e number : ℕ) → Queued → M Queued
others c p pol m e number = cast_all c p (seen pol m e) (drop (suc number) (all_casts c))

module _ (c : Context) (p : Probs) {e : ℕ} {t₀ : Table} {m₀ : List ℕ} where
  pub casting-begins : Holds m₀ → TableHolds m₀ t₀ → Casting c p e t₀ m₀ 0 t₀ m₀
  casting-begins holds table = record { says = λ pol ts h le. refl; extends = extends-refl holds; table = table }

  pub casting-ends : {t : Table} {m : List ℕ} {number : ℕ} → Casting c p e t₀ m₀ number t m → 10 ≤ number → number ≤ 10 →
      OfferedCasts c p e t₀ (closed t (Ok tt)) m₀ m
  casting-ends {t} {m} {number} i ge le =
      let is : number ≡ 10 = omega arith in
      record {
        says =
            λ pol ts h few.
            sym (i.says pol ts h few)
            ∙ ap (λ (n : ℕ). cast_all c p (seen pol m₀ e) (drop n (all_casts c)) (queue_at pol m t h) (state_of m ts)) is
            ∙ cast_all-none c p (seen pol m₀ e) (queue_at pol m t h) (state_of m ts);
        extends = i.extends;
        table = i.table;
      }

  module _ (holds : Holds m₀) (l : e < node_count m₀) {t : Table} {m : List ℕ} {number : ℕ} (i : Casting c p e t₀ m₀ number t m) (few : number < 10)
      {r : Closed} {m' : List ℕ} (one : OfferedCast c p e number t r m m') where
    -- the next cast, then the others
    step : (pol : List ℕ) (ts : List Stored) (h : ℕ) → h ≤ node_count m₀ →
        cast_all c p (seen pol m₀ e) (drop number (all_casts c)) (queue_at pol m t h) (state_of m ts)
        ≡ then (answer r.end (queue_at pol m' r.table h) (state_of m' ts)) (others c p pol m₀ e number)
    step pol ts h le =
        ap (λ (fs : List Cast). cast_all c p (seen pol m₀ e) fs (queue_at pol m t h) (state_of m ts)) (casts-from c number few)
        ∙ cast_all-next c p (seen pol m₀ e) (cast_no c number) (drop (suc number) (all_casts c)) (queue_at pol m t h) (state_of m ts)
        ∙ ap (λ (x : Candidate). then (offer c p (cast_no c number x) (queue_at pol m t h) (state_of m ts)) (others c p pol m₀ e number))
        (sym (seen-kept holds i.extends.grows pol e l))
        ∙ ap (λ (a : Res Queued). then a (others c p pol m₀ e number)) (one.says pol ts h (omega (arith, i.extends.grows.more)))

    pub casting-refused : {n : Refusal} → r.end ≡ Err n → OfferedCasts c p e t₀ r m₀ m'
    casting-refused is =
        record {
          says =
              λ pol ts h le.
              sym (i.says pol ts h le)
              ∙ step pol ts h le
              ∙ then-refused (others c p pol m₀ e number) (ap (λ (end : Result (Unit {0}) Refusal). answer end (queue_at pol m' r.table h) (state_of m' ts)) is)
              ∙ sym (ap (λ (end : Result (Unit {0}) Refusal). answer end (queue_at pol m' r.table h) (state_of m' ts)) is);
          extends = extends-trans i.extends one.extends;
          table = one.table;
        }

    pub casting-goes-on : r.end ≡ (Ok tt) → Casting c p e t₀ m₀ (number + 1) r.table m'
    casting-goes-on is =
        record {
          says =
              λ pol ts h le.
              ap (λ (n : ℕ). cast_all c p (seen pol m₀ e) (drop n (all_casts c)) (queue_at pol m' r.table h) (state_of m' ts)) (add-one number)
              ∙ sym (step pol ts h le
              ∙ then-done (others c p pol m₀ e number) (ap (λ (end : Result (Unit {0}) Refusal). answer end (queue_at pol m' r.table h) (state_of m' ts)) is))
              ∙ i.says pol ts h le;
          extends = extends-trans i.extends one.extends;
          table = one.table;
        }

  -- the next cast is ill-typed
  pub casting-passes : Holds m₀ → e < node_count m₀ → {t : Table} {m : List ℕ} {number : ℕ} → Casting c p e t₀ m₀ number t m → number < 10
      → is_typed (cast_type (code-casts c) number (node_at m e).ty) ≡ false → Casting c p e t₀ m₀ (number + 1) t m
  casting-passes holds l {m = m} {number = number} i few ill =
      casting-goes-on holds l i few (ill-offered c p i.extends.holds (still-below i.extends l) number ill i.table) refl

  -- what the arms of the loop leave
  module _ (holds : Holds m₀) (l : e < node_count m₀) {t : Table} {m : List ℕ} {number : ℕ} (i : Casting c p e t₀ m₀ number t m) (few : number < 10)
      {t' : Table} {m' : List ℕ} where
    pub casting-offered : {r : Closed} {m₁ : List ℕ} → OfferedCast c p e number t r m m₁ → r.end ≡ (Ok tt) → m' ≡ m₁ → t' ≡ r.table
        → Casting c p e t₀ m₀ (number + 1) t' m'
    casting-offered one done work table = rw (work, table) (casting-goes-on holds l i few one done)

    pub casting-passed : is_typed (cast_type (code-casts c) number (node_at m e).ty) ≡ false → m' ≡ m → t' ≡ t → Casting c p e t₀ m₀ (number + 1) t' m'
    casting-passed ill work table = rw (work, table) (casting-passes holds l i few ill)
