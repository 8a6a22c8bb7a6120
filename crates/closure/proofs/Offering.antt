-- One cast of a node, offered: what the call of `table::insert` leaves is what the definition's offer gives. Assumes nothing.
use Rattle.refusals.specs.Numbers.{number_of}
use Rattle.refusals.specs.declared.Refusal.{Refusal}
use Rattle.candidates.specs.declared.CastError.{CastError}
use mathlib.Core.Path.{◌≡◌, refl, sym, ◌∙◌, ap}
use mathlib.Core.Bool.{Bool, true, false, true≢false}
use mathlib.Core.List.{List, [], ◌∷◌, ◌++◌}
use Rattle.std.specs.Prelude.{Option, None, Some, Result, Ok, Err, is_err}
use Prim.Native.Nat.{ℕ, ◌<◌, ◌≤◌}
use Rattle.contexts.specs.declared.Context.{Context}
use Rattle.figures.specs.Bounds.{Small}
use Rattle.candidates.specs.declared.Candidate as code
use Rattle.candidates.specs.Casts.{cast_of, all_casts}
use Rattle.definition.specs.Candidates.{Candidate, cast_no}
use Rattle.definition.specs.Tables.{Probs}
use Rattle.definition.specs.Refusals.{State, Stored, done, refused, pure}
use Rattle.definition.specs.Insertion.{queued, joins, offer}
use Rattle.definition_laws.proofs.Steps.{then-done, then-refused, offer-none, offer-some}
use Rattle.memory.specs.Layout.{node_count}
use Rattle.nodes.specs.Words.{node_at}
use Rattle.nodes.specs.Views.{seen, offered}
use Rattle.nodes.specs.Answers.{Holds}
use Rattle.nodes.proofs.Grown.{small_at}
use Rattle.nodes.proofs.Casts.{cast_seen, cast-seen}
use Rattle.table.specs.declared.Table.{Table}
use Rattle.table.specs.declared.Step.{Step}
use Rattle.table.specs.declared.Offer.{Offer}
use Rattle.table.specs.Rows.{TableHolds}
use Rattle.table.specs.Inserted.{state_of, seen_table, offer_answer, NextNode, Inserted}
use Rattle.closure.specs.declared.Closed.{Closed}
use Rattle.closure.specs.Closed.{waiting, OfferedCast}
use Rattle.closure.specs.Typing.{is_typed, cast_type}
use Rattle.closure.proofs.Typing.{no-cast}
use Rattle.closure.proofs.Waiting.{queue_at, waiting-same, waiting-more}
use Rattle.table.proofs.Kept.{extends-refl}

abbrev pub closed : Table → Result (Unit {0}) Refusal → Closed
closed t end = record { table = t; end = end }

-- ---- how work on a table ended

pub is-refused : (end : Result (Unit {0}) Refusal) {b : Bool} → b ≡ is_err end → b ≡ true → (n : Refusal) × (end ≡ Err n)
is-refused (Ok x) e t = absurd (true≢false (sym t ∙ e))
is-refused (Err n) e t = (n, refl)

pub is-done : (end : Result (Unit {0}) Refusal) {b : Bool} → b ≡ is_err end → b ≡ false → end ≡ Ok tt
is-done (Ok x) e f = refl
is-done (Err n) e f = absurd (true≢false (sym e ∙ f))

-- ---- a cast

pub node-small : (m : List ℕ) (e : ℕ) {x : code.Candidate} → x ≡ node_at m e → Small x.ext
node-small m e is = rw is (small_at m e)

-- the cast of a node that was read is the node's cast
pub cast-told : (c : Context) (m : List ℕ) (e number : ℕ) {x : code.Candidate} {r s : Result code.Candidate CastError} → x ≡ node_at m e →
    r ≡ cast_of c number x e → r ≡ s → cast_of c number (node_at m e) e ≡ s
cast-told c m e number node cast told = sym (ap (λ (x : code.Candidate). cast_of c number x e) node) ∙ sym cast ∙ told

module _ (c : Context) (p : Probs) {x : code.Candidate} {t : Table} {step : Step} {m₀ m : List ℕ} (ins : Inserted c p x t step m₀ m) where
  -- an accepted candidate joins those that wait
  offer-entered : Holds m₀ → step.offer ≡ (Ok Offer.Entered) → (pol : List ℕ) (ts : List Stored) (h : ℕ) → h ≤ node_count m₀ →
      offer c p (Some (offered pol m₀ x)) (queue_at pol m₀ t h) (state_of m₀ ts) ≡ done (queue_at pol m step.table h) (state_of m ts)
  offer-entered holds is pol ts h le =
      let next : NextNode (Ok Offer.Entered) x m₀ m = rw is at ins.next in
      offer-some c p (offered pol m₀ x) (queue_at pol m₀ t h) (state_of m₀ ts)
      ∙ then-done (λ o. pure (joins (offered pol m₀ x) (waiting pol m₀ h) o))
      (ins.says pol ts ∙ ap (λ (o : Result Offer Refusal). offer_answer o (seen_table pol m step.table) (state_of m ts)) is)
      ∙ ap (λ (y : Candidate). done (queued (seen_table pol m step.table) (waiting pol m₀ h ++ (y ∷ []))) (state_of m ts)) (sym (next.1 pol))
      ∙ ap (λ (q : List Candidate). done (queued (seen_table pol m step.table) q) (state_of m ts))
      (sym (waiting-more holds ins.extends.grows pol next.0 h le))

  -- a candidate that was turned away does not
  offer-turned : Holds m₀ → step.offer ≡ (Ok Offer.TurnedAway) → (pol : List ℕ) (ts : List Stored) (h : ℕ) → h ≤ node_count m₀ →
      offer c p (Some (offered pol m₀ x)) (queue_at pol m₀ t h) (state_of m₀ ts) ≡ done (queue_at pol m step.table h) (state_of m ts)
  offer-turned holds is pol ts h le =
      let next : NextNode (Ok Offer.TurnedAway) x m₀ m = rw is at ins.next in
      offer-some c p (offered pol m₀ x) (queue_at pol m₀ t h) (state_of m₀ ts)
      ∙ then-done (λ o. pure (joins (offered pol m₀ x) (waiting pol m₀ h) o))
      (ins.says pol ts ∙ ap (λ (o : Result Offer Refusal). offer_answer o (seen_table pol m step.table) (state_of m ts)) is)
      ∙ ap (λ (q : List Candidate). done (queued (seen_table pol m step.table) q) (state_of m ts))
      (sym (waiting-same holds ins.extends.grows pol next h le))

  pub offer-accepted : Holds m₀ → {o : Offer} → step.offer ≡ Ok o → (pol : List ℕ) (ts : List Stored) (h : ℕ) → h ≤ node_count m₀ →
      offer c p (Some (offered pol m₀ x)) (queue_at pol m₀ t h) (state_of m₀ ts) ≡ done (queue_at pol m step.table h) (state_of m ts)
  offer-accepted holds {o} is pol ts h le = by-offer o is
    where
      by-offer : (o : Offer) → step.offer ≡ Ok o
          → offer c p (Some (offered pol m₀ x)) (queue_at pol m₀ t h) (state_of m₀ ts) ≡ done (queue_at pol m step.table h) (state_of m ts)
      by-offer Offer.Entered is = offer-entered holds is pol ts h le
      by-offer Offer.TurnedAway is = offer-turned holds is pol ts h le

  pub offer-refused : {n : Refusal} → step.offer ≡ Err n → (pol : List ℕ) (ts : List Stored) (q : List Candidate) →
      offer c p (Some (offered pol m₀ x)) (queued (seen_table pol m₀ t) q) (state_of m₀ ts) ≡ refused (number_of n)
  offer-refused is pol ts q =
      offer-some c p (offered pol m₀ x) (queued (seen_table pol m₀ t) q) (state_of m₀ ts)
      ∙ then-refused (λ o. pure (joins (offered pol m₀ x) q o))
      (ins.says pol ts ∙ ap (λ (o : Result Offer Refusal). offer_answer o (seen_table pol m step.table) (state_of m ts)) is)

module _ (c : Context) (p : Probs) {m₀ : List ℕ} (holds : Holds m₀) {e : ℕ} (l : e < node_count m₀) (number : ℕ) where
  -- the definition's cast is what the code's stands for
  cast_is : {r : Result code.Candidate CastError} → cast_of c number (node_at m₀ e) e ≡ r → (pol : List ℕ) → cast_no c number (seen pol m₀ e) ≡ cast_seen pol m₀ r
  cast_is is pol = sym (cast-seen holds pol e l c number) ∙ ap (cast_seen pol m₀) is

  -- no candidate
  pub nothing-offered : {r : Result code.Candidate CastError} → cast_of c number (node_at m₀ e) e ≡ r → ((pol : List ℕ) → cast_seen pol m₀ r ≡ None) →
      {t : Table} → TableHolds m₀ t → OfferedCast c p e number t (closed t (Ok tt)) m₀ m₀
  nothing-offered is nothing {t} table =
      record {
        says =
            λ pol ts h le.
            ap (λ (o : Option Candidate). offer c p o (queue_at pol m₀ t h) (state_of m₀ ts)) (cast_is is pol ∙ nothing pol)
            ∙ offer-none c p (queue_at pol m₀ t h) (state_of m₀ ts);
        extends = extends-refl holds;
        table = table;
      }

  -- what is ill-typed
  pub ill-offered : is_typed (cast_type (all_casts c) number (node_at m₀ e).ty) ≡ false → {t : Table} → TableHolds m₀ t →
      OfferedCast c p e number t (closed t (Ok tt)) m₀ m₀
  ill-offered ill table = nothing-offered refl (λ pol. no-cast pol m₀ (all_casts c) number (node_at m₀ e) e ill) table

  module _ {y : code.Candidate} (is : cast_of c number (node_at m₀ e) e ≡ Ok y) {t : Table} {step : Step} {m : List ℕ}
      (ins : Inserted c p y t step m₀ m) where
    some-offered : (pol : List ℕ) (q : List Candidate) (s : State) →
        offer c p (cast_no c number (seen pol m₀ e)) (queued (seen_table pol m₀ t) q) s
        ≡ offer c p (Some (offered pol m₀ y)) (queued (seen_table pol m₀ t) q) s
    some-offered pol q s = ap (λ (o : Option Candidate). offer c p o (queued (seen_table pol m₀ t) q) s) (cast_is is pol)

    pub accepted-offered : {o : Offer} → step.offer ≡ Ok o → OfferedCast c p e number t (closed step.table (Ok tt)) m₀ m
    accepted-offered {o} is =
        record {
          says = λ pol ts h le. some-offered pol (waiting pol m₀ h) (state_of m₀ ts) ∙ offer-accepted c p ins holds is pol ts h le;
          extends = ins.extends;
          table = ins.table;
        }

    pub refused-offered : {n : Refusal} → step.offer ≡ Err n → OfferedCast c p e number t (closed step.table (Err n)) m₀ m
    refused-offered o =
        record {
          says = λ pol ts h le. some-offered pol (waiting pol m₀ h) (state_of m₀ ts) ∙ offer-refused c p ins o pol ts (waiting pol m₀ h);
          extends = ins.extends;
          table = ins.table;
        }
