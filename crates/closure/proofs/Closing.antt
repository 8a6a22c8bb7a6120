-- The closure, element by element: what is still to be popped, with the pops that are left, gives what the closure gives from its start.
-- Assumes nothing.
use Rattle.refusals.specs.declared.Refusal.{Refusal}
use mathlib.Core.Path.{◌≡◌, refl, sym, ◌∙◌, ap}
use mathlib.Core.List.{List}
use Rattle.std.specs.Prelude.{Some, Result, Ok, Err}
use Prim.Native.Nat.{ℕ, suc, ◌+◌, ◌-◌, ◌<◌, ◌≤◌}
use native.Mathlib.Omega.{arith}
use Rattle.contexts.specs.declared.Context.{Context}
use Rattle.candidates.specs.declared.Candidate as code
use Rattle.definition.specs.Candidates.{Candidate, all_casts}
use Rattle.definition.specs.Tables as definition
use Rattle.definition.specs.Tables.{Probs}
use Rattle.definition.specs.Refusals.{Stored, Res, then, max_pops}
use Rattle.definition.specs.Insertion.{Queued, queued, offer, cast_all, closure, insert_closure}
use Rattle.definition_laws.proofs.Steps.{then-done, then-refused, closure-nobody, closure-spent, closure-pops, insert_closure-is}
use Rattle.memory.specs.Layout.{node_count}
use Rattle.nodes.specs.Views.{seen, offered}
use Rattle.nodes.specs.Answers.{Holds}
use Rattle.table.specs.declared.Table.{Table}
use Rattle.table.specs.declared.Step.{Step}
use Rattle.table.specs.declared.Offer.{Offer}
use Rattle.table.specs.Rows.{TableHolds}
use Rattle.table.specs.Inserted.{state_of, seen_table, Extends, Inserted}
use Rattle.closure.specs.declared.Closed.{Closed}
use Rattle.closure.specs.Closed.{waiting, answer, OfferedCasts, Closes}
use Rattle.closure.proofs.Waiting.{queue_at, waiting_none, waiting-next}
use Rattle.table.proofs.Kept.{extends-refl, extends-trans}
use Rattle.closure.proofs.Offering.{closed, offer-accepted, offer-refused}

-- what the closure gives while the nodes from h on wait
abbrev pub closure_at : Context → Probs → (pops : ℕ) → (pol : List ℕ) → Table → (h : ℕ) → (m : List ℕ) → List Stored → Res definition.Table
closure_at c p pops pol t h m ts = closure c p pops (queue_at pol m t h) (state_of m ts)

-- after some pops from a memory m₁ with the table t₁, where the nodes from `first` on waited
pub record Closing (c : Context) (p : Probs) (first : ℕ) (t₁ : Table) (m₁ : List ℕ) (pops : ℕ) (t : Table) (m : List ℕ) : Type 0 where
  pub says : (pol : List ℕ) (ts : List Stored) →
      closure_at c p (max_pops - pops) pol t (first + pops) m ts ≡ closure_at c p max_pops pol t₁ first m₁ ts
  pub extends : Extends m₁ m
  pub table : TableHolds m t
  pub few : pops ≤ max_pops

-- an offer that was not refused
pub record Begins (c : Context) (p : Probs) (x : code.Candidate) (t : Table) (m₀ : List ℕ) (first : ℕ) (t₁ : Table) (m₁ : List ℕ) : Type 0 where
  pub says : (pol : List ℕ) (ts : List Stored) →
      insert_closure c p (offered pol m₀ x) (seen_table pol m₀ t) (state_of m₀ ts) ≡ closure_at c p max_pops pol t₁ first m₁ ts
  pub extends : Extends m₀ m₁
  pub table : TableHolds m₁ t₁

-- nobody waits before the first offer
insert-first : (c : Context) (p : Probs) (x : code.Candidate) (t : Table) (pol m : List ℕ) (ts : List Stored) →
    insert_closure c p (offered pol m x) (seen_table pol m t) (state_of m ts)
    ≡ then (offer c p (Some (offered pol m x)) (queue_at pol m t (node_count m)) (state_of m ts)) (closure c p max_pops)
insert-first c p x t pol m ts =
    insert_closure-is c p (offered pol m x) (seen_table pol m t) (state_of m ts)
    ∙ ap (λ (q : List Candidate). then (offer c p (Some (offered pol m x)) (queued (seen_table pol m t) q) (state_of m ts)) (closure c p max_pops))
    (sym (waiting_none pol m (node_count m) (omega arith)))

module _ (c : Context) (p : Probs) {x : code.Candidate} {t : Table} {step : Step} {m₀ m₁ : List ℕ} (ins : Inserted c p x t step m₀ m₁) where
  pub insert-refused : {n : Refusal} → step.offer ≡ Err n → Closes c p x t (closed step.table (Err n)) m₀ m₁
  insert-refused is =
      record {
        says =
            λ pol ts.
            insert-first c p x t pol m₀ ts
            ∙ then-refused (closure c p max_pops) (offer-refused c p ins is pol ts (waiting pol m₀ (node_count m₀)));
        extends = ins.extends;
        table = ins.table;
      }

  pub closure-begins : Holds m₀ → {o : Offer} → step.offer ≡ Ok o → {first : ℕ} → first ≡ node_count m₀ →
      Begins c p x t m₀ first step.table m₁
  closure-begins holds {o} is {first} at =
      record {
        says =
            λ pol ts.
            insert-first c p x t pol m₀ ts
            ∙ then-done (closure c p max_pops)
            (offer-accepted c p ins holds is pol ts (node_count m₀) (omega arith))
            ∙ ap (λ (h : ℕ). closure_at c p max_pops pol step.table h m₁ ts) (sym at);
        extends = ins.extends;
        table = ins.table;
      }

module _ (c : Context) (p : Probs) {first : ℕ} {t₁ : Table} {m₁ : List ℕ} where
  pub closing-begins : Holds m₁ → TableHolds m₁ t₁ → Closing c p first t₁ m₁ 0 t₁ m₁
  closing-begins holds table =
      record {
        says =
            λ pol ts.
            ap (λ (n : ℕ). closure_at c p n pol t₁ (first + 0) m₁ ts) (omega arith)
            ∙ ap (λ (h : ℕ). closure_at c p max_pops pol t₁ h m₁ ts) (omega arith);
        extends = extends-refl holds;
        table = table;
        few = omega arith;
      }

  module _ {t : Table} {m : List ℕ} {pops : ℕ} (i : Closing c p first t₁ m₁ pops t m) {x : code.Candidate} {t₀ : Table} {m₀ : List ℕ}
      (b : Begins c p x t₀ m₀ first t₁ m₁) where
    -- nobody waits
    pub closing-ends : node_count m ≤ first + pops → Closes c p x t₀ (closed t (Ok tt)) m₀ m
    closing-ends none =
        record {
          says =
              λ pol ts.
              b.says pol ts
              ∙ sym (i.says pol ts)
              ∙ ap (λ (q : List Candidate). closure c p (max_pops - pops) (queued (seen_table pol m t) q) (state_of m ts))
              (waiting_none pol m (first + pops) none)
              ∙ closure-nobody c p (max_pops - pops) (seen_table pol m t) (state_of m ts);
          extends = extends-trans b.extends i.extends;
          table = i.table;
        }

    -- somebody waits, and no pop is left
    pub closing-spent : first + pops < node_count m → pops ≡ max_pops → Closes c p x t₀ (closed t (Err Refusal.FuelSpent)) m₀ m
    closing-spent l is =
        let none_left : max_pops - pops ≡ 0 = omega arith in
        record {
          says =
              λ pol ts.
              b.says pol ts
              ∙ sym (i.says pol ts)
              ∙ ap (λ (n : ℕ). closure_at c p n pol t (first + pops) m ts) none_left
              ∙ ap (λ (q : List Candidate). closure c p 0 (queued (seen_table pol m t) q) (state_of m ts)) (waiting-next pol m (first + pops) l)
              ∙ closure-spent c p (seen_table pol m t) (seen pol m (first + pops)) (waiting pol m (suc (first + pops))) (state_of m ts);
          extends = extends-trans b.extends i.extends;
          table = i.table;
        }

  module _ {t : Table} {m : List ℕ} {pops : ℕ} (i : Closing c p first t₁ m₁ pops t m) (l : first + pops < node_count m) (more : pops < max_pops)
      {e : ℕ} (at : e ≡ first + pops) {r : Closed} {m' : List ℕ} (all : OfferedCasts c p e t r m m') where
    -- the first that waits is cast all ten ways
    pop : (pol : List ℕ) (ts : List Stored) →
        closure_at c p (max_pops - pops) pol t (first + pops) m ts
        ≡ then (answer r.end (queue_at pol m' r.table (suc (first + pops))) (state_of m' ts)) (closure c p (max_pops - suc pops))
    pop pol ts =
        let left : max_pops - pops ≡ suc (max_pops - suc pops) = omega arith in
        ap (λ (n : ℕ). closure_at c p n pol t (first + pops) m ts) left
        ∙ ap (λ (q : List Candidate). closure c p (suc (max_pops - suc pops)) (queued (seen_table pol m t) q) (state_of m ts))
        (waiting-next pol m (first + pops) l)
        ∙ closure-pops c p (max_pops - suc pops) (seen_table pol m t) (seen pol m (first + pops)) (waiting pol m (suc (first + pops))) (state_of m ts)
        ∙ ap
        (λ (e : ℕ).
        then (cast_all c p (seen pol m e) (all_casts c) (queue_at pol m t (suc (first + pops))) (state_of m ts)) (closure c p (max_pops - suc pops)))
        (sym at)
        ∙ ap (λ (a : Res Queued). then a (closure c p (max_pops - suc pops))) (all.says pol ts (suc (first + pops)) (omega arith))

    pub closing-goes-on : r.end ≡ (Ok tt) → Closing c p first t₁ m₁ (pops + 1) r.table m'
    closing-goes-on is =
        record {
          says =
              λ pol ts.
              ap (λ (n : ℕ). closure_at c p n pol r.table (first + (pops + 1)) m' ts) (omega arith)
              ∙ ap (λ (h : ℕ). closure_at c p (max_pops - suc pops) pol r.table h m' ts) (omega arith)
              ∙ sym (pop pol ts
              ∙ then-done (closure c p (max_pops - suc pops))
              (ap (λ (end : Result (Unit {0}) Refusal). answer end (queue_at pol m' r.table (suc (first + pops))) (state_of m' ts)) is))
              ∙ i.says pol ts;
          extends = extends-trans i.extends all.extends;
          table = all.table;
          few = omega arith;
        }

    pub closing-refused : {n : Refusal} → r.end ≡ Err n → {x : code.Candidate} {t₀ : Table} {m₀ : List ℕ} → Begins c p x t₀ m₀ first t₁ m₁ →
        Closes c p x t₀ r m₀ m'
    closing-refused is b =
        record {
          says =
              λ pol ts.
              b.says pol ts
              ∙ sym (i.says pol ts)
              ∙ pop pol ts
              ∙ then-refused (closure c p (max_pops - suc pops))
              (ap (λ (end : Result (Unit {0}) Refusal). answer end (queue_at pol m' r.table (suc (first + pops))) (state_of m' ts)) is)
              ∙ sym (ap (λ (end : Result (Unit {0}) Refusal). answer end (seen_table pol m' r.table) (state_of m' ts)) is);
          extends = extends-trans b.extends (extends-trans i.extends all.extends);
          table = all.table;
        }

-- a candidate that is turned away makes nobody wait
pub turned-closes : (c : Context) (p : Probs) {x : code.Candidate} {t : Table} {m : List ℕ} → Holds m → TableHolds m t
    → Inserted c p x t (record { table = t; offer = Ok Offer.TurnedAway }) m m → Closes c p x t (closed t (Ok tt)) m m
turned-closes c p {m = m} holds table ins =
    closing-ends c p (closing-begins c p holds table) (closure-begins c p ins holds refl refl) (omega arith)
