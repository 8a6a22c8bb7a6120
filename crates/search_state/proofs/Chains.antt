-- Searches and work on tables, one after another, as the definition's steps (definition, specs/Refusals.antt). Assumes nothing.
use Rattle.refusals.specs.declared.Refusal.{Refusal}
use Rattle.refusals.specs.Numbers.{number_of}
use Rattle.std.specs.Prelude.{Option, None, Some, Float, Result, Ok, Err}
use mathlib.Core.Path.{◌≡◌, refl, sym, ap, ◌∙◌, subst}
use mathlib.Core.List.{List}
use Prim.Native.Nat.{ℕ, suc, ◌+◌, ◌<◌, ◌≤◌}
use native.Mathlib.Omega.{arith}
use Rattle.contexts.specs.declared.Context.{Context}
use Rattle.policies.specs.Policy.{Policy}
use Rattle.candidates.specs.declared.Candidate as code
use Rattle.definition.specs.Tables as definition
use Rattle.definition.specs.Tables.{Probs}
use Rattle.definition.specs.Refusals.{State, Stored, Res, done, refused, M, then}
use Rattle.definition.specs.Insertion.{insert_closure}
use Rattle.definition.specs.Search.{kept, remembering}
use Rattle.definition_laws.proofs.Steps.{then-done, then-refused, remembering-found, remembering-new}
use Rattle.memory.specs.Layout.{table_count}
use Rattle.memory.specs.Layout.{row_count}
use Rattle.nodes.specs.Views.{offered}
use Rattle.table.specs.declared.Table.{Table}
use Rattle.table.specs.Rows.{TableHolds}
use Rattle.table.specs.Inserted.{state_of, seen_table}
use Rattle.closure.specs.declared.Closed.{Closed}
use Rattle.closure.specs.Closed.{answer, Closes}
use Rattle.search_state.specs.State.{stored_all, state_in, slot_table, Ready, Onward, load, Room, Paid}
use Rattle.search_state.specs.Recalled.{out_answer, table_answer, OneTable, Searched, Tabled, Recalled, found, new, Remembered}
use Rattle.search_state.proofs.Growing.{onward-refl, onward-trans, extends-onward, extends-stored}

-- ---- room for rows

pub paid-refl : (m : List ℕ) → Paid 0 m m
paid-refl m = omega arith

pub paid-trans : (a b : ℕ) (m₀ m₁ m₂ : List ℕ) → Paid a m₀ m₁ → Paid b m₁ m₂ → Paid (a + b) m₀ m₂
paid-trans a b m₀ m₁ m₂ h k = omega arith

pub paid-after : (b : ℕ) (m₀ m₁ m₂ : List ℕ) → Paid 0 m₀ m₁ → Paid b m₁ m₂ → Paid b m₀ m₂
paid-after b m₀ m₁ m₂ h k = omega arith

-- a table more pays for a row
pub paid-off : (m₀ m₁ m₂ : List ℕ) → Paid 1 m₀ m₁ → row_count m₂ ≡ row_count m₁ → table_count m₂ ≡ suc (table_count m₁) → Paid 0 m₀ m₂
paid-off m₀ m₁ m₂ h r t = omega arith

pub room-kept : (extra : ℕ) (q : Policy) (d : Option Float) (m₀ m : List ℕ) → Room extra q d m₀ → Paid 0 m₀ m → Room extra q d m
room-kept extra q d m₀ m h k = omega arith

-- what is asked for in turn has room, once a row was made
pub room-below : (q q' : Policy) (d d' : Option Float) (m : List ℕ) → load q' d' < load q d → Room 1 q d m → Room 0 q' d' m
room-below q q' d d' m h k = omega arith

-- ---- what an answer tells

module _ {res : Res definition.Table} {pol : List ℕ} {o : Result ℕ Refusal} {m₀ m : List ℕ} (h : Searched res pol o m₀ m) where
  pub searched-done : (s : ℕ) → o ≡ Ok s → res ≡ done (slot_table pol m s) (state_in pol m)
  searched-done s e = h.says ∙ ap (out_answer pol m) e

  pub searched-refused : (n : Refusal) → o ≡ Err n → res ≡ refused (number_of n)
  searched-refused n e = h.says ∙ ap (out_answer pol m) e

module _ {extra : ℕ} {res : Res definition.Table} {pol : List ℕ} {c : Closed} {m₀ m : List ℕ} (h : Tabled extra res pol c m₀ m) where
  pub tabled-done : c.end ≡ (Ok tt) → res ≡ done (seen_table pol m c.table) (state_in pol m)
  tabled-done e = h.says ∙ ap (λ (e : Result (Unit {0}) Refusal). answer e (seen_table pol m c.table) (state_in pol m)) e

  pub tabled-refused : (n : Refusal) → c.end ≡ Err n → res ≡ refused (number_of n)
  tabled-refused n e = h.says ∙ ap (λ (e : Result (Unit {0}) Refusal). answer e (seen_table pol m c.table) (state_in pol m)) e

-- ---- steps

-- a candidate offered with its closure
pub closes-tabled : {pol m₀ m : List ℕ} {c : Context} {p : Probs} {x : code.Candidate} {t : Table} {r : Closed} → Ready pol m₀ → Closes c p x t r m₀ m
    → Tabled 0 (insert_closure c p (offered pol m₀ x) (seen_table pol m₀ t) (state_in pol m₀)) pol r m₀ m
closes-tabled {pol} {m₀} {m} {c} {p} {x} {t} {r} ready closes =
    let on = extends-onward ready closes.extends in
    record {
      says =
          closes.says pol (stored_all pol m₀)
          ∙ ap (λ (ts : List Stored). answer r.end (seen_table pol m r.table) (state_of m ts)) (sym (extends-stored ready closes.extends));
      ready = on.0;
      onward = on.1;
      table = closes.table;
      paid = λ e. omega (arith, closes.extends.rows, closes.extends.tables.count);
    }

-- what is done after a refusal is refused
done-before : (e₁ e₂ : Result (Unit {0}) Refusal) (t u : definition.Table) (s v : State) (k : definition.Table → M definition.Table)
    → then (answer e₁ t s) k ≡ answer e₂ u v → e₂ ≡ (Ok tt) → e₁ ≡ Ok tt
unfolding then
done-before (Ok tt) e₂ t u s v k h e = refl
done-before (Err n) e₂ t u s v k h e =
    let d : refused (number_of n) ≡ done u v = h ∙ ap (λ (e : Result (Unit {0}) Refusal). answer e u v) e in
    absurd (let z : ◌≡◌ {A = ℕ} 0 1 = cc in omega arith)

-- one step, then the others on what it answered
pub tabled-then : {a b : ℕ} {res : Res definition.Table} {pol m₀ m₁ m₂ : List ℕ} {c₁ c₂ : Closed} → Tabled a res pol c₁ m₀ m₁
    → (k : definition.Table → M definition.Table) → Tabled b (then (table_answer pol m₁ c₁) k) pol c₂ m₁ m₂ → Tabled (a + b) (then res k) pol c₂ m₀ m₂
tabled-then {a} {b} {res} {pol} {m₀} {m₁} {m₂} {c₁} {c₂} h k g =
    record {
      says = ap (λ (r : Res definition.Table). then r k) h.says ∙ g.says;
      ready = g.ready;
      onward = onward-trans h.onward g.onward;
      table = g.table;
      paid =
          λ e.
          paid-trans a b m₀ m₁ m₂
          (h.paid
          (done-before c₁.end c₂.end (seen_table pol m₁ c₁.table) (seen_table pol m₂ c₂.table) (state_in pol m₁) (state_in pol m₂) k
          g.says e))
          (g.paid e);
    }

-- no more rows than allowed
pub tabled-more : {a : ℕ} {res : Res definition.Table} {pol m₀ m : List ℕ} {c : Closed} (b : ℕ) → a ≤ b → Tabled a res pol c m₀ m
    → Tabled b res pol c m₀ m
tabled-more {a} b l h =
    record {
      says = h.says;
      ready = h.ready;
      onward = h.onward;
      table = h.table;
      paid = λ e. let p = h.paid e in omega arith;
    }

-- ---- the same, once it is known how the first step ended

-- what a refusal leaves of a table
refused-tabled : {b : ℕ} {n : Refusal} {res : Res definition.Table} {pol m₀ m : List ℕ} → res ≡ refused (number_of n) → Ready pol m → Onward m₀ m
    → (c : Closed) → c.end ≡ Err n → TableHolds m c.table → Tabled b res pol c m₀ m
refused-tabled {b} {n} {res} {pol} {m₀} {m} says ready onward c e table =
    record {
      says = says ∙ sym (ap (λ (e : Result (Unit {0}) Refusal). answer e (seen_table pol m c.table) (state_in pol m)) e);
      ready = ready;
      onward = onward;
      table = table;
      paid = λ d. absurd (let z : ◌≡◌ {A = ℕ} 0 1 = cc in omega arith);
    }

module _ {a : ℕ} {res : Res definition.Table} {pol m₀ m₁ : List ℕ} {c₁ : Closed} (h : Tabled a res pol c₁ m₀ m₁)
    (k : definition.Table → M definition.Table) where
  pub tabled-next : {b : ℕ} {m₂ : List ℕ} {c₂ : Closed} → c₁.end ≡ Ok tt
      → Tabled b (k (seen_table pol m₁ c₁.table) (state_in pol m₁)) pol c₂ m₁ m₂ → Tabled (a + b) (then res k) pol c₂ m₀ m₂
  tabled-next {b} {m₂} {c₂} e g =
      record {
        says = then-done k (tabled-done h e) ∙ g.says;
        ready = g.ready;
        onward = onward-trans h.onward g.onward;
        table = g.table;
        paid = λ d. paid-trans a b m₀ m₁ m₂ (h.paid e) (g.paid d);
      }

  pub tabled-stop : {b : ℕ} (n : Refusal) → c₁.end ≡ Err n → (c : Closed) → c.end ≡ Err n → TableHolds m₁ c.table
      → Tabled b (then res k) pol c m₀ m₁
  tabled-stop n e c = refused-tabled (then-refused k (tabled-refused h n e)) h.ready h.onward c

module _ {res : Res definition.Table} {pol m₀ m₁ : List ℕ} {o : Result ℕ Refusal} (h : Searched res pol o m₀ m₁) (k : definition.Table → M definition.Table) where
  pub searched-next : {b : ℕ} {m₂ : List ℕ} {c : Closed} (s : ℕ) → o ≡ Ok s
      → Tabled b (k (slot_table pol m₁ s) (state_in pol m₁)) pol c m₁ m₂ → Tabled b (then res k) pol c m₀ m₂
  searched-next {b} {m₂} {c} s e g =
      record {
        says = then-done k (searched-done h s e) ∙ g.says;
        ready = g.ready;
        onward = onward-trans h.onward g.onward;
        table = g.table;
        paid = λ d. paid-after b m₀ m₁ m₂ (h.paid s e) (g.paid d);
      }

  pub searched-stop : {b : ℕ} (n : Refusal) → o ≡ Err n → (c : Closed) → c.end ≡ Err n → TableHolds m₁ c.table
      → Tabled b (then res k) pol c m₀ m₁
  searched-stop n e c = refused-tabled (then-refused k (searched-refused h n e)) h.ready h.onward c

-- ---- a search of its own

module _ {pol m : List ℕ} {q : Policy} {p : Probs} (ready : Ready pol m) (body : M definition.Table) where
  found-searched : {s : ℕ} → Recalled pol m q p (Some s) → Searched (remembering q p body (state_in pol m)) pol (Ok s) m m
  found-searched (found h l) =
      record {
        says = remembering-found q p body (state_in pol m) l;
        ready = ready;
        onward = onward-refl m;
        slot = h;
        paid = λ s e. paid-refl m;
      }

  new-searched : Recalled pol m q p None → remembering q p body (state_in pol m) ≡ then (body (state_in pol m)) (λ t. kept q p t)
  new-searched (new l) = remembering-new q p body (state_in pol m) l

  -- a table that is remembered is the answer
  pub recalled-found : {f : Option ℕ} (s : ℕ) → f ≡ Some s → Recalled pol m q p f → Searched (remembering q p body (state_in pol m)) pol (Ok s) m m
  recalled-found s e r = found-searched (subst (Recalled pol m q p) e r)

  -- and else what the body leaves is remembered
  pub recalled-new : {f : Option ℕ} → f ≡ None → Recalled pol m q p f
      → remembering q p body (state_in pol m) ≡ then (body (state_in pol m)) (λ t. kept q p t)
  recalled-new e r = new-searched (subst (Recalled pol m q p) e r)

kept-before : (e : Result (Unit {0}) Refusal) (t u : definition.Table) (s v : State) (k : definition.Table → M definition.Table)
    → then (answer e t s) k ≡ done u v → e ≡ Ok tt
unfolding then
kept-before (Ok tt) t u s v k h = refl
kept-before (Err n) t u s v k h = absurd (let z : ◌≡◌ {A = ℕ} 0 1 = cc in omega arith)

-- the body's table is remembered, and its row is paid for
pub remembered-searched : {res : Res definition.Table} {pol m₀ m₁ m₂ : List ℕ} {q : Policy} {p : Probs} {c : Closed} {o : Result ℕ Refusal} → Tabled 1 res pol c m₀ m₁
    → Remembered pol q p c o m₁ m₂ → Searched (then res (λ t. kept q p t)) pol o m₀ m₂
remembered-searched {res} {pol} {m₀} {m₁} {m₂} {q} {p} {c} {o} h g =
    record {
      says = ap (λ (r : Res definition.Table). then r (λ t. kept q p t)) h.says ∙ g.says;
      ready = g.ready;
      onward = onward-trans h.onward g.onward;
      slot = g.slot;
      paid = λ s e. paid o s e g.says g.one;
    }
  where
    paid : (o : Result ℕ Refusal) (s : ℕ) → o ≡ Ok s → then (table_answer pol m₁ c) (λ t. kept q p t) ≡ out_answer pol m₂ o → OneTable o m₁ m₂ → Paid 0 m₀ m₂
    paid (Ok n) s e says one =
        paid-off m₀ m₁ m₂
        (h.paid
        (kept-before c.end (seen_table pol m₁ c.table) (slot_table pol m₂ n) (state_in pol m₁) (state_in pol m₂) (λ t. kept q p t) says))
        g.rows one
    paid (Err n) s e says one = absurd (let z : ◌≡◌ {A = ℕ} 0 1 = cc in omega arith)
