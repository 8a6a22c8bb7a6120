-- A table is remembered: nodes stay as they are, and the definition remembers it as the newest. Assumes nothing.
use Rattle.refusals.specs.declared.Refusal.{Refusal}
use Rattle.std.specs.Prelude.{Option, Result, Ok, Err}
use Rattle.std.specs.Option.{ok_or}
use mathlib.Core.Path.{◌≡◌, refl, sym, ap, ◌∙◌, subst}
use mathlib.Core.Bool.{Bool, true, false}
use mathlib.Core.List.{List, [], ◌∷◌, map}
use Prim.Native.Nat.{ℕ, zero, suc, ◌+◌, ◌*◌, ◌/◌, ◌-◌, ◌<◌, ◌≤◌}
use native.Mathlib.Omega.{arith}
use borrow.Author.Tests.{ltb-true, ltb-false, le-leb, lt-leb}
use lib.Dec.{ltb, leb}
use lib.Ieee.{Float}
use lib.ListN.{length, take, length-map}
use lib.Seq.{length-take-le}
use Rattle.policies.specs.Policy.{Policy}
use Rattle.policies.specs.Array.{policy_at, Named}
use Rattle.classes.specs.Classes.{class_at}
use Rattle.writing.specs.WellFormed.{AllBelow}
use Rattle.figures.specs.Bounds.{Entered}
use Rattle.candidates.specs.declared.Candidate as code
use Rattle.definition.specs.Tables as definition
use Rattle.definition.specs.Tables.{Probs, probs}
use Rattle.definition.specs.Refusals.{State, state, Stored, done, refused, then, CacheFull, LimitsExceeded}
use Rattle.definition.specs.Refusals as limits
use Rattle.definition.specs.Search.{kept}
use Rattle.definition_laws.proofs.Steps.{then-done, then-refused, kept-empty, kept-kept, kept_full}
use Rattle.memory.specs.Layout.{max_tables, table_count}
use Rattle.cache.specs.Slots.{Slot, slot_at, slots_up_to, slots, SameNodes}
use Rattle.cache.specs.Answers.{OneMore, Stores, full, at}
use Rattle.cache.proofs.Tables.{slots-count}
use Rattle.memory.specs.Layout.{node_count, row_count, rows_from}
use Rattle.nodes.specs.Words.{node_at}
use Rattle.nodes.specs.Views.{seen, seen_all}
use Rattle.nodes.specs.Answers.{thresh_kind, max_figure, NodeHolds, Holds, Grows}
use Rattle.nodes.proofs.Stored.{node-same, row-same-in}
use Rattle.table.specs.Rows.{rows, TableHolds}
use Rattle.table.specs.Inserted.{seen_table}
use Rattle.closure.specs.declared.Closed.{Closed}
use Rattle.closure.specs.Closed.{answer}
use Rattle.search_state.specs.State.{stored_as, stored_all, state_in, slot_table, Classed, SlotHolds, Ready, Onward}
use Rattle.search_state.specs.Recalled.{table_answer, Remembered}
use Rattle.search_state.proofs.Growing.{onward-refl, entries-kept, slot-holds, stored-kept}
use Rattle.search_state.proofs.Lookups.{class-again}

-- ---- the words of nodes and rows stay

module _ {m₀ m : List ℕ} (holds : Holds m₀) (same : SameNodes m₀ m) where
  pub same_count : node_count m ≡ node_count m₀
  same_count = same.words 0 (omega arith) (λ e. omega arith)

  pub same_rows : row_count m ≡ row_count m₀
  same_rows = same.words 2 (omega arith) (λ e. omega arith)

  same-node : (i : ℕ) → i < node_count m₀ → node_at m i ≡ node_at m₀ i
  same-node i h =
      let few = holds.few in
      node-same m m₀ i (λ at l u. same.words at (omega arith) (λ e. omega arith))

  pub same_grows : Grows m₀ m
  same_grows =
      record {
        more = omega (arith, same_count);
        more_rows = omega (arith, same_rows);
        nodes = same-node;
        rows =
            λ row j h.
            let few = holds.rows in
            row-same-in m m₀ row j (λ l. same.words (rows_from + 4 * row + j / 4) (omega arith) (λ e. omega arith));
      }

  node-holds : (i : ℕ) → i < node_count m₀ → NodeHolds m i
  node-holds i h =
      let old = holds.nodes i h in
      record {
        entered = subst (λ (x : code.Candidate). Entered max_figure x.ext) (sym (same-node i h)) old.entered;
        rowed =
            subst (λ (x : code.Candidate). x.kind ≡ thresh_kind → x.second < row_count m) (sym (same-node i h))
            (λ k. omega (arith, old.rowed k, same_rows));
      }

  pub same-holds : Holds m
  same-holds =
      let two = holds.two in
      record {
        long = same.long ∙ holds.long;
        two = omega (arith, same_count);
        few = omega (arith, same_count, holds.few);
        rows = omega (arith, same_rows, holds.rows);
        false_first = same-node 0 (omega arith) ∙ holds.false_first;
        true_next = same-node 1 (omega arith) ∙ holds.true_next;
        nodes = λ i h. node-holds i (omega (arith, same_count));
      }

-- ---- the newest table, and those before it

head-same : {A : Type 0} {x y : A} {xs ys : List A} → x ∷ xs ≡ y ∷ ys → x ≡ y
head-same e = cc

tail-same : {A : Type 0} {x y : A} {xs ys : List A} → x ∷ xs ≡ y ∷ ys → xs ≡ ys
tail-same e = cc

module _ (m₀ m : List ℕ) where
  up-to-equal : (n : ℕ) → slots_up_to m n ≡ slots_up_to m₀ n → (s : ℕ) → s < n → slot_at m s ≡ slot_at m₀ s
  unfolding slots_up_to
  up-to-equal zero e s h = absurd (omega arith)
  up-to-equal (suc n) e s h = by_place (up-to-equal n (tail-same e) s) (ltb s n) refl
    where
      by_place : (s < n → slot_at m s ≡ slot_at m₀ s) → (b : Bool) → ltb s n ≡ b → slot_at m s ≡ slot_at m₀ s
      by_place older true t = older (ltb-true s n t)
      by_place older false t =
          let l = ltb-false s n t in
          let i : s ≡ n = omega arith in
          rw i (head-same e)

module _ {m₀ m : List ℕ} {t : Slot} (one : OneMore m₀ m t) where
  newest-first : slot_at m (table_count m₀) ∷ slots_up_to m (table_count m₀) ≡ t ∷ slots_up_to m₀ (table_count m₀)
  unfolding slots_up_to
  newest-first = sym (ap (slots_up_to m) one.count) ∙ one.tables

  pub newest-is : slot_at m (table_count m₀) ≡ t
  newest-is = head-same newest-first

  pub older-are : (s : ℕ) → s < table_count m₀ → slot_at m s ≡ slot_at m₀ s
  older-are = up-to-equal m₀ m (table_count m₀) (tail-same newest-first)

-- ---- the definition's steps

kept-some : (q : Policy) (p : Probs) (t : definition.Table) (s : State) → (length t ≡ 0 → ⊥) → leb (suc (length s.stored)) limits.max_tables ≡ true
    → kept q p t s ≡ done t (state s.accepted (record { policy = q; at = p; table = t } ∷ s.stored))
kept-some q p [] s ne h = absurd (ne refl)
kept-some q p (x ∷ xs) s ne h = kept-kept q p x xs s h

kept-too-many : (q : Policy) (p : Probs) (t : definition.Table) (s : State) → (length t ≡ 0 → ⊥) → leb (suc (length s.stored)) limits.max_tables ≡ false
    → kept q p t s ≡ refused CacheFull
kept-too-many q p [] s ne h = absurd (ne refl)
kept-too-many q p (x ∷ xs) s ne h = kept_full q p x xs s h

pub stored-count : (pol m : List ℕ) → length (stored_all pol m) ≡ table_count m
stored-count pol m = length-map (slots m) (stored_as pol m) ∙ slots-count m

-- ---- what remembering leaves

module _ {pol m : List ℕ} (ready : Ready pol m) (q : Policy) (p : Probs) (c : Closed) where
  -- nothing is remembered where work on the table was refused
  pub passed_on : {n : Refusal} → c.end ≡ Err n → Remembered pol q p c (Err n) m m
  passed_on {n} e =
      record {
        says = then-refused (λ t. kept q p t) (ap (λ (e : Result (Unit {0}) Refusal). answer e (seen_table pol m c.table) (state_in pol m)) e);
        ready = ready;
        onward = onward-refl m;
        slot = tt;
        rows = refl;
        one = tt;
      }

  is-done : c.end ≡ (Ok tt) → table_answer pol m c ≡ done (seen_table pol m c.table) (state_in pol m)
  is-done e = ap (λ (e : Result (Unit {0}) Refusal). answer e (seen_table pol m c.table) (state_in pol m)) e

  then-kept : c.end ≡ (Ok tt) → then (table_answer pol m c) (λ t. kept q p t) ≡ kept q p (seen_table pol m c.table) (state_in pol m)
  then-kept e = then-done (λ t. kept q p t) (is-done e)

  -- an empty table is refused
  pub empty-refused : c.end ≡ (Ok tt) → c.table.len ≡ 0 → Remembered pol q p c (Err Refusal.LimitsExceeded) m m
  empty-refused e z =
      record {
        says =
            then-kept e
            ∙ ap (λ (n : ℕ). kept q p (seen_all pol m (take n c.table.entries)) (state_in pol m)) z
            ∙ kept-empty q p (state_in pol m);
        ready = ready;
        onward = onward-refl m;
        slot = tt;
        rows = refl;
        one = tt;
      }

  module _ (table : TableHolds m c.table) (long : length c.table.entries ≡ 128) (some : c.table.len ≡ 0 → ⊥) where
    not-empty : length (seen_table pol m c.table) ≡ 0 → ⊥
    not-empty e =
        let few = table.few in
        some
        (sym (length-take-le c.table.len c.table.entries (omega arith))
        ∙ sym (length-map (rows c.table) (seen pol m))
        ∙ e)

    -- no table more than 2,048
    pub full-refused : c.end ≡ (Ok tt) → table_count m ≡ max_tables → Remembered pol q p c (Err Refusal.CacheFull) m m
    full-refused e n =
        record {
          says =
              then-kept e
              ∙ kept-too-many q p (seen_table pol m c.table) (state_in pol m) not-empty
              (lt-leb (suc (length (stored_all pol m))) limits.max_tables (omega (arith, stored-count pol m)));
          ready = ready;
          onward = onward-refl m;
          slot = tt;
          rows = refl;
          one = tt;
        }

-- the table of c, as it is remembered under a number
abbrev pub slot_of : (number : ℕ) (sat : Float) (dissat : Option Float) → Closed → Slot
slot_of number sat dissat c = record { number = number; sat = sat; dissat = dissat; entries = rows c.table }

module _ {pol m₀ m : List ℕ} (classed : Classed pol) (ready : Ready pol m₀) (r : ℕ) (named : Named pol r) (sat : Float) (dissat : Option Float)
    (c : Closed) (table : TableHolds m₀ c.table) (one : OneMore m₀ m (slot_of (class_at pol r) sat dissat c)) where
  new-onward : Onward m₀ m
  new-onward =
      record {
        grows = same_grows ready.nodes one.nodes;
        more = omega (arith, one.count);
        slots = older-are one;
      }

  new-slot : SlotHolds pol m (slot_at m (table_count m₀))
  new-slot =
      subst (SlotHolds pol m) (sym (newest-is one))
      (record {
        below = subst (λ (n : ℕ). AllBelow n (rows c.table)) (sym (same_count ready.nodes one.nodes)) table.below;
        named = (classed.classes r named).stands.named;
        class = class-again classed r named;
      })

  new-ready : Ready pol m
  new-ready =
      record {
        nodes = same-holds ready.nodes one.nodes;
        tables = one.kept;
        slots = λ s h. by_place s (omega (arith, one.count)) (ltb s (table_count m₀)) refl;
      }
    where
      by_place : (s : ℕ) → s ≤ table_count m₀ → (b : Bool) → ltb s (table_count m₀) ≡ b → SlotHolds pol m (slot_at m s)
      by_place s h true t = slot-holds ready new-onward s (ltb-true s (table_count m₀) t)
      by_place s h false t =
          let l = ltb-false s (table_count m₀) t in
          let i : s ≡ table_count m₀ = omega arith in
          subst (λ (k : ℕ). SlotHolds pol m (slot_at m k)) (sym i) new-slot

  -- the nodes of its table are those that they were
  same-table : seen_all pol m (rows c.table) ≡ seen_table pol m₀ c.table
  same-table = entries-kept ready.nodes new-onward.grows pol (rows c.table) table.below

  newest-table : slot_table pol m (table_count m₀) ≡ seen_table pol m₀ c.table
  newest-table = ap (λ (t : Slot). seen_all pol m t.entries) (newest-is one) ∙ same-table

  stored-as : stored_as pol m (slot_at m (table_count m₀)) ≡ record { policy = policy_at pol r; at = probs sat dissat; table = seen_table pol m₀ c.table }
  stored-as =
      ap (stored_as pol m) (newest-is one)
      ∙ ap (λ (q : Policy). record { policy = q; at = probs sat dissat; table = seen_all pol m (rows c.table) }) (classed.classes r named).stands.same
      ∙ ap (λ (t : definition.Table). record { policy = policy_at pol r; at = probs sat dissat; table = t }) same-table

  -- it stands before all others
  stored_next : stored_all pol m
      ≡ record { policy = policy_at pol r; at = probs sat dissat; table = seen_table pol m₀ c.table } ∷ stored_all pol m₀
  unfolding slots_up_to
  stored_next =
      ap (λ (n : ℕ). map (stored_as pol m) (slots_up_to m n)) one.count
      ∙ ap (λ (t : Stored). t ∷ map (stored_as pol m) (slots_up_to m (table_count m₀))) stored-as
      ∙ ap (λ (ts : List Stored). record { policy = policy_at pol r; at = probs sat dissat; table = seen_table pol m₀ c.table } ∷ ts)
      (stored-kept ready new-onward (table_count m₀) (omega arith))

  answer-same : {t t' : definition.Table} {n n' : ℕ} {ts ts' : List Stored} → t ≡ t' → n ≡ n' → ts ≡ ts'
      → done t (state (n - 2) ts) ≡ done t' (state (n' - 2) ts')
  answer-same e f g = rw (e, f, g)

  -- one table more
  pub one-remembered : length c.table.entries ≡ 128 → (c.table.len ≡ 0 → ⊥) → c.end ≡ (Ok tt) → table_count m₀ < max_tables
      → {s : ℕ} → s ≡ table_count m₀ → Remembered pol (policy_at pol r) (probs sat dissat) c (Ok s) m₀ m
  one-remembered long some e few {s} i =
      record {
        says =
            then-kept ready q p c e
            ∙ kept-some q p (seen_table pol m₀ c.table) (state_in pol m₀) (not-empty ready q p c table long some)
            (le-leb (suc (length (stored_all pol m₀))) limits.max_tables (omega (arith, stored-count pol m₀)))
            ∙ answer-same (sym newest-table ∙ ap (slot_table pol m) (sym i)) (sym (same_count ready.nodes one.nodes)) (sym stored_next);
        ready = new-ready;
        onward = new-onward;
        slot = omega (arith, one.count);
        rows = same_rows ready.nodes one.nodes;
        one = one.count;
      }
    where
      q : Policy
      q = policy_at pol r

      p : Probs
      p = probs sat dissat

-- ---- what storing answers

module _ {pol m₀ m : List ℕ} (classed : Classed pol) (ready : Ready pol m₀) (r : ℕ) (named : Named pol r) (sat : Float) (dissat : Option Float)
    (c : Closed) (table : TableHolds m₀ c.table) (long : length c.table.entries ≡ 128) (some : c.table.len ≡ 0 → ⊥)
    (end : c.end ≡ Ok tt) where
  stores : {a : Option ℕ} → Stores m₀ m (slot_of (class_at pol r) sat dissat c) a
      → Remembered pol (policy_at pol r) (probs sat dissat) c (ok_or a Refusal.CacheFull) m₀ m
  stores (full n e) =
      subst (λ (m : List ℕ). Remembered pol (policy_at pol r) (probs sat dissat) c (Err Refusal.CacheFull) m₀ m) (sym e)
      (full-refused ready (policy_at pol r) (probs sat dissat) c table long some end n)
  stores (at i few one) = one-remembered classed ready r named sat dissat c table one long some end few i

  pub stores_as : {number : ℕ} {a : Option ℕ} {o : Result ℕ Refusal} → number ≡ class_at pol r → o ≡ ok_or a Refusal.CacheFull
      → Stores m₀ m (slot_of number sat dissat c) a → Remembered pol (policy_at pol r) (probs sat dissat) c o m₀ m
  stores_as e i h = rw i (stores (rw e at h))
