-- The casts of the entries of a slot in turn: the entries that are still to come, on the table made by then, give what all entries give on the
-- table at first. Assumes nothing.
use Rattle.refusals.specs.declared.Refusal.{Refusal}
use Rattle.std.specs.Prelude.{Result, Ok, Err, true, false, is_err}
use mathlib.Core.Bool.{true≢false}
use mathlib.Core.Path.{◌≡◌, refl, sym, ◌∙◌, ap}
use mathlib.Core.List.{List, [], ◌∷◌, map}
use Prim.Native.Nat.{ℕ, zero, suc, ◌+◌, ◌<◌}
use native.Mathlib.Numerals.{add-one}
use native.Mathlib.Omega.{arith}
use lib.ListN.{length, get_or, drop, get_or-map}
use lib.Seq.{drop-cons, drop-length}
use Rattle.contexts.specs.declared.Context.{Context}
use Rattle.writing.specs.WellFormed.{AllBelow}
use Rattle.definition.specs.Candidates.{Candidate, cast_no}
use Rattle.definition.specs.Tables as definition
use Rattle.definition.specs.Tables.{Probs}
use Rattle.definition.specs.Refusals.{Stored, Res, M, then}
use Rattle.definition.specs.Search.{inserted_if_typed, for_each}
use Rattle.definition_laws.proofs.Steps.{then-done, then-refused, for_each-none, for_each-next}
use Rattle.memory.specs.Layout.{node_count, table_count}
use Rattle.nodes.specs.Views.{seen}
use Rattle.nodes.specs.Answers.{Holds}
use Rattle.nodes.proofs.Grown.{seen-kept}
use Rattle.cache.specs.Slots.{Slot, slot_at, Kept}
use Rattle.cache.proofs.Tables.{slot_same}
use Rattle.table.specs.declared.Table.{Table}
use Rattle.table.specs.Rows.{TableHolds}
use Rattle.table.specs.Inserted.{state_of, seen_table, Extends}
use Rattle.table.proofs.Kept.{extends-refl, extends-trans}
use Rattle.closure.specs.declared.Closed.{Closed}
use Rattle.closure.specs.Closed.{answer}
use Rattle.closure.proofs.Offering.{closed}
use Rattle.search_state.specs.State.{slot_table}
use Rattle.offers.specs.Offering.{InsertedCast, SlotReady, InsertedCasts}
use Rattle.offers.proofs.Ends.{end-done}

-- ---- the entries of a slot

length_seen : (f : ℕ → Candidate) (es : List ℕ) → length (map f es) ≡ length es
length_seen f [] = refl
length_seen f (e ∷ es) = ap suc (length_seen f es)

seen-from : (f : ℕ → Candidate) (es : List ℕ) (j : ℕ) → j < length es → drop j (map f es) ≡ f (get_or es j 0) ∷ drop (suc j) (map f es)
seen-from f es j h =
    drop-cons (map f es) j (f 0) (omega (arith, length_seen f es))
    ∙ ap (λ (x : Candidate). x ∷ drop (suc j) (map f es)) (get_or-map f es j 0)

seen-out : (f : ℕ → Candidate) (es : List ℕ) (j : ℕ) → j ≡ length es → drop j (map f es) ≡ []
seen-out f es j is = ap (λ (n : ℕ). drop n (map f es)) (is ∙ sym (length_seen f es)) ∙ drop-length (map f es)

at-below : {n : ℕ} (es : List ℕ) (j : ℕ) → AllBelow n es → j < length es → get_or es j 0 < n
unfolding AllBelow
at-below [] j b h = absurd (omega arith)
at-below (e ∷ es) zero b h = b.0
at-below (e ∷ es) (suc j) b h = at-below es j b.1 (omega arith)

module _ {m₀ m : List ℕ} {s : ℕ} (ready : SlotReady m₀ s) (x : Extends m₀ m) where
  pub slot_kept : slot_at m s ≡ slot_at m₀ s
  slot_kept =
      let few = ready.tables.few in
      let there = ready.there in
      slot_same m₀ m s (λ at l u. x.tables.words at (omega arith) (omega arith)) (λ at l u. x.tables.words at (omega arith) (omega arith))

  pub still-there : s < table_count m
  still-there = omega (arith, x.tables.count, ready.there)

  pub still_kept : Kept m
  still_kept = record { long = x.holds.long; few = omega (arith, x.tables.count, ready.tables.few) }

  pub still-entries : length (slot_at m s).entries ≡ length (slot_at m₀ s).entries
  still-entries = ap (λ (t : Slot). length t.entries) slot_kept

  -- an entry that was read in the later memory
  pub entry-was : (j : ℕ) {e : ℕ} → e ≡ get_or (slot_at m s).entries j 0 → e ≡ get_or (slot_at m₀ s).entries j 0
  entry-was j is = is ∙ ap (λ (t : Slot). get_or t.entries j 0) slot_kept

  entry-node : {e j : ℕ} → e ≡ get_or (slot_at m₀ s).entries j 0 → j < length (slot_at m₀ s).entries → e < node_count m₀
  entry-node {e} {j} is l = omega (arith, is, at-below (slot_at m₀ s).entries j ready.below l)

  pub entry-below : {e j : ℕ} → e ≡ get_or (slot_at m₀ s).entries j 0 → j < length (slot_at m₀ s).entries → e < node_count m
  entry-below is l = omega (arith, entry-node is l, x.grows.more)

-- ---- the casts

abbrev casting : Context → Probs → (number : ℕ) → Candidate → definition.Table → M definition.Table
casting c p number x = inserted_if_typed c p (cast_no c number x)

-- the casts of the entries after entry j
abbrev after : Context → Probs → (s number : ℕ) → (pol m : List ℕ) → (j : ℕ) → definition.Table → M definition.Table
after c p s number pol m j t = for_each (casting c p number) (drop (suc j) (slot_table pol m s)) t

-- before entry j, in memory m, with the table t
pub record Entries (c : Context) (p : Probs) (s number : ℕ) (t₀ : Table) (m₀ : List ℕ) (j : ℕ) (t : Table) (m : List ℕ) : Type 0 where
  pub says : (pol : List ℕ) (ts : List Stored) →
      for_each (λ x. inserted_if_typed c p (cast_no c number x)) (drop j (slot_table pol m₀ s)) (seen_table pol m t) (state_of m ts)
      ≡ for_each (λ x. inserted_if_typed c p (cast_no c number x)) (slot_table pol m₀ s) (seen_table pol m₀ t₀) (state_of m₀ ts)
  pub extends : Extends m₀ m
  pub table : TableHolds m t

module _ (c : Context) (p : Probs) {s number : ℕ} {t₀ : Table} {m₀ : List ℕ} where
  pub entries-begin : Holds m₀ → TableHolds m₀ t₀ → Entries c p s number t₀ m₀ 0 t₀ m₀
  entries-begin holds table = record { says = λ pol ts. refl; extends = extends-refl holds; table = table }

  pub entries-end : {r : Closed} {m : List ℕ} {j : ℕ} → Entries c p s number t₀ m₀ j r.table m → r.end ≡ Ok tt → j ≡ length (slot_at m₀ s).entries →
      InsertedCasts c p s number t₀ r m₀ m
  entries-end {r} {m} {j} i end is =
      record {
        says =
            λ pol ts.
            sym (i.says pol ts)
            ∙ ap (λ (xs : definition.Table). for_each (casting c p number) xs (seen_table pol m r.table) (state_of m ts))
            (seen-out (seen pol m₀) (slot_at m₀ s).entries j is)
            ∙ for_each-none (casting c p number) (seen_table pol m r.table) (state_of m ts)
            ∙ sym (ap (λ (end : Result (Unit {0}) Refusal). answer end (seen_table pol m r.table) (state_of m ts)) end);
        extends = i.extends;
        table = i.table;
      }

  module _ (ready : SlotReady m₀ s) {t : Table} {m : List ℕ} {j : ℕ} (i : Entries c p s number t₀ m₀ j t m) {e : ℕ}
      (is : e ≡ get_or (slot_at m₀ s).entries j 0) (l : j < length (slot_at m₀ s).entries) {r : Closed} {m' : List ℕ}
      (one : InsertedCast c p e number t r m m') where
    -- the entry as it stands in the later memory
    entry_seen : (pol : List ℕ) → seen pol m₀ (get_or (slot_at m₀ s).entries j 0) ≡ seen pol m e
    entry_seen pol =
        ap (seen pol m₀) (sym is) ∙ sym (seen-kept ready.nodes i.extends.grows pol e (entry-node ready i.extends is l))

    -- the next entry, then the others
    step : (pol : List ℕ) (ts : List Stored) →
        for_each (casting c p number) (drop j (slot_table pol m₀ s)) (seen_table pol m t) (state_of m ts)
        ≡ then (answer r.end (seen_table pol m' r.table) (state_of m' ts)) (after c p s number pol m₀ j)
    step pol ts =
        ap (λ (xs : definition.Table). for_each (casting c p number) xs (seen_table pol m t) (state_of m ts))
        (seen-from (seen pol m₀) (slot_at m₀ s).entries j l)
        ∙ for_each-next (casting c p number) (seen pol m₀ (get_or (slot_at m₀ s).entries j 0)) (drop (suc j) (slot_table pol m₀ s))
        (seen_table pol m t) (state_of m ts)
        ∙ ap (λ (x : Candidate). then (casting c p number x (seen_table pol m t) (state_of m ts)) (after c p s number pol m₀ j)) (entry_seen pol)
        ∙ ap (λ (a : Res definition.Table). then a (after c p s number pol m₀ j)) (one.says pol ts)

    entries-refused : {n : Refusal} → r.end ≡ Err n → InsertedCasts c p s number t₀ (closed r.table (Err n)) m₀ m'
    entries-refused end =
        record {
          says =
              λ pol ts.
              sym (i.says pol ts)
              ∙ step pol ts
              ∙ then-refused (after c p s number pol m₀ j) (ap (λ (end : Result (Unit {0}) Refusal). answer end (seen_table pol m' r.table) (state_of m' ts)) end);
          extends = extends-trans i.extends one.extends;
          table = one.table;
        }

    pub entries-stop : is_err r.end ≡ true → InsertedCasts c p s number t₀ r m₀ m'
    entries-stop = by_end r.end refl
      where
        by_end : (end : Result (Unit {0}) Refusal) → r.end ≡ end → is_err end ≡ true → InsertedCasts c p s number t₀ (closed r.table end) m₀ m'
        by_end (Ok tt) is e = absurd (true≢false (sym e))
        by_end (Err n) is e = entries-refused is

    pub entries-go-on : is_err r.end ≡ false → Entries c p s number t₀ m₀ (j + 1) r.table m'
    entries-go-on well =
        let end = end-done r.end well in
        record {
          says =
              λ pol ts.
              ap (λ (n : ℕ). for_each (casting c p number) (drop n (slot_table pol m₀ s)) (seen_table pol m' r.table) (state_of m' ts)) (add-one j)
              ∙ sym (step pol ts
              ∙ then-done (after c p s number pol m₀ j) (ap (λ (end : Result (Unit {0}) Refusal). answer end (seen_table pol m' r.table) (state_of m' ts)) end))
              ∙ i.says pol ts;
          extends = extends-trans i.extends one.extends;
          table = one.table;
        }
