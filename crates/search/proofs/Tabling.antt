-- The table of a Thresh by its steps: its children's bests, the Thresh itself, the Multi of its keys, and the Ands that it folds to.
-- Assumes nothing.
use Rattle.refusals.specs.declared.Refusal.{Refusal}
use mathlib.Core.Bool.{Bool, true, false, cond}
use mathlib.Core.Path.{◌≡◌, refl, sym, ap, ◌∙◌, subst}
use mathlib.Core.List.{List, [], map}
use Rattle.std.specs.Prelude.{Option, Result, Ok, Err}
use Prim.Native.Nat.{ℕ, suc, ◌-◌, ◌<◌, ◌≤◌}
use native.Mathlib.Omega.{arith}
use borrow.Author.Tests.{eq-eqb, ne_eqb}
use lib.Ieee.{Float, inf}
use lib.ListN.{length, take, length-map}
use Rattle.contexts.specs.declared.Context.{Context}
use Rattle.costs.specs.Arithmetic.{◌⊗◌, ◌⊘◌, float_of}
use Rattle.policies.specs.Policy.{Policy, Policies, end, ◌▹◌, Thresh, to_list, from_list, folded}
use Rattle.policies.specs.Forms.{number_of, children_of}
use Rattle.policies.specs.Array.{policy_at}
use Rattle.policies.proofs.Forms.{is-thresh, to-from}
use Rattle.candidates.specs.declared.Candidate as node
use Rattle.candidates.specs.declared.NotMade.{NotMade}
use Rattle.writing.specs.WellFormed.{AllBelow}
use Rattle.definition.specs.Candidates as definition
use Rattle.definition.specs.Candidates.{Candidate, multi, thresh_of}
use Rattle.definition.specs.Tables.{Probs, probs, Table}
use Rattle.definition.specs.Refusals.{M, State, state, Stored, Res, done, then}
use Rattle.definition.specs.Search.{Again, Searcher, search_of, search, searcher, searchers, wrapped, wrapped_if_made, multi_of, keys_of}
use Rattle.definition.specs.Search.{fold_ands, folded_or, Best, bests, most_gaining, arranged}
use Rattle.definition_laws.specs.Bodies.{again_in, body_in}
use Rattle.definition_laws.proofs.Steps.{then-done, then-refused, then-then, searchers-none, searchers-next, thresh_body-steps, child_probs, fold-searcher}
use Rattle.memory.specs.Layout.{node_count, row_count, table_count, max_rows}
use Rattle.nodes.specs.Views.{seen_all, offered}
use Rattle.cache.specs.Slots.{slot_at}
use Rattle.table.specs.declared.Table as code-table
use Rattle.table.specs.Rows.{Rows, TableHolds}
use Rattle.table.specs.Inserted.{seen_table}
use Rattle.closure.specs.declared.Closed.{Closed}
use Rattle.closure.specs.Closed.{answer}
use Rattle.search_state.specs.State.{stored_all, state_in, Ready, Onward, Paid}
use Rattle.search_state.specs.Recalled.{table_answer, IsSlot, Searched, Tabled}
use Rattle.search_state.proofs.Growing.{onward-trans, onward-holds, appended-onward, appended-stored}
use Rattle.search_state.proofs.Chains.{tabled-then, searched-done, searched-refused}
use Rattle.choice.specs.Arranged.{bests_of, Gains, Arranges}
use Rattle.choice.specs.Keys.{keys_if, AllKeys, MultiOf}
use Rattle.nodes.specs.Offers.{made_seen}
use Rattle.choice.specs.Threshes.{MakesThresh}
use Rattle.search.specs.declared.Bests.{Bests}
use Rattle.offers.specs.Offering.{Empty}
use Rattle.search.specs.Searching.{IsThresh, Going, Doing, OffersIfMade, child_searchers, child_dissat, bests_answer, FoundBests}
use Rattle.stages.proofs.Stages.{then_same}
use Rattle.search.proofs.Steps.{not-both, tabled-as, table_stays}
use Rattle.search.proofs.Bodies.{body-of, empty-then, empty_holds}

-- ---- a Thresh and its children

thresh-of : {q : Policy} {k n : ℕ} → IsThresh q k n → q ≡ Thresh k (from_list (children_of q))
thresh-of {q} is = is-thresh q is.is_thresh ∙ ap (λ (k : ℕ). Thresh k (from_list (children_of q))) is.is_k

child-count : {q : Policy} {k n : ℕ} → IsThresh q k n → length (to_list (from_list (children_of q))) ≡ n
child-count {q} is = ap length (to-from (children_of q)) ∙ is.is_n

length-searchers : (c : Context) (xs : Policies) → length (searchers c xs) ≡ length (to_list xs)
unfolding to_list
length-searchers c end = ap length (searchers-none c)
length-searchers c (x ▹ xs) = ap length (searchers-next c x xs) ∙ ap suc (length-searchers c xs)

-- ---- the Multi of keys

module _ (c : Context) (p : Probs) (g : Again) (pol : List ℕ) (r : ℕ) {k n : ℕ} (is : IsThresh (policy_at pol r) k n) (t : Closed) where
  keys-known : {b b' : Bool} → b ≡ b' → AllKeys (policy_at pol r) b
      → keys_of (child_searchers c (policy_at pol r)) ≡ keys_if b' (from_list (children_of (policy_at pol r)))
  keys-known e keys =
      keys.says c k (from_list (children_of (policy_at pol r))) (thresh-of is)
      ∙ ap (λ (b : Bool). keys_if b (from_list (children_of (policy_at pol r)))) e

  -- the Multi is wrapped
  pub multi-wrapped : {b : Bool} {x : node.Candidate} {o : Closed} {m₀ m : List ℕ} → b ≡ true → AllKeys (policy_at pol r) b → MultiOf c r k n x
      → Tabled 0 (then (table_answer pol m₀ t) (λ t. wrapped c p g (offered pol m₀ x) t)) pol o m₀ m
      → Tabled 0 (then (table_answer pol m₀ t) (λ t. multi_of c p g k (keys_of (child_searchers c (policy_at pol r))) t)) pol o m₀ m
  multi-wrapped {b} {x} {o} {m₀} {m} e keys multi-of h =
      let xs : Policies = from_list (children_of (policy_at pol r)) in
      let as_many : length (map number_of (to_list xs)) ≡ n = length-map (to_list xs) number_of ∙ child-count is in
      let seen-so : offered pol m₀ x ≡ multi c k (map number_of (to_list xs)) =
      multi-of.says pol m₀ xs (map number_of (to_list xs)) (thresh-of is) refl as_many in
      tabled-as
      (then_same (table_answer pol m₀ t) (λ t. wrapped c p g (offered pol m₀ x) t)
      (λ t. multi_of c p g k (keys_of (child_searchers c (policy_at pol r))) t)
      (λ t s.
      ap (λ (y : Candidate). wrapped c p g y t s) seen-so
      ∙ ap (λ (ks : Option (List ℕ)). multi_of c p g k ks t s) (sym (keys-known e keys))))
      h

  -- not all are keys
  pub multi-none : {b : Bool} {m : List ℕ} → b ≡ false → AllKeys (policy_at pol r) b → Ready pol m → TableHolds m t.table
      → Tabled 0 (then (table_answer pol m t) (λ t. multi_of c p g k (keys_of (child_searchers c (policy_at pol r))) t)) pol t m m
  multi-none {b} e keys ready holds =
      table_stays t (λ t. multi_of c p g k (keys_of (child_searchers c (policy_at pol r))) t) ready holds
      (λ t s. ap (λ (ks : Option (List ℕ)). multi_of c p g k ks t s) (keys-known e keys))

-- ---- the Ands that it folds to

module _ (c : Context) (p : Probs) (k : ℕ) (t : Table) (s : State) where
  folded-other : (xs : Policies) → (k ≡ length (to_list xs) → ⊥) → folded_or c p k (searchers c xs) t s ≡ done t s
  unfolding to_list
  folded-other end ne = ap (λ (us : List Searcher). folded_or c p k us t s) (searchers-none c)
  folded-other (x ▹ xs) ne =
      let l : length (searchers c xs) ≡ length (to_list xs) = length-searchers c xs in
      ap (λ (us : List Searcher). folded_or c p k us t s) (searchers-next c x xs)
      ∙ ap (λ (b : Bool). cond b (search_of (fold_ands c (searcher c x) (searchers c xs)) p) (λ s. done t s) s)
      (ne_eqb k (suc (length (searchers c xs))) (λ e. ne (e ∙ ap suc l)))

  folded-same : (xs : Policies) → k ≡ length (to_list xs) → 1 ≤ length (to_list xs) → folded_or c p k (searchers c xs) t s ≡ search c (folded xs) p s
  unfolding to_list folded
  folded-same end e has = absurd (omega arith)
  folded-same (x ▹ xs) e has =
      let l : length (searchers c xs) ≡ length (to_list xs) = length-searchers c xs in
      ap (λ (us : List Searcher). folded_or c p k us t s) (searchers-next c x xs)
      ∙ ap (λ (b : Bool). cond b (search_of (fold_ands c (searcher c x) (searchers c xs)) p) (λ s. done t s) s)
      (eq-eqb k (suc (length (searchers c xs))) (e ∙ ap suc (sym l)))
      ∙ ap (λ (u : Searcher). search_of u p s) (fold-searcher c x xs)

module _ (c : Context) (p : Probs) {q : Policy} {k n : ℕ} (is : IsThresh q k n) (t : Closed) where
  -- k ≠ n: the table stays
  pub fold_stays : {pol m : List ℕ} → (k ≡ n → ⊥) → Ready pol m → TableHolds m t.table
      → Tabled 0 (then (table_answer pol m t) (λ t. folded_or c p k (child_searchers c q) t)) pol t m m
  fold_stays ne ready holds =
      table_stays t (λ t. folded_or c p k (child_searchers c q) t) ready holds
      (λ t s. folded-other c p k t s (from_list (children_of q)) (λ e. ne (e ∙ child-count is)))

  -- k = n: the table is the one that the search of the Ands finds
  module _ {pol m₀ m : List ℕ} (f : ℕ) {out : Result ℕ Refusal} (same : k ≡ n) (has : 1 ≤ n) (was-done : t.end ≡ Ok tt)
      (folds : policy_at pol f ≡ folded (from_list (children_of q))) (h : Searched (search c (policy_at pol f) p (state_in pol m₀)) pol out m₀ m) where
    fold-search : then (table_answer pol m₀ t) (λ t. folded_or c p k (child_searchers c q) t) ≡ search c (policy_at pol f) p (state_in pol m₀)
    fold-search =
        then-done (λ t. folded_or c p k (child_searchers c q) t)
        (ap (λ (e : Result (Unit {0}) Refusal). answer e (seen_table pol m₀ t.table) (state_in pol m₀)) was-done)
        ∙ folded-same c p k (seen_table pol m₀ t.table) (state_in pol m₀) (from_list (children_of q)) (same ∙ sym (child-count is))
        (omega (arith, child-count is))
        ∙ ap (λ (q : Policy). search c q p (state_in pol m₀)) (sym folds)

    pub fold-found : (s : ℕ) → out ≡ Ok s → {table : code-table.Table} → Rows table (slot_at m s).entries
        → Tabled 0 (then (table_answer pol m₀ t) (λ t. folded_or c p k (child_searchers c q) t)) pol (record { table = table; end = Ok tt }) m₀ m
    fold-found s e {table} rows =
        let there : s < table_count m = subst (IsSlot m) e h.slot in
        record {
          says =
              fold-search
              ∙ searched-done h s e
              ∙ ap (λ (es : List ℕ). done (seen_all pol m es) (state_in pol m)) (sym rows.are);
          ready = h.ready;
          onward = h.onward;
          table = record { few = rows.few; below = subst (AllBelow (node_count m)) (sym rows.are) (h.ready.slots s there).below };
          paid = λ d. h.paid s e;
        }

    pub fold-refused : (x : Refusal) → out ≡ Err x → Ready pol m₀ → (o : Closed) → o.end ≡ Err x → TableHolds m₀ o.table
        → Tabled 0 (then (table_answer pol m₀ t) (λ t. folded_or c p k (child_searchers c q) t)) pol o m₀ m
    fold-refused x e ready o e' holds =
        record {
          says =
              fold-search
              ∙ searched-refused h x e
              ∙ sym (ap (λ (e : Result (Unit {0}) Refusal). answer e (seen_table pol m o.table) (state_in pol m)) e');
          ready = h.ready;
          onward = h.onward;
          table = onward-holds ready h.onward o.table holds;
          paid = λ d. absurd (not-both (sym e' ∙ d));
        }

-- ---- the Thresh itself

-- a row may be added
pub row-free : {pol : List ℕ} {r : ℕ} {dissat : Option Float} {m : List ℕ} → Going 0 pol r dissat m → row_count m < max_rows
row-free g = omega (arith, g.room, g.ready.tables.few)

module _ {c : Context} {r k n : ℕ} {row m₀ m : List ℕ} {x : Result node.Candidate NotMade} (makes : MakesThresh c r k n row m₀ m x) where
  thresh-onward : {pol : List ℕ} → Ready pol m₀ → Ready pol m × Onward m₀ m
  thresh-onward ready = appended-onward ready makes.holds makes.grows makes.tables

  -- the definition knows of no row
  thresh-state : {pol : List ℕ} → Ready pol m₀ → state_in pol m₀ ≡ state_in pol m
  thresh-state {pol} ready =
      ap (λ (n : ℕ). state (n - 2) (stored_all pol m₀)) (sym makes.count)
      ∙ ap (λ (ts : List Stored). state (node_count m - 2) ts) (sym (appended-stored ready makes.holds makes.grows makes.tables))

  thresh-paid : Paid 1 m₀ m
  thresh-paid = omega (arith, makes.rows, makes.tables.count)

  -- work on a table begins with the row that the Thresh may have
  pub thresh-doing : {pol : List ℕ} {number : ℕ} {dissat : Option Float} {none : Closed} → Going 0 pol number dissat m₀ → Empty none
      → Doing pol number dissat none m
  thresh-doing {pol} {number} {dissat} g nothing =
      let paid : Paid 1 m₀ m = thresh-paid in
      record {
        classed = g.classed;
        named = g.named;
        formed = g.formed;
        ready = (thresh-onward g.ready).0;
        table = empty_holds nothing m;
        room = λ e. omega (arith, g.room);
      }

  pub thresh-offers : OffersIfMade m x
  thresh-offers = record { offers = makes.offers }

-- ---- all of it

-- what is done once the bests are known
abbrev pub after_bests : Context → Probs → Again → ℕ → List Searcher → Probs → List Best → M Table
after_bests c p g k us child bs s =
    then (wrapped_if_made c p g (thresh_of c k (arranged (most_gaining child 0 0 (inf false) bs) bs)) [] s) λ t s.
    then (multi_of c p g k (keys_of us) t s) λ t s.
    folded_or c p k us t s

module _ (c : Context) (pol : List ℕ) (r : ℕ) (sat : Float) (dissat : Option Float) {k n : ℕ} (is : IsThresh (policy_at pol r) k n)
    {child_sat : Float} {child_dis : Option Float} (as-sat : child_sat ≡ sat ⊗ (float_of k ⊘ float_of n))
    (as-dissat : child_dis ≡ child_dissat dissat (float_of k ⊘ float_of n) sat) where
  child-probs : probs child_sat child_dis ≡ child_probs (probs sat dissat) k n
  child-probs =
      ap (λ (x : Float). probs x child_dis) as-sat ∙ ap (λ (d : Option Float). probs (sat ⊗ (float_of k ⊘ float_of n)) d) as-dissat

  thresh-steps : (s : State) → body_in c (policy_at pol r) (probs sat dissat) s
      ≡ then (bests (probs child_sat child_dis) (child_searchers c (policy_at pol r)) s)
      (after_bests c (probs sat dissat) (again_in c (policy_at pol r) (probs sat dissat)) k (child_searchers c (policy_at pol r))
      (probs child_sat child_dis))
  thresh-steps s =
      let p : Probs = probs sat dissat in
      let g : Again = again_in c (policy_at pol r) p in
      let us : List Searcher = child_searchers c (policy_at pol r) in
      let count : length us ≡ n = length-searchers c (from_list (children_of (policy_at pol r))) ∙ child-count is in
      body-of c p s (thresh-of is)
      ∙ thresh_body-steps c k us p g s
      ∙ ap (λ (x : Probs). then (bests x us s) (after_bests c p g k us x)) (ap (child_probs p k) count ∙ sym child-probs)

  module _ {r' : Result Bests Refusal} {m₀ m₁ : List ℕ} (h : FoundBests c (probs child_sat child_dis) pol (policy_at pol r) n r' m₀ m₁) where
    -- a child was refused
    pub body-thresh-refused : (x : Refusal) → r' ≡ Err x → (o : Closed) → o.end ≡ Err x → TableHolds m₁ o.table
        → Tabled 1 (body_in c (policy_at pol r) (probs sat dissat) (state_in pol m₀)) pol o m₀ m₁
    body-thresh-refused x e o e' holds =
        let us : List Searcher = child_searchers c (policy_at pol r) in
        record {
          says =
              thresh-steps (state_in pol m₀)
              ∙ then-refused
              (after_bests c (probs sat dissat) (again_in c (policy_at pol r) (probs sat dissat)) k us (probs child_sat child_dis))
              (h.says ∙ ap (bests_answer pol m₁ n) e)
              ∙ sym (ap (λ (y : Result (Unit {0}) Refusal). answer y (seen_table pol m₁ o.table) (state_in pol m₁)) e');
          ready = h.ready;
          onward = h.onward;
          table = holds;
          paid = λ d. absurd (not-both (sym e' ∙ d));
        }

    module _ {gaining : ℕ} {row m₂ : List ℕ} {x : Result node.Candidate NotMade} {b : Bests} (e : r' ≡ Ok b)
        (gains : Gains m₁ (probs child_sat child_dis) b.es b.ws n gaining) (arranges : Arranges b.es b.ws n gaining row)
        (makes : MakesThresh c r k n row m₁ m₂ x) where
      made-is : (bs : List Best) → bs ≡ bests_of pol m₁ (take n b.es) (take n b.ws)
          → thresh_of c k (arranged (most_gaining (probs child_sat child_dis) 0 0 (inf false) bs) bs) ≡ made_seen pol m₂ x
      made-is bs known =
          ap (λ (bs : List Best). thresh_of c k (arranged (most_gaining (probs child_sat child_dis) 0 0 (inf false) bs) bs)) known
          ∙ ap (λ (i : ℕ). thresh_of c k (arranged i (bests_of pol m₁ (take n b.es) (take n b.ws)))) (sym (gains.says pol))
          ∙ ap (thresh_of c k) (sym (arranges.says pol m₁))
          ∙ sym (makes.says pol is.is_k is.is_n)

      -- from what is wrapped, the Multi and the fold
      pub body-thresh : {none one two o : Closed} {m₃ m₄ m : List ℕ} → Empty none
          → Tabled 0
          (then (table_answer pol m₂ none)
          (λ t. wrapped_if_made c (probs sat dissat) (again_in c (policy_at pol r) (probs sat dissat)) (made_seen pol m₂ x) t))
          pol one m₂ m₃
          → Tabled 0
          (then (table_answer pol m₃ one)
          (λ t. multi_of c (probs sat dissat) (again_in c (policy_at pol r) (probs sat dissat)) k (keys_of (child_searchers c (policy_at pol r))) t))
          pol two m₃ m₄
          → Tabled 0 (then (table_answer pol m₄ two) (λ t. folded_or c (probs sat dissat) k (child_searchers c (policy_at pol r)) t)) pol o m₄ m
          → Tabled 1 (body_in c (policy_at pol r) (probs sat dissat) (state_in pol m₀)) pol o m₀ m
      body-thresh {none} {one} {two} {o} {m₃} {m₄} {m} nothing h₁ h₂ h₃ =
          let p : Probs = probs sat dissat in
          let g : Again = again_in c (policy_at pol r) p in
          let us : List Searcher = child_searchers c (policy_at pol r) in
          let bs : List Best = bests_of pol m₁ (take n b.es) (take n b.ws) in
          let k₁ : Table → M Table = λ t. wrapped_if_made c p g (made_seen pol m₂ x) t in
          let k₂ : Table → M Table = λ t. multi_of c p g k (keys_of us) t in
          let k₃ : Table → M Table = λ t. folded_or c p k us t in
          let rest : M Table = λ s. then (k₁ [] s) (λ t s. then (k₂ t s) k₃) in
          let all = tabled-then (tabled-then h₁ k₂ h₂) k₃ h₃ in
          let on = (thresh-onward makes h.ready).1 in
          let made-paid : Paid 1 m₁ m₂ = thresh-paid makes in
          let found-paid : Paid 0 m₀ m₁ = h.paid b e in
          record {
            says =
                thresh-steps (state_in pol m₀)
                ∙ then-done (after_bests c p g k us (probs child_sat child_dis))
                (h.says ∙ ap (bests_answer pol m₁ n) e)
                ∙ ap (λ (y : definition.Made). then (wrapped_if_made c p g y [] (state_in pol m₁)) (λ t s. then (k₂ t s) k₃)) (made-is bs refl)
                ∙ ap rest (thresh-state makes h.ready)
                ∙ sym (then-then (k₁ [] (state_in pol m₂)) k₂ k₃)
                ∙ ap (λ (y : Res Table). then (then y k₂) k₃) (sym (empty-then nothing pol m₂ k₁))
                ∙ all.says;
            ready = all.ready;
            onward = onward-trans h.onward (onward-trans on all.onward);
            table = all.table;
            paid = λ d. let last : Paid 0 m₂ m = all.paid d in omega arith;
          }
