-- The searches of a stage, one after another, and a stage: its searches, then its pairings. One lemma for each way out of `search_all` and
-- `stage`, and what their calls ask for. Assumes nothing.
use Rattle.refusals.specs.declared.Refusal.{Refusal}
use Rattle.std.specs.Prelude.{Float, Option, Result, Ok, Err}
use mathlib.Core.Path.{◌≡◌, refl, sym, ap, ◌∙◌, subst}
use mathlib.Core.Bool.{Bool, true, false}
use mathlib.Core.List.{List, [], ◌∷◌, ◌++◌, map}
use Prim.Native.Nat.{ℕ, ◌+◌, ◌<◌, ◌≤◌}
use native.Mathlib.Omega.{arith}
use borrow.Author.Tests.{eqb-false}
use lib.Dec.{eqb}
use lib.ListN.{length, get_or, drop, take, set}
use lib.Seq.{get_or-take, length-take-le}
use Rattle.contexts.specs.declared.Context.{Context}
use Rattle.policies.specs.Array.{policy_at}
use Rattle.writing.specs.WellFormed.{AllBelow}
use Rattle.definition.specs.Tables.{Probs, probs, Table}
use Rattle.definition.specs.Refusals.{State, Res, done, refused, then, pure}
use Rattle.definition.specs.Search.{Again, search}
use Rattle.definition_laws.proofs.Steps.{then-done, then-refused}
use Rattle.memory.specs.Layout.{table_count}
use Rattle.table.specs.Inserted.{seen_table}
use Rattle.closure.specs.declared.Closed.{Closed}
use Rattle.closure.specs.Closed.{answer}
use Rattle.closure.proofs.Offering.{closed}
use Rattle.search_state.specs.State.{Ready, Onward, Paid, state_in, slot_table}
use Rattle.search_state.specs.Recalled.{table_answer, IsSlot, Searched, Tabled}
use Rattle.search_state.proofs.Growing.{onward-refl, onward-trans, onward-table, onward-holds}
use Rattle.search_state.proofs.Chains.{paid-refl, paid-after, room-kept, room-below, searched-done, searched-refused}
use Rattle.stages.specs.declared.Ask.{Ask}
use Rattle.stages.specs.declared.Pairing.{Pairing}
use Rattle.stages.specs.Stages.{asked, ask_all, False, table_no, paired, pair_all, staged}
use Rattle.stages.proofs.Stages.{then_same, ask-end, ask-on-done, ask-on-refused, staged-is}
use Rattle.pairing.proofs.Numbered.{map_at}
use Rattle.pairing.proofs.Turns.{tables-kept, ready-paired, slots_next, tables-next}
use Rattle.search.specs.Searching.{Going, Doing, Lighter, AllLighter, asked_answer, AskedAll, PlacesIn, AllPlaced, AllPaired}
use Rattle.search.proofs.Asking.{lighter-at}
use Rattle.search.proofs.Steps.{not-both}
use Rattle.search.proofs.Wrapping.{starts}
use Rattle.search.proofs.Pairing.{places-within}

-- ---- searches in a row

-- before search number j, in memory m: the tables of the slots so far and those still to come are the tables of all searches
pub record Asking (C : Context) (pol : List ℕ) (asks : List Ask) (n : ℕ) (m₀ : List ℕ) (j : ℕ) (slots m : List ℕ) : Type 0 where
  pub says : then (ask_all C pol (drop j (take n asks)) (state_in pol m)) (λ ts. pure (map (slot_table pol m) (take j slots) ++ ts))
      ≡ ask_all C pol (take n asks) (state_in pol m₀)
  pub ready : Ready pol m
  pub onward : Onward m₀ m
  pub below : AllBelow (table_count m) (take j slots)
  pub paid : Paid 0 m₀ m

module _ (C : Context) {pol : List ℕ} (asks : List Ask) (n : ℕ) {m₀ : List ℕ} where
  pub asking-begins : Ready pol m₀ → (slots : List ℕ) → Asking C pol asks n m₀ 0 slots m₀
  unfolding then AllBelow
  asking-begins ready slots =
      record {
        says = over (ask_all C pol (take n asks) (state_in pol m₀));
        ready = ready;
        onward = onward-refl m₀;
        below = tt;
        paid = paid-refl m₀;
      }
    where
      over : (a : Res (List Table)) → then a (λ ts. pure ts) ≡ a
      over (done ts s) = refl
      over (refused e) = refl

  module _ (few : n ≤ length asks) (j : ℕ) (slots : List ℕ) {m : List ℕ} (i : Asking C pol asks n m₀ j slots m) where
    sofar : List Table
    sofar = map (slot_table pol m) (take j slots)

    pub asking-ends : n ≤ j → j ≤ n → AskedAll C pol asks n (Ok slots) m₀ m
    unfolding sofar
    asking-ends ge le =
        let is : j ≡ n = omega arith in
        record {
          says =
              sym i.says
              ∙ ask-end C pol (λ ts. pure ts) sofar (take n asks) j (state_in pol m) (is ∙ sym (length-take-le n asks few))
              ∙ ap (λ (j : ℕ). done (map (slot_table pol m) (take j slots)) (state_in pol m)) is;
          ready = i.ready;
          onward = i.onward;
          below =
              λ slots' e.
              let same : slots ≡ slots' = cc in
              subst (λ (s : List ℕ). AllBelow (table_count m) (take n s)) same
              (subst (λ (j : ℕ). AllBelow (table_count m) (take j slots)) is i.below);
          paid = λ slots' e. i.paid;
        }

    module _ (l : j < n) {a : Ask} (d : Ask) (is : a ≡ get_or asks j d) where
      next-is : get_or (take n asks) j d ≡ a
      next-is = get_or-take n asks j d l ∙ sym is

      -- what the next search asks for
      pub asking-going : {r : ℕ} {dissat : Option Float} → Going 1 pol r dissat m₀ → AllLighter pol r dissat (take n asks)
          → Going 0 pol a.r a.dissat m
      asking-going {r} {dissat} h lighter =
          let light : Lighter pol r dissat a =
          subst (Lighter pol r dissat) next-is (lighter-at (take n asks) lighter j d (omega (arith, length-take-le n asks few))) in
          record {
            classed = h.classed;
            named = light.named;
            formed = light.formed;
            ready = i.ready;
            room =
                room-below (policy_at pol r) (policy_at pol a.r) dissat a.dissat m light.falls
                (room-kept 1 (policy_at pol r) dissat m₀ m h.room i.paid);
          }

      module _ {out : Result ℕ Refusal} {m' : List ℕ} (one : Searched (search C (policy_at pol a.r) (probs a.sat a.dissat)
          (state_in pol m)) pol out m m') where
        first-is : asked C pol (get_or (take n asks) j d) (state_in pol m) ≡ search C (policy_at pol a.r) (probs a.sat a.dissat) (state_in pol m)
        first-is = ap (λ (a : Ask). asked C pol a (state_in pol m)) next-is

        pub asking-refused : {e : Refusal} → out ≡ Err e → AskedAll C pol asks n (Err e) m₀ m'
        unfolding sofar
        asking-refused {e} was =
            record {
              says =
                  sym i.says
                  ∙ ask-on-refused C pol (λ ts. pure ts) sofar (take n asks) j d (state_in pol m) (omega (arith, length-take-le n asks few))
                  (first-is ∙ searched-refused one e was);
              ready = one.ready;
              onward = onward-trans i.onward one.onward;
              below = λ s d. absurd (not-both d);
              paid = λ s d. absurd (not-both d);
            }

        pub asking-goes-on : j < length slots → {s : ℕ} → out ≡ Ok s → Asking C pol asks n m₀ (j + 1) (set slots j s) m'
        unfolding sofar
        asking-goes-on room {s} was =
            let there : s < table_count m' = subst (IsSlot m') was one.slot in
            let tables : map (slot_table pol m') (take (j + 1) (set slots j s)) ≡ sofar ++ (slot_table pol m' s ∷ []) =
            tables-next slots j s room (slot_table pol m')
            ∙ ap (λ (ts : List Table). ts ++ (slot_table pol m' s ∷ [])) (tables-kept i.ready one.onward (take j slots) i.below) in
            record {
              says =
                  ap (λ (l : List Table). then (ask_all C pol (drop (j + 1) (take n asks)) (state_in pol m')) (λ ts. pure (l ++ ts))) tables
                  ∙ sym (ask-on-done C pol (λ ts. pure ts) sofar (take n asks) j d (state_in pol m) (omega (arith, length-take-le n asks few))
                  (first-is ∙ searched-done one s was))
                  ∙ i.says;
              ready = one.ready;
              onward = onward-trans i.onward one.onward;
              below = slots_next slots j s room one.onward.more i.below there;
              paid = paid-after 0 m₀ m m' i.paid (one.paid s was);
            }

-- ---- the places of pairings

-- more tables than the pairings name
module _ (f : ℕ → Table) (slots : List ℕ) (n : ℕ) (few : n ≤ length slots) where
  same-table : (place : ℕ) → ((place ≡ False → ⊥) → place < n) → table_no (map f (take n slots)) place ≡ table_no (map f slots) place
  same-table place low = by-test (eqb place False) refl
    where
      by-test : (b : Bool) → eqb place False ≡ b → table_no (map f (take n slots)) place ≡ table_no (map f slots) place
      by-test true e = rw e
      by-test false e =
          let l : place < n = low (eqb-false place False e) in
          rw e
          (map_at f (take n slots) place 0 [] (omega (arith, length-take-le n slots few))
          ∙ ap f (get_or-take n slots place 0 l)
          ∙ sym (map_at f slots place 0 [] (omega arith)))

  same-pairing : (C : Context) (p : Probs) (g : Again) (a : Pairing) → PlacesIn n a → (t : Table) (s : State)
      → paired C p g (map f (take n slots)) a t s ≡ paired C p g (map f slots) a t s
  same-pairing C p g a h t s =
      rw (same-table a.first h.first, same-table a.second h.second, same-table a.third h.third)

  same-pairings : (C : Context) (p : Probs) (g : Again) (as' : List Pairing) → AllPlaced n as' → (t : Table) (s : State)
      → pair_all C p g (map f (take n slots)) as' t s ≡ pair_all C p g (map f slots) as' t s
  unfolding pair_all AllPlaced
  same-pairings C p g [] h t s = refl
  same-pairings C p g (a ∷ as') h t s =
      ap (λ (r : Res Table). then r (λ t. pair_all C p g (map f (take n slots)) as' t)) (same-pairing C p g a h.0 t s)
      ∙ then_same (paired C p g (map f slots) a t s) (λ t. pair_all C p g (map f (take n slots)) as' t) (λ t. pair_all C p g (map f slots) as' t)
      (λ t s. same-pairings C p g as' h.1 t s)

all-paired : {pol m : List ℕ} → Ready pol m → (slots : List ℕ) (n : ℕ) → n ≤ length slots → n ≤ 8 → AllBelow (table_count m) (take n slots)
    → (as' : List Pairing) → AllPlaced n as' → AllPaired m slots as'
unfolding AllPlaced AllPaired
all-paired ready slots n few most below [] h = tt
all-paired ready slots n few most below (a ∷ as') h =
    (ready-paired ready slots n few most below a (places-within n a h.0), all-paired ready slots n few most below as' h.1)

-- ---- a stage

module _ (C : Context) (p : Probs) (g : Again) {pol : List ℕ} {r : ℕ} {dissat : Option Float} {c : Closed} {m₀ : List ℕ} (h : Doing pol r dissat c m₀)
    (e : c.end ≡ Ok tt) (asks : List Ask) (n : ℕ) (pairings : List Pairing) {a : Result (List ℕ) Refusal} {m₁ : List ℕ} (all : AskedAll C pol asks n a m₀ m₁) where
  answer-is : {answer : Result (List ℕ) Refusal} → a ≡ answer → ask_all C pol (take n asks) (state_in pol m₀) ≡ asked_answer pol m₁ n answer
  answer-is is = all.says ∙ ap (asked_answer pol m₁ n) is

  pub stage-refused : {no : Refusal} → a ≡ Err no
      → Tabled 0 (then (table_answer pol m₀ c) (λ t. staged C pol p g (take n asks) pairings t)) pol (closed c.table (Err no)) m₀ m₁
  stage-refused {no} is =
      starts h (λ t. staged C pol p g (take n asks) pairings t) e
      (record {
        says =
            staged-is C pol p g (take n asks) pairings (seen_table pol m₀ c.table) (state_in pol m₀)
            ∙ then-refused (λ ts. pair_all C p g ts pairings (seen_table pol m₀ c.table)) (answer-is is);
        ready = all.ready;
        onward = all.onward;
        table = onward-holds h.ready all.onward c.table h.table;
        paid = λ d. absurd (not-both d);
      })

  module _ {slots : List ℕ} (is : a ≡ Ok slots) where
    -- what the pairings ask for
    pub stage-doing : Doing pol r dissat c m₁
    stage-doing =
        record {
          classed = h.classed;
          named = h.named;
          formed = h.formed;
          ready = all.ready;
          table = onward-holds h.ready all.onward c.table h.table;
          room = λ d. room-kept 1 (policy_at pol r) dissat m₀ m₁ (h.room e) (all.paid slots is);
        }

    module _ (few : n ≤ length slots) (placed : AllPlaced n pairings) where
      pub stage-paired : n ≤ 8 → AllPaired m₁ slots pairings
      stage-paired most = all-paired all.ready slots n few most (all.below slots is) pairings placed

      pub stage-done : {o : Closed} {m : List ℕ}
          → Tabled 0
          (then (table_answer pol m₁ c) (λ t. pair_all C p g (map (slot_table pol m₁) slots) pairings t)) pol o m₁ m
          → Tabled 0 (then (table_answer pol m₀ c) (λ t. staged C pol p g (take n asks) pairings t)) pol o m₀ m
      unfolding then
      stage-done {o} {m} done-pairs =
          starts h (λ t. staged C pol p g (take n asks) pairings t) e
          (record {
            says =
                staged-is C pol p g (take n asks) pairings (seen_table pol m₀ c.table) (state_in pol m₀)
                ∙ then-done (λ ts. pair_all C p g ts pairings (seen_table pol m₀ c.table)) (answer-is is)
                ∙ same-pairings (slot_table pol m₁) slots n few C p g pairings placed (seen_table pol m₀ c.table) (state_in pol m₁)
                ∙ ap (λ (t : Table). pair_all C p g (map (slot_table pol m₁) slots) pairings t (state_in pol m₁))
                (sym (onward-table h.ready all.onward c.table h.table))
                ∙ sym (then-done (λ t. pair_all C p g (map (slot_table pol m₁) slots) pairings t)
                (ap (λ (e : Result (Unit {0}) Refusal). answer e (seen_table pol m₁ c.table) (state_in pol m₁)) e))
                ∙ done-pairs.says;
            ready = done-pairs.ready;
            onward = onward-trans all.onward done-pairs.onward;
            table = done-pairs.table;
            paid = λ d. paid-after 0 m₀ m₁ m (all.paid slots is) (done-pairs.paid d);
          })
