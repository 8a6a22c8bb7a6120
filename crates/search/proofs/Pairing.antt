-- All candidates of one pairing, each wrapped, and one pairing after another. One lemma for each way out of `pair` and `pair_all`, and what
-- their calls ask for. Assumes nothing.
use Rattle.std.specs.Prelude.{Float, Option, Ok}
use mathlib.Core.Path.{◌≡◌, refl, sym, ap, ◌∙◌, subst}
use mathlib.Core.Bool.{Bool, true, false}
use mathlib.Core.List.{List, [], ◌∷◌, map}
use Prim.Native.Nat.{ℕ, zero, suc, ◌+◌, ◌<◌, ◌≤◌}
use native.Mathlib.Omega.{arith}
use borrow.Author.Tests.{eqb-false, lt-ltb}
use lib.Arith.{lt_of_le-ne}
use lib.Dec.{eqb}
use lib.ListN.{length, get_or, drop, take}
use lib.Seq.{take-length, get_or-take, length-take-le}
use Rattle.contexts.specs.declared.Context.{Context}
use Rattle.candidates.specs.declared.Candidate as node
use Rattle.candidates.specs.declared.NotMade.{NotMade}
use Rattle.std.specs.Prelude.{Result}
use Rattle.definition.specs.Candidates.{Made, passed_over}
use Rattle.definition.specs.Tables.{Probs, Table}
use Rattle.definition.specs.Refusals.{M, State, Res, done, then}
use Rattle.definition.specs.Search.{Again, wrapped_if_made}
use Rattle.definition_laws.proofs.Steps.{then-then}
use Rattle.closure.specs.declared.Closed.{Closed}
use Rattle.search_state.specs.State.{Onward, Paid, slot_table}
use Rattle.search_state.specs.Recalled.{table_answer, Tabled}
use Rattle.search_state.proofs.Growing.{onward-refl, onward-trans}
use Rattle.search_state.proofs.Chains.{paid-refl, paid-after}
use Rattle.stages.specs.declared.Pairing.{Pairing}
use Rattle.stages.specs.Stages.{False, paired, pair_all}
use Rattle.stages.proofs.Stages.{then_same, pair_end, pair-on}
use Rattle.nodes.specs.Offers.{made_seen}
use Rattle.pairing.specs.Mades.{for_mades, mades_of, count_of, PlaceHolds, Paired, Counted, MadeAt}
use Rattle.pairing.proofs.Turns.{for-end, for-next, within, places_within, paired-mades, paired-kept, mades-kept, count_kept}
use Rattle.search.specs.Searching.{Doing, AllPaired, OffersIfMade, PlacesIn}
use Rattle.search.proofs.Steps.{then-pure}
use Rattle.search.proofs.Wrapping.{was-done, doing-next}

-- ---- work that was handed on and is gone on with

-- some steps still to come, `k`, on what is done by now give what all steps, `k₀`, gave on what was there before the first
pub record GoingOn (pol : List ℕ) (r : ℕ) (dissat : Option Float) (c : Closed) (m₀ : List ℕ) (k₀ k : Table → M Table) (o : Closed)
    (m : List ℕ) : Type 0 where
  pub says : then (table_answer pol m o) k ≡ then (table_answer pol m₀ c) k₀
  pub doing : Doing pol r dissat o m
  pub onward : Onward m₀ m
  pub paid : o.end ≡ (Ok tt) → Paid 0 m₀ m

going-begins : {pol : List ℕ} {r : ℕ} {dissat : Option Float} {c : Closed} {m₀ : List ℕ} → Doing pol r dissat c m₀ → (k : Table → M Table)
    → GoingOn pol r dissat c m₀ k k c m₀
going-begins {m₀ = m₀} h k = record { says = refl; doing = h; onward = onward-refl m₀; paid = λ e. paid-refl m₀ }

module _ {pol : List ℕ} {r : ℕ} {dissat : Option Float} {c : Closed} {m₀ : List ℕ} {k₀ k : Table → M Table} {o : Closed} {m : List ℕ}
    (i : GoingOn pol r dissat c m₀ k₀ k o m) where
  -- one step, `f`, and then the others, `l`
  going_next : (f l : Table → M Table) → ((t : Table) (s : State) → k t s ≡ then (f t s) l) → {o' : Closed} {m' : List ℕ}
      → Tabled 0 (then (table_answer pol m o) f) pol o' m m' → GoingOn pol r dissat c m₀ k₀ l o' m'
  going_next f l step {o'} {m'} one =
      record {
        says =
            ap (λ (a : Res Table). then a l) (sym one.says)
            ∙ then-then (table_answer pol m o) f l
            ∙ sym (then_same (table_answer pol m o) k (λ t s. then (f t s) l) step)
            ∙ i.says;
        doing = doing-next i.doing f one;
        onward = onward-trans i.onward one.onward;
        paid = λ e. paid-after 0 m₀ m m' (i.paid (was-done i.doing f one e)) (one.paid e);
      }

  going-ends : ((t : Table) (s : State) → k t s ≡ done t s) → Tabled 0 (then (table_answer pol m₀ c) k₀) pol o m₀ m
  going-ends none =
      record {
        says = sym i.says ∙ then-pure (table_answer pol m o) k none;
        ready = i.doing.ready;
        onward = i.onward;
        table = i.doing.table;
        paid = i.paid;
      }

-- ---- the places of a pairing

place-within : (n place : ℕ) → ((place ≡ False → ⊥) → place < n) → within n place ≡ true
place-within n place low = by-test (eqb place False) refl
  where
    by-test : (b : Bool) → eqb place False ≡ b → within n place ≡ true
    by-test true e = rw e
    by-test false e = rw (e, lt-ltb place n (low (eqb-false place False e)))

pub places-within : (n : ℕ) (a : Pairing) → PlacesIn n a → places_within n a ≡ true
places-within n a h =
    rw (place-within n a.first h.first, place-within n a.second h.second, place-within n a.third h.third)

-- of a pairing that can be made, among eight slots
paired-places : {m slots : List ℕ} {a : Pairing} → length slots ≡ 8 → Paired m a slots → PlacesIn (length slots) a
paired-places {m} {slots} eight h =
    record { first = low h.first; second = low h.second; third = low h.third }
  where
    low : {place : ℕ} → PlaceHolds m slots place → (place ≡ False → ⊥) → place < length slots
    low {place} h other =
        let less : place < False = lt_of_le-ne h.within other in
        omega arith

-- a pairing is the candidates that it makes, in turn
pairing-mades : (pol : List ℕ) {m slots : List ℕ} {a : Pairing} → length slots ≡ 8 → Paired m a slots
    → (C : Context) (p : Probs) (g : Again) (t : Table)
    (s : State) → paired C p g (map (slot_table pol m) slots) a t s ≡ for_mades (wrapped_if_made C p g) (mades_of pol m a slots) t s
pairing-mades pol {m} {slots} {a} eight h C p g t s =
    ap (λ (ss : List ℕ). paired C p g (map (slot_table pol m) ss) a t s) (sym (take-length slots))
    ∙ paired-mades h.nodes pol slots (length slots) (omega arith) C p g a (places-within (length slots) a (paired-places eight h)) t s

-- ---- the candidates of a pairing

-- before candidate number i, in memory m, with what is done by now
abbrev pub PairOn : Context → Probs → Again → (pol : List ℕ) → ℕ → Option Float → Pairing → (slots : List ℕ) → Closed → (m₀ : List ℕ) → (i : ℕ) → Closed
    → (m : List ℕ) → Type 0
PairOn C p g pol r dissat a slots c m₀ i o m =
    GoingOn pol r dissat c m₀ (λ t. for_mades (wrapped_if_made C p g) (mades_of pol m₀ a slots) t)
    (λ t. for_mades (wrapped_if_made C p g) (drop i (mades_of pol m₀ a slots)) t) o m

module _ (C : Context) (p : Probs) (g : Again) {pol : List ℕ} {r : ℕ} {dissat : Option Float} {a : Pairing} {slots : List ℕ} {c : Closed} {m₀ : List ℕ}
    (h : Paired m₀ a slots) where
  pub pair-begins : Doing pol r dissat c m₀ → PairOn C p g pol r dissat a slots c m₀ 0 c m₀
  pair-begins d = going-begins d (λ t. for_mades (wrapped_if_made C p g) (mades_of pol m₀ a slots) t)

  module _ {n : ℕ} (counted : Counted m₀ a slots n) (i : ℕ) {o : Closed} {m : List ℕ} (on : PairOn C p g pol r dissat a slots c m₀ i o m) where
    -- what the making of the next candidate asks for
    pub pair-makes : i < n → Paired m a slots × (i < count_of m a slots)
    pair-makes l =
        (paired-kept h on.onward on.doing.ready.nodes on.doing.ready.tables, omega (arith, counted.is, count_kept h on.onward))

    -- the next candidate may be offered
    pub pair-offers : {x : Result node.Candidate NotMade} → MadeAt m a slots i x → OffersIfMade m x
    pair-offers x = record { offers = x.fresh }

    pub pair-goes-on : i < n → {x : Result node.Candidate NotMade} → MadeAt m a slots i x → {o' : Closed} {m' : List ℕ}
        → Tabled 0 (then (table_answer pol m o) (λ t. wrapped_if_made C p g (made_seen pol m x) t)) pol o' m m'
        → PairOn C p g pol r dissat a slots c m₀ (i + 1) o' m'
    pair-goes-on l {x} made one =
        let mades = mades_of pol m₀ a slots in
        let is : get_or mades i passed_over ≡ made_seen pol m x =
        ap (λ (xs : List Made). get_or xs i passed_over) (sym (mades-kept h on.onward pol)) ∙ sym (made.sees pol) in
        going_next on (λ t. wrapped_if_made C p g (made_seen pol m x) t) (λ t. for_mades (wrapped_if_made C p g) (drop (i + 1) mades) t)
        (λ t s.
        for-next (wrapped_if_made C p g) mades i t s (omega (arith, counted.mades pol))
        ∙ ap (λ (y : Made). then (wrapped_if_made C p g y t s) (λ t. for_mades (wrapped_if_made C p g) (drop (i + 1) mades) t)) is)
        one

    pub pair_ends : length slots ≡ 8 → n ≤ i → i ≤ n
        → Tabled 0 (then (table_answer pol m₀ c) (λ t. paired C p g (map (slot_table pol m₀) slots) a t)) pol o m₀ m
    pair_ends eight ge le =
        let all = going-ends on (λ t s. for-end (wrapped_if_made C p g) (mades_of pol m₀ a slots) i t s (omega (arith, counted.mades pol))) in
        record {
          says =
              then_same (table_answer pol m₀ c) (λ t. paired C p g (map (slot_table pol m₀) slots) a t)
              (λ t. for_mades (wrapped_if_made C p g) (mades_of pol m₀ a slots) t) (λ t s. pairing-mades pol eight h C p g t s)
              ∙ all.says;
          ready = all.ready;
          onward = all.onward;
          table = all.table;
          paid = all.paid;
        }

-- ---- one pairing after another

paired_at : {m slots : List ℕ} (as' : List Pairing) → AllPaired m slots as' → (i : ℕ) (d : Pairing) → i < length as' → Paired m (get_or as' i d) slots
unfolding AllPaired
paired_at [] h i d l = absurd (omega arith)
paired_at (a ∷ as') h zero d l = h.0
paired_at (a ∷ as') h (suc i) d l = paired_at as' h.1 i d (omega arith)

-- before pairing number i, in memory m, with what is done by now
abbrev pub PairAllOn : Context → Probs → Again → (pol : List ℕ) → ℕ → Option Float → List Pairing → (slots : List ℕ) → Closed → (m₀ : List ℕ) → (i : ℕ)
    → Closed → (m : List ℕ) → Type 0
PairAllOn C p g pol r dissat pairings slots c m₀ i o m =
    GoingOn pol r dissat c m₀ (λ t. pair_all C p g (map (slot_table pol m₀) slots) pairings t)
    (λ t. pair_all C p g (map (slot_table pol m₀) slots) (drop i pairings) t) o m

module _ (C : Context) (p : Probs) (g : Again) {pol : List ℕ} {r : ℕ} {dissat : Option Float} (pairings : List Pairing) (k : ℕ)
    (slots : List ℕ) {c : Closed}
    {m₀ : List ℕ} (h : AllPaired m₀ slots (take k pairings)) where
  pub pair-all-begins : Doing pol r dissat c m₀ → PairAllOn C p g pol r dissat (take k pairings) slots c m₀ 0 c m₀
  pair-all-begins d = going-begins d (λ t. pair_all C p g (map (slot_table pol m₀) slots) (take k pairings) t)

  module _ (few : k ≤ length pairings) (i : ℕ) {o : Closed} {m : List ℕ} (on : PairAllOn C p g pol r dissat (take k pairings) slots c m₀ i o m) where
    pub pair-all-ends : k ≤ i → i ≤ k
        → Tabled 0 (then (table_answer pol m₀ c) (λ t. pair_all C p g (map (slot_table pol m₀) slots) (take k pairings) t)) pol o m₀ m
    pair-all-ends ge le =
        going-ends on
        (λ t s. pair_end C p g (map (slot_table pol m₀) slots) (take k pairings) i t s (omega (arith, length-take-le k pairings few)))

    module _ (l : i < k) {a : Pairing} (d : Pairing) (is : a ≡ get_or pairings i d) where
      next-is : get_or (take k pairings) i d ≡ a
      next-is = get_or-take k pairings i d l ∙ sym is

      was-paired : Paired m₀ a slots
      was-paired =
          subst (λ (a : Pairing). Paired m₀ a slots) next-is
          (paired_at (take k pairings) h i d (omega (arith, length-take-le k pairings few)))

      -- what the next pairing asks for
      pub pair-all-pairs : Paired m a slots
      pair-all-pairs = paired-kept was-paired on.onward on.doing.ready.nodes on.doing.ready.tables

      same-pairing : length slots ≡ 8 → (t : Table) (s : State)
          → paired C p g (map (slot_table pol m₀) slots) a t s ≡ paired C p g (map (slot_table pol m) slots) a t s
      same-pairing eight t s =
          pairing-mades pol eight was-paired C p g t s
          ∙ ap (λ (xs : List Made). for_mades (wrapped_if_made C p g) xs t s) (sym (mades-kept was-paired on.onward pol))
          ∙ sym (pairing-mades pol eight pair-all-pairs C p g t s)

      pub pair-all-goes-on : length slots ≡ 8 → {o' : Closed} {m' : List ℕ}
          → Tabled 0 (then (table_answer pol m o) (λ t. paired C p g (map (slot_table pol m) slots) a t)) pol o' m m'
          → PairAllOn C p g pol r dissat (take k pairings) slots c m₀ (i + 1) o' m'
      pair-all-goes-on eight one =
          let tables = map (slot_table pol m₀) slots in
          let others : Table → M Table = λ t. pair_all C p g tables (drop (i + 1) (take k pairings)) t in
          going_next on (λ t. paired C p g (map (slot_table pol m) slots) a t) others
          (λ t s.
          pair-on C p g tables (take k pairings) i d t s (omega (arith, length-take-le k pairings few))
          ∙ ap (λ (a : Pairing). then (paired C p g tables a t s) others) next-is
          ∙ ap (λ (b : Res Table). then b others) (same-pairing eight t s))
          one
