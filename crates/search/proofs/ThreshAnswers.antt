-- What the answers of `thresh_body`, `multi` and `folded` cite besides the other files. Assumes nothing.
use Rattle.refusals.specs.declared.Refusal.{Refusal}
use Rattle.std.specs.Prelude.{Option, Ok, Err, Result}
use mathlib.Core.Bool.{Bool, true, false}
use mathlib.Core.Path.{◌≡◌, refl, sym, ap, ◌∙◌, subst}
use mathlib.Core.List.{List}
use Prim.Native.Nat.{ℕ, ◌<◌, ◌≤◌}
use native.Mathlib.Omega.{arith}
use lib.Ieee.{Float}
use lib.ListN.{length, take}
use Rattle.contexts.specs.declared.Context.{Context}
use Rattle.costs.specs.Arithmetic.{◌⊗◌, ◌⊘◌, float_of}
use Rattle.policies.specs.Array.{policy_at, Named, fold_number}
use Rattle.writing.specs.WellFormed.{AllBelow}
use Rattle.candidates.specs.declared.Candidate as node
use Rattle.candidates.specs.declared.NotMade.{NotMade}
use Rattle.definition.specs.Tables.{Probs, probs}
use Rattle.definition.specs.Refusals.{then}
use Rattle.definition.specs.Search.{search, wrapped, multi_of, keys_of, folded_or}
use Rattle.definition_laws.specs.FormedPolicy.{FormedPolicy}
use Rattle.definition_laws.specs.Bodies.{again_in, body_in}
use Rattle.memory.specs.Layout.{node_count, row_count, max_rows, work_words}
use Rattle.nodes.specs.Views.{offered}
use Rattle.nodes.specs.Answers.{Holds}
use Rattle.cache.specs.Slots.{slot_at}
use Rattle.table.specs.declared.Table.{Table}
use Rattle.table.specs.Rows.{Rows}
use Rattle.closure.specs.declared.Closed.{Closed}
use Rattle.closure.proofs.Offering.{closed}
use Rattle.search_state.specs.State.{state_in, Classed, load}
use Rattle.search_state.specs.Recalled.{table_answer, Searched, Tabled}
use Rattle.choice.specs.Arranged.{Gains, Arranges}
use Rattle.choice.specs.Keys.{AllKeys, MultiOf}
use Rattle.choice.specs.Threshes.{MakesThresh}
use Rattle.offers.specs.Offering.{Empty}
use Rattle.search.specs.declared.Bests.{Bests}
use Rattle.search.specs.Searching.{IsThresh, Going, Doing, Under, child_searchers, child_dissat, FoundBests}
use Rattle.search.proofs.Ranks.{rank}
use Rattle.search.proofs.Asking.{under-fold, under-lighter, fold-policy, thresh-stored, thresh-bounds, going-under, going_on}
use Rattle.search.proofs.Bodies.{empty_holds}
use Rattle.search.proofs.Wrapping.{doing-going}
use Rattle.search.proofs.Tabling.{multi-wrapped, multi-none, fold-found, fold-refused, row-free, thresh-doing, body-thresh-refused}

-- ---- the numbers of a Thresh

pub record Small (r k n : ℕ) : Type 0 where
  pub stored : r < 64
  pub one : 1 ≤ k
  pub most : k ≤ n
  pub few : n ≤ 16

small : {pol : List ℕ} {r k n : ℕ} → Classed pol → Named pol r → FormedPolicy (policy_at pol r) → IsThresh (policy_at pol r) k n → Small r k n
small classed named formed is =
    let bounds = thresh-bounds classed.good named is.is_thresh is.is_k is.is_n formed in
    record {
      stored = thresh-stored classed.good named is.is_thresh;
      one = bounds.0;
      most = bounds.1;
      few = bounds.2;
    }

pub going-small : {extra : ℕ} {pol : List ℕ} {r k n : ℕ} {d : Option Float} {m : List ℕ} → Going extra pol r d m → IsThresh (policy_at pol r) k n
    → Small r k n
going-small g is = small g.classed g.named g.formed is

pub doing-small : {pol : List ℕ} {r k n : ℕ} {d : Option Float} {c : Closed} {m : List ℕ} → Doing pol r d c m → IsThresh (policy_at pol r) k n
    → Small r k n
doing-small g is = small g.classed g.named g.formed is

-- ---- the Multi

module _ (C : Context) (sat : Float) {pol : List ℕ} {r k n : ℕ} {dissat : Option Float} {c : Closed} {m₀ : List ℕ} (d : Doing pol r dissat c m₀)
    (is : IsThresh (policy_at pol r) k n) {b : Bool} (keys : AllKeys (policy_at pol r) b) where
  pub multi-yes : b ≡ true → {x : node.Candidate} {o : Closed} {m : List ℕ} → MultiOf C r k n x
      → Tabled 0
      (then (table_answer pol m₀ c)
      (λ t. wrapped C (probs sat dissat) (again_in C (policy_at pol r) (probs sat dissat)) (offered pol m₀ x) t)) pol o m₀ m
      → Tabled 0
      (then (table_answer pol m₀ c)
      (λ t. multi_of C (probs sat dissat) (again_in C (policy_at pol r) (probs sat dissat)) k (keys_of (child_searchers C (policy_at pol r))) t)) pol o m₀ m
  multi-yes e multi-of h =
      multi-wrapped C (probs sat dissat) (again_in C (policy_at pol r) (probs sat dissat)) pol r is c e keys multi-of h

  pub multi-no : b ≡ false
      → Tabled 0
      (then (table_answer pol m₀ c)
      (λ t. multi_of C (probs sat dissat) (again_in C (policy_at pol r) (probs sat dissat)) k
      (keys_of (child_searchers C (policy_at pol r))) t)) pol c m₀ m₀
  multi-no e =
      multi-none C (probs sat dissat) (again_in C (policy_at pol r) (probs sat dissat)) pol r is c e keys d.ready d.table

-- ---- the fold

module _ {pol : List ℕ} {r k n : ℕ} {dissat : Option Float} {c : Closed} {m₀ : List ℕ} (d : Doing pol r dissat c m₀)
    (is : IsThresh (policy_at pol r) k n) {f : ℕ} (is_f : f ≡ fold_number pol r n) where
  has_some : 1 ≤ n
  has_some = omega (arith, (doing-small d is).one, (doing-small d is).most)

  fold-under : Under pol r f
  fold-under =
      subst (Under pol r) (sym is_f) (under-fold d.classed.good d.named is.is_thresh is.is_n has_some d.formed)

  pub fold-falls-to : {t : ℕ} → rank pol r dissat 13 ≡ t → rank pol f dissat 16 < t
  fold-falls-to e =
      let falls : load (policy_at pol f) dissat < load (policy_at pol r) dissat = (under-lighter fold-under dissat (float_of 1) dissat).falls in
      omega arith

  pub fold-going : c.end ≡ (Ok tt) → Going 0 pol f dissat m₀
  fold-going e = going-under (doing-going d e) dissat fold-under

  module _ (C : Context) (sat : Float) (same : k ≡ n) (e : c.end ≡ Ok tt) {out : Result ℕ Refusal} {m : List ℕ}
      (h : Searched (search C (policy_at pol f) (probs sat dissat) (state_in pol m₀)) pol out m₀ m) where
    pub folded-no : {x : Refusal} → out ≡ Err x
        → Tabled 0 (then (table_answer pol m₀ c) (λ t. folded_or C (probs sat dissat) k (child_searchers C (policy_at pol r)) t)) pol
        (closed c.table (Err x)) m₀ m
    folded-no {x} is-no =
        fold-refused C (probs sat dissat) is c f same has_some e
        (ap (policy_at pol) is_f ∙ fold-policy d.classed.good d.named is.is_thresh is.is_n has_some) h x is-no d.ready
        (closed c.table (Err x)) refl d.table

    pub folded-yes : {s : ℕ} → out ≡ Ok s → {table : Table} → Rows table (slot_at m s).entries
        → Tabled 0 (then (table_answer pol m₀ c) (λ t. folded_or C (probs sat dissat) k (child_searchers C (policy_at pol r)) t)) pol
        (closed table (Ok tt)) m₀ m
    folded-yes {s} is-slot rows =
        fold-found C (probs sat dissat) is c f same has_some e
        (ap (policy_at pol) is_f ∙ fold-policy d.classed.good d.named is.is_thresh is.is_n has_some) h s is-slot rows

-- ---- the Thresh

module _ {C : Context} {p : Probs} {pol : List ℕ} {r k n : ℕ} {dissat : Option Float} {r' : Result Bests Refusal} {m₀ m₁ : List ℕ} (g : Going 0 pol r dissat m₀)
    (is : IsThresh (policy_at pol r) k n) (found : FoundBests C p pol (policy_at pol r) n r' m₀ m₁) {b : Bests} (e : r' ≡ Ok b) where
  found-going : Going 0 pol r dissat m₁
  found-going = going_on g found.ready (found.paid b e)

  pub gaining-asks : (length m₁ ≡ work_words) × ((n ≤ 16) × (AllBelow (node_count m₁) (take n b.es) × AllBelow (node_count m₁) (take n b.ws)))
  gaining-asks = (found.ready.nodes.long, ((going-small g is).few, (found.es b e, found.ws b e)))

  pub made_asks : {gaining : ℕ} {row : List ℕ} → Arranges b.es b.ws n gaining row
      → Holds m₁ × ((row_count m₁ < max_rows) × ((1 ≤ k) × ((k ≤ n) × ((n ≤ 16) × AllBelow (node_count m₁) (take n row)))))
  made_asks arranges =
      let s : Small r k n = going-small g is in
      (found.ready.nodes, (row-free found-going, (s.one, (s.most, (s.few, arranges.below (node_count m₁) (found.es b e) (found.ws b e))))))

  pub made-doing : {number : ℕ} {row m₂ : List ℕ} {x : Result node.Candidate NotMade} {none : Closed} → MakesThresh C number k n row m₁ m₂ x → Empty none
      → Doing pol r dissat none m₂
  made-doing makes nothing = thresh-doing makes found-going nothing

pub gaining-less : {r k n gaining : ℕ} {m es ws : List ℕ} {p : Probs} → Small r k n → Gains m p es ws n gaining → gaining < n
gaining-less s gains = gains.there (omega (arith, s.one, s.most))

pub thresh-no : (C : Context) (pol : List ℕ) (r : ℕ) (sat : Float) (dissat : Option Float) {k n : ℕ} → IsThresh (policy_at pol r) k n
    → {child_dis : Option Float} → child_dis ≡ child_dissat dissat (float_of k ⊘ float_of n) sat → {r' : Result Bests Refusal} {m₀ m₁ : List ℕ}
    → FoundBests C (probs (sat ⊗ (float_of k ⊘ float_of n)) child_dis) pol (policy_at pol r) n r' m₀ m₁ → {x : Refusal} → r' ≡ Err x
    → {none : Closed} → Empty none
    → Tabled 1 (body_in C (policy_at pol r) (probs sat dissat) (state_in pol m₀)) pol (closed none.table (Err x)) m₀ m₁
thresh-no C pol r sat dissat is as-dissat {m₀ = m₀} {m₁ = m₁} found {x} e {none} nothing =
    body-thresh-refused C pol r sat dissat is refl as-dissat found x e (closed none.table (Err x)) refl (empty_holds nothing m₁)
