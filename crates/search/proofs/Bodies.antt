-- A search, and what it makes of each kind of policy, by its steps: from what each step leaves to what the whole leaves. Assumes nothing.
use Rattle.refusals.specs.declared.Refusal.{Refusal}
use Rattle.std.specs.Prelude.{Option, None, Some, Result, Ok}
use mathlib.Core.Path.{◌≡◌, sym, ap, ◌∙◌, subst}
use mathlib.Core.List.{List, [], ◌∷◌}
use Prim.Native.Nat.{ℕ}
use native.Mathlib.Omega.{arith}
use lib.Ieee.{Float}
use lib.ListN.{take}
use Rattle.contexts.specs.declared.Context.{Context}
use Rattle.costs.specs.Weights.{weights}
use Rattle.policies.specs.Policy.{Policy, Key, And, Or}
use Rattle.policies.specs.Forms.{kind_of, number_of, left_weight_of, right_weight_of}
use Rattle.policies.specs.Array.{policy_at, Good, Named, child_number}
use Rattle.policies.proofs.Forms.{is_key}
use Rattle.policies.proofs.Views.{and-of, or-of}
use Rattle.candidates.specs.declared.Candidate as node
use Rattle.candidates.specs.Leaves as leaf
use Rattle.writing.specs.WellFormed.{AllBelow}
use Rattle.definition.specs.Candidates as definition
use Rattle.definition.specs.Candidates.{Candidate}
use Rattle.definition.specs.Tables.{Probs, probs, Table}
use Rattle.definition.specs.Refusals.{M, State, Res, done, then}
use Rattle.definition.specs.Search.{Again, Body, search, searcher, wrapped, for_each, leaves, or_body, and_ors, remembering}
use Rattle.definition_laws.specs.FormedPolicy.{FormedPolicy}
use Rattle.definition_laws.specs.Bodies.{again_in, body_of, body_in}
use Rattle.definition_laws.proofs.Bodies.{search_is}
use Rattle.definition_laws.proofs.Steps.{then-done, then-then, for_each-none, for_each-next}
use Rattle.memory.specs.Layout.{node_count}
use Rattle.nodes.specs.Views.{seen_all, offered}
use Rattle.nodes.proofs.Leaves.{pk-h-seen, pk-k-seen}
use Rattle.table.specs.Rows.{TableHolds}
use Rattle.table.specs.Inserted.{seen_table}
use Rattle.closure.specs.declared.Closed.{Closed}
use Rattle.closure.specs.Closed.{answer}
use Rattle.search_state.specs.State.{state_in, Ready}
use Rattle.search_state.specs.Recalled.{table_answer, Searched, Tabled, Recalled, Remembered}
use Rattle.search_state.proofs.Chains.{tabled-then, recalled-found, recalled-new, remembered-searched}
use Rattle.stages.specs.declared.Ask.{Ask}
use Rattle.stages.specs.declared.Pairing.{Pairing}
use Rattle.stages.specs.Stages.{staged, and_asks, and_pairings, and_or_asks, and_or_pairings, or_asks, or_pairings}
use Rattle.stages.proofs.Stages.{then_same, and-staged, and-or-staged, and-or-plain, or-staged}
use Rattle.offers.specs.Offering.{Empty, IsLeaf, LeafOf}
use Rattle.search.specs.Searching.{Going, Doing, IsOr}
use Rattle.search.proofs.Steps.{then-pure, tabled-as, table_stays}

-- the same answer by another name
pub searched-as : {res res' : Res Table} {pol m₀ m : List ℕ} {o : Result ℕ Refusal} → res ≡ res' → Searched res pol o m₀ m → Searched res' pol o m₀ m
searched-as {pol} {m₀} {m} {o} e h = subst (λ (r : Res Table). Searched r pol o m₀ m) e h

-- ---- a table with no entry

module _ {c : Closed} (none : Empty c) where
  pub empty-answer : (pol m : List ℕ) → table_answer pol m c ≡ done [] (state_in pol m)
  empty-answer pol m =
      ap (λ (e : Result (Unit {0}) Refusal). answer e (seen_table pol m c.table) (state_in pol m)) none.done
      ∙ ap (λ (n : ℕ). done (seen_all pol m (take n c.table.entries)) (state_in pol m)) none.none

  pub empty_holds : (m : List ℕ) → TableHolds m c.table
  unfolding AllBelow
  empty_holds m =
      record {
        few = omega (arith, none.none);
        below = subst (λ (n : ℕ). AllBelow (node_count m) (take n c.table.entries)) (sym none.none) tt;
      }

  -- work on it begins with no entry
  pub empty-then : (pol m : List ℕ) (k : Table → M Table) → then (table_answer pol m c) k ≡ k [] (state_in pol m)
  empty-then pol m k = then-done k (empty-answer pol m)

  -- where a search begins, work on it may begin
  pub empty-doing : {pol : List ℕ} {r : ℕ} {dissat : Option Float} {m : List ℕ} → Going 0 pol r dissat m → Doing pol r dissat c m
  empty-doing {pol} {r} {dissat} {m} g =
      record {
        classed = g.classed;
        named = g.named;
        formed = g.formed;
        ready = g.ready;
        table = empty_holds m;
        room = λ e. omega (arith, g.room);
      }

-- ---- a search

search-in : (c : Context) (q : Policy) (p : Probs) (s : State) → remembering q p (body_in c q p) s ≡ search c q p s
search-in c q p s = ap (λ (f : M Table). f s) (sym (search_is c q p))

module _ (c : Context) {pol m₀ : List ℕ} {q : Policy} {p : Probs} (ready : Ready pol m₀) where
  -- what is remembered is found
  pub search-found : {f : Option ℕ} (s : ℕ) → f ≡ Some s → Recalled pol m₀ q p f → Searched (search c q p (state_in pol m₀)) pol (Ok s) m₀ m₀
  search-found s e h = searched-as (search-in c q p (state_in pol m₀)) (recalled-found ready (body_in c q p) s e h)

  -- and else it is made, and remembered
  pub search-made : {f : Option ℕ} {m₁ m₂ : List ℕ} {t : Closed} {o : Result ℕ Refusal} → f ≡ None → Recalled pol m₀ q p f
      → Tabled 1 (body_in c q p (state_in pol m₀)) pol t m₀ m₁ → Remembered pol q p t o m₁ m₂ → Searched (search c q p (state_in pol m₀)) pol o m₀ m₂
  search-made e h made kept-so =
      searched-as (sym (recalled-new ready (body_in c q p) e h) ∙ search-in c q p (state_in pol m₀)) (remembered-searched made kept-so)

-- what a policy's search makes, once the policy is known
pub body-of : (c : Context) {q q' : Policy} (p : Probs) (s : State) → q ≡ q' → body_in c q p s ≡ body_of c q' p (again_in c q p) s
unfolding body_in
body-of c {q} p s e = ap (λ (x : Policy). body_of c x p (again_in c q p) s) e

-- ---- stages

module _ (c : Context) (pol : List ℕ) (p : Probs) (g : Again) (t : Table) (s : State) where
  -- with their asks and pairings
  staged-as : {asks asks' : List Ask} {pairings pairings' : List Pairing} → asks ≡ asks' → pairings ≡ pairings'
      → staged c pol p g asks pairings t s ≡ staged c pol p g asks' pairings' t s
  staged-as {asks'} {pairings} a b =
      ap (λ (x : List Ask). staged c pol p g x pairings t s) a ∙ ap (λ (x : List Pairing). staged c pol p g asks' x t s) b

pub all-or-asks : {asks : List Ask} (l r : ℕ) (sat : Float) (dissat : Option Float) (lw rw : Float) → asks ≡ or_asks l r sat dissat lw rw
    → take 8 asks ≡ or_asks l r sat dissat lw rw
all-or-asks l r sat dissat left right e = ap (λ (x : List Ask). take 8 x) e

pub all-or-pairings : {pairings : List Pairing} (lw rw : Float) → pairings ≡ or_pairings lw rw → take 10 pairings ≡ or_pairings lw rw
all-or-pairings left right e = ap (λ (x : List Pairing). take 10 x) e

-- ---- And

module _ (c : Context) {pol : List ℕ} (good : Good pol) {r : ℕ} (named : Named pol r) (sat : Float) (dissat : Option Float) where
  -- the table of an And, from its stage
  pub body-and : {l q : ℕ} {asks : List Ask} {pairings : List Pairing} {none o : Closed} {m₀ m : List ℕ} → kind_of (policy_at pol r) ≡ 10
      → l ≡ child_number pol r 0 → q ≡ child_number pol r 1 → asks ≡ and_asks l q sat dissat → pairings ≡ and_pairings → Empty none
      → Tabled 0
      (then (table_answer pol m₀ none) (λ t. staged c pol (probs sat dissat)
      (again_in c (policy_at pol r) (probs sat dissat)) asks pairings t)) pol o m₀ m
      → Tabled 0 (body_in c (policy_at pol r) (probs sat dissat) (state_in pol m₀)) pol o m₀ m
  body-and {l} {q} {asks} {pairings} {none} {o} {m₀} {m} kind left right as-asked as-paired nothing h =
      let p : Probs = probs sat dissat in
      let g : Again = again_in c (policy_at pol r) p in
      let sides : And (policy_at pol (child_number pol r 0)) (policy_at pol (child_number pol r 1)) ≡ And (policy_at pol l) (policy_at pol q) =
      ap (λ (x : ℕ). And (policy_at pol x) (policy_at pol (child_number pol r 1))) (sym left)
      ∙ ap (λ (x : ℕ). And (policy_at pol l) (policy_at pol x)) (sym right) in
      tabled-as
      (empty-then nothing pol m₀ (λ t. staged c pol p g asks pairings t)
      ∙ staged-as c pol p g [] (state_in pol m₀) as-asked as-paired
      ∙ sym (and-staged c pol p g l q (state_in pol m₀))
      ∙ sym (body-of c p (state_in pol m₀) (and-of pol good r named kind ∙ sides)))
      h

-- ---- Or

-- one side of an Or beside the other, from its stage
module _ (c : Context) {pol : List ℕ} (good : Good pol) (g : Again) (sat : Float) (dissat : Option Float) (w v : Float) (a other : ℕ) (t : Closed) where
  pub and-ors-and : {x y : ℕ} {asks : List Ask} {pairings : List Pairing} {o : Closed} {m₀ m : List ℕ} → Named pol a
      → kind_of (policy_at pol a) ≡ 10 → x ≡ child_number pol a 0 → y ≡ child_number pol a 1 → asks ≡ and_or_asks x y other sat dissat w v
      → pairings ≡ and_or_pairings w v
      → Tabled 0 (then (table_answer pol m₀ t) (λ t. staged c pol (probs sat dissat) g asks pairings t)) pol o m₀ m
      → Tabled 0
      (then (table_answer pol m₀ t) (λ t. and_ors c (probs sat dissat) g (searcher c (policy_at pol a)) (searcher c (policy_at pol other)) w v t))
      pol o m₀ m
  and-ors-and {x} {y} {asks} {pairings} {o} {m₀} {m} named kind left right as-asked as-paired h =
      let p : Probs = probs sat dissat in
      let sides : policy_at pol a ≡ And (policy_at pol x) (policy_at pol y) =
      and-of pol good a named kind
      ∙ ap (λ (n : ℕ). And (policy_at pol n) (policy_at pol (child_number pol a 1))) (sym left)
      ∙ ap (λ (n : ℕ). And (policy_at pol x) (policy_at pol n)) (sym right) in
      tabled-as
      (then_same (table_answer pol m₀ t) (λ t. staged c pol p g asks pairings t)
      (λ t. and_ors c p g (searcher c (policy_at pol a)) (searcher c (policy_at pol other)) w v t)
      (λ t s.
      staged-as c pol p g t s as-asked as-paired
      ∙ sym (and-or-staged c pol p g x y other w v t s)
      ∙ ap (λ (q : Policy). and_ors c p g (searcher c q) (searcher c (policy_at pol other)) w v t s) (sym sides)))
      h

  -- no And: the table stays
  pub and-ors-plain : {m : List ℕ} → (kind_of (policy_at pol a) ≡ 10 → ⊥) → Ready pol m → TableHolds m t.table
      → Tabled 0
      (then (table_answer pol m t) (λ t. and_ors c (probs sat dissat) g (searcher c (policy_at pol a)) (searcher c (policy_at pol other)) w v t))
      pol t m m
  and-ors-plain {m} kind ready holds =
      let p : Probs = probs sat dissat in
      table_stays t (λ t. and_ors c p g (searcher c (policy_at pol a)) (searcher c (policy_at pol other)) w v t) ready holds
      (λ t s. and-or-plain c pol p g (policy_at pol a) (searcher c (policy_at pol other)) w v t s kind)

module _ (c : Context) {pol : List ℕ} (good : Good pol) {r : ℕ} (named : Named pol r) (sat : Float) (dissat : Option Float) where
  -- the table of an Or, from both sides and its stage
  pub body-or : {l q left_weight right_weight : ℕ} {w v : Float} {asks : List Ask} {pairings : List Pairing} {none left both o : Closed}
      {m₀ m₁ m₂ m : List ℕ} → IsOr (policy_at pol r) left_weight right_weight → l ≡ child_number pol r 0 → q ≡ child_number pol r 1
      → w ≡ (weights left_weight right_weight).lw → v ≡ (weights left_weight right_weight).rw → asks ≡ or_asks l q sat dissat w v
      → pairings ≡ or_pairings w v → Empty none
      → Tabled 0
      (then (table_answer pol m₀ none)
      (λ t. and_ors c (probs sat dissat) (again_in c (policy_at pol r) (probs sat dissat)) (searcher c (policy_at pol l))
      (searcher c (policy_at pol q)) w v t))
      pol left m₀ m₁
      → Tabled 0
      (then (table_answer pol m₁ left)
      (λ t. and_ors c (probs sat dissat) (again_in c (policy_at pol r) (probs sat dissat)) (searcher c (policy_at pol q))
      (searcher c (policy_at pol l)) v w t))
      pol both m₁ m₂
      → Tabled 0
      (then (table_answer pol m₂ both) (λ t. staged c pol (probs sat dissat)
      (again_in c (policy_at pol r) (probs sat dissat)) asks pairings t)) pol o m₂ m
      → Tabled 0 (body_in c (policy_at pol r) (probs sat dissat) (state_in pol m₀)) pol o m₀ m
  body-or {l} {q} {left_weight} {right_weight} {w} {v} {asks} {pairings} {none} {left} {both} {o} {m₀} {m₁} {m₂}
      {m} is first second as-w as-v as-asked as-paired nothing
      h₁ h₂ h₃ =
      let p : Probs = probs sat dissat in
      let g : Again = again_in c (policy_at pol r) p in
      let s : State = state_in pol m₀ in
      let k₁ : Table → M Table = λ t. and_ors c p g (searcher c (policy_at pol l)) (searcher c (policy_at pol q)) w v t in
      let k₂ : Table → M Table = λ t. and_ors c p g (searcher c (policy_at pol q)) (searcher c (policy_at pol l)) v w t in
      let k₃ : Table → M Table = λ t. staged c pol p g asks pairings t in
      tabled-as
      (ap (λ (x : Res Table). then (then x k₂) k₃) (empty-then nothing pol m₀ k₁)
      ∙ then-then (k₁ [] s) k₂ k₃
      ∙ then_same (k₁ [] s) _ _ (λ t s. then_same (k₂ t s) _ _ (λ t s. staged-as c pol p g t s as-asked as-paired))
      ∙ sym (or-staged c pol p g l q w v s)
      ∙ sym (body_is s))
      (tabled-then (tabled-then h₁ k₂ h₂) k₃ h₃)
    where
      sides : (x y : ℕ) → l ≡ x → q ≡ y → (a b : ℕ) → a ≡ left_weight → b ≡ right_weight
          → Or (policy_at pol x) (policy_at pol y) a b ≡ Or (policy_at pol l) (policy_at pol q) left_weight right_weight
      sides x y i j a b e f = rw (i, j, e, f)

      body_is : (s : State) → body_in c (policy_at pol r) (probs sat dissat) s
          ≡ or_body c (searcher c (policy_at pol l)) (searcher c (policy_at pol q)) w v (probs sat dissat)
          (again_in c (policy_at pol r) (probs sat dissat)) s
      body_is s =
          body-of c (probs sat dissat) s
          (or-of pol good r named is.is_or
          ∙ sides (child_number pol r 0) (child_number pol r 1) first second (left_weight_of (policy_at pol r)) (right_weight_of (policy_at pol r))
          is.is_left
          is.is_right)
          ∙ ap
          (λ (x : Float).
          or_body c (searcher c (policy_at pol l)) (searcher c (policy_at pol q)) x (weights left_weight right_weight).rw (probs sat dissat)
          (again_in c (policy_at pol r) (probs sat dissat)) s)
          (sym as-w)
          ∙ ap
          (λ (x : Float).
          or_body c (searcher c (policy_at pol l)) (searcher c (policy_at pol q)) w x (probs sat dissat)
          (again_in c (policy_at pol r) (probs sat dissat)) s)
          (sym as-v)

-- ---- leaves

module _ (c : Context) (p : Probs) (g : Again) where
  one-leaf : (x : Candidate) (s : State) → leaves c (x ∷ []) p g s ≡ wrapped c p g x [] s
  one-leaf x s =
      for_each-next (λ x. wrapped c p g x) x [] [] s
      ∙ then-pure (wrapped c p g x [] s) (λ t. for_each (λ x. wrapped c p g x) [] t) (λ t s. for_each-none (λ x. wrapped c p g x) t s)

  two-leaves : (x y : Candidate) (s : State) → leaves c (x ∷ y ∷ []) p g s ≡ then (wrapped c p g x [] s) (λ t. wrapped c p g y t)
  two-leaves x y s =
      for_each-next (λ x. wrapped c p g x) x (y ∷ []) [] s
      ∙ then_same (wrapped c p g x [] s) (λ t. for_each (λ x. wrapped c p g x) (y ∷ []) t) (λ t. wrapped c p g y t)
      (λ t s.
      for_each-next (λ x. wrapped c p g x) y [] t s
      ∙ then-pure (wrapped c p g y t s) (λ t. for_each (λ x. wrapped c p g x) [] t) (λ t s. for_each-none (λ x. wrapped c p g x) t s))

module _ (c : Context) {pol : List ℕ} {r : ℕ} (sat : Float) (dissat : Option Float) where
  -- the table of a leaf that is no key
  pub body-leaf : {kind number : ℕ} {x : node.Candidate} {none o : Closed} {m₀ m : List ℕ} → LeafOf kind number r x
      → IsLeaf (policy_at pol r) kind number → FormedPolicy (policy_at pol r) → (kind ≡ 3 → ⊥) → Empty none
      → Tabled 0
      (then (table_answer pol m₀ none) (λ t. wrapped c (probs sat dissat) (again_in c (policy_at pol r) (probs sat dissat))
      (offered pol m₀ x) t)) pol o m₀ m
      → Tabled 0 (body_in c (policy_at pol r) (probs sat dissat) (state_in pol m₀)) pol o m₀ m
  unfolding body_in
  body-leaf {kind} {number} {x} {none} {o} {m₀} {m} leaf-of is formed no_key nothing h =
      let p : Probs = probs sat dissat in
      let g : Again = again_in c (policy_at pol r) p in
      tabled-as
      (empty-then nothing pol m₀ (λ t. wrapped c p g (offered pol m₀ x) t)
      ∙ sym (one-leaf c p g (offered pol m₀ x) (state_in pol m₀))
      ∙ sym (ap (λ (b : Body). b p g (state_in pol m₀)) (leaf-of.says pol m₀ is formed no_key c)))
      h

  -- the table of a key
  pub body-key : {number : ℕ} {x y : node.Candidate} {none first o : Closed} {m₀ m₁ m : List ℕ} → IsLeaf (policy_at pol r) 3 number
      → x ≡ leaf.pk_h c r → y ≡ leaf.pk_k c r → Empty none
      → Tabled 0
      (then (table_answer pol m₀ none) (λ t. wrapped c (probs sat dissat) (again_in c (policy_at pol r) (probs sat dissat)) (offered pol m₀ x) t))
      pol first m₀ m₁
      → Tabled 0
      (then (table_answer pol m₁ first) (λ t. wrapped c (probs sat dissat) (again_in c (policy_at pol r) (probs sat dissat))
      (offered pol m₁ y) t)) pol o m₁ m
      → Tabled 0 (body_in c (policy_at pol r) (probs sat dissat) (state_in pol m₀)) pol o m₀ m
  body-key {number} {x} {y} {none} {first} {o} {m₀} {m₁} {m} is as-x as-y nothing h₁ h₂ =
      let p : Probs = probs sat dissat in
      let g : Again = again_in c (policy_at pol r) p in
      let n : ℕ = number_of (policy_at pol r) in
      let key : policy_at pol r ≡ Key n = is_key (policy_at pol r) is.is_kind in
      let hash-seen : offered pol m₀ x ≡ definition.pk_h c n = ap (λ (x : node.Candidate). offered pol m₀ x) as-x ∙ pk-h-seen pol m₀ r c key in
      let key-seen : offered pol m₁ y ≡ definition.pk_k c n = ap (λ (x : node.Candidate). offered pol m₁ x) as-y ∙ pk-k-seen pol m₁ r c key in
      let k : Table → M Table = λ t. wrapped c p g (offered pol m₁ y) t in
      tabled-as
      (ap (λ (x : Res Table). then x k) (empty-then nothing pol m₀ (λ t. wrapped c p g (offered pol m₀ x) t))
      ∙ sym (two-leaves c p g (offered pol m₀ x) (offered pol m₁ y) (state_in pol m₀))
      ∙ ap (λ (x : Candidate). leaves c (x ∷ offered pol m₁ y ∷ []) p g (state_in pol m₀)) hash-seen
      ∙ ap (λ (y : Candidate). leaves c (definition.pk_h c n ∷ y ∷ []) p g (state_in pol m₀)) key-seen
      ∙ sym (body-of c p (state_in pol m₀) key))
      (tabled-then h₁ k h₂)
