-- The children of a Thresh, chosen one after another, and the steps of its table. Assumes nothing.
use Rattle.refusals.specs.declared.Refusal.{Refusal}
use Rattle.refusals.specs.Numbers.{number_of}
use Rattle.std.specs.Option.{ok_or}
use mathlib.Core.Path.{◌≡◌, refl, sym, ap, ◌∙◌, subst}
use mathlib.Core.List.{List, [], ◌∷◌, ◌++◌}
use Rattle.std.specs.Prelude.{Option, Result, Ok, Err, None, Some}
use Prim.Native.Nat.{ℕ, zero, suc, ◌+◌, ◌<◌, ◌≤◌}
use native.Mathlib.Omega.{arith}
use lib.ListN.{length, take, drop, set}
use lib.Seq.{take-suc-set, length-take-le}
use Rattle.contexts.specs.declared.Context.{Context}
use Rattle.policies.specs.Policy.{Policy, from_list}
use Rattle.policies.specs.Forms.{children_of, nth}
use Rattle.writing.specs.WellFormed.{AllBelow}
use Rattle.definition.specs.Candidates.{Candidate}
use Rattle.definition.specs.Tables.{Probs, Table}
use Rattle.definition.specs.Refusals.{M, State, Res, done, refused, then}
use Rattle.definition.specs.Search.{Searcher, search, searcher, searchers, chosen, cheapest, Best, best_of, bests}
use Rattle.definition_laws.proofs.Steps.{then-done, then-refused, then-then, searchers-none, searchers-next, best_of-steps, bests-none, bests-next}
use Rattle.memory.specs.Layout.{node_count, table_count}
use Rattle.nodes.specs.Views.{seen}
use Rattle.nodes.proofs.Grown.{seen-kept}
use Rattle.cache.specs.Slots.{slot_at, Kept}
use Rattle.search_state.specs.State.{state_in, Ready, Onward, Paid}
use Rattle.search_state.specs.Recalled.{IsSlot, Searched}
use Rattle.search_state.proofs.Growing.{onward-refl, onward-trans, below_more}
use Rattle.search_state.proofs.Chains.{paid-refl, paid-after, searched-done, searched-refused}
use Rattle.choice.specs.Arranged.{bests_of}
use Rattle.choice.specs.Chosen.{suits_want, chosen_seen, Chooses}
use Rattle.choice.specs.declared.Want.{Want}
use Rattle.search.specs.declared.Bests.{Bests}
use Rattle.search.specs.Searching.{child_searchers, FoundBest, FoundBests}
use Rattle.stages.proofs.Stages.{then_same}
use Rattle.search.proofs.Steps.{not-both, then-pure}

-- ---- the best of one table

-- a table that was found may be chosen from
pub searched-slot : {res : Res Table} {pol m₀ m : List ℕ} {o : Result ℕ Refusal} → Searched res pol o m₀ m → (s : ℕ) → o ≡ Ok s
    → Kept m × ((s < table_count m) × AllBelow (node_count m) (slot_at m s).entries)
searched-slot {res} {pol} {m₀} {m} h s e =
    let there : s < table_count m = subst (IsSlot m) e h.slot in
    (h.ready.tables, (there, (h.ready.slots s there).below))

module _ (c : Context) (q : Policy) (p : Probs) {pol m₀ m : List ℕ} {o : Result ℕ Refusal} (want : Want) (h : Searched (search c q p (state_in pol m₀)) pol o m₀ m)
  where
    module _ (s : ℕ) (e : o ≡ Ok s) {r : Option ℕ} (chooses : Chooses m s p want r) where
      chosen_of : {r' : Option ℕ} → r ≡ r'
          → then (search c q p (state_in pol m₀)) (λ t. chosen (cheapest p (suits_want want) t)) ≡ chosen (chosen_seen pol m r') (state_in pol m)
      chosen_of is =
          then-done (λ t. chosen (cheapest p (suits_want want) t)) (searched-done h s e)
          ∙ ap (λ (x : Option Candidate). chosen x (state_in pol m)) (chooses.says pol ∙ ap (chosen_seen pol m) is)

      -- an entry suits
      best-found : (n : ℕ) → r ≡ Some n → FoundBest c p pol q want (Ok n) m₀ m
      best-found n is =
          record {
            says = chosen_of is;
            ready = h.ready;
            onward = h.onward;
            below = chooses.there n is;
            paid = λ n is. h.paid s e;
          }

      -- none suits
      best-missing : r ≡ None → FoundBest c p pol q want (Err Refusal.LimitsExceeded) m₀ m
      best-missing is =
          record {
            says = chosen_of is;
            ready = h.ready;
            onward = h.onward;
            below = tt;
            paid = λ n is. h.paid s e;
          }

      -- one or the other
      pub best-chosen : FoundBest c p pol q want (ok_or r Refusal.LimitsExceeded) m₀ m
      best-chosen = by_chosen r refl
        where
          by_chosen : (r' : Option ℕ) → r ≡ r' → FoundBest c p pol q want (ok_or r' Refusal.LimitsExceeded) m₀ m
          by_chosen (Some n) is = best-found n is
          by_chosen None is = best-missing is

    -- no table was found
    pub best-refused : (n : Refusal) → o ≡ Err n → FoundBest c p pol q want (Err n) m₀ m
    best-refused n e =
        record {
          says = then-refused (λ t. chosen (cheapest p (suits_want want) t)) (searched-refused h n e);
          ready = h.ready;
          onward = h.onward;
          below = tt;
          paid = λ x is. absurd (not-both is);
        }

-- ---- the best of a child, as E and as W

-- what is chosen of what a search finds
abbrev best_as : Context → Policy → Probs → Want → M Candidate
best_as c q p want s = then (search c q p s) (λ t. chosen (cheapest p (suits_want want) t))

abbrev both : (e w : Candidate) → Best
both e w = record { e = e; w = w }

best-steps : (c : Context) (q : Policy) (p : Probs) (s : State)
    → best_of p (searcher c q) s ≡ then (best_as c q p Want.E s) (λ e s. then (best_as c q p Want.W s) (λ w s. done (both e w) s))
best-steps c q p s =
    best_of-steps p (searcher c q) s
    ∙ sym
    (then-then (search c q p s) (λ t. chosen (cheapest p (suits_want Want.E) t)) (λ e s. then (best_as c q p Want.W s) (λ w s. done (both e w) s))
    ∙ then_same (search c q p s) _ _ (λ t s.
    then_same (chosen (cheapest p (suits_want Want.E) t) s) _ _ (λ e s.
    then-then (search c q p s) (λ t. chosen (cheapest p (suits_want Want.W) t)) (λ w s. done (both e w) s))))

module _ (c : Context) (q : Policy) (p : Probs) {pol m₀ m₁ : List ℕ} where
  best-no-e : {n : Refusal} → FoundBest c p pol q Want.E (Err n) m₀ m₁ → best_of p (searcher c q) (state_in pol m₀) ≡ refused (number_of n)
  best-no-e h = best-steps c q p (state_in pol m₀) ∙ then-refused (λ e s. then (best_as c q p Want.W s) (λ w s. done (both e w) s)) h.says

  module _ {e : ℕ} (h : FoundBest c p pol q Want.E (Ok e) m₀ m₁) where
    best-e : best_of p (searcher c q) (state_in pol m₀) ≡ then (best_as c q p Want.W (state_in pol m₁)) (λ w s. done (both (seen pol m₁ e) w) s)
    best-e = best-steps c q p (state_in pol m₀) ∙ then-done (λ e s. then (best_as c q p Want.W s) (λ w s. done (both e w) s)) h.says

    best-no-w : {n : Refusal} {m₂ : List ℕ} → FoundBest c p pol q Want.W (Err n) m₁ m₂ → best_of p (searcher c q) (state_in pol m₀) ≡ refused (number_of n)
    best-no-w k = best-e ∙ then-refused (λ w s. done (both (seen pol m₁ e) w) s) k.says

    best-both : {w : ℕ} {m₂ : List ℕ} → FoundBest c p pol q Want.W (Ok w) m₁ m₂
        → best_of p (searcher c q) (state_in pol m₀) ≡ done (both (seen pol m₂ e) (seen pol m₂ w)) (state_in pol m₂)
    best-both {w} {m₂} k =
        best-e
        ∙ then-done (λ w s. done (both (seen pol m₁ e) w) s) k.says
        ∙ ap (λ (x : Candidate). done (both x (seen pol m₂ w)) (state_in pol m₂))
        (sym (seen-kept h.ready.nodes k.onward.grows pol e h.below))

-- ---- the bests of all children, one after another

append-none : {A : Type 0} (xs : List A) → xs ++ [] ≡ xs
append-none [] = refl
append-none (x ∷ xs) = ap (λ l. x ∷ l) (append-none xs)

append-next : {A : Type 0} (xs : List A) (y : A) (ys : List A) → xs ++ y ∷ ys ≡ (xs ++ (y ∷ [])) ++ ys
append-next [] y ys = refl
append-next (x ∷ xs) y ys = ap (λ l. x ∷ l) (append-next xs y ys)

module _ (p : Probs) (sofar : List Best) where
  bests-done : (s : State) → then (bests p [] s) (λ bs s. done (sofar ++ bs) s) ≡ done sofar s
  bests-done s =
      then-done (λ bs s. done (sofar ++ bs) s) (bests-none p s) ∙ ap (λ (l : List Best). done l s) (append-none sofar)

  bests-on : (u : Searcher) (us : List Searcher) (s : State)
      → then (bests p (u ∷ us) s) (λ bs s. done (sofar ++ bs) s)
      ≡ then (best_of p u s) (λ b s. then (bests p us s) (λ bs s. done ((sofar ++ (b ∷ [])) ++ bs) s))
  unfolding then
  bests-on u us s =
      ap (λ (r : Res (List Best)). then r (λ bs s. done (sofar ++ bs) s)) (bests-next p u us s)
      ∙ then-then (best_of p u s) (λ b s. then (bests p us s) (λ bs s. done (b ∷ bs) s)) (λ bs s. done (sofar ++ bs) s)
      ∙ then_same (best_of p u s) _ _ (λ b s.
      then-then (bests p us s) (λ bs s. done (b ∷ bs) s) (λ bs s. done (sofar ++ bs) s)
      ∙ then_same (bests p us s) (λ bs s. done (sofar ++ b ∷ bs) s) (λ bs s. done ((sofar ++ (b ∷ [])) ++ bs) s)
      (λ bs s. ap (λ (l : List Best). done l s) (append-next sofar b bs)))

-- the searchers of some policies, from one on
searchers-from : (c : Context) (xs : List Policy) (j : ℕ) → j < length xs
    → drop j (searchers c (from_list xs)) ≡ searcher c (nth xs j) ∷ drop (suc j) (searchers c (from_list xs))
unfolding from_list
searchers-from c [] j l = absurd (omega arith)
searchers-from c (x ∷ xs) zero l =
    searchers-next c x (from_list xs)
    ∙ ap (λ (us : List Searcher). searcher c x ∷ drop 1 us) (sym (searchers-next c x (from_list xs)))
searchers-from c (x ∷ xs) (suc j) l =
    ap (drop (suc j)) (searchers-next c x (from_list xs))
    ∙ searchers-from c xs j (omega arith)
    ∙ ap (λ (us : List Searcher). searcher c (nth xs j) ∷ drop (suc (suc j)) us) (sym (searchers-next c x (from_list xs)))

searchers-end : (c : Context) (xs : List Policy) → drop (length xs) (searchers c (from_list xs)) ≡ []
unfolding from_list
searchers-end c [] = searchers-none c
searchers-end c (x ∷ xs) = ap (drop (suc (length xs))) (searchers-next c x (from_list xs)) ∙ searchers-end c xs

-- ---- the numbers of the bests

below-snoc : (n : ℕ) (xs : List ℕ) (e : ℕ) → AllBelow n xs → e < n → AllBelow n (xs ++ (e ∷ []))
unfolding AllBelow
below-snoc n [] e h l = (l, tt)
below-snoc n (x ∷ xs) e h l = (h.0, below-snoc n xs e h.1 l)

bests-snoc : (pol m xs ys : List ℕ) (e w : ℕ) → length xs ≡ length ys
    → bests_of pol m (xs ++ (e ∷ [])) (ys ++ (w ∷ [])) ≡ bests_of pol m xs ys ++ (both (seen pol m e) (seen pol m w) ∷ [])
unfolding bests_of
bests-snoc pol m [] [] e w l = refl
bests-snoc pol m [] (y ∷ ys) e w l = absurd (omega arith)
bests-snoc pol m (x ∷ xs) [] e w l = absurd (omega arith)
bests-snoc pol m (x ∷ xs) (y ∷ ys) e w l =
    ap (λ (bs : List Best). both (seen pol m x) (seen pol m y) ∷ bs) (bests-snoc pol m xs ys e w (omega arith))

bests-kept : {pol m₀ m : List ℕ} → Ready pol m₀ → Onward m₀ m → (xs ys : List ℕ) → AllBelow (node_count m₀) xs → AllBelow (node_count m₀) ys
    → bests_of pol m₀ xs ys ≡ bests_of pol m xs ys
unfolding AllBelow bests_of
bests-kept ready on [] ys h k = refl
bests-kept ready on (x ∷ xs) [] h k = refl
bests-kept {pol} {m₀} {m} ready on (x ∷ xs) (y ∷ ys) h k =
    let e : seen pol m x ≡ seen pol m₀ x = seen-kept ready.nodes on.grows pol x h.0 in
    let w : seen pol m y ≡ seen pol m₀ y = seen-kept ready.nodes on.grows pol y k.0 in
    ap (λ (z : Candidate). both z (seen pol m₀ y) ∷ bests_of pol m₀ xs ys) (sym e)
    ∙ ap (λ (z : Candidate). both (seen pol m x) z ∷ bests_of pol m₀ xs ys) (sym w)
    ∙ ap (λ (bs : List Best). both (seen pol m x) (seen pol m y) ∷ bs) (bests-kept ready on xs ys h.1 k.1)

-- ---- the loop: the bests of the first j children are known

pub record BestsSoFar (c : Context) (p : Probs) (pol : List ℕ) (q : Policy) (j : ℕ) (es ws m₀ m : List ℕ) : Type 0 where
  pub says : bests p (child_searchers c q) (state_in pol m₀)
      ≡ then (bests p (drop j (child_searchers c q)) (state_in pol m)) (λ bs s. done (bests_of pol m (take j es) (take j ws) ++ bs) s)
  pub ready : Ready pol m
  pub onward : Onward m₀ m
  pub below_e : AllBelow (node_count m) (take j es)
  pub below_w : AllBelow (node_count m) (take j ws)
  pub paid : Paid 0 m₀ m

pub bests-begin : (c : Context) (p : Probs) (q : Policy) {pol m : List ℕ} (es ws : List ℕ) → Ready pol m → BestsSoFar c p pol q 0 es ws m m
unfolding AllBelow bests_of
bests-begin c p q {pol} {m} es ws ready =
    record {
      says = sym (then-pure (bests p (child_searchers c q) (state_in pol m)) (λ bs s. done bs s) (λ bs s. refl));
      ready = ready;
      onward = onward-refl m;
      below_e = tt;
      below_w = tt;
      paid = paid-refl m;
    }

-- one child more, or a refusal
module _ (c : Context) (p : Probs) (q : Policy) {pol : List ℕ} {j : ℕ} {es ws m₀ m : List ℕ} (sofar : BestsSoFar c p pol q j es ws m₀ m)
    (more : j < length (children_of q)) {q' : Policy} (is : q' ≡ nth (children_of q) j) where
  now_on : {r : Res Best} → best_of p (searcher c q') (state_in pol m) ≡ r
      → bests p (child_searchers c q) (state_in pol m₀)
      ≡ then r
      (λ b s. then (bests p (drop (suc j) (child_searchers c q)) s) (λ bs s. done ((bests_of pol m (take j es) (take j ws) ++ (b ∷ [])) ++ bs) s))
  now_on {r} h =
      let known : List Best = bests_of pol m (take j es) (take j ws) in
      sofar.says
      ∙ ap (λ (us : List Searcher). then (bests p us (state_in pol m)) (λ bs s. done (known ++ bs) s)) (searchers-from c (children_of q) j more)
      ∙ bests-on p known (searcher c (nth (children_of q) j)) (drop (suc j) (child_searchers c q)) (state_in pol m)
      ∙ ap
      (λ (r : Res Best). then r (λ b s. then (bests p (drop (suc j) (child_searchers c q)) s) (λ bs s. done ((known ++ (b ∷ [])) ++ bs) s)))
      (ap (λ (x : Policy). best_of p (searcher c x) (state_in pol m)) (sym is) ∙ h)

  refused-bests : {m₁ : List ℕ} (n : Refusal) → best_of p (searcher c q') (state_in pol m) ≡ refused (number_of n) → Ready pol m₁ → Onward m m₁
      → (k : ℕ) → FoundBests c p pol q k (Err n) m₀ m₁
  refused-bests {m₁} n h ready on k =
      record {
        says =
            now_on h
            ∙ then-refused
            (λ b s. then (bests p (drop (suc j) (child_searchers c q)) s) (λ bs s. done ((bests_of pol m (take j es) (take j ws) ++ (b ∷ [])) ++ bs) s))
            refl;
        ready = ready;
        onward = onward-trans sofar.onward on;
        es = λ b d. absurd (not-both d);
        ws = λ b d. absurd (not-both d);
        paid = λ b d. absurd (not-both d);
      }

  -- refused as E
  pub bests-no-e : {m₁ : List ℕ} (n : Refusal) → FoundBest c p pol q' Want.E (Err n) m m₁ → (k : ℕ) → FoundBests c p pol q k (Err n) m₀ m₁
  bests-no-e n h k = refused-bests n (best-no-e c q' p h) h.ready h.onward k

  module _ {m₁ m₂ : List ℕ} {e : ℕ} (h : FoundBest c p pol q' Want.E (Ok e) m m₁) where
    -- refused as W
    pub bests-no-w : (n : Refusal) → FoundBest c p pol q' Want.W (Err n) m₁ m₂ → (k : ℕ) → FoundBests c p pol q k (Err n) m₀ m₂
    bests-no-w n w k = refused-bests n (best-no-w c q' p h w) w.ready (onward-trans h.onward w.onward) k

    -- both
    pub bests-step : {w : ℕ} → FoundBest c p pol q' Want.W (Ok w) m₁ m₂ → j < length es → j < length ws
        → BestsSoFar c p pol q (j + 1) (set es j e) (set ws j w) m₀ m₂
    bests-step {w} k le lw =
        let on : Onward m m₂ = onward-trans h.onward k.onward in
        let one : suc j ≡ j + 1 = omega arith in
        let as-e : take (j + 1) (set es j e) ≡ take j es ++ (e ∷ []) = ap (λ (n : ℕ). take n (set es j e)) (sym one) ∙ take-suc-set es j e le in
        let as-w : take (j + 1) (set ws j w) ≡ take j ws ++ (w ∷ []) = ap (λ (n : ℕ). take n (set ws j w)) (sym one) ∙ take-suc-set ws j w lw in
        let long-e : length (take j es) ≡ j = length-take-le j es (omega arith) in
        let long-w : length (take j ws) ≡ j = length-take-le j ws (omega arith) in
        let bests-are : bests_of pol m (take j es) (take j ws) ++ (both (seen pol m₂ e) (seen pol m₂ w) ∷ [])
        ≡ bests_of pol m₂ (take (j + 1) (set es j e)) (take (j + 1) (set ws j w)) =
        ap (λ (bs : List Best). bs ++ (both (seen pol m₂ e) (seen pol m₂ w) ∷ []))
        (bests-kept sofar.ready on (take j es) (take j ws) sofar.below_e sofar.below_w)
        ∙ sym (bests-snoc pol m₂ (take j es) (take j ws) e w (long-e ∙ sym long-w))
        ∙ ap (λ (xs : List ℕ). bests_of pol m₂ xs (take j ws ++ (w ∷ []))) (sym as-e)
        ∙ ap (λ (ys : List ℕ). bests_of pol m₂ (take (j + 1) (set es j e)) ys) (sym as-w) in
        let grown : node_count m ≤ node_count m₂ = on.grows.more in
        record {
          says =
              now_on (best-both c q' p h k)
              ∙ then-done
              (λ b s. then (bests p (drop (suc j) (child_searchers c q)) s)
              (λ bs s. done ((bests_of pol m (take j es) (take j ws) ++ (b ∷ [])) ++ bs) s))
              refl
              ∙ ap (λ (n : ℕ). then (bests p (drop n (child_searchers c q)) (state_in pol m₂))
              (λ bs s. done ((bests_of pol m (take j es) (take j ws) ++ (both (seen pol m₂ e) (seen pol m₂ w) ∷ [])) ++ bs) s)) one
              ∙ ap (λ (l : List Best). then (bests p (drop (j + 1) (child_searchers c q)) (state_in pol m₂)) (λ bs s. done (l ++ bs) s)) bests-are;
          ready = k.ready;
          onward = onward-trans sofar.onward on;
          below_e =
              subst (AllBelow (node_count m₂)) (sym as-e)
              (below-snoc (node_count m₂) (take j es) e (below_more (node_count m) (node_count m₂) (take j es) grown sofar.below_e)
              (omega (arith, h.below, k.onward.grows.more)));
          below_w =
              subst (AllBelow (node_count m₂)) (sym as-w)
              (below-snoc (node_count m₂) (take j ws) w (below_more (node_count m) (node_count m₂) (take j ws) grown sofar.below_w) k.below);
          paid = paid-after 0 m₀ m m₂ sofar.paid (paid-after 0 m m₁ m₂ (h.paid e refl) (k.paid w refl));
        }

ok-same : {b b' : Bests} → ◌≡◌ {A = Result Bests Refusal} (Ok b) (Ok b') → b ≡ b'
ok-same e = cc

-- all children
pub bests-end : (c : Context) (p : Probs) (q : Policy) {pol : List ℕ} {j : ℕ} {es ws m₀ m : List ℕ} → BestsSoFar c p pol q j es ws m₀ m
    → j ≡ length (children_of q) → FoundBests c p pol q j (Ok (record { es = es; ws = ws })) m₀ m
bests-end c p q {pol} {j} {es} {ws} {m₀} {m} sofar is =
    let known : List Best = bests_of pol m (take j es) (take j ws) in
    record {
      says =
          sofar.says
          ∙ ap (λ (us : List Searcher). then (bests p us (state_in pol m)) (λ bs s. done (known ++ bs) s))
          (ap (λ (n : ℕ). drop n (child_searchers c q)) is ∙ searchers-end c (children_of q))
          ∙ bests-done p known (state_in pol m);
      ready = sofar.ready;
      onward = sofar.onward;
      es =
          λ b d.
          let same : es ≡ b.es = ap (λ (b : Bests). b.es) (ok-same d) in
          subst (λ (xs : List ℕ). AllBelow (node_count m) (take j xs)) same sofar.below_e;
      ws =
          λ b d.
          let same : ws ≡ b.ws = ap (λ (b : Bests). b.ws) (ok-same d) in
          subst (λ (xs : List ℕ). AllBelow (node_count m) (take j xs)) same sofar.below_w;
      paid = λ b d. sofar.paid;
    }
