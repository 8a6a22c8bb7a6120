-- What the children of a Thresh ask for where they are searched one after another (`all_bests`), and what falls from a search with dissatisfaction to
-- the one without. Assumes nothing.
use Rattle.refusals.specs.declared.Refusal.{Refusal}
use Rattle.std.specs.Prelude.{Float, Option, None, Result, Ok, Err}
use mathlib.Core.Path.{◌≡◌, refl, sym, ap, ◌∙◌, subst}
use mathlib.Core.List.{List}
use Prim.Native.Nat.{ℕ, ◌+◌, ◌<◌, ◌≤◌}
use native.Mathlib.Omega.{arith}
use lib.ListN.{length, set, length-set}
use Rattle.contexts.specs.declared.Context.{Context}
use Rattle.costs.specs.Arithmetic.{1·}
use Rattle.policies.specs.Policy.{Policy}
use Rattle.policies.specs.Forms.{kind_of, children_of, nth}
use Rattle.policies.specs.Array.{policy_at, child_number}
use Rattle.policies.proofs.Views.{child-is}
use Rattle.definition.specs.Tables.{Probs}
use Rattle.search_state.specs.State.{flag_of, load}
use Rattle.search_state.proofs.Chains.{paid-after}
use Rattle.choice.specs.declared.Want.TheVariants as Want
use Rattle.search.specs.Searching.{Going, Under, FoundBest, FoundBests}
use Rattle.search.proofs.Ranks.{rank}
use Rattle.search.proofs.Asking.{under-child, under-lighter, going-under, going_on, thresh-bounds}
use Rattle.search.proofs.Threshes.{BestsSoFar, bests-no-e, bests-no-w, bests-step, bests-end}

-- from a search to the same search without dissatisfaction
pub again-rank : (pol : List ℕ) (r : ℕ) (d : Option Float) → flag_of d ≡ 1 → rank pol r None 16 < rank pol r d 6
again-rank pol r d e = omega arith

-- a Thresh has at most 16 children
pub few-children : {pol : List ℕ} {r n : ℕ} {dissat : Option Float} {m : List ℕ} → Going 1 pol r dissat m → kind_of (policy_at pol r) ≡ 12
    → length (children_of (policy_at pol r)) ≡ n → n ≤ 16
few-children g kind count = (thresh-bounds g.classed.good g.named kind refl count g.formed).2

-- ---- child j, searched as E, then as W

module _ (C : Context) (p : Probs) {pol : List ℕ} {r n : ℕ} {dissat : Option Float} {m₀ : List ℕ} (g : Going 1 pol r dissat m₀)
    (count : length (children_of (policy_at pol r)) ≡ n) {j : ℕ} {es ws m : List ℕ} (sofar : BestsSoFar C p pol (policy_at pol r) j es ws m₀ m)
    (more : j < n) {a : ℕ} (child : a ≡ child_number pol r j) where
  there : j < length (children_of (policy_at pol r))
  there = omega arith

  child-policy : policy_at pol a ≡ nth (children_of (policy_at pol r)) j
  child-policy = ap (policy_at pol) child ∙ (child-is pol g.classed.good r j g.named there).is

  child-under : Under pol r a
  child-under = subst (Under pol r) (sym child) (under-child g.classed.good g.named g.formed j there)

  pub child-rank : (d : Option Float) → rank pol a d 17 < rank pol r dissat 13
  child-rank d =
      let falls : load (policy_at pol a) d < load (policy_at pol r) dissat = (under-lighter child-under dissat 1· d).falls in
      omega arith

  pub child-going : (d : Option Float) → Going 0 pol a d m
  child-going d = going-under (going_on g sofar.ready sofar.paid) d child-under

  module _ {b : Result ℕ Refusal} {m₁ : List ℕ} (first : FoundBest C p pol (policy_at pol a) Want.E b m m₁) where
    pub first-refused : {x : Refusal} → b ≡ Err x → FoundBests C p pol (policy_at pol r) n (Err x) m₀ m₁
    first-refused {x} is =
        bests-no-e C p (policy_at pol r) sofar there child-policy x
        (subst (λ (b : Result ℕ Refusal). FoundBest C p pol (policy_at pol a) Want.E b m m₁) is first) n

    module _ {e : ℕ} (is : b ≡ Ok e) where
      pub second-going : (d : Option Float) → Going 0 pol a d m₁
      second-going d = going-under (going_on g first.ready (paid-after 0 m₀ m m₁ sofar.paid (first.paid e is))) d child-under

      found-e : FoundBest C p pol (policy_at pol a) Want.E (Ok e) m m₁
      found-e = subst (λ (b : Result ℕ Refusal). FoundBest C p pol (policy_at pol a) Want.E b m m₁) is first

      module _ {b' : Result ℕ Refusal} {m₂ : List ℕ} (second : FoundBest C p pol (policy_at pol a) Want.W b' m₁ m₂) where
        pub second-refused : {x : Refusal} → b' ≡ Err x → FoundBests C p pol (policy_at pol r) n (Err x) m₀ m₂
        second-refused {x} is' =
            bests-no-w C p (policy_at pol r) sofar there child-policy found-e x
            (subst (λ (b : Result ℕ Refusal). FoundBest C p pol (policy_at pol a) Want.W b m₁ m₂) is' second) n

        pub both_found : {w : ℕ} → b' ≡ Ok w → n ≤ 16 → length es ≡ 16 → length ws ≡ 16
            → BestsSoFar C p pol (policy_at pol r) (j + 1) (set es j e) (set ws j w) m₀ m₂
            × ((j + 1 ≤ n) × ((length (set es j e) ≡ 16) × (length (set ws j w) ≡ 16)))
        both_found {w} is' few le lw = (
          bests-step C p (policy_at pol r) sofar there child-policy found-e
              (subst (λ (b : Result ℕ Refusal). FoundBest C p pol (policy_at pol a) Want.W b m₁ m₂) is' second) (omega arith) (omega arith),
          (omega arith, (length-set es j e ∙ le, length-set ws j w ∙ lw)),
        )

-- all children
pub all_found : (C : Context) (p : Probs) (q : Policy) {pol : List ℕ} {j n : ℕ} {es ws m₀ m : List ℕ} → BestsSoFar C p pol q j es ws m₀ m
    → length (children_of q) ≡ n → n ≤ j → j ≤ n → FoundBests C p pol q n (Ok (record { es = es; ws = ws })) m₀ m
all_found C p q {pol} {j} {n} {es} {ws} {m₀} {m} sofar count ge le =
    let is : j ≡ n = omega arith in
    subst (λ (n : ℕ). FoundBests C p pol q n (Ok (record { es = es; ws = ws })) m₀ m) is (bests-end C p q sofar (is ∙ sym count))
