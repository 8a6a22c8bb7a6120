-- The root of a table: the cheapest entry of base B, which must be safe. Assumes nothing.
use Rattle.refusals.specs.declared.Refusal.TheVariants as Refusal
use mathlib.Core.Bool.{Bool, true, false, cond}
use mathlib.Core.List.{List}
use Rattle.std.specs.Prelude.{Option, None, Some, Ok, Err}
use mathlib.Core.Path.{◌≡◌, refl, sym, ap, ◌∙◌}
use Prim.Native.Nat.{ℕ}
use Rattle.types.specs.declared.«Type».{«Type»}
use Rattle.definition.specs.Candidates.{Candidate}
use Rattle.definition.specs.Refusals.{State, Res, refused, then, pure, refuse, LimitsExceeded, TopLevelNonSafe}
use Rattle.definition.specs.Search.{chosen, cheapest, is_base_b}
use Rattle.definition.specs.Compile.{root_probs, if_safe}
use Rattle.nodes.specs.Words.{node_at}
use Rattle.nodes.specs.Views.{seen}
use Rattle.nodes.proofs.Seen.{seen-fields}
use Rattle.search_state.specs.State.{slot_table}
use Rattle.choice.specs.declared.Want.TheVariants as Want
use Rattle.choice.specs.Chosen.{Chooses, chosen_seen}
use Rattle.compile.specs.Answers.{Picks}

-- what follows the choice
abbrev after : Option Candidate → State → Res Candidate
after o st = then (chosen o st) (λ x s. if_safe x s)

after_none : (st : State) → after None st ≡ refused LimitsExceeded
unfolding then
after_none st = refl

after-some : (x : Candidate) (st : State) → after (Some x) st ≡ if_safe x st
unfolding then
after-some x st = refl

if-safe : (x : Candidate) (st : State) (b : Bool) → x.ty.mall.safe ≡ b → if_safe x st ≡ cond b (pure x) (refuse TopLevelNonSafe) st
if-safe x st b e = ap (λ (t : Bool). cond t (pure x) (refuse TopLevelNonSafe) st) e

module _ (m : List ℕ) (s : ℕ) {r : Option ℕ} (h : Chooses m s root_probs Want.Root r) where
  says-as : (answer : Option ℕ) → r ≡ answer → (pol : List ℕ) → cheapest root_probs is_base_b (slot_table pol m s) ≡ chosen_seen pol m answer
  says-as answer e pol = h.says pol ∙ ap (λ (x : Option ℕ). chosen_seen pol m x) e

  pub none-picked : r ≡ None → Picks m s (Err Refusal.LimitsExceeded)
  none-picked e =
      record {
        says = λ pol st. ap (λ (o : Option Candidate). after o st) (says-as None e pol) ∙ after_none st;
        there = tt;
      }

  module _ (e : ℕ) (is : r ≡ Some e) {b : Bool} (tells : b ≡ (node_at m e).ty.mall.safe) where
    goes : (pol : List ℕ) (st : State) (t : Bool) → b ≡ t →
        after (cheapest root_probs is_base_b (slot_table pol m s)) st ≡ cond t (pure (seen pol m e)) (refuse TopLevelNonSafe) st
    goes pol st t taken =
        let safe : (seen pol m e).ty.mall.safe ≡ t =
        ap (λ (y : «Type»). y.mall.safe) (seen-fields pol m e (h.there e is)).ty ∙ sym tells ∙ taken in
        ap (λ (o : Option Candidate). after o st) (says-as (Some e) is pol) ∙ after-some (seen pol m e) st ∙ if-safe (seen pol m e) st t safe

    pub safe-picked : b ≡ true → Picks m s (Ok e)
    safe-picked taken = record { says = λ pol st. goes pol st true taken; there = h.there e is }

    pub unsafe-refused : b ≡ false → Picks m s (Err Refusal.TopLevelNonSafe)
    unsafe-refused taken = record { says = λ pol st. goes pol st false taken; there = tt }
