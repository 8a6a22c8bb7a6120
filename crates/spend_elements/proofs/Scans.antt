-- What the loops over an element's bytes have found, and what is still to come.
use Prim.Native.Nat.{ℕ, zero, suc, ◌+◌, ◌-◌, ◌≤◌, ◌<◌}
use native.Mathlib.Omega.{arith}
use native.Mathlib.Numerals.{add-one}
use mathlib.Core.Bool.{Bool, true, false, not, ◌&&◌, ◌||◌, cond}
use mathlib.Core.List.{List, [], ◌∷◌}
use mathlib.Core.Path.{◌≡◌, refl, ◌∙◌, sym, ap}
use borrow.Author.Tests.{eqb-true, eqb-false, eq-eqb, ne_eqb}
use lib.Dec.{eqb, eqb-zero-suc, eqb-suc-zero}
use lib.ListN.{length, get_or, drop, length-drop, drop_of_length-le}
use lib.Seq.{drop-cons}
use Rattle.contexts.specs.declared.Context.{Context}
use Rattle.contexts.specs.declared.Context.TheVariants.{Segwitv0, Tap}
use Rattle.script_machine.specs.Numbers.{Bytes, is_true, same}
use Rattle.script_machine.specs.Machine.{may_branch}
use Rattle.spend_elements.specs.Elements.{tells, is_one}

and-true : (a : Bool) → a && true ≡ a
and-true true = refl
and-true false = refl

-- ---- is_true

tells-last : (b : ℕ) → (not (eqb b 0x00) && not (eqb b 0x80)) ≡ tells b true || false
tells-last b = go (eqb b 0) (eqb b 0x80)
  where
    go : (x y : Bool) → (not x && not y) ≡ cond x false (cond y false true) || false
    go true y = refl
    go false true = refl
    go false false = refl

tells_more : (b : ℕ) (t : Bool) → not (eqb b 0x00) || t ≡ tells b false || t
tells_more b t = go (eqb b 0) (eqb b 0x80)
  where
    go : (x y : Bool) → not x || t ≡ cond x false (cond y true true) || t
    go true y = refl
    go false true = refl
    go false false = refl

tells-cons : (b : ℕ) (bs : Bytes) → is_true (b ∷ bs) ≡ tells b (eqb (length bs) 0) || is_true bs
unfolding is_true
tells-cons b [] = tells-last b
tells-cons b (c ∷ bs) = rw (eqb-suc-zero (length bs)) (tells_more b (is_true (c ∷ bs)))

abbrev pub TrueToCome : Bytes → ℕ → Type 0
TrueToCome x j = is_true (drop j x) ≡ is_true x

last-is : (n m : ℕ) (x : Bytes) → length x ≡ n → m < n → eqb (m + 1) n ≡ eqb (length (drop (suc m) x)) 0
last-is n m x e l = go (eqb (m + 1) n) refl
  where
    go : (b : Bool) → eqb (m + 1) n ≡ b → b ≡ eqb (length (drop (suc m) x)) 0
    go true h = sym (eq-eqb (length (drop (suc m) x)) 0 (omega (arith, length-drop (suc m) x, eqb-true (m + 1) n h)))
    go false h = sym (ne_eqb (length (drop (suc m) x)) 0 (λ z. eqb-false (m + 1) n h (omega (arith, length-drop (suc m) x))))

-- byte j and those behind it
true-next : (x : Bytes) (n j b : ℕ) → n ≡ length x → j < n → b ≡ get_or x j 0
    → is_true (drop j x) ≡ tells b (eqb (j + 1) n) || is_true (drop (suc j) x)
true-next x n j b en l eb =
    rw (drop-cons x j 0 (omega arith)) (tells-cons (get_or x j 0) (drop (suc j) x)
    ∙ rw (eb, last-is n j x (sym en) l) refl)

pub true-more : (x : Bytes) (n j b : ℕ) → n ≡ length x → j < n → b ≡ get_or x j 0 → tells b (eqb (j + 1) n) ≡ false
    → TrueToCome x j → TrueToCome x (j + 1)
true-more x n j b en l eb et h =
    rw (add-one j) (sym (true-next x n j b en l eb ∙ ap (λ (t : Bool). t || is_true (drop (suc j) x)) et) ∙ h)

pub true-told : (x : Bytes) (n j b : ℕ) → n ≡ length x → j < n → b ≡ get_or x j 0 → tells b (eqb (j + 1) n) ≡ true
    → TrueToCome x j → true ≡ is_true x
true-told x n j b en l eb et h =
    sym (true-next x n j b en l eb ∙ ap (λ (t : Bool). t || is_true (drop (suc j) x)) et) ∙ h

pub true-done : (x : Bytes) (n j : ℕ) → n ≡ length x → n ≤ j → TrueToCome x j → false ≡ is_true x
unfolding is_true
true-done x n j e l h = rw (drop_of_length-le x {i = j} (omega arith)) at h

-- ---- same

abbrev pub SameToCome : Bytes → Bytes → ℕ → Type 0
SameToCome x y j = same (drop j x) (drop j y) ≡ same x y

-- bytes j and those behind them
same-next : (x y : Bytes) (n j a b : ℕ) → n ≡ length x → n ≡ length y → j < n → a ≡ get_or x j 0 → b ≡ get_or y j 0
    → same (drop j x) (drop j y) ≡ eqb a b && same (drop (suc j) x) (drop (suc j) y)
unfolding same
same-next x y n j a b ex ey l ea eb =
    let cx : drop j x ≡ get_or x j 0 ∷ drop (suc j) x = drop-cons x j 0 (omega arith) in
    let cy : drop j y ≡ get_or y j 0 ∷ drop (suc j) y = drop-cons y j 0 (omega arith) in
    rw (cx, cy, ea, eb) refl

pub same_more : (x y : Bytes) (n j a b : ℕ) → n ≡ length x → n ≡ length y → j < n → a ≡ get_or x j 0 → b ≡ get_or y j 0
    → a ≡ b → SameToCome x y j → SameToCome x y (j + 1)
same_more x y n j a b ex ey l ea eb e h =
    rw (add-one j) (sym (same-next x y n j a b ex ey l ea eb
    ∙ ap (λ (t : Bool). t && same (drop (suc j) x) (drop (suc j) y)) (eq-eqb a b e)) ∙ h)

pub same-other : (x y : Bytes) (n j a b : ℕ) → n ≡ length x → n ≡ length y → j < n → a ≡ get_or x j 0 → b ≡ get_or y j 0
    → (a ≡ b → ⊥) → SameToCome x y j → false ≡ same x y
same-other x y n j a b ex ey l ea eb e h =
    sym (same-next x y n j a b ex ey l ea eb
    ∙ ap (λ (t : Bool). t && same (drop (suc j) x) (drop (suc j) y)) (ne_eqb a b e)) ∙ h

pub same-done : (x y : Bytes) (n j : ℕ) → n ≡ length x → n ≡ length y → n ≤ j → SameToCome x y j → true ≡ same x y
unfolding same
same-done x y n j ex ey l h = rw (drop_of_length-le x {i = j} (omega arith), drop_of_length-le y {i = j} (omega arith)) at h

pub same_not : (x y : Bytes) → (length x ≡ length y → ⊥) → same x y ≡ false
unfolding same
same_not [] [] h = absurd (h refl)
same_not [] (c ∷ cs) h = refl
same_not (b ∷ bs) [] h = refl
same_not (b ∷ bs) (c ∷ cs) h = rw (same_not bs cs (λ e. h (ap suc e))) (and-false (eqb b c))
  where
    and-false : (a : Bool) → a && false ≡ false
    and-false true = refl
    and-false false = refl

-- ---- what IF and NOTIF take in Tapscript

pub one-is : (x : Bytes) → length x ≡ 1 → is_one x ≡ eqb (get_or x 0 0) 1
unfolding same
one-is [] h = absurd (omega arith)
one-is (b ∷ []) h = and-true (eqb b 1)
one-is (b ∷ c ∷ bs) h = absurd (omega arith)

pub one-not : (x : Bytes) → (length x ≡ 1 → ⊥) → is_one x ≡ false
one-not x h = same_not x (1 ∷ []) h

pub may-empty : (x : Bytes) → length x ≡ 0 → may_branch Tap x ≡ true
unfolding same
may-empty [] h = refl
may-empty (b ∷ bs) h = absurd (omega arith)

pub may-other : (x : Bytes) → (length x ≡ 0 → ⊥) → may_branch Tap x ≡ is_one x
may-other x h = rw (same_not x [] h)
