-- Equal heads and equal children make equal policies, child by child. Assumes nothing.
use mathlib.Core.Path.{◌≡◌, refl, sym, ◌∙◌, ap}
use mathlib.Core.Bool.{Bool, true, false}
use mathlib.Core.List.{List, [], ◌∷◌, ◌++◌}
use Prim.Native.Nat.{ℕ, ◌+◌, ◌<◌, ◌≤◌}
use native.Mathlib.Numerals.{add-one}
use native.Mathlib.Omega.{arith}
use lib.ListN.{length, take}
use lib.Seq.{take-suc, take_all}
use Rattle.policies.specs.Policy.{Policy, Unsatisfiable, weight}
use Rattle.policies.specs.Forms.{nth, children_of}
use Rattle.policies.specs.Heads.{head_of}
use Rattle.policies.specs.declared.Head.{Head}
use Rattle.policies.specs.Array.{policy_at, Good, Named, child_number}
use Rattle.policies.proofs.Forms.{same_parts}
use Rattle.policies.proofs.Views.{child-is, child-falls}
use Rattle.classes.specs.Classes.{Decides}

pub decides-yes : {A : Type 0} → A → Decides true A
decides-yes a = record { yes = λ e. a; no = λ e. absurd (let z : ◌≡◌ {A = ℕ} 0 1 = cc in omega arith) }

pub decides-no : {A : Type 0} → (A → ⊥) → Decides false A
decides-no f = record { yes = λ e. absurd (let z : ◌≡◌ {A = ℕ} 0 1 = cc in omega arith); no = λ e. f }

pub head-same : (a b : Head) → a.kind ≡ b.kind → a.number ≡ b.number → a.k ≡ b.k → a.count ≡ b.count
    → a.left_weight ≡ b.left_weight → a.right_weight ≡ b.right_weight → a ≡ b
head-same a b e₁ e₂ e₃ e₄ e₅ e₆ =
    ap (λ (x : ℕ). made x a.number a.k a.count a.left_weight a.right_weight) e₁
    ∙ ap (λ (x : ℕ). made b.kind x a.k a.count a.left_weight a.right_weight) e₂
    ∙ ap (λ (x : ℕ). made b.kind b.number x a.count a.left_weight a.right_weight) e₃
    ∙ ap (λ (x : ℕ). made b.kind b.number b.k x a.left_weight a.right_weight) e₄
    ∙ ap (λ (x : ℕ). made b.kind b.number b.k b.count x a.right_weight) e₅
    ∙ ap (λ (x : ℕ). made b.kind b.number b.k b.count b.left_weight x) e₆
  where
    made : (kind number k count left right : ℕ) → Head
    made kind number k count left right =
        record { kind = kind; number = number; k = k; count = count; left_weight = left; right_weight = right }

-- the first j children are equal
pub record SameInv (p q : Policy) (j : ℕ) : Type 0 where
  pub within : j ≤ length (children_of p)
  pub so_far : take j (children_of p) ≡ take j (children_of q)

pub same-starts : (p q : Policy) → SameInv p q 0
same-starts p q = record { within = omega arith; so_far = refl }

module _ (m : List ℕ) (r q : ℕ) (g : Good m) (nr : Named m r) (nq : Named m q) {a b : Head} (ea : a ≡ head_of (policy_at m r))
    (eb : b ≡ head_of (policy_at m q)) {t : Bool} (heads : Decides t (a ≡ b)) where
  pub heads-apart : t ≡ false → Decides false (policy_at m r ≡ policy_at m q)
  heads-apart z = decides-no (λ e. heads.no z (ea ∙ ap head_of e ∙ sym eb))

  module _ (same-heads : t ≡ true) where
    count-r : a.count ≡ length (children_of (policy_at m r))
    count-r = ap (λ (h : Head). h.count) ea

    count-q : a.count ≡ length (children_of (policy_at m q))
    count-q = ap (λ (h : Head). h.count) (heads.yes same-heads ∙ eb)

    module _ (j : ℕ) (l : j < a.count) {x y : ℕ} (ex : x ≡ child_number m r j) (ey : y ≡ child_number m q j) where
      in-r : j < length (children_of (policy_at m r))
      in-r = omega (arith, count-r)

      in-q : j < length (children_of (policy_at m q))
      in-q = omega (arith, count-q)

      pub same-falls : (w : ℕ) → weight (policy_at m r) ≡ w → (weight (policy_at m x) < w) × (Good m × (Named m x × Named m y))
      same-falls w e =
          let falls = child-falls m g r j nr in-r in
          rw (ex, ey) (omega arith, (g, ((child-is m g r j nr in-r).named, (child-is m g q j nq in-q).named)))

      child-r : policy_at m x ≡ nth (children_of (policy_at m r)) j
      child-r = ap (policy_at m) ex ∙ (child-is m g r j nr in-r).is

      child-q : policy_at m y ≡ nth (children_of (policy_at m q)) j
      child-q = ap (policy_at m) ey ∙ (child-is m g q j nq in-q).is

      module _ {u : Bool} (child : Decides u (policy_at m x ≡ policy_at m y)) where
        pub child-apart : u ≡ false → Decides false (policy_at m r ≡ policy_at m q)
        child-apart z = decides-no (λ e. child.no z (child-r ∙ ap (λ (p : Policy). nth (children_of p) j) e ∙ sym child-q))

        pub same_more : u ≡ true → SameInv (policy_at m r) (policy_at m q) j → SameInv (policy_at m r) (policy_at m q) (j + 1)
        same_more z inv =
            let cs : List Policy = children_of (policy_at m r) in
            let ds : List Policy = children_of (policy_at m q) in
            let one : nth cs j ≡ nth ds j = sym child-r ∙ child.yes z ∙ child-q in
            let front : take j cs ≡ take j ds = inv.so_far in
            record {
              within = omega (arith, in-r);
              so_far =
                  rw (add-one j, take-suc cs j Unsatisfiable in-r, take-suc ds j Unsatisfiable in-q)
                  (ap (λ (xs : List Policy). xs ++ (nth cs j ∷ [])) front ∙ ap (λ (p : Policy). take j ds ++ (p ∷ [])) one);
            }

    pub same-all : (j : ℕ) → a.count ≤ j → SameInv (policy_at m r) (policy_at m q) j → Decides true (policy_at m r ≡ policy_at m q)
    same-all j l inv =
        let cs : List Policy = children_of (policy_at m r) in
        let ds : List Policy = children_of (policy_at m q) in
        let all : cs ≡ ds = sym (take_all j cs (omega (arith, count-r))) ∙ inv.so_far ∙ take_all j ds (omega (arith, count-q)) in
        decides-yes (same_parts (policy_at m r) (policy_at m q) (sym ea ∙ heads.yes same-heads ∙ eb) all)
