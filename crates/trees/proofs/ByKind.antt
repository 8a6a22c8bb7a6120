-- The rules by kind, a range of kinds at a time. Assumes nothing.
use Rattle.correctness.specs.declared.TypeError.{TypeError}
use Prim.Native.Nat.{ℕ, zero, suc, ◌+◌, ◌-◌, ◌≤◌, ◌<◌}
use mathlib.Core.List.{List, [], ◌∷◌}
use Rattle.std.specs.Prelude.{None, Result}
use mathlib.Core.Path.{◌≡◌, refl, sym, ap, subst, ◌∙◌}
use native.Mathlib.Omega.{arith}
use borrow.Author.Tests.{le-leb}
use lib.ListN.{length, get_or, take}
use Rattle.records.specs.Shapes.{arity}
use Rattle.records.proofs.Arities.{arity-one, arity-two, arity-below}
use Rattle.types.specs.declared.«Type».{«Type»}
use Rattle.types.specs.TypeRules as rule
use Rattle.types.specs.TypeOrder.{unpack}
use Rattle.contexts.specs.declared.Context.{Context}
use Rattle.trees.specs.Reading.{Answer, done}
use Rattle.trees.specs.Tree.{find}
use Rattle.trees.specs.Typing.{in_segwitv0, in_tap}
use Rattle.trees.specs.Rules.{answered, rule_of}
use Rattle.trees.specs.WorkMemory.{slot_from, unpacked}

-- ---- kinds, one by one

pub hash-rule : (kind : ℕ) → 38 ≤ kind → kind ≤ 41 → (c : Context) (k : ℕ) → rule_of kind c k [] ≡ done rule.hash
unfolding find
hash-rule kind l h c k = by_kind (kind - 38) (omega arith) (omega arith)
  where
    by_kind : (n : ℕ) → kind ≡ 38 + n → n < 4 → rule_of kind c k [] ≡ done rule.hash
    by_kind zero e h = rw e
    by_kind (suc zero) e h = rw e
    by_kind (suc (suc zero)) e h = rw e
    by_kind (suc (suc (suc zero))) e h = rw e
    by_kind (suc (suc (suc (suc n)))) e h = absurd (omega arith)

-- ---- a rule over the children in an array

one_of : (ts : List «Type») (d : «Type») → length ts ≡ 16 → take 1 ts ≡ get_or ts 0 d ∷ []
one_of [] d e = absurd (omega arith)
one_of (x ∷ ts) d e = refl

two-of : (ts : List «Type») (d : «Type») → length ts ≡ 16 → take 2 ts ≡ get_or ts 0 d ∷ get_or ts 1 d ∷ []
two-of [] d e = absurd (omega arith)
two-of (x ∷ []) d e = absurd (omega arith)
two-of (x ∷ y ∷ ts) d e = refl

three-of : (ts : List «Type») (d : «Type») → length ts ≡ 16 → take 3 ts ≡ get_or ts 0 d ∷ get_or ts 1 d ∷ get_or ts 2 d ∷ []
three-of [] d e = absurd (omega arith)
three-of (x ∷ []) d e = absurd (omega arith)
three-of (x ∷ y ∷ []) d e = absurd (omega arith)
three-of (x ∷ y ∷ z ∷ ts) d e = refl

module _ (kind count k : ℕ) (c : Context) (types : List «Type») where
  of-arity : (n : ℕ) (ts : List «Type») {a : Answer «Type»} → n ≡ arity kind count → take n types ≡ ts → rule_of kind c k ts ≡ a
      → rule_of kind c k (take (arity kind count) types) ≡ a
  of-arity n ts {a} e f h = subst (λ (m : ℕ). rule_of kind c k (take m types) ≡ a) e (rw f h)

  pub rule-none : {a : Answer «Type»} → kind < 42 → rule_of kind c k [] ≡ a → rule_of kind c k (take (arity kind count) types) ≡ a
  rule-none h e = of-arity 0 [] (arity-below kind count h) refl e

  pub rule-one : (d : «Type») {a : Answer «Type»} → length types ≡ 16 → 42 ≤ kind → kind ≤ 48 → rule_of kind c k (get_or types 0 d ∷ []) ≡ a
      → rule_of kind c k (take (arity kind count) types) ≡ a
  rule-one d len l h e = of-arity 1 (get_or types 0 d ∷ []) (arity-one kind count l h) (one_of types d len) e

  pub rule-two : (d : «Type») {a : Answer «Type»} → length types ≡ 16 → 49 ≤ kind → kind ≤ 54
      → rule_of kind c k (get_or types 0 d ∷ get_or types 1 d ∷ []) ≡ a → rule_of kind c k (take (arity kind count) types) ≡ a
  rule-two d len l h e = of-arity 2 (get_or types 0 d ∷ get_or types 1 d ∷ []) (arity-two kind count l h) (two-of types d len) e

  pub rule-three : (d : «Type») {r : Result «Type» TypeError} → length types ≡ 16 → kind ≡ 55
      → r ≡ rule.and_or (get_or types 0 d) (get_or types 1 d) (get_or types 2 d) → rule_of kind c k (take (arity kind count) types) ≡ answered r
  unfolding find
  rule-three d len e h = rw (e, three-of types d len) (ap answered (sym h))

  pub rule-all : {r : Result «Type» TypeError} → kind ≡ 56 → count ≤ 16 → r ≡ rule.threshold_of k count types
      → rule_of kind c k (take (arity kind count) types) ≡ answered r
  unfolding find
  rule-all e l h =
      let few : rule.threshold_of k count types ≡ rule.threshold k (take count types) = rw (le-leb count 16 l) in
      rw e (ap answered (sym (h ∙ few)))

  pub rule-multi : {r : Result «Type» TypeError} → kind ≡ 57 → r ≡ in_segwitv0 c rule.multi → rule_of kind c k (take (arity kind count) types) ≡ answered r
  unfolding find
  rule-multi e h = rw e (ap answered (sym h))

  pub rule-multi-a : {r : Result «Type» TypeError} → kind ≡ 58 → r ≡ in_tap c rule.multi_a
      → rule_of kind c k (take (arity kind count) types) ≡ answered r
  unfolding find
  rule-multi-a e h = rw e (ap answered (sym h))

-- ---- words

pub slot-empty : (h p : ℕ) → p ≡ 0 → None ≡ slot_from h p
slot-empty h p e = rw e

pub slot-full : (h p : ℕ) → 0 < p → slot_from h p ≡ unpacked h (unpack (p - 1))
slot-full h zero l = absurd (omega arith)
slot-full h (suc n) l =
    let e : suc n - 1 ≡ n = omega arith in
    rw e
