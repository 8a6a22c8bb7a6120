-- The fragment of three children agrees. Its correctness is computed in two parts, the children that BIP 379 refuses and those that it
-- accepts, since only the latter's inputs are read; its malleability over every triple. Assumes nothing.
use mathlib.Core.Bool.{Bool, true, false, not, ◌&&◌}
use mathlib.Core.Path.{◌≡◌}
use lib.Dec.{T}
use Rattle.contexts.specs.Bools.{implies}
use Rattle.correctness.specs.CorrectnessRules as corr
use Rattle.malleability.specs.MalleabilityRules as mall
use Rattle.bip379.specs.Rust.{Base, Input, Zero, Correctness, Malleability, «Type»}
use Rattle.bip379.specs.Correctness.{Context, is_b, both_bkv}
use Rattle.bip379.specs.Correctness as C
use Rattle.bip379.specs.Malleability as M
use Rattle.bip379.specs.Bip379.{andor, type_of}
use Rattle.bip379.specs.Agreement.{correct, malleable, letters, in_letters, port}
use Rattle.bip379.proofs.Every.{all_bool, every_bool, all_base, every_base, all_input, every_input, all_malleability, every_malleability}
use Rattle.bip379.proofs.Rows.{same_correct, same_malleable, rows_agree}

-- three bases, d and u of x
every5 : (p : Base → Base → Base → Bool → Bool → Bool)
    → T (all_base λ a. all_base λ b. all_base λ c. all_bool λ d. all_bool λ u. p a b c d u)
    → (a b c : Base) (d u : Bool) → T (p a b c d u)
every5 p h a b c d u =
    every_bool (λ u. p a b c d u)
    (every_bool (λ d. all_bool λ u. p a b c d u)
    (every_base (λ c. all_bool λ d. all_bool λ u. p a b c d u)
    (every_base (λ b. all_base λ c. all_bool λ d. all_bool λ u. p a b c d u)
    (every_base (λ a. all_base λ b. all_base λ c. all_bool λ d. all_bool λ u. p a b c d u) h a) b) c) d) u

-- three inputs, u of y, d and u of z
abbrev all6 : (Input → Input → Input → Bool → Bool → Bool → Bool) → Bool
all6 p = all_input λ i. all_input λ j. all_input λ k. all_bool λ v. all_bool λ e. all_bool λ w. p i j k v e w

every6 : (p : Input → Input → Input → Bool → Bool → Bool → Bool) → T (all6 p)
    → (i j k : Input) (v e w : Bool) → T (p i j k v e w)
every6 p h i j k v e w =
    every_bool (λ w. p i j k v e w)
    (every_bool (λ e. all_bool λ w. p i j k v e w)
    (every_bool (λ v. all_bool λ e. all_bool λ w. p i j k v e w)
    (every_input (λ k. all_bool λ v. all_bool λ e. all_bool λ w. p i j k v e w)
    (every_input (λ j. all_input λ k. all_bool λ v. all_bool λ e. all_bool λ w. p i j k v e w)
    (every_input (λ i. all_input λ j. all_input λ k. all_bool λ v. all_bool λ e. all_bool λ w. p i j k v e w) h i) j) k) v) e) w

abbrev part : Base → Input → Bool → Bool → Correctness
part b i d u = record { base = b; input = i; dissatisfiable = d; unit = u }

-- x is Bdu, y and z are both B, K or V
abbrev accepted : Base → Base → Base → Bool → Bool → Bool
accepted a b c d u = is_b (correct (part a Zero d u)) && d && u && both_bkv (correct (part b Zero d u)) (correct (part c Zero d u))

-- nothing reads d of y
abbrev same_c : Base → Base → Base → Bool → Bool → Bool → Input → Input → Input → Bool → Bool → Bool → Bool
same_c a b c d u g i j k v e w =
    let x = part a i d u in
    let y = part b j g v in
    let z = part c k e w in
    same_correct (C.andor (correct x) (correct y) (correct z)) (corr.and_or x y z)

refused-agree : (a b c : Base) (d u g : Bool) (i j k : Input) (v e w : Bool)
    → T (implies (not (accepted a b c d u)) (same_c a b c d u g i j k v e w))
refused-agree a b c d u g i j k v e w =
    every5 (λ a b c d u. implies (not (accepted a b c d u)) (same_c a b c d u g i j k v e w)) tt a b c d u

accepted-agree : (a b c : Base) (d u g : Bool) → T (implies (accepted a b c d u) (all6 λ i j k v e w. same_c a b c d u g i j k v e w))
accepted-agree a b c d u g =
    every5 (λ a b c d u. implies (accepted a b c d u) (all6 λ i j k v e w. same_c a b c d u g i j k v e w)) tt a b c d u

by_cases : (t p q : Bool) → T (implies (not t) p) → T (implies t q) → (T q → T p) → T p
by_cases true p q h k f = f k
by_cases false p q h k f = h

corrs-agree : (x y z : Correctness) → T (same_correct (C.andor (correct x) (correct y) (correct z)) (corr.and_or x y z))
corrs-agree x y z =
    let a = x.base in
    let b = y.base in
    let c = z.base in
    let d = x.dissatisfiable in
    let u = x.unit in
    let g = y.dissatisfiable in
    let v = y.unit in
    let e = z.dissatisfiable in
    let w = z.unit in
    by_cases (accepted a b c d u) (same_c a b c d u g x.input y.input z.input v e w)
    (all6 λ i j k v e w. same_c a b c d u g i j k v e w)
    (refused-agree a b c d u g x.input y.input z.input v e w)
    (accepted-agree a b c d u g)
    (λ h. every6 (λ i j k v e w. same_c a b c d u g i j k v e w) h x.input y.input z.input v e w)

abbrev same_m : Malleability → Malleability → Malleability → Bool
same_m x y z = same_malleable (M.andor (malleable x) (malleable y) (malleable z)) (mall.and_or x y z)

malls-agree : (x y z : Malleability) → T (same_m x y z)
malls-agree x y z =
    every_malleability (λ z. same_m x y z)
    (every_malleability (λ y. all_malleability λ z. same_m x y z)
    (every_malleability (λ x. all_malleability λ y. all_malleability λ z. same_m x y z) tt x) y) z

pub andor-agrees : (ctx : Context) (x y z : «Type»)
    → type_of ctx (andor (letters x) (letters y) (letters z)) ≡ in_letters (port ctx (andor x y z))
andor-agrees ctx x y z =
    rows_agree (C.andor (correct x.corr) (correct y.corr) (correct z.corr)) (corr.and_or x.corr y.corr z.corr)
    (M.andor (malleable x.mall) (malleable y.mall) (malleable z.mall)) (mall.and_or x.mall y.mall z.mall)
    (corrs-agree x.corr y.corr z.corr) (malls-agree x.mall y.mall z.mall)
