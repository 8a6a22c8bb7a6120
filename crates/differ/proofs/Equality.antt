-- There is no difference exactly if the trees are equal in structure. Assumes nothing.
use Prim.Native.Nat.{ℕ}
use mathlib.Core.Bool.{Bool, true, false, ◌&&◌, cond}
use mathlib.Core.List.{List, [], ◌∷◌, ◌++◌}
use mathlib.Core.Path.{◌≡◌, refl, sym, subst, ◌∙◌}
use native.Mathlib.Omega.{arith}
use borrow.Author.Tests.{eqb-true, eq-eqb}
use lib.Dec.{eqb}
use Rattle.records.proofs.Forms.{and_left, and_right}
use Rattle.trees.specs.Fragment.{Fragment}
use Rattle.walk.specs.Heads.{Head, children_in}
use Rattle.differ.specs.Numbered.{Numbered, NumberedList, node, end, ◌▹◌, numbered, Numbers, NumbersAll}
use Rattle.differ.specs.Differences.{Difference, same_keys, same_head, same_count, differences, differences_in}
use Rattle.differ.specs.Laws.{NoneIfEqual}
use Rattle.differ.proofs.Numbering.{numbers-the-tree}
use Rattle.differ.proofs.Rebuilding.{same-fragment}

-- ---- heads

keys-equal : (is js : List ℕ) → same_keys is js ≡ true → is ≡ js
unfolding same_keys
keys-equal [] [] e = refl
keys-equal [] (j ∷ js) e = absurd (let z : ◌≡◌ {A = ℕ} 0 1 = cc in omega arith)
keys-equal (i ∷ is) [] e = absurd (let z : ◌≡◌ {A = ℕ} 0 1 = cc in omega arith)
keys-equal (i ∷ is) (j ∷ js) e =
    rw (eqb-true i j (and_left (eqb i j) (same_keys is js) e), keys-equal is js (and_right (eqb i j) (same_keys is js) e))

keys-self : (is : List ℕ) → same_keys is is ≡ true
unfolding same_keys
keys-self [] = refl
keys-self (i ∷ is) = rw (eq-eqb i i refl, keys-self is)

abbrev head_by : (kind n k : ℕ) → (ks : List ℕ) → Head
head_by kind n k ks = record { kind = kind; number = n; k = k; keys = ks }

same_parts : {kind kind' n n' k k' : ℕ} {ks ks' : List ℕ} → kind ≡ kind' → n ≡ n' → k ≡ k' → ks ≡ ks'
    → head_by kind n k ks ≡ head_by kind' n' k' ks'
same_parts e a b c = rw (e, a, b, c)

heads-equal : (h g : Head) → same_head h g ≡ true → h ≡ g
heads-equal h g e =
    let first = eqb h.kind g.kind in
    let second = eqb h.number g.number in
    let third = eqb h.k g.k in
    let fourth = same_keys h.keys g.keys in
    let e2 = and_right first (second && (third && fourth)) e in
    let e3 = and_right second (third && fourth) e2 in
    same_parts (eqb-true h.kind g.kind (and_left first (second && (third && fourth)) e))
    (eqb-true h.number g.number (and_left second (third && fourth) e2)) (eqb-true h.k g.k (and_left third fourth e3))
    (keys-equal h.keys g.keys (and_right third fourth e3))

head-self : (h : Head) → same_head h h ≡ true
head-self h = rw (eq-eqb h.kind h.kind refl, eq-eqb h.number h.number refl, eq-eqb h.k h.k refl, keys-self h.keys)

-- ---- no difference

none_first : (ds es : List Difference) → ds ++ es ≡ [] → (ds ≡ []) × (es ≡ [])
none_first [] es e = (refl, e)
none_first (d ∷ ds) es e = absurd (let z : ◌≡◌ {A = ℕ} 0 1 = cc in omega arith)

by-same : (b : Bool) (d : Difference) (ds : List Difference) {P : Type 0} → cond b ds (d ∷ []) ≡ [] → (b ≡ true → ds ≡ [] → P) → P
by-same true d ds e p = p refl e
by-same false d ds e p = absurd (let z : ◌≡◌ {A = ℕ} 0 1 = cc in omega arith)

mutual
  unfolding Numbers NumbersAll differences differences_in same_count

  equal-if-none : (t u : Numbered) (f g : Fragment) → Numbers t f → Numbers u g → differences t u ≡ [] → f ≡ g
  equal-if-none (node i h xs) (node j k ys) f g n m e =
      by-same (same_head h k && same_count xs ys) (record { left = i; right = j }) (differences_in xs ys) e (λ s d.
      let heads = heads-equal h k (and_left (same_head h k) (same_count xs ys) s) in
      same-fragment f g (sym n.0 ∙ heads ∙ m.0)
      (all-if-none xs ys (children_in f) (children_in g) n.1 m.1 (and_right (same_head h k) (same_count xs ys) s) d))

  all-if-none : (xs ys : NumberedList) (fs gs : List Fragment) → NumbersAll xs fs → NumbersAll ys gs → same_count xs ys ≡ true
      → differences_in xs ys ≡ [] → fs ≡ gs
  all-if-none end end [] [] n m s e = refl
  all-if-none end end [] (g ∷ gs) n m s e = absurd m
  all-if-none end end (f ∷ fs) gs n m s e = absurd n
  all-if-none end (y ▹ ys) fs gs n m s e = absurd (let z : ◌≡◌ {A = ℕ} 0 1 = cc in omega arith)
  all-if-none (x ▹ xs) end fs gs n m s e = absurd (let z : ◌≡◌ {A = ℕ} 0 1 = cc in omega arith)
  all-if-none (x ▹ xs) (y ▹ ys) [] gs n m s e = absurd n
  all-if-none (x ▹ xs) (y ▹ ys) (f ∷ fs) [] n m s e = absurd m
  all-if-none (x ▹ xs) (y ▹ ys) (f ∷ fs) (g ∷ gs) n m s e =
      let parts = none_first (differences x y) (differences_in xs ys) e in
      rw (equal-if-none x y f g n.0 m.0 parts.0, all-if-none xs ys fs gs n.1 m.1 s parts.1)

count_same : (xs ys : NumberedList) (fs : List Fragment) → NumbersAll xs fs → NumbersAll ys fs → same_count xs ys ≡ true
unfolding NumbersAll same_count
count_same end end [] n m = refl
count_same end end (f ∷ fs) n m = absurd n
count_same end (y ▹ ys) [] n m = absurd m
count_same end (y ▹ ys) (f ∷ fs) n m = absurd n
count_same (x ▹ xs) end [] n m = absurd n
count_same (x ▹ xs) end (f ∷ fs) n m = absurd m
count_same (x ▹ xs) (y ▹ ys) [] n m = absurd n
count_same (x ▹ xs) (y ▹ ys) (f ∷ fs) n m = count_same xs ys fs n.1 m.1

head-same : {h k l : Head} → h ≡ l → k ≡ l → same_head h k ≡ true
head-same {h} {k} e c = subst (λ (x : Head). same_head h x ≡ true) (e ∙ sym c) (head-self h)

mutual
  unfolding Numbers NumbersAll differences differences_in

  none-if-equal : (t u : Numbered) (f : Fragment) → Numbers t f → Numbers u f → differences t u ≡ []
  none-if-equal (node i h xs) (node j k ys) f n m =
      let a : same_head h k ≡ true = head-same n.0 m.0 in
      let b : same_count xs ys ≡ true = count_same xs ys (children_in f) n.1 m.1 in
      rw (a, b) (none_in xs ys (children_in f) n.1 m.1)

  none_in : (xs ys : NumberedList) (fs : List Fragment) → NumbersAll xs fs → NumbersAll ys fs → differences_in xs ys ≡ []
  none_in end ys fs n m = refl
  none_in (x ▹ xs) end fs n m = refl
  none_in (x ▹ xs) (y ▹ ys) [] n m = absurd n
  none_in (x ▹ xs) (y ▹ ys) (f ∷ fs) n m = rw (none-if-equal x y f n.0 m.0, none_in xs ys fs n.1 m.1)

pub none-iff-equal : NoneIfEqual
none-iff-equal left right f g e d = (
  equal-if-none (numbered left) (numbered right) f g (numbers-the-tree left f e) (numbers-the-tree right g d),
  λ same. none-if-equal (numbered left) (numbered right) g
      (subst (λ (x : Fragment). Numbers (numbered left) x) same (numbers-the-tree left f e)) (numbers-the-tree right g d),
)
