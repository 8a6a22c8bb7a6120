-- Every record stands in one place, a child within its parent and apart from its siblings. Assumes nothing.
use Prim.Native.Nat.{ℕ, zero, suc, ◌+◌, ◌-◌, ◌≤◌, ◌<◌}
use mathlib.Core.Bool.{Bool, true, false}
use mathlib.Core.List.{List}
use mathlib.Core.Logic.{◌⊎◌, inl, inr, ⊎_elim}
use mathlib.Core.Path.{◌≡◌, refl, sym, ap, subst, ◌∙◌}
use native.Mathlib.Omega.{arith}
use borrow.Author.Tests.{eqb-true, eqb-false, ltb-true, ltb-false}
use lib.Dec.{eqb, ltb}
use lib.ListN.{length, get_or}
use Rattle.records.specs.Shapes.{arity}
use Rattle.records.specs.RecordForm.{fragment_payload}
use Rattle.records.specs.Answers.{parts_of}
use Rattle.contexts.specs.declared.Context.{Context}
use Rattle.trees.specs.Fragment.{Fragment}
use Rattle.walk.specs.TreeRecords.{record_at, fragment_at, TreeRecord, TreeRecords}
use Rattle.walk.specs.Nodes.{node_of}
use Rattle.walk.proofs.Laws.{node-count, child-is}
use Rattle.script_entry.specs.Pieces.{after, last, child_verified, place}
use Rattle.script_entry.proofs.Nodes.{place-one}
use Rattle.index_places.specs.Places.{kids_at, kind_at, kid, ahead, size_at, span_at, ahead_at, Stands, root, child, Holds, Beneath, same, under}
use Rattle.index_places.proofs.Parents.{kids-row, kids-before, one_parent, has-parent}
use Rattle.index_places.proofs.Sizes.{size-grows}
use Rattle.index_places.proofs.Records.{same_ahead, node-size}

-- ---- the script's order

-- which child comes where, twice, is the child
pub place_twice : (kind j : ℕ) → place kind (place kind j) ≡ j
place_twice kind j = by_kind (eqb kind 55) refl
  where
    of_three : (a b : Bool) → eqb j 1 ≡ a → eqb j 2 ≡ b → place 55 (place 55 j) ≡ j
    of_three true b t u = subst (λ (j : ℕ). place 55 (place 55 j) ≡ j) (sym (eqb-true j 1 t)) refl
    of_three false true t u = subst (λ (j : ℕ). place 55 (place 55 j) ≡ j) (sym (eqb-true j 2 u)) refl
    of_three false false t u =
        let once : place 55 j ≡ j = rw (t, u) in
        ap (place 55) once ∙ once

    by_kind : (b : Bool) → eqb kind 55 ≡ b → place kind (place kind j) ≡ j
    by_kind true t =
        let is = eqb-true kind 55 t in
        rw is (of_three (eqb j 1) (eqb j 2) refl refl)
    by_kind false t =
        let once : (m : ℕ) → place kind m ≡ m = λ m. rw t in
        once (place kind j) ∙ once j

module _ {tree : List ℕ} {f : Fragment} (r : TreeRecords tree f) where
  pub count-kids : (i : ℕ) (h : i < r.count) → length (kids_at tree i) ≡ arity (kind_at tree i) (parts_of (fragment_payload (record_at tree i))).count
  count-kids i h = ap length (kids-row tree (r.row i h)) ∙ sym (node-count (r.row i h))

  pub place_in : (i j : ℕ) → i < r.count → j < length (kids_at tree i) → place (kind_at tree i) j < length (kids_at tree i)
  place_in i j h l =
      let n = count-kids i h in
      rw n (place-one (kind_at tree i) (parts_of (fragment_payload (record_at tree i))).count j (rw n at l))

  pub kid-before : (p j : ℕ) → p < r.count → j < length (kids_at tree p) → kid tree p j < p
  unfolding kid
  kid-before p j h l = kids-before tree (r.row p h) (place (kind_at tree p) j) (place_in p j h l)

  pub one_place : (p q j m : ℕ) → p < r.count → q < r.count → j < length (kids_at tree p) → m < length (kids_at tree q)
      → kid tree p j ≡ kid tree q m → (p ≡ q) × (j ≡ m)
  unfolding kid
  one_place p q j m h i a b e =
      let one = one_parent r p q (place (kind_at tree p) j) (place (kind_at tree q) m) h i (place_in p j h a) (place_in q m i b) e in
      let kinds : place (kind_at tree p) j ≡ place (kind_at tree p) m = one.1 ∙ ap (λ (q : ℕ). place (kind_at tree q) m) (sym one.0) in
      (one.0, sym (place_twice (kind_at tree p) j) ∙ ap (place (kind_at tree p)) kinds ∙ place_twice (kind_at tree p) m)

  pub parent_of : (i : ℕ) → suc i < r.count → (p j : ℕ) × (p < r.count) × (j < length (kids_at tree p)) × (i ≡ kid tree p j)
  unfolding kid
  parent_of i h =
      let q = has-parent r i h in
      let kind = kind_at tree q.0 in (
        q.0,
        place kind q.1,
        q.2,
        place_in q.0 q.1 q.2 q.3,
        sym q.4 ∙ ap (λ (m : ℕ). get_or (kids_at tree q.0) m 0) (sym (place_twice kind q.1)),
      )

module _ (c : Context) {tree : List ℕ} {f : Fragment} (r : TreeRecords tree f) where
  abbrev At : (i first : ℕ) → Type 0
  At i first = Stands c tree r.count i first

  -- ---- one place

  pub stands-inside : {i first : ℕ} → At i first → i < r.count
  stands-inside (root e a) = omega arith
  stands-inside (child p at j s l e a) =
      let h = stands-inside s in
      omega (arith, h, e, kid-before r p j h l)

  same_place : {p p' at at' j j' : ℕ} → p ≡ p' → at ≡ at' → j ≡ j' → at + ahead_at c tree false p j ≡ at' + ahead_at c tree false p' j'
  same_place a b d = rw (a, b, d)

  pub stands-once : {i first first' : ℕ} → At i first → At i first' → first ≡ first'
  stands-once (root e a) (root e' a') = a ∙ sym a'
  stands-once (root e a) (child p at j s l e' a') =
      absurd (omega (arith, e, e', stands-inside s, kid-before r p j (stands-inside s) l))
  stands-once (child p at j s l e a) (root e' a') =
      absurd (omega (arith, e, e', stands-inside s, kid-before r p j (stands-inside s) l))
  stands-once (child p at j s l e a) (child p' at' j' s' l' e' a') =
      let one = one_place r p p' j j' (stands-inside s) (stands-inside s') l l' (sym e ∙ e') in
      let above = stands-once s (subst (λ (p : ℕ). At p at') (sym one.0) s') in
      a ∙ same_place one.0 above one.1 ∙ sym a'

  -- every record has one
  pub record Standing (i : ℕ) : Type 0 where
    pub first : ℕ
    pub stands : At i first

  pub standing : (n i : ℕ) → r.count ≤ i + n → i < r.count → Standing i
  standing zero i l h = absurd (omega arith)
  standing (suc n) i l h = by-test (eqb (suc i) r.count) refl (λ p k m. standing n p k m)
    where
      by-test : (b : Bool) → eqb (suc i) r.count ≡ b → ((p : ℕ) → r.count ≤ p + n → p < r.count → Standing p) → Standing i
      by-test true b rec = record { first = 0; stands = root (eqb-true (suc i) r.count b) refl }
      by-test false b rec =
          let q = parent_of r i (omega (arith, eqb-false (suc i) r.count b)) in
          let above = rec q.0 (omega (arith, q.4, kid-before r q.0 q.1 q.2 q.3)) q.2 in
          record {
            first = above.first + ahead_at c tree false q.0 q.1;
            stands = child {first = above.first + ahead_at c tree false q.0 q.1} q.0 above.first q.1 above.stands q.3 q.4 refl;
          }

  pub stands-somewhere : (i : ℕ) → i < r.count → Standing i
  stands-somewhere i h = standing r.count i (omega arith) h

  -- ---- within the parent

  span-grows : (v : Bool) (i : ℕ) → span_at c tree i ≤ size_at c tree v i
  unfolding size_at
  span-grows v i = size-grows c v (fragment_at tree i)

  module _ (v : Bool) (p : ℕ) where
    pub ahead-next : (j : ℕ) → ahead_at c tree v p (suc j)
        ≡ ahead_at c tree v p j + (size_at c tree (child_verified (kind_at tree p) j v) (kid tree p j) + length (after (kind_at tree p) j))
    unfolding ahead_at ahead kid
    ahead-next j = refl

    pub ahead-grows : (a b : ℕ) → a ≤ b → ahead_at c tree v p a ≤ ahead_at c tree v p b
    ahead-grows a zero h =
        let z : a ≡ 0 = omega arith in
        rw z (omega arith)
    ahead-grows a (suc b) h = by-test (eqb a (suc b)) refl (λ l. ahead-grows a b l)
      where
        by-test : (t : Bool) → eqb a (suc b) ≡ t → (a ≤ b → ahead_at c tree v p a ≤ ahead_at c tree v p b) → ahead_at c tree v p a ≤ ahead_at c tree v p (suc b)
        by-test true t rec =
            let e = eqb-true a (suc b) t in
            rw e (omega arith)
        by-test false t rec = omega (arith, rec (omega (arith, eqb-false a (suc b) t)), ahead-next b)

    pub all-ahead : p < r.count → 0 < length (kids_at tree p) → ahead_at c tree v p (length (kids_at tree p)) ≤ size_at c tree v p
    unfolding ahead_at
    all-ahead h some =
        let row = r.row p h in
        let kind = kind_at tree p in
        let children = (parts_of (fragment_payload (record_at tree p))).children in
        let kids = kids_at tree p in
        let n : length kids ≡ (node_of (record_at tree p)).n = ap length (kids-row tree row) ∙ sym (node-count row) in
        let each : (w : Bool) (j : ℕ) → j < length kids → size_at c tree w (get_or kids (place kind j) 0) ≡ size_at c tree w (get_or children (place kind j) 0) =
        λ w j l. ap (size_at c tree w) (ap (λ (ks : List ℕ). get_or ks (place kind j) 0) (kids-row tree row)
        ∙ sym (child-is row (place kind j) (omega (arith, n, place_in r p j h l)))) in
        let same_sum : ahead kind v (λ w m. size_at c tree w (get_or kids m 0)) (length kids) ≡ ahead kind v (λ w m. size_at c tree w (get_or children m 0)) (node_of (record_at tree p)).n =
        same_ahead v kind (length kids) (λ w m. size_at c tree w (get_or kids m 0)) (λ w m. size_at c tree w (get_or children m 0)) each
        ∙ ap (ahead kind v (λ w m. size_at c tree w (get_or children m 0))) n in
        omega (arith, same_sum, node-size row c v (omega (arith, n)))

  -- a child has its own bytes, and what is ahead of the next comes after them
  pub child-before-next : (p j : ℕ) → ahead_at c tree false p j + span_at c tree (kid tree p j) ≤ ahead_at c tree false p (suc j)
  child-before-next p j = omega (arith, ahead-next false p j, span-grows (child_verified (kind_at tree p) j false) (kid tree p j))

  module _ {p at : ℕ} (s : At p at) (j : ℕ) (l : j < length (kids_at tree p)) where
    pub child-within : at + ahead_at c tree false p j + span_at c tree (kid tree p j) ≤ at + span_at c tree p
    child-within =
        omega (arith, child-before-next p j, ahead-grows false p (suc j) (length (kids_at tree p)) (omega arith), all-ahead false p (stands-inside s) (omega arith))

  pub in-script : {i first : ℕ} → At i first → first + span_at c tree i ≤ span_at c tree (r.count - 1)
  in-script (root {i} {first} e a) =
      let last : i ≡ r.count - 1 = omega arith in
      omega (arith, a, ap (span_at c tree) last)
  in-script (child {i} {first} p at j s l e a) = omega (arith, in-script s, child-within s j l, a, ap (span_at c tree) e)

  -- ---- which records hold a byte

  module _ (x : ℕ) where
    abbrev Has : ℕ → Type 0
    Has i = Holds c tree r.count i x

    -- of a child that holds it
    in-child : {p at : ℕ} (s : At p at) (j : ℕ) (l : j < length (kids_at tree p)) → Has (kid tree p j)
        → (at + ahead_at c tree false p j ≤ x) × (x < at + ahead_at c tree false p (suc j))
    in-child {p} {at} s j l h =
        let one = stands-once h.stands (child p at j s l refl refl) in
        (omega (arith, one, h.from), omega (arith, one, h.to, child-before-next p j))

    -- its parent holds it too
    parent-has : {i : ℕ} (p j : ℕ) → p < r.count → j < length (kids_at tree p) → i ≡ kid tree p j → Has i → Has p
    parent-has {i} p j h l e has =
        let s = stands-somewhere p h in
        let inside = in-child s.stands j l (subst Has e has) in
        record {
          first = s.first;
          stands = s.stands;
          from = omega (arith, inside.0);
          to = omega (arith, inside.1, ahead-grows false p (suc j) (length (kids_at tree p)) (omega arith), all-ahead false p h (omega arith));
        }

    above-has : {i k : ℕ} → Beneath tree r.count i k → Has i → Has k
    above-has (same e) h = subst Has e h
    above-has (under p j l m e b) h = above-has b (parent-has p j l m e h)

    -- two children do not
    one-child : (p : ℕ) → p < r.count → (j m : ℕ) → j < length (kids_at tree p) → m < length (kids_at tree p) → Has (kid tree p j) → Has (kid tree p m) → j ≡ m
    one-child p h j m a b left right =
        let s = stands-somewhere p h in
        by_order s.first (in-child s.stands j a left) (in-child s.stands m b right) (ltb j m) (ltb m j) refl refl
      where
        by_order : (at : ℕ) → (at + ahead_at c tree false p j ≤ x) × (x < at + ahead_at c tree false p (suc j))
            → (at + ahead_at c tree false p m ≤ x) × (x < at + ahead_at c tree false p (suc m)) → (d e : Bool) → ltb j m ≡ d → ltb m j ≡ e → j ≡ m
        by_order at u v true e t o = absurd (omega (arith, u.1, v.0, ahead-grows false p (suc j) m (omega (arith, ltb-true j m t))))
        by_order at u v false true t o = absurd (omega (arith, u.0, v.1, ahead-grows false p (suc m) j (omega (arith, ltb-true m j o))))
        by_order at u v false false t o = omega (arith, ltb-false j m t, ltb-false m j o)

    -- the way from above begins at a child
    begins : {i k : ℕ} → Beneath tree r.count i k → (i ≡ k) ⊎ ((m : ℕ) × (m < length (kids_at tree k)) × Beneath tree r.count i (kid tree k m))
    begins (same e) = inl e
    begins (under {i} {k} p j l m e b) = by-rest (begins b)
      where
        by-rest : (p ≡ k) ⊎ ((n : ℕ) × (n < length (kids_at tree k)) × Beneath tree r.count p (kid tree k n))
            → (i ≡ k) ⊎ ((n : ℕ) × (n < length (kids_at tree k)) × Beneath tree r.count i (kid tree k n))
        by-rest (inl s) = inr (j, subst (λ (p : ℕ). j < length (kids_at tree p)) s m, same (e ∙ ap (λ (p : ℕ). kid tree p j) s))
        by-rest (inr q) = inr (q.0, q.1, under p j l m e q.2)

    pub beneath-small : {i k : ℕ} → Beneath tree r.count i k → i ≤ k
    beneath-small (same e) = omega arith
    beneath-small (under p j l m e b) = omega (arith, beneath-small b, e, kid-before r p j l m)

    -- of two records that hold it, the smaller one stands beneath the other
    nested : (n i k : ℕ) → r.count + r.count ≤ i + k + n → i ≤ k → Has i → Has k → Beneath tree r.count i k
    nested zero i k l h a b = absurd (omega (arith, stands-inside a.stands, stands-inside b.stands))
    nested (suc n) i k l h a b = by-test (eqb i k) refl (λ p q m o u v. nested n p q m o u v)
      where
        Rest : Type 0
        Rest = (p q : ℕ) → r.count + r.count ≤ p + q + n → p ≤ q → Has p → Has q → Beneath tree r.count p q

        too_far : (p j : ℕ) → p < r.count → j < length (kids_at tree p) → i ≡ kid tree p j → i < k
            → (k ≡ p) ⊎ ((m : ℕ) × (m < length (kids_at tree p)) × Beneath tree r.count k (kid tree p m)) → k < p → ⊥
        too_far p j o m e less (inl z) g = omega arith
        too_far p j o m e less (inr q) g =
            let one = one-child p o j q.0 m q.1 (subst Has e a) (above-has q.2 b) in
            omega (arith, beneath-small q.2, e, ap (kid tree p) one)

        by-parent : (p j : ℕ) → p < r.count → j < length (kids_at tree p) → i ≡ kid tree p j → i < k → Has p → (d g : Bool) → ltb p k ≡ d → ltb k p ≡ g
            → Rest → Beneath tree r.count i k
        by-parent p j o m e less up true g t u rec =
            under p j o m e (rec p k (omega (arith, e, kid-before r p j o m)) (omega (arith, ltb-true p k t)) up b)
        by-parent p j o m e less up false true t u rec =
            let down = rec k p (omega (arith, e, kid-before r p j o m)) (omega (arith, ltb-true k p u)) b up in
            absurd (too_far p j o m e less (begins down) (ltb-true k p u))
        by-parent p j o m e less up false false t u rec =
            let here : p ≡ k = omega (arith, ltb-false p k t, ltb-false k p u) in
            under p j o m e (same here)

        by-test : (d : Bool) → eqb i k ≡ d → Rest → Beneath tree r.count i k
        by-test true d rec = same (eqb-true i k d)
        by-test false d rec =
            let less : i < k = omega (arith, eqb-false i k d) in
            let q = parent_of r i (omega (arith, stands-inside b.stands)) in
            by-parent q.0 q.1 q.2 q.3 q.4 less (parent-has q.0 q.1 q.2 q.3 q.4 a) (ltb q.0 k) (ltb k q.0) refl refl rec

    pub innermost : (i k : ℕ) → i ≤ k → Has i → Has k → Beneath tree r.count i k
    innermost i k h a b = nested (r.count + r.count) i k (omega arith) h a b
