-- Two records side by side: what their bytes say of their heads and of how many children they have. Assumes nothing.
use Prim.Native.Nat.{ℕ, suc, ◌+◌, ◌≤◌, ◌<◌}
use mathlib.Core.Bool.{Bool, true, false, ◌&&◌, cond}
use mathlib.Core.List.{List, [], ◌∷◌}
use mathlib.Core.Path.{◌≡◌, refl, sym, ap, ◌∙◌}
use native.Mathlib.Omega.{arith}
use borrow.Author.Tests.{eqb-true, eqb-false, eq-eqb, ne_eqb, ltb-true, ltb-false, lt-ltb, le-ltb}
use lib.Dec.{eqb, ltb}
use lib.ListN.{length}
use Rattle.records.specs.declared.Parts.{Parts}
use Rattle.records.specs.Payloads.{Payload, number_of, k_of, count_of, children_of, keys_of, count_in, first_keys, keys_in, key_at, keys_from}
use Rattle.records.specs.RecordForm.{kind_of, fragment_payload}
use Rattle.records.specs.Answers.{parts_of}
use Rattle.records.proofs.Laws.{keys-first, keys-next, keys-end, length-keys}
use Rattle.walk.specs.TreeRecords.{record_at, TreeRecord}
use Rattle.walk.specs.Heads.{head_in}
use Rattle.walk.proofs.Laws.{row_told}
use Rattle.walk.proofs.KindLaws.{fragment-kind, no_payload, number-payload, one-payload, two-payload, three-payload, thresh-payload, keys-payload}
use Rattle.differ.specs.Differences.{same_keys, same_head, same_count}
use Rattle.differ.specs.Records.{list_at, same_record}

-- ---- the counts of children

eqb-suc : (m n : ℕ) → eqb m n ≡ eqb (suc m) (suc n)
eqb-suc m n = by-test (eqb m n) refl
  where
    by-test : (b : Bool) → eqb m n ≡ b → b ≡ eqb (suc m) (suc n)
    by-test true e = sym (eq-eqb (suc m) (suc n) (ap suc (eqb-true m n e)))
    by-test false e = sym (ne_eqb (suc m) (suc n) (λ s. eqb-false m n e (omega (arith, s))))

pub counts-listed : (left right : List ℕ) (is js : List ℕ) → same_count (list_at left is) (list_at right js) ≡ eqb (length is) (length js)
unfolding same_count list_at
counts-listed left right [] [] = refl
counts-listed left right [] (j ∷ js) = sym (ne_eqb 0 (suc (length js)) (λ e. omega (arith, e)))
counts-listed left right (i ∷ is) [] = sym (ne_eqb (suc (length is)) 0 (λ e. omega (arith, e)))
counts-listed left right (i ∷ is) (j ∷ js) = counts-listed left right is js ∙ eqb-suc (length is) (length js)

-- ---- keys

keys-long : (is js : List ℕ) → (length is ≡ length js → ⊥) → same_keys is js ≡ false
unfolding same_keys
keys-long [] [] h = absurd (h refl)
keys-long [] (j ∷ js) h = refl
keys-long (i ∷ is) [] h = refl
keys-long (i ∷ is) (j ∷ js) h = rw (keys-long is js (λ e. h (ap suc e))) (and-false (eqb i j))
  where
    and-false : (b : Bool) → b && false ≡ false
    and-false true = refl
    and-false false = refl

and-true : (a : Bool) → a && true ≡ a
and-true true = refl
and-true false = refl

-- those before are the same, and the others are still to compare
abbrev pub KeysToCome : (x y : List ℕ) → (count j : ℕ) → Type 0
KeysToCome x y count j = same_keys (keys_from x count j) (keys_from y count j) ≡ same_keys (first_keys x count) (first_keys y count)

module _ (x y : List ℕ) (count : ℕ) where
  pub keys-begin : KeysToCome x y count 0
  keys-begin =
      ap (λ (ks : List ℕ). same_keys ks (keys_from y count 0)) (keys-first x count)
      ∙ ap (same_keys (first_keys x count)) (keys-first y count)

  module _ (j : ℕ) {i k : ℕ} (h : j < count) (e : i ≡ key_at x j) (f : k ≡ key_at y j) (so_far : KeysToCome x y count j) where
    abbrev others : Bool
    others = same_keys (keys_from x count (j + 1)) (keys_from y count (j + 1))

    next : eqb i k && others ≡ same_keys (first_keys x count) (first_keys y count)
    unfolding same_keys
    next =
        let same-ik : eqb i k ≡ eqb (key_at x j) (key_at y j) = rw (e, f) in
        ap (λ (b : Bool). b && others) same-ik
        ∙ sym (ap (λ (ks : List ℕ). same_keys ks (keys_from y count j)) (keys-next x count j h)
        ∙ ap (same_keys (key_at x j ∷ keys_from x count (j + 1))) (keys-next y count j h))
        ∙ so_far

    pub keys-more : i ≡ k → KeysToCome x y count (j + 1)
    keys-more s = ap (λ (b : Bool). b && others) (sym (eq-eqb i k s)) ∙ next

    pub keys-apart : (i ≡ k → ⊥) → false ≡ same_keys (first_keys x count) (first_keys y count)
    keys-apart n = ap (λ (b : Bool). b && others) (sym (ne_eqb i k n)) ∙ next

  pub keys-done : (j : ℕ) → count ≤ j → KeysToCome x y count j → true ≡ same_keys (first_keys x count) (first_keys y count)
  unfolding same_keys
  keys-done j h so_far =
      sym (ap (λ (ks : List ℕ). same_keys ks (keys_from y count j)) (keys-end x count j h) ∙ ap (same_keys []) (keys-end y count j h)) ∙ so_far

-- ---- a record's count is that of its children or of its keys

module _ {tree : List ℕ} {i : ℕ} (row : TreeRecord tree i) where
  abbrev kind : ℕ
  kind = kind_of (record_at tree i)

  abbrev payload : Payload
  payload = row.payload

  -- no keys, and as many children
  pub record ForChildren : Type 0 where
    pub count : count_of payload ≡ length (children_of payload)
    pub keys : keys_of payload ≡ []

  for-payload : {q : Payload} → payload ≡ q → count_of q ≡ length (children_of q) → keys_of q ≡ [] → ForChildren
  for-payload e c k = record { count = ap count_of e ∙ c ∙ sym (ap (λ (p : Payload). length (children_of p)) e); keys = ap keys_of e ∙ k }

  pub for-children : kind < 57 → ForChildren
  for-children h =
      let told = row_told row in
      let above = (fragment-kind told).0 in
      by-33 (ltb kind 34) refl
    where
      by-56 : (b : Bool) → ltb kind 56 ≡ b → 55 ≤ kind → ForChildren
      by-56 true e l = for-payload (three-payload (row_told row) (omega (arith, ltb-true kind 56 e))) refl refl
      by-56 false e l = for-payload (thresh-payload (row_told row) (omega (arith, ltb-false kind 56 e))) refl refl

      by-54 : (b : Bool) → ltb kind 55 ≡ b → 49 ≤ kind → ForChildren
      by-54 true e l = for-payload (two-payload (row_told row) l (omega (arith, ltb-true kind 55 e))) refl refl
      by-54 false e l = by-56 (ltb kind 56) refl (ltb-false kind 55 e)

      by-48 : (b : Bool) → ltb kind 49 ≡ b → 42 ≤ kind → ForChildren
      by-48 true e l = for-payload (one-payload (row_told row) l (omega (arith, ltb-true kind 49 e))) refl refl
      by-48 false e l = by-54 (ltb kind 55) refl (ltb-false kind 49 e)

      by-41 : (b : Bool) → ltb kind 42 ≡ b → 34 ≤ kind → ForChildren
      by-41 true e l = for-payload (number-payload (row_told row) l (omega (arith, ltb-true kind 42 e))) refl refl
      by-41 false e l = by-48 (ltb kind 49) refl (ltb-false kind 42 e)

      by-33 : (b : Bool) → ltb kind 34 ≡ b → ForChildren
      by-33 true e = for-payload (no_payload (row_told row) (omega (arith, ltb-true kind 34 e))) refl refl
      by-33 false e = by-41 (ltb kind 42) refl (ltb-false kind 34 e)

  -- no children, and these keys
  pub record ForKeys : Type 0 where
    pub none : children_of payload ≡ []
    pub count : count_of payload ≡ count_in (record_at tree i)
    pub keys : keys_of payload ≡ keys_in (record_at tree i)

  pub for-keys : 57 ≤ kind → ForKeys
  for-keys h =
      let e = keys-payload (row_told row) h in
      record { none = ap children_of e; count = ap count_of e ∙ length-keys (record_at tree i) (count_in (record_at tree i)); keys = ap keys_of e }

-- ---- two records by their bytes are two heads and two counts of children

together : (kk n k a b c : Bool) → (kk ≡ true → a ≡ b && c) → kk && (n && (k && a)) ≡ (kk && (n && (k && b))) && c
together false n k a b c h = refl
together true false k a b c h = refl
together true true false a b c h = refl
together true true true a b c h = h refl

module _ {left right : List ℕ} {i j : ℕ} (x : TreeRecord left i) (y : TreeRecord right j) where
  abbrev its-kind : ℕ
  its-kind = kind_of (record_at left i)

  abbrev keys-same : Bool
  keys-same = same_keys (first_keys (record_at left i) (count_in (record_at left i))) (first_keys (record_at right j) (count_in (record_at left i)))

  abbrev counts_same : Bool
  counts_same = eqb (count_of x.payload) (count_of y.payload)

  abbrev Alike : Type 0
  Alike =
      counts_same && cond (ltb its-kind 57) true keys-same
      ≡ same_keys (keys_of x.payload) (keys_of y.payload) && eqb (length (children_of x.payload)) (length (children_of y.payload))

  of-children : its-kind < 57 → kind_of (record_at right j) < 57 → Alike
  unfolding same_keys
  of-children h l =
      let a = for-children x h in
      let b = for-children y l in
      let small : ltb its-kind 57 ≡ true = lt-ltb its-kind 57 h in
      rw (small, a.keys, b.keys, a.count, b.count) (and-true (eqb (length (children_of x.payload)) (length (children_of y.payload))))

  of-keys : 57 ≤ its-kind → 57 ≤ kind_of (record_at right j) → Alike
  of-keys h l = by_count counts_same refl
    where
      by_count : (b : Bool) → counts_same ≡ b → Alike
      by_count true e =
          let a = for-keys x h in
          let b = for-keys y l in
          let large : ltb its-kind 57 ≡ false = le-ltb its-kind 57 h in
          let n : count_in (record_at left i) ≡ count_in (record_at right j) =
          sym a.count ∙ eqb-true (count_of x.payload) (count_of y.payload) e ∙ b.count in
          let same : keys-same ≡ same_keys (keys_of x.payload) (keys_of y.payload) =
          ap (λ (m : ℕ). same_keys (keys_in (record_at left i)) (first_keys (record_at right j) m)) n
          ∙ sym (ap (λ (ks : List ℕ). same_keys ks (keys_of y.payload)) a.keys ∙ ap (same_keys (keys_in (record_at left i))) b.keys) in
          rw (e, large, a.none, b.none) (same ∙ sym (and-true (same_keys (keys_of x.payload) (keys_of y.payload))))
      by_count false e =
          let a = for-keys x h in
          let b = for-keys y l in
          let apart : length (keys_of x.payload) ≡ length (keys_of y.payload) → ⊥ =
          λ s. eqb-false (count_of x.payload) (count_of y.payload) e
          (a.count ∙ sym (length-keys (record_at left i) (count_in (record_at left i))) ∙ sym (ap length a.keys) ∙ s ∙ ap length b.keys
          ∙ length-keys (record_at right j) (count_in (record_at right j)) ∙ sym b.count) in
          rw (e, keys-long (keys_of x.payload) (keys_of y.payload) apart)

  alike : eqb its-kind (kind_of (record_at right j)) ≡ true → Alike
  alike e = by_kind (ltb its-kind 57) refl
    where
      same : its-kind ≡ kind_of (record_at right j)
      same = eqb-true its-kind (kind_of (record_at right j)) e

      by_kind : (b : Bool) → ltb its-kind 57 ≡ b → Alike
      by_kind true t =
          let h = ltb-true its-kind 57 t in
          of-children h (omega (arith, h, same))
      by_kind false t =
          let h = ltb-false its-kind 57 t in
          of-keys h (omega (arith, h, same))

  pub sides : same_record (record_at left i) (record_at right j)
      ≡ same_head (head_in (record_at left i)) (head_in (record_at right j)) && same_count (list_at left (children_of x.payload)) (list_at right (children_of y.payload))
  sides =
      rw (x.fits, y.fits, counts-listed left right (children_of x.payload) (children_of y.payload))
      (together (eqb its-kind (kind_of (record_at right j))) (eqb (number_of x.payload) (number_of y.payload)) (eqb (k_of x.payload) (k_of y.payload))
      (counts_same && cond (ltb its-kind 57) true keys-same) (same_keys (keys_of x.payload) (keys_of y.payload))
      (eqb (length (children_of x.payload)) (length (children_of y.payload))) alike)

-- of bytes that are known
pub same_bytes : {x x' y y' : List ℕ} {same : Bool} → same ≡ same_record x y → x ≡ x' → y ≡ y' → same ≡ same_record x' y'
same_bytes {x' = x'} {y = y} e f g = e ∙ ap (λ (z : List ℕ). same_record z y) f ∙ ap (same_record x') g

-- what `same_record` compares in turn
module _ (x y : List ℕ) {kind other : ℕ} {p q : Parts} (kind-is : kind ≡ kind_of x) (other-is : other ≡ kind_of y)
    (p-is : p ≡ parts_of (fragment_payload x)) (q-is : q ≡ parts_of (fragment_payload y)) where
  abbrev told : Bool → Bool
  told keys = eqb kind other && (eqb p.number q.number && (eqb p.k q.k && (eqb p.count q.count && cond (ltb kind 57) true keys)))

  told_is : {keys : Bool} → keys ≡ same_keys (first_keys x (count_in x)) (first_keys y (count_in x)) → told keys ≡ same_record x y
  told_is e = rw (kind-is, other-is, p-is, q-is, e)

  pub other-kind : (kind ≡ other → ⊥) → false ≡ same_record x y
  other-kind h =
      let no : told (same_keys (first_keys x (count_in x)) (first_keys y (count_in x))) ≡ false = rw (ne_eqb kind other h) in
      sym no ∙ told_is refl

  module _ (same_kind : kind ≡ other) where
    pub other-number : (p.number ≡ q.number → ⊥) → false ≡ same_record x y
    other-number h =
        let no : told (same_keys (first_keys x (count_in x)) (first_keys y (count_in x))) ≡ false = rw (eq-eqb kind other same_kind, ne_eqb p.number q.number h) in
        sym no ∙ told_is refl

    module _ (same_number : p.number ≡ q.number) where
      pub other-k : (p.k ≡ q.k → ⊥) → false ≡ same_record x y
      other-k h =
          let no : told (same_keys (first_keys x (count_in x)) (first_keys y (count_in x))) ≡ false =
          rw (eq-eqb kind other same_kind, eq-eqb p.number q.number same_number, ne_eqb p.k q.k h) in
          sym no ∙ told_is refl

      module _ (same-k : p.k ≡ q.k) where
        pub other-count : (p.count ≡ q.count → ⊥) → false ≡ same_record x y
        other-count h =
            let no : told (same_keys (first_keys x (count_in x)) (first_keys y (count_in x))) ≡ false =
            rw (eq-eqb kind other same_kind, eq-eqb p.number q.number same_number, eq-eqb p.k q.k same-k, ne_eqb p.count q.count h) in
            sym no ∙ told_is refl

        module _ (same_counts : p.count ≡ q.count) where
          pub no_keys : kind < 57 → true ≡ same_record x y
          no_keys h =
              let yes-is : told (same_keys (first_keys x (count_in x)) (first_keys y (count_in x))) ≡ true =
              rw (
                eq-eqb kind other same_kind,
                eq-eqb p.number q.number same_number,
                eq-eqb p.k q.k same-k,
                eq-eqb p.count q.count same_counts,
                lt-ltb kind 57 h,
              ) in
              sym yes-is ∙ told_is refl

          pub by-keys : 57 ≤ kind → {n : ℕ} {keys : Bool} → n ≡ count_in x → keys ≡ same_keys (first_keys x n) (first_keys y n) → keys ≡ same_record x y
          by-keys h {n} {keys} m e =
              let is-keys : told keys ≡ keys =
              rw (
                eq-eqb kind other same_kind,
                eq-eqb p.number q.number same_number,
                eq-eqb p.k q.k same-k,
                eq-eqb p.count q.count same_counts,
                le-ltb kind 57 h,
              ) in
              sym is-keys ∙ told_is (e ∙ ap (λ (n : ℕ). same_keys (first_keys x n) (first_keys y n)) m)
