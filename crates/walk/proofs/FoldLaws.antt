-- Induction over a tree, and what is computed over it record by record (specs/Folds.antt). Assumes nothing.
use Prim.Native.Nat.{ℕ, zero, suc, ◌<◌}
use mathlib.Core.Bool.{Bool, true, false, cond}
use mathlib.Core.List.{List, [], ◌∷◌, ◌++◌, map}
use Rattle.std.specs.Prelude.{Option, None, Some}
use mathlib.Core.Path.{◌≡◌, refl, sym, ap, subst, ◌∙◌}
use native.Mathlib.Omega.{arith}
use borrow.Author.Tests.{ltb-true, ltb-false}
use lib.Dec.{eqb, ltb}
use lib.ListN.{length, get_or, set}
use Rattle.records.specs.Payloads.{Payload, children_of}
use Rattle.records.specs.RecordForm.{kind_of}
use Rattle.contexts.specs.Leaves.{After, Older, Sha256, Hash256, Ripemd160, Hash160}
use Rattle.trees.specs.Fragment.{Fragment, Fragments, end, ◌▹◌, to_list, False, True, PkK, PkH, Lock, Hash}
use Rattle.trees.specs.Fragment.{Alt, Swap, Check, DupIf, Verify, NonZero, ZeroNotEqual}
use Rattle.trees.specs.Fragment.{AndB, AndV, OrB, OrD, OrC, OrI, AndOr, Thresh, Multi, MultiA}
use Rattle.trees.specs.Reading.{Slots, Taken, take_all, root_of}
use Rattle.trees.specs.Tree.{Line, ◌is◌, find, Maker, plain, with_number, one, two, three, fragments, of_keys, makers, made_by, fragment_of}
use Rattle.walk.specs.TreeRecords.{record_at, fragment_at, TreeRecord, TreeRecords}
use Rattle.walk.specs.Heads.{Head, children_in, head_in}
use Rattle.walk.specs.Folds.{ByChildren, Each, none, both, every, over_records, Gathers, OwnAndChildren}
use Rattle.walk.proofs.ReadRecords.{Read, start, next, last_row, first_done, read_all, rows-read}
use Rattle.walk.proofs.Laws.{count-is}
use Rattle.walk.proofs.HeadLaws.{head_at}

-- ---- induction over a tree

-- what holds of a fragment wherever it holds of its children holds of every fragment
module _ (P : Fragment → Type 0) (step : (f : Fragment) → Each P (children_in f) → P f) where
  mutual
    unfolding children_in to_list

    pub by-children : (f : Fragment) → P f
    by-children False = step False none
    by-children True = step True none
    by-children (PkK n) = step (PkK n) none
    by-children (PkH n) = step (PkH n) none
    by-children (Lock kind n) = step (Lock kind n) none
    by-children (Hash kind h) = step (Hash kind h) none
    by-children (Alt x) = step (Alt x) (both (by-children x) none)
    by-children (Swap x) = step (Swap x) (both (by-children x) none)
    by-children (Check x) = step (Check x) (both (by-children x) none)
    by-children (DupIf x) = step (DupIf x) (both (by-children x) none)
    by-children (Verify x) = step (Verify x) (both (by-children x) none)
    by-children (NonZero x) = step (NonZero x) (both (by-children x) none)
    by-children (ZeroNotEqual x) = step (ZeroNotEqual x) (both (by-children x) none)
    by-children (AndB x y) = step (AndB x y) (both (by-children x) (both (by-children y) none))
    by-children (AndV x y) = step (AndV x y) (both (by-children x) (both (by-children y) none))
    by-children (OrB x y) = step (OrB x y) (both (by-children x) (both (by-children y) none))
    by-children (OrD x y) = step (OrD x y) (both (by-children x) (both (by-children y) none))
    by-children (OrC x y) = step (OrC x y) (both (by-children x) (both (by-children y) none))
    by-children (OrI x y) = step (OrI x y) (both (by-children x) (both (by-children y) none))
    by-children (AndOr x y z) = step (AndOr x y z) (both (by-children x) (both (by-children y) (both (by-children z) none)))
    by-children (Thresh k xs) = step (Thresh k xs) (each-child xs)
    by-children (Multi k keys) = step (Multi k keys) none
    by-children (MultiA k keys) = step (MultiA k keys) none

    each-child : (xs : Fragments) → Each P (to_list xs)
    each-child end = none
    each-child (x ▹ xs) = both (by-children x) (each-child xs)

-- ---- induction over records: what holds of a record wherever it holds of its children holds of every record

module _ {tree : List ℕ} {f : Fragment} (r : TreeRecords tree f) (P : ℕ → Type 0)
    (step : (i : ℕ) (h : i < r.count)
    → ((j : ℕ) → j < length (children_of (r.row i h).payload) → P (get_or (children_of (r.row i h).payload) j 0)) → P i) where
  below : (n i : ℕ) → i < n → i < r.count → P i
  below zero i l h = absurd (omega arith)
  below (suc n) i l h = step i h (λ j k. below n (get_or (children_of (r.row i h).payload) j 0)
      (omega (arith, (r.row i h).before j k)) (omega (arith, (r.row i h).before j k)))

  pub by-records : (i : ℕ) → i < r.count → P i
  by-records i h = below (suc i) i (omega arith) h

-- ---- a record's fragment has the children that the record says

abbrev IfSome : {A : Type 0} → (A → Type 0) → Option A → Type 0
IfSome P None = Unit
IfSome P (Some x) = P x

-- a maker makes a fragment of the children that it is given
record Keeps (maker : Maker) : Type 0 where
  kept : (p : Payload) (xs : List Fragment) → IfSome (λ f. children_in f ≡ xs) (maker p xs)

data EachMaker : List (Line Maker) → Type 0 where
  no_line : EachMaker []
  line : {n : ℕ} {m : Maker} {ms : List (Line Maker)} → Keeps m → EachMaker ms → EachMaker (n is m ∷ ms)

found : (kind : ℕ) {ms : List (Line Maker)} → EachMaker ms → IfSome Keeps (find kind ms)
unfolding find
found kind no_line = tt
found kind (line {n} {m} {ms} k ks) = by-test (eqb kind n) (found kind ks)
  where
    by-test : (t : Bool) → IfSome Keeps (find kind ms) → IfSome Keeps (cond t (Some m) (find kind ms))
    by-test true h = k
    by-test false h = h

plain-keeps : (f : Fragment) → children_in f ≡ [] → Keeps (plain f)
plain-keeps f h = record { kept = kept }
  where
    kept : (p : Payload) (xs : List Fragment) → IfSome (λ f. children_in f ≡ xs) (plain f p xs)
    kept p [] = h
    kept p (x ∷ xs) = tt

number-keeps : (f : ℕ → Fragment) → ((n : ℕ) → children_in (f n) ≡ []) → Keeps (with_number f)
number-keeps f h = record { kept = kept }
  where
    kept : (p : Payload) (xs : List Fragment) → IfSome (λ f. children_in f ≡ xs) (with_number f p xs)
    kept p [] = h _
    kept p (x ∷ xs) = tt

keys-keeps : (f : ℕ → List ℕ → Fragment) → ((k : ℕ) (ks : List ℕ) → children_in (f k ks) ≡ []) → Keeps (of_keys f)
keys-keeps f h = record { kept = kept }
  where
    kept : (p : Payload) (xs : List Fragment) → IfSome (λ f. children_in f ≡ xs) (of_keys f p xs)
    kept p [] = h _ _
    kept p (x ∷ xs) = tt

one-keeps : (f : Fragment → Fragment) → ((x : Fragment) → children_in (f x) ≡ x ∷ []) → Keeps (one f)
one-keeps f h = record { kept = kept }
  where
    kept : (p : Payload) (xs : List Fragment) → IfSome (λ f. children_in f ≡ xs) (one f p xs)
    kept p [] = tt
    kept p (x ∷ []) = h x
    kept p (x ∷ y ∷ xs) = tt

two-keeps : (f : Fragment → Fragment → Fragment) → ((x y : Fragment) → children_in (f x y) ≡ x ∷ y ∷ []) → Keeps (two f)
two-keeps f h = record { kept = kept }
  where
    kept : (p : Payload) (xs : List Fragment) → IfSome (λ f. children_in f ≡ xs) (two f p xs)
    kept p [] = tt
    kept p (x ∷ []) = tt
    kept p (x ∷ y ∷ []) = h x y
    kept p (x ∷ y ∷ z ∷ xs) = tt

three-keeps : (f : Fragment → Fragment → Fragment → Fragment) → ((x y z : Fragment) → children_in (f x y z) ≡ x ∷ y ∷ z ∷ []) → Keeps (three f)
three-keeps f h = record { kept = kept }
  where
    kept : (p : Payload) (xs : List Fragment) → IfSome (λ f. children_in f ≡ xs) (three f p xs)
    kept p [] = tt
    kept p (x ∷ []) = tt
    kept p (x ∷ y ∷ []) = tt
    kept p (x ∷ y ∷ z ∷ []) = h x y z
    kept p (x ∷ y ∷ z ∷ w ∷ xs) = tt

to-fragments : (xs : List Fragment) → to_list (fragments xs) ≡ xs
unfolding to_list fragments
to-fragments [] = refl
to-fragments (x ∷ xs) = rw (to-fragments xs)

makers-keep : EachMaker makers
unfolding children_in
makers-keep =
    line (plain-keeps False refl) (line (plain-keeps True refl)
    (line (number-keeps PkK λ n. refl) (line (number-keeps PkH λ n. refl)
    (line (number-keeps (Lock After) λ n. refl) (line (number-keeps (Lock Older) λ n. refl)
    (line (number-keeps (Hash Sha256) λ n. refl) (line (number-keeps (Hash Hash256) λ n. refl) (line (number-keeps (Hash Ripemd160) λ n. refl) (line (number-keeps (Hash Hash160) λ n. refl)
    (line (one-keeps Alt λ x. refl) (line (one-keeps Swap λ x. refl) (line (one-keeps Check λ x. refl) (line (one-keeps DupIf λ x. refl)
    (line (one-keeps Verify λ x. refl) (line (one-keeps NonZero λ x. refl) (line (one-keeps ZeroNotEqual λ x. refl)
    (line (two-keeps AndB λ x y. refl) (line (two-keeps AndV λ x y. refl) (line (two-keeps OrB λ x y. refl)
    (line (two-keeps OrD λ x y. refl) (line (two-keeps OrC λ x y. refl) (line (two-keeps OrI λ x y. refl)
    (line (three-keeps AndOr λ x y z. refl) (line (record { kept = λ p xs. to-fragments xs })
    (line (keys-keeps Multi λ k ks. refl) (line (keys-keeps MultiA λ k ks. refl) no_line))))))))))))))))))))))))))

made_of : (kind : ℕ) (p : Payload) (xs : List Fragment) {f : Fragment} → fragment_of kind p xs ≡ Some f → children_in f ≡ xs
made_of kind p xs {f} e = by-maker (find kind makers) (found kind makers-keep) e
  where
    by-made : (o : Option Fragment) → IfSome (λ f. children_in f ≡ xs) o → o ≡ Some f → children_in f ≡ xs
    by-made (Some g) h e =
        let same : f ≡ g = cc in
        rw same h
    by-made None h e = absurd (let z : ◌≡◌ {A = ℕ} 0 1 = cc in omega arith)

    by-maker : (o : Option Maker) → IfSome Keeps o → made_by o p xs ≡ Some f → children_in f ≡ xs
    by-maker (Some m) k e = by-made (m p xs) (k.kept p xs) e
    by-maker None k e = absurd (let z : ◌≡◌ {A = ℕ} 0 1 = cc in omega arith)

-- the children of record i's fragment are the fragments of its children
pub children-at : {tree : List ℕ} {i : ℕ} (row : TreeRecord tree i) → children_in (fragment_at tree i) ≡ map (fragment_at tree) (children_of row.payload)
children-at {tree} {i} row = made_of (kind_of (record_at tree i)) row.payload (map (fragment_at tree) (children_of row.payload)) row.makes

-- ---- a value that is computed from the children's

map-map : {A : Type 0} (value : Fragment → A) (g : ℕ → Fragment) (js : List ℕ) → map value (map g js) ≡ map (λ j. value (g j)) js
map-map value g [] = refl
map-map value g (j ∷ js) = rw (map-map value g js)

same_map : {A : Type 0} (g h : ℕ → A) (js : List ℕ) → ((k : ℕ) → k < length js → g (get_or js k 0) ≡ h (get_or js k 0)) → map g js ≡ map h js
same_map g h [] e = refl
same_map g h (j ∷ js) e = rw (e 0 (omega arith), same_map g h js (λ k l. e (suc k) (omega arith)))

module _ {A : Type 0} (value : Fragment → A) (step : Head → List A → A) (by : ByChildren value step) {tree : List ℕ} {i : ℕ} (row : TreeRecord tree i) where
  -- the value of a record by those of its children
  pub value-at : value (fragment_at tree i) ≡ step (head_in (record_at tree i)) (map (λ j. value (fragment_at tree j)) (children_of row.payload))
  value-at =
      by (fragment_at tree i)
      ∙ ap (λ (h : Head). step h (map value (children_in (fragment_at tree i)))) (head_at row)
      ∙ ap (λ (xs : List Fragment). step (head_in (record_at tree i)) (map value xs)) (children-at row)
      ∙ ap (step (head_in (record_at tree i))) (map-map value (fragment_at tree) (children_of row.payload))

  -- the same from a row that holds the values of the records before it
  pub value-from : (values : List A) (d : A) → ((j : ℕ) → j < i → get_or values j d ≡ value (fragment_at tree j))
      → value (fragment_at tree i) ≡ step (head_in (record_at tree i)) (map (λ j. get_or values j d) (children_of row.payload))
  value-from values d known =
      value-at
      ∙ ap (step (head_in (record_at tree i)))
      (same_map (λ j. value (fragment_at tree j)) (λ j. get_or values j d) (children_of row.payload)
      (λ k l. sym (known (get_or (children_of row.payload) k 0) (row.before k l))))

-- ---- a value put together of all records: each is part of the tree once

module _ {A : Type 0} (◌·◌ : A → A → A) (unit : A) (laws : Gathers ◌·◌ unit) (value own : Fragment → A)
    (splits : OwnAndChildren ◌·◌ unit value own) where
  infixl 20 ◌·◌
  abbrev every_of : List Fragment → A
  every_of xs = every ◌·◌ unit value xs

  -- ---- of the free slots

  abbrev every_free : Slots Fragment → A
  every_free [] = unit
  every_free (None ∷ slots) = every_free slots
  every_free (Some x ∷ slots) = value x · every_free slots

  left-unit : (x : A) → unit · x ≡ x
  left-unit x = laws.comm unit x ∙ laws.right-unit x

  exchange : (x y z : A) → x · (y · z) ≡ y · (x · z)
  exchange x y z = sym (laws.assoc x y z) ∙ ap (λ (w : A). w · z) (laws.comm x y) ∙ laws.assoc y x z

  free-set : (slots : Slots Fragment) (j : ℕ) {x : Fragment} → get_or slots j None ≡ Some x
      → every_free slots ≡ value x · every_free (set slots j None)
  free-set [] zero e = absurd (let z : ◌≡◌ {A = ℕ} 0 1 = cc in omega arith)
  free-set [] (suc j) e = absurd (let z : ◌≡◌ {A = ℕ} 0 1 = cc in omega arith)
  free-set (None ∷ slots) zero e = absurd (let z : ◌≡◌ {A = ℕ} 0 1 = cc in omega arith)
  free-set (Some y ∷ slots) zero {x} e =
      let same : y ≡ x = cc in
      rw same
  free-set (None ∷ slots) (suc j) e = free-set slots j e
  free-set (Some y ∷ slots) (suc j) {x} e =
      ap (λ (b : A). value y · b) (free-set slots j e) ∙ exchange (value y) (value x) (every_free (set slots j None))

  free-taken : (js : List ℕ) (slots : Slots Fragment) {taken : Taken Fragment} → take_all js slots ≡ Some taken
      → every_free slots ≡ every_of taken.those · every_free taken.left
  unfolding take_all every
  free-taken [] slots {taken} e =
      let same : taken ≡ record { those = []; left = slots } = cc in
      rw same (sym (left-unit (every_free slots)))
  free-taken (j ∷ js) slots {taken} e =
      let d = first_done (get_or slots j None) (take_all js (set slots j None)) e in
      free-set slots j d.2 ∙ with_first d.0 d.1 d.4 d.5 (free-taken js (set slots j None) d.3)
    where
      with_first : {rest : A} (x : Fragment) (s : Taken Fragment) → taken.those ≡ x ∷ s.those → taken.left ≡ s.left
          → rest ≡ every_of s.those · every_free s.left → value x · rest ≡ every_of taken.those · every_free taken.left
      with_first x s those left e = rw (those, left, e) (sym (laws.assoc (value x) (every_of s.those) (every_free s.left)))

  free_more : (slots : Slots Fragment) (f : Fragment) → every_free (slots ++ (Some f ∷ [])) ≡ every_free slots · value f
  free_more [] f = laws.comm (value f) unit
  free_more (None ∷ slots) f = free_more slots f
  free_more (Some x ∷ slots) f =
      ap (λ (b : A). value x · b) (free_more slots f) ∙ sym (laws.assoc (value x) (every_free slots) (value f))

  -- at the end only the root is free
  root-free : (slots : Slots Fragment) {f : Fragment} → root_of slots ≡ Some f → every_free slots ≡ value f
  unfolding root_of
  root-free [] e = absurd (let z : ◌≡◌ {A = ℕ} 0 1 = cc in omega arith)
  root-free (None ∷ []) e = absurd (let z : ◌≡◌ {A = ℕ} 0 1 = cc in omega arith)
  root-free (Some x ∷ []) {f} e =
      let same : x ≡ f = cc in
      laws.right-unit (value x) ∙ ap value same
  root-free (None ∷ o ∷ slots) e = root-free (o ∷ slots) e
  root-free (Some x ∷ o ∷ slots) e = absurd (let z : ◌≡◌ {A = ℕ} 0 1 = cc in omega arith)

  -- ---- of the records read, which are those of the free slots

  turn : (left own-part those : A) → left · (own-part · those) ≡ (those · left) · own-part
  turn left own-part those =
      sym (laws.assoc left own-part those) ∙ laws.comm (left · own-part) those ∙ sym (laws.assoc those left own-part)

  gathered : (tree : List ℕ) {n : ℕ} {slots : Slots Fragment} → Read tree n slots → every_free slots ≡ over_records ◌·◌ unit own tree n
  unfolding over_records
  gathered tree start = refl
  gathered tree (next {n} {slots} len p taken f r l e k g) =
      let its = (last_row tree n slots len p taken f r l e k g).0 in
      free_more taken.left f
      ∙ ap (λ (b : A). every_free taken.left · b) (splits f)
      ∙ ap (λ (xs : List Fragment). every_free taken.left · (own f · every_of xs)) (made_of (kind_of (record_at tree n)) p taken.those g)
      ∙ turn (every_free taken.left) (own f) (every_of taken.those)
      ∙ ap (λ (b : A). b · own f) (sym (free-taken (children_of p) slots k) ∙ gathered tree r)
      ∙ ap (λ (h : Fragment). over_records ◌·◌ unit own tree n · own h) (sym its)

  -- the tree's value is put together of its records' own
  pub over-records : {tree : List ℕ} {f : Fragment} (r : TreeRecords tree f) → value f ≡ over_records ◌·◌ unit own tree r.count
  over-records {tree} {f} r =
      let all = read_all tree f r.writes in
      let same : r.count ≡ all.count = count-is r all.count all.ends (rows-read tree all.reads) in
      sym (root-free all.slots all.root) ∙ gathered tree all.reads ∙ ap (over_records ◌·◌ unit own tree) (sym same)

  -- each record's value is a part of what the records up to it put together
  part : {tree : List ℕ} {n : ℕ} {slots : Slots Fragment} → Read tree n slots → (i : ℕ) → i < n
      → (rest : A) × (value (fragment_at tree i) · rest ≡ over_records ◌·◌ unit own tree (suc i))
  part start i h = absurd (omega arith)
  part {tree} (next {n} {slots} len p taken f r l e k g) i h = by-test (ltb i n) refl (λ l. part r i l)
    where
      last : (rest : A) × (value (fragment_at tree n) · rest ≡ over_records ◌·◌ unit own tree (suc n))
      last =
          let its = (last_row tree n slots len p taken f r l e k g).0 in (
            every_free taken.left,
            ap (λ (x : Fragment). value x · every_free taken.left) its ∙ laws.comm (value f) (every_free taken.left)
                ∙ sym (free_more taken.left f) ∙ gathered tree (next {n = n} {slots = slots} len p taken f r l e k g),
          )

      by-test : (t : Bool) → ltb i n ≡ t → (i < n → (rest : A) × (value (fragment_at tree i) · rest ≡ over_records ◌·◌ unit own tree (suc i)))
          → (rest : A) × (value (fragment_at tree i) · rest ≡ over_records ◌·◌ unit own tree (suc i))
      by-test true b before = before (ltb-true i n b)
      by-test false b before =
          let same : n ≡ i = omega (arith, ltb-false i n b) in
          subst (λ (i : ℕ). (rest : A) × (value (fragment_at tree i) · rest ≡ over_records ◌·◌ unit own tree (suc i))) same last

  pub part_of : {tree : List ℕ} {f : Fragment} (r : TreeRecords tree f) (i : ℕ) → i < r.count
      → (rest : A) × (value (fragment_at tree i) · rest ≡ over_records ◌·◌ unit own tree (suc i))
  part_of {tree} {f} r i h =
      let all = read_all tree f r.writes in
      let same : r.count ≡ all.count = count-is r all.count all.ends (rows-read tree all.reads) in
      part all.reads i (omega arith)
