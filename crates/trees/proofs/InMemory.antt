-- Laws on the slots in work memory: reading one, taking one, adding one; and on children taken one after the other. Assumes nothing.
use Prim.Native.Nat.{ℕ, zero, suc, ◌+◌, ◌*◌, ◌-◌, ◌≤◌, ◌<◌}
use mathlib.Core.List.{List, [], ◌∷◌, ◌++◌, map, append_assoc, append-nil}
use Rattle.std.specs.Prelude.{Option, None, Some}
use mathlib.Core.Path.{◌≡◌, refl, sym, ap, ◌∙◌}
use native.Mathlib.Numerals.{add-one}
use native.Mathlib.Omega.{arith}
use lib.ListN.{length, get_or, set, take, drop, length-map, get_or-map, get_or-eq_default}
use lib.Seq.{get_or-take, take-set-lt, take-suc-set, drop-cons, set_out, length-take-le}
use Rattle.types.specs.TypeOrder.{pack}
use Rattle.types.proofs.PackLaws.{pack-lt, unpack-pack}
use Rattle.words.proofs.Packing.{digit, rest}
use Rattle.trees.specs.declared.Subtree.{Subtree}
use Rattle.trees.specs.Reading.{Slots, Taken, and_first, take_all}
use Rattle.trees.specs.WorkMemory.{unpacked, slot_of, slots_in}

-- ---- one slot

pub slots_length : (work : List ℕ) (read : ℕ) → read ≤ length work → length (slots_in work read) ≡ read
slots_length work read h = length-map (take read work) slot_of ∙ length-take-le read work h

pub slot-at : (work : List ℕ) (read j : ℕ) → j < read → get_or (slots_in work read) j None ≡ slot_of (get_or work j 0)
slot-at work read j h = get_or-map slot_of (take read work) j 0 ∙ ap slot_of (get_or-take read work j 0 h)

pub slot-beyond : (work : List ℕ) (read j : ℕ) → read ≤ length work → read ≤ j → get_or (slots_in work read) j None ≡ None
slot-beyond work read j h b = get_or-eq_default (slots_in work read) None (rw (slots_length work read h) b)

map-set : (l : List ℕ) (j v : ℕ) → map slot_of (set l j v) ≡ set (map slot_of l) j (slot_of v)
map-set [] zero v = refl
map-set [] (suc j) v = refl
map-set (w ∷ l) zero v = refl
map-set (w ∷ l) (suc j) v = ap (λ (s : Slots Subtree). slot_of w ∷ s) (map-set l j v)

pub slot-taken : (work : List ℕ) (read j : ℕ) → j < read → slots_in (set work j 0) read ≡ set (slots_in work read) j None
slot-taken work read j h = ap (λ (l : List ℕ). map slot_of l) (take-set-lt read work j 0 h) ∙ map-set (take read work) j 0

pub slot-not-there : (work : List ℕ) (read j : ℕ) → read ≤ length work → read ≤ j → slots_in work read ≡ set (slots_in work read) j None
slot-not-there work read j h b = sym (set_out (slots_in work read) j None (rw (slots_length work read h) b))

map_more : (l : List ℕ) (v : ℕ) → map slot_of (l ++ (v ∷ [])) ≡ map slot_of l ++ (slot_of v ∷ [])
map_more [] v = refl
map_more (w ∷ l) v = ap (λ (s : Slots Subtree). slot_of w ∷ s) (map_more l v)

-- the word of a tree
abbrev pub word_of : Subtree → ℕ
word_of x = pack x.ty + 1 + x.height * 0x400

word-of : (x : Subtree) → slot_of (word_of x) ≡ Some x
word-of x =
    let small : pack x.ty + 1 < 0x400 = omega (arith, pack-lt x.ty) in
    rw (rest 0x400 (pack x.ty + 1) x.height small, digit 0x400 (pack x.ty + 1) x.height small, add-one (pack x.ty))
    (ap (unpacked x.height) (unpack-pack x.ty))

-- a record's own slot, behind the others
pub slot_added : (work : List ℕ) (read : ℕ) (x : Subtree) → read < length work
    → slots_in (set work read (word_of x)) (read + 1) ≡ slots_in work read ++ (Some x ∷ [])
slot_added work read x h =
    rw (add-one read, take-suc-set work read (word_of x) h, map_more (take read work) (word_of x), word-of x)

-- ---- children, one after the other

-- what some children are together with those taken before them
abbrev pub and_before : {A : Type 0} → List A → Option (Taken A) → Option (Taken A)
and_before before None = None
and_before before (Some t) = Some (record { those = before ++ t.those; left = t.left })

one_more : {A : Type 0} (before : List A) (x : A) (o : Option (Taken A))
    → and_before (before ++ (x ∷ [])) o ≡ and_before before (and_first (Some x) o)
one_more before x None = refl
one_more before x (Some t) = rw (append_assoc before (x ∷ []) t.those)

before-none : {A : Type 0} (o : Option (Taken A)) → and_before [] o ≡ o
before-none None = refl
before-none (Some t) = refl

-- what a slot told
pub free-slot : (o : Option Subtree) {s : Option Subtree} {t : Subtree} → s ≡ o → s ≡ Some t → o ≡ Some t
free-slot (Some u) e m = cc
free-slot None e m = cc

pub taken-slot : (o : Option Subtree) {s : Option Subtree} → s ≡ o → s ≡ None → o ≡ None
taken-slot (Some u) e m = cc
taken-slot None e m = refl

module _ (js : List ℕ) (n : ℕ) (whole : Option (Taken Subtree)) where
  -- after i children: those still to come, with those taken before them, are all
  abbrev pub ToCome : (subtrees : List Subtree) (i : ℕ) → Slots Subtree → Type 0
  ToCome subtrees i slots = and_before (take i subtrees) (take_all (take (n - i) (drop i js)) slots) ≡ whole

  pub children-start : (subtrees : List Subtree) (slots : Slots Subtree) → take_all (take n js) slots ≡ whole → ToCome subtrees 0 slots
  children-start subtrees slots e =
      let z : n - 0 ≡ n = omega arith in
      rw z (before-none (take_all (take n js) slots) ∙ e)

  next-child : (i : ℕ) → i < n → i < length js → take (n - i) (drop i js) ≡ get_or js i 0 ∷ take (n - (i + 1)) (drop (i + 1) js)
  next-child i h l =
      let e : n - i ≡ suc (n - (i + 1)) = omega arith in
      rw (drop-cons js i 0 l, e, add-one)

  pub children-more : (subtrees : List Subtree) (i : ℕ) (slots slots' : Slots Subtree) (t : Subtree) → i < n → i < length js → i < length subtrees
      → get_or slots (get_or js i 0) None ≡ Some t → slots' ≡ set slots (get_or js i 0) None → ToCome subtrees i slots
      → ToCome (set subtrees i t) (i + 1) slots'
  unfolding take_all
  children-more subtrees i slots slots' t h l m free e inv =
      let rest = take (n - (i + 1)) (drop (i + 1) js) in
      let front : take (i + 1) (set subtrees i t) ≡ take i subtrees ++ (t ∷ []) = rw add-one (take-suc-set subtrees i t m) in
      let first : and_first (get_or slots (get_or js i 0) None) (take_all rest (set slots (get_or js i 0) None))
      ≡ and_first (Some t) (take_all rest slots') = rw (free, e) in
      rw front (one_more (take i subtrees) t (take_all rest slots') ∙ ap (and_before (take i subtrees)) (sym first)
      ∙ ap (λ (l : List ℕ). and_before (take i subtrees) (take_all l slots)) (sym (next-child i h l)) ∙ inv)

  pub children-stop : (subtrees : List Subtree) (i : ℕ) (slots : Slots Subtree) → i < n → i < length js
      → get_or slots (get_or js i 0) None ≡ None → ToCome subtrees i slots → whole ≡ None
  unfolding take_all
  children-stop subtrees i slots h l taken inv =
      let rest = take (n - (i + 1)) (drop (i + 1) js) in
      let first : and_first (get_or slots (get_or js i 0) None) (take_all rest (set slots (get_or js i 0) None)) ≡ None = rw taken in
      sym inv ∙ ap (λ (l : List ℕ). and_before (take i subtrees) (take_all l slots)) (next-child i h l) ∙ ap (and_before (take i subtrees)) first

  pub children-end : (subtrees : List Subtree) (i : ℕ) (slots : Slots Subtree) → i ≡ n → ToCome subtrees i slots
      → whole ≡ Some (record { those = take n subtrees; left = slots })
  unfolding take_all
  children-end subtrees i slots e inv =
      let z : n - i ≡ 0 = omega arith in
      let all : take_all (take (n - i) (drop i js)) slots ≡ Some (record { those = []; left = slots }) = rw z in
      sym inv ∙ ap (and_before (take i subtrees)) all ∙ rw (append-nil (take i subtrees), e)
