-- What reading a tree leaves, record by record: slots whose free ones hold the fragments of specs/TreeRecords.antt. Assumes nothing.
use Prim.Native.Nat.{ℕ, zero, suc, ◌+◌, ◌-◌, ◌≤◌, ◌<◌}
use mathlib.Core.Bool.{Bool, true, false}
use mathlib.Core.List.{List, [], ◌∷◌, ◌++◌, map}
use Rattle.std.specs.Prelude.{Option, None, Some}
use mathlib.Core.Path.{◌≡◌, refl, sym, ap, subst, ◌∙◌}
use native.Mathlib.Omega.{arith}
use borrow.Author.Tests.{ltb-true, ltb-false}
use lib.Dec.{ltb}
use lib.ListN.{length, get_or, set, take, drop, length-append, length-drop, get_or-append}
use lib.Seq.{drop-drop, get_or_at}
use Rattle.records.specs.Numbers.{or_zero}
use Rattle.records.specs.Payloads.{Payload, children_of}
use Rattle.records.specs.RecordForm.{record_length, kind_of, fragment_payload}
use Rattle.records.proofs.Laws.{whole_room}
use Rattle.trees.specs.Fragment.{Fragment, False}
use Rattle.trees.specs.Reading.{Answer, refused, done, ◌>>=◌, or_refuse, bad_tree, max_records}
use Rattle.trees.specs.Reading.{Slots, Taken, and_first, take_all, root_of, add_made, add_payload, add_record, read_from, read_tree}
use Rattle.trees.specs.Tree.{fragment_of, make_fragment, tree_of}
use Rattle.walk.specs.TreeRecords.{length_from, start_of, record_at, or_false, made_of, fragments_of, fragment_at, TreeRecord}

-- ---- what an answer that is done tells

pub bind_done : {A B : Type 0} (a : Answer A) (next : A → Answer B) {b : B} → (a >>= next) ≡ done b → (x : A) × (a ≡ done x) × (next x ≡ done b)
bind_done (refused n) next e = absurd (let z : ◌≡◌ {A = ℕ} 0 1 = cc in omega arith)
bind_done (done x) next e = (x, refl, e)

pub or-done : {A : Type 0} (n : ℕ) (o : Option A) {x : A} → or_refuse n o ≡ done x → o ≡ Some x
or-done n (Some y) e = cc
or-done n None e = absurd (let z : ◌≡◌ {A = ℕ} 0 1 = cc in omega arith)

-- ---- a record that begins at record i's start is record i

module _ (tree : List ℕ) (i : ℕ) {len : ℕ} (e : record_length (drop (start_of tree i) tree) ≡ Some len) where
  length-is : length_from tree (start_of tree i) ≡ len
  length-is = ap or_zero e

  pub start-after : start_of tree (suc i) ≡ start_of tree i + len
  unfolding start_of
  start-after = rw length-is

  pub bytes-are : record_at tree i ≡ take len (drop (start_of tree i) tree)
  unfolding record_at
  bytes-are = rw length-is

-- ---- reading records, one slot for each

pub data Read (tree : List ℕ) : ℕ → Slots Fragment → Type 0 where
  start : Read tree 0 []
  next : {n : ℕ} {slots : Slots Fragment} (len : ℕ) (p : Payload) (taken : Taken Fragment) (f : Fragment) → Read tree n slots
      → record_length (drop (start_of tree n) tree) ≡ Some len
      → fragment_payload (record_at tree n) ≡ Some p
      → take_all (children_of p) slots ≡ Some taken
      → fragment_of (kind_of (record_at tree n)) p taken.those ≡ Some f
      → Read tree (suc n) (taken.left ++ (Some f ∷ []))

pub record ReadAll (tree : List ℕ) (f : Fragment) : Type 0 where
  pub count : ℕ
  pub slots : Slots Fragment
  pub reads : Read tree count slots
  pub few : count ≤ max_records
  pub ends : start_of tree count ≡ length tree
  pub root : root_of slots ≡ Some f

module _ (tree : List ℕ) (f : Fragment) where
  at-end : (more n : ℕ) (slots : Slots Fragment) → [] ≡ drop (start_of tree n) tree → start_of tree n ≤ length tree → more + n ≡ max_records
      → Read tree n slots → or_refuse bad_tree (root_of slots) ≡ done f → ReadAll tree f
  at-end more n slots b l m r e =
      record {
        count = n;
        slots = slots;
        reads = r;
        few = omega arith;
        ends = omega (arith, length-drop (start_of tree n) tree, ap length b);
        root = or-done bad_tree (root_of slots) e;
      }

  one_more : (n : ℕ) (slots after : Slots Fragment) (len : ℕ) → Read tree n slots → record_length (drop (start_of tree n) tree) ≡ Some len
      → add_record make_fragment slots (record_at tree n) ≡ done after → Read tree (suc n) after
  unfolding add_record
  one_more n slots after len r l e =
      let s = record_at tree n in
      let p = bind_done (or_refuse bad_tree (fragment_payload s)) (λ p. add_payload make_fragment slots (kind_of s) p) e in
      let t = bind_done (or_refuse bad_tree (take_all (children_of p.0) slots)) (λ t. add_made make_fragment (kind_of s) p.0 t) p.2 in
      let f = bind_done (make_fragment (kind_of s) p.0 t.0.those) (λ x. done (t.0.left ++ (Some x ∷ []))) t.2 in
      let is : t.0.left ++ (Some f.0 ∷ []) ≡ after = cc f.2 in
      subst (λ (l : Slots Fragment). Read tree (suc n) l) is
      (next len p.0 t.0 f.0 r l (or-done bad_tree (fragment_payload s) p.1) (or-done bad_tree (take_all (children_of p.0) slots) t.1)
      (or-done bad_tree (fragment_of (kind_of s) p.0 t.0.those) f.1))

  reading : (more n : ℕ) (slots : Slots Fragment) (bytes : List ℕ) → bytes ≡ drop (start_of tree n) tree → start_of tree n ≤ length tree
      → more + n ≡ max_records → Read tree n slots → read_from make_fragment more slots bytes ≡ done f → ReadAll tree f
  unfolding read_from
  reading zero n slots [] b l m r e = at-end zero n slots b l m r e
  reading zero n slots (x ∷ bytes) b l m r e = absurd (let z : ◌≡◌ {A = ℕ} 0 1 = cc in omega arith)
  reading (suc more) n slots [] b l m r e = at-end (suc more) n slots b l m r e
  reading (suc more) n slots (x ∷ bytes) b l m r e =
      let d = bind_done (or_refuse bad_tree (record_length (x ∷ bytes)))
      (λ len. add_record make_fragment slots (take len (x ∷ bytes)) >>= λ s. read_from make_fragment more s (drop len (x ∷ bytes))) e in
      let len = d.0 in
      let s = bind_done (add_record make_fragment slots (take len (x ∷ bytes))) (λ s. read_from make_fragment more s (drop len (x ∷ bytes))) d.2 in
      let whole : record_length (drop (start_of tree n) tree) ≡ Some len =
      subst (λ (y : List ℕ). record_length y ≡ Some len) b (or-done bad_tree (record_length (x ∷ bytes)) d.1) in
      let here : take len (x ∷ bytes) ≡ record_at tree n = ap (take len) b ∙ sym (bytes-are tree n whole) in
      let rest : drop len (x ∷ bytes) ≡ drop (start_of tree (suc n)) tree =
      ap (drop len) b ∙ drop-drop len (start_of tree n) tree ∙ ap (λ (k : ℕ). drop k tree) (sym (start-after tree n whole)) in
      reading more (suc n) s.0 (drop len (x ∷ bytes)) rest (rw (start-after tree n whole) (whole_room tree (start_of tree n) whole)) (omega arith)
      (one_more n slots s.0 len r whole (subst (λ (y : List ℕ). add_record make_fragment slots y ≡ done s.0) here s.1))
      s.2

  pub read_all : tree_of tree ≡ done f → ReadAll tree f
  unfolding tree_of read_tree start_of
  read_all e = reading max_records 0 [] tree refl (omega arith) refl start e

-- ---- the slots beside the fragments: what is free is the record's own fragment

abbrev pub Agrees : Option Fragment → Fragment → Type 0
Agrees None f = Unit
Agrees (Some g) f = g ≡ f

pub data Beside : Slots Fragment → List Fragment → Type 0 where
  empty : Beside [] []
  pair : {x : Option Fragment} {y : Fragment} {xs : Slots Fragment} {ys : List Fragment} → Agrees x y → Beside xs ys → Beside (x ∷ xs) (y ∷ ys)

beside-length : {xs : Slots Fragment} {ys : List Fragment} → Beside xs ys → length xs ≡ length ys
beside-length empty = refl
beside-length (pair p ps) = ap suc (beside-length ps)

beside-more : {xs : Slots Fragment} {ys : List Fragment} (x : Option Fragment) (y : Fragment) → Beside xs ys → Agrees x y
    → Beside (xs ++ (x ∷ [])) (ys ++ (y ∷ []))
beside-more x y empty r = pair r empty
beside-more x y (pair q qs) r = pair q (beside-more x y qs r)

agrees_at : {slots : Slots Fragment} {fs : List Fragment} → Beside slots fs → (j : ℕ) {g : Fragment} → get_or slots j None ≡ Some g
    → (g ≡ get_or fs j False) × (j < length fs)
agrees_at empty zero e = absurd (let z : ◌≡◌ {A = ℕ} 0 1 = cc in omega arith)
agrees_at empty (suc j) e = absurd (let z : ◌≡◌ {A = ℕ} 0 1 = cc in omega arith)
agrees_at (pair {x = None} p ps) zero e = absurd (let z : ◌≡◌ {A = ℕ} 0 1 = cc in omega arith)
agrees_at (pair {x = Some y} p ps) zero {g} e =
    let same : g ≡ y = cc in
    (same ∙ p, omega arith)
agrees_at (pair p ps) (suc j) e =
    let h = agrees_at ps j e in
    (h.0, omega (arith, h.1))

agrees-set : {slots : Slots Fragment} {fs : List Fragment} → Beside slots fs → (j : ℕ) → Beside (set slots j None) fs
agrees-set empty zero = empty
agrees-set empty (suc j) = empty
agrees-set (pair p ps) zero = pair tt ps
agrees-set (pair p ps) (suc j) = pair p (agrees-set ps j)

-- both parts of what was taken
pub first_done : (o : Option Fragment) (r : Option (Taken Fragment)) {t : Taken Fragment} → and_first o r ≡ Some t
    → (x : Fragment) × (s : Taken Fragment) × (o ≡ Some x) × (r ≡ Some s) × (t.those ≡ x ∷ s.those) × (t.left ≡ s.left)
first_done (Some x) (Some s) {t} e =
    let is : t ≡ record { those = x ∷ s.those; left = s.left } = cc in
    (x, s, refl, refl, ap (λ (t : Taken Fragment). t.those) is, ap (λ (t : Taken Fragment). t.left) is)
first_done (Some x) None e = absurd (let z : ◌≡◌ {A = ℕ} 0 1 = cc in omega arith)
first_done None r e = absurd (let z : ◌≡◌ {A = ℕ} 0 1 = cc in omega arith)

record TakenFrom (fs : List Fragment) (js : List ℕ) (t : Taken Fragment) : Type 0 where
  those : t.those ≡ map (λ j. get_or fs j False) js
  left : Beside t.left fs
  before : (k : ℕ) → k < length js → get_or js k 0 < length fs

taken-from : (js : List ℕ) (slots : Slots Fragment) (fs : List Fragment) {t : Taken Fragment} → Beside slots fs
    → take_all js slots ≡ Some t → TakenFrom fs js t
unfolding take_all
taken-from [] slots fs {t} ps e =
    let is : t ≡ record { those = []; left = slots } = cc in
    record {
      those = ap (λ (t : Taken Fragment). t.those) is;
      left = subst (λ (l : Slots Fragment). Beside l fs) (sym (ap (λ (t : Taken Fragment). t.left) is)) ps;
      before = λ k h. absurd (omega arith);
    }
taken-from (j ∷ js) slots fs {t} ps e =
    let d = first_done (get_or slots j None) (take_all js (set slots j None)) e in
    let x = agrees_at ps j d.2 in
    let rest = taken-from js (set slots j None) fs (agrees-set ps j) d.3 in
    record {
      those = d.4 ∙ rw (x.0, rest.those);
      left = subst (λ (l : Slots Fragment). Beside l fs) (sym d.5) rest.left;
      before = before x.1 rest.before;
    }
  where
    before : j < length fs → ((k : ℕ) → k < length js → get_or js k 0 < length fs) → (k : ℕ) → k < length (j ∷ js) → get_or (j ∷ js) k 0 < length fs
    before h rest zero l = h
    before h rest (suc k) l = rest k (omega arith)

-- ---- the fragments of the records read

module _ (tree : List ℕ) where
  pub length-fragments : (n : ℕ) → length (fragments_of tree n) ≡ n
  unfolding fragments_of
  length-fragments zero = refl
  length-fragments (suc n) = rw (length-append (fragments_of tree n) (_ ∷ [])) (omega (arith, length-fragments n))

  -- a record's fragment stays the same when more are read
  pub fragments-kept : (n j : ℕ) → j < n → get_or (fragments_of tree n) j False ≡ fragment_at tree j
  unfolding fragments_of fragment_at
  fragments-kept zero j h = absurd (omega arith)
  fragments-kept (suc n) j h = by-test (ltb j n) refl (λ l. fragments-kept n j l)
    where
      by-test : (t : Bool) → ltb j n ≡ t → (j < n → get_or (fragments_of tree n) j False ≡ fragment_at tree j)
          → get_or (fragments_of tree (suc n)) j False ≡ fragment_at tree j
      by-test true e rec =
          let l = ltb-true j n e in
          get_or-append (fragments_of tree n) (_ ∷ []) False j (rw (length-fragments n) l) ∙ rec l
      by-test false e rec =
          let same : j ≡ n = omega (arith, ltb-false j n e) in
          ap (λ (n : ℕ). get_or (fragments_of tree (suc n)) j False) (sym same)

  -- what record n makes, from what it took
  last_made : (n : ℕ) {p : Payload} {xs : List Fragment} {f : Fragment} → fragment_payload (record_at tree n) ≡ Some p
      → xs ≡ map (λ j. get_or (fragments_of tree n) j False) (children_of p) → fragment_of (kind_of (record_at tree n)) p xs ≡ Some f
      → made_of (fragments_of tree n) (kind_of (record_at tree n)) (fragment_payload (record_at tree n)) ≡ f
  last_made n {p} {xs} {f} e t g =
      ap (made_of (fragments_of tree n) (kind_of (record_at tree n))) e
      ∙ ap or_false (subst (λ (xs : List Fragment). fragment_of (kind_of (record_at tree n)) p xs ≡ Some f) t g)

  last-fragment : (n : ℕ) {f : Fragment} → made_of (fragments_of tree n) (kind_of (record_at tree n)) (fragment_payload (record_at tree n)) ≡ f
      → fragment_at tree n ≡ f
  unfolding fragments_of fragment_at
  last-fragment n e = get_or_at (fragments_of tree n) _ [] False n (length-fragments n) ∙ e

  all-kept : (n : ℕ) (js : List ℕ) → ((k : ℕ) → k < length js → get_or js k 0 < n)
      → map (λ j. get_or (fragments_of tree n) j False) js ≡ map (fragment_at tree) js
  all-kept n [] h = refl
  all-kept n (j ∷ js) h =
      rw (fragments-kept n j (h 0 (omega arith)), all-kept n js (λ k l. h (suc k) (omega arith)))

  pub agrees : {n : ℕ} {slots : Slots Fragment} → Read tree n slots → Beside slots (fragments_of tree n)
  unfolding fragments_of
  agrees start = empty
  agrees (next {n} {slots} len p t f r l e k g) =
      let from = taken-from (children_of p) slots (fragments_of tree n) (agrees r) k in
      beside-more (Some f) _ from.left (sym (last_made n e from.those g))

  -- the last record read is a row
  pub last_row : (n : ℕ) (slots : Slots Fragment) (len : ℕ) (p : Payload) (t : Taken Fragment) (f : Fragment) → Read tree n slots
      → record_length (drop (start_of tree n) tree) ≡ Some len → fragment_payload (record_at tree n) ≡ Some p
      → take_all (children_of p) slots ≡ Some t → fragment_of (kind_of (record_at tree n)) p t.those ≡ Some f
      → (fragment_at tree n ≡ f) × TreeRecord tree n
  last_row n slots len p t f r l e k g =
      let from = taken-from (children_of p) slots (fragments_of tree n) (agrees r) k in
      let own = last-fragment n (last_made n e from.those g) in
      let before : (j : ℕ) → j < length (children_of p) → get_or (children_of p) j 0 < n =
      λ j h. rw (← length-fragments n) (from.before j h) in
      let those : t.those ≡ map (fragment_at tree) (children_of p) = from.those ∙ all-kept n (children_of p) before in (
        own,
        record {
          len = len;
          payload = p;
          whole = l;
          fits = e;
          before = before;
          makes = subst (λ (xs : List Fragment). fragment_of (kind_of (record_at tree n)) p xs ≡ Some (fragment_at tree n)) those (g ∙ ap Some (sym own));
        },
      )

  pub rows-read : {n : ℕ} {slots : Slots Fragment} → Read tree n slots → (i : ℕ) → i < n → TreeRecord tree i
  rows-read start i h = absurd (omega arith)
  rows-read (next {n} {slots} len p t f r l e k g) i h = by-test (ltb i n) refl (λ l. rows-read r i l)
    where
      by-test : (t : Bool) → ltb i n ≡ t → (i < n → TreeRecord tree i) → TreeRecord tree i
      by-test true e rec = rec (ltb-true i n e)
      by-test false b rec =
          let same : n ≡ i = omega (arith, ltb-false i n b) in
          subst (λ (i : ℕ). TreeRecord tree i) same (last_row n slots len p t f r l e k g).1

-- the root is the last record's fragment
pub root-last : (n : ℕ) (slots : Slots Fragment) (fs : List Fragment) {f : Fragment} → Beside slots fs → length fs ≡ n → root_of slots ≡ Some f
    → (0 < n) × (get_or fs (n - 1) False ≡ f)
unfolding root_of
root-last n [] (y ∷ fs) {f = f} x6 l e = elim x6 [ ]
root-last n (o ∷ []) [] {f = f} x7 l e = elim x7 [ ]
root-last n (None ∷ (o ∷ slots)) [] {f = f} x9 l e = elim x9 [ ]
root-last n (Some x ∷ (o ∷ slots)) [] {f = f} x11 l e = elim x11 [ ]
root-last n [] [] empty l e = absurd (let z : ◌≡◌ {A = ℕ} 0 1 = cc in omega arith)
root-last n (o ∷ []) (y ∷ []) {f} (pair p empty) l e =
    let z : n - 1 ≡ 0 = omega arith in
    (omega arith, rw z (sym (subst (λ (o : Option Fragment). Agrees o y) e p)))
root-last n (o ∷ []) (y ∷ z ∷ fs) (pair p ps) l e = absurd (omega (arith, beside-length ps))
root-last n (None ∷ o ∷ slots) (y ∷ []) (pair p ps) l e = absurd (omega (arith, beside-length ps))
root-last n (None ∷ o ∷ slots) (y ∷ z ∷ fs) {f} (pair p ps) l e =
    let rest = root-last (n - 1) (o ∷ slots) (z ∷ fs) ps (omega arith) e in
    let m : n - 1 ≡ suc (n - 1 - 1) = omega (arith, rest.0) in
    (omega arith, rw m rest.1)
root-last n (Some x ∷ o ∷ slots) (y ∷ fs) (pair p ps) l e = absurd (let z : ◌≡◌ {A = ℕ} 0 1 = cc in omega arith)
