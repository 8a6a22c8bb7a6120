-- Every record of a tree but the last is the child of one record, in one place. Assumes nothing.
use Prim.Native.Nat.{ℕ, zero, suc, ◌+◌, ◌-◌, ◌≤◌, ◌<◌}
use mathlib.Core.Bool.{Bool, true, false}
use mathlib.Core.List.{List, [], ◌∷◌, ◌++◌}
use Rattle.std.specs.Prelude.{Option, None, Some}
use mathlib.Core.Path.{◌≡◌, refl, sym, ap, subst, ◌∙◌}
use native.Mathlib.Omega.{arith}
use borrow.Author.Tests.{eqb-true, eqb-false, ltb-true, ltb-false}
use lib.Dec.{eqb, ltb}
use lib.ListN.{length, get_or, set, length-append, length-set, get_or-append}
use lib.Seq.{get_or_at, get_or-set_other}
use Rattle.records.specs.Payloads.{Payload, children_of}
use Rattle.records.specs.RecordForm.{fragment_payload}
use Rattle.trees.specs.Fragment.{Fragment}
use Rattle.trees.specs.Reading.{Slots, Taken, take_all, root_of}
use Rattle.walk.specs.TreeRecords.{record_at, TreeRecord, TreeRecords}
use Rattle.walk.proofs.ReadRecords.{Read, start, next, first_done, read_all, rows-read}
use Rattle.walk.proofs.Laws.{count-is}
use Rattle.index_places.specs.Places.{kids_with, kids_at}

-- ---- slots from which children are taken

abbrev Free : Slots Fragment → ℕ → Type 0
Free slots m = (x : Fragment) × (get_or slots m None ≡ Some x)

no_slot : (slots : Slots Fragment) (m : ℕ) {x : Fragment} → get_or slots m None ≡ Some x → get_or slots m None ≡ None → ⊥
no_slot slots m e f =
    let z : ◌≡◌ {A = ℕ} 0 1 = cc (e, f) in
    omega arith

emptied : (slots : Slots Fragment) (j : ℕ) → get_or (set slots j None) j None ≡ None
emptied [] zero = refl
emptied [] (suc j) = refl
emptied (x ∷ slots) zero = refl
emptied (x ∷ slots) (suc j) = emptied slots j

record TakenOut (js : List ℕ) (slots left : Slots Fragment) : Type 0 where
  gone : (k : ℕ) → k < length js → get_or left (get_or js k 0) None ≡ None
  stay : (m : ℕ) → get_or slots m None ≡ None → get_or left m None ≡ None
  were : (k : ℕ) → k < length js → Free slots (get_or js k 0)
  apart : (k l : ℕ) → k < l → l < length js → get_or js k 0 ≡ get_or js l 0 → ⊥
  those : (m : ℕ) → Free slots m → get_or left m None ≡ None → (k : ℕ) × (k < length js) × (get_or js k 0 ≡ m)
  long : length left ≡ length slots

taken_out : (js : List ℕ) (slots : Slots Fragment) {t : Taken Fragment} → take_all js slots ≡ Some t → TakenOut js slots t.left
unfolding take_all
taken_out [] slots {t} e =
    let is : t ≡ record { those = []; left = slots } = cc in
    let left : t.left ≡ slots = ap (λ (t : Taken Fragment). t.left) is in
    rw left (record {
      gone = λ k h. absurd (omega arith);
      stay = λ m h. h;
      were = λ k h. absurd (omega arith);
      apart = λ k l h i. absurd (omega arith);
      those = λ m f h. absurd (no_slot slots m f.1 h);
      long = refl;
    })
taken_out (j ∷ js) slots {t} e =
    let d = first_done (get_or slots j None) (take_all js (set slots j None)) e in
    rw d.5 (more d.0 d.2 (taken_out js (set slots j None) d.3))
  where
    more : {left : Slots Fragment} (x : Fragment) → get_or slots j None ≡ Some x → TakenOut js (set slots j None) left → TakenOut (j ∷ js) slots left
    more {left} x here rest =
        record { gone = gone; stay = stay; were = were; apart = apart; those = those; long = rest.long ∙ length-set slots j None }
      where
        other : (m : ℕ) → (m ≡ j → ⊥) → get_or (set slots j None) m None ≡ get_or slots m None
        other m h = get_or-set_other slots j m None None h

        gone : (k : ℕ) → k < length (j ∷ js) → get_or left (get_or (j ∷ js) k 0) None ≡ None
        gone zero h = rest.stay j (emptied slots j)
        gone (suc k) h = rest.gone k (omega arith)

        stay : (m : ℕ) → get_or slots m None ≡ None → get_or left m None ≡ None
        stay m h =
            let not-here : m ≡ j → ⊥ = λ s. no_slot slots j here (subst (λ (m : ℕ). get_or slots m None ≡ None) s h) in
            rest.stay m (other m not-here ∙ h)

        not_first : (k : ℕ) → k < length js → get_or js k 0 ≡ j → ⊥
        not_first k h s =
            let free = rest.were k h in
            no_slot (set slots j None) j (subst (λ (m : ℕ). get_or (set slots j None) m None ≡ Some free.0) s free.1) (emptied slots j)

        were : (k : ℕ) → k < length (j ∷ js) → Free slots (get_or (j ∷ js) k 0)
        were zero h = (x, here)
        were (suc k) h =
            let free = rest.were k (omega arith) in
            (free.0, sym (other (get_or js k 0) (not_first k (omega arith))) ∙ free.1)

        apart : (k l : ℕ) → k < l → l < length (j ∷ js) → get_or (j ∷ js) k 0 ≡ get_or (j ∷ js) l 0 → ⊥
        apart zero zero h i s = absurd (omega arith)
        apart zero (suc l) h i s = not_first l (omega arith) (sym s)
        apart (suc k) zero h i s = absurd (omega arith)
        apart (suc k) (suc l) h i s = rest.apart k l (omega arith) (omega arith) s

        those : (m : ℕ) → Free slots m → get_or left m None ≡ None → (k : ℕ) × (k < length (j ∷ js)) × (get_or (j ∷ js) k 0 ≡ m)
        those m free h = by_place (eqb m j) refl
          where
            by_place : (b : Bool) → eqb m j ≡ b → (k : ℕ) × (k < length (j ∷ js)) × (get_or (j ∷ js) k 0 ≡ m)
            by_place true b = (0, omega arith, sym (eqb-true m j b))
            by_place false b =
                let found = rest.those m (free.0, other m (eqb-false m j b) ∙ free.1) h in
                (suc found.0, omega (arith, found.1), found.2)

-- ---- the records read

module _ (tree : List ℕ) where
  kids-are : (i : ℕ) {p : Payload} → fragment_payload (record_at tree i) ≡ Some p → kids_at tree i ≡ children_of p
  unfolding kids_at
  kids-are i e = ap kids_with e

  pub kids-row : {i : ℕ} (row : TreeRecord tree i) → kids_at tree i ≡ children_of row.payload
  kids-row {i} row = kids-are i row.fits

  pub kids-before : {i : ℕ} → TreeRecord tree i → (k : ℕ) → k < length (kids_at tree i) → get_or (kids_at tree i) k 0 < i
  kids-before {i} row k h =
      let same = kids-row row in
      rw same (row.before k (omega (arith, ap length same)))

  slots-long : {n : ℕ} {slots : Slots Fragment} → Read tree n slots → length slots ≡ n
  slots-long start = refl
  slots-long (next {n} {slots} len p t f r l e k g) =
      length-append t.left (Some f ∷ []) ∙ omega (arith, (taken_out (children_of p) slots k).long, slots-long r)

  -- the slot below the newest, and the newest
  older : (left : Slots Fragment) (f : Fragment) {n m : ℕ} → length left ≡ n → m < n → get_or (left ++ (Some f ∷ [])) m None ≡ get_or left m None
  older left f {n} {m} e h = get_or-append left (Some f ∷ []) None m (omega (arith, e))

  module _ {n : ℕ} {slots : Slots Fragment} (p : Payload) (t : Taken Fragment) (r : Read tree n slots)
      (e : fragment_payload (record_at tree n) ≡ Some p) (k : take_all (children_of p) slots ≡ Some t) where
    out : TakenOut (kids_at tree n) slots t.left
    out = rw (kids-are n e) (taken_out (children_of p) slots k)

    left-long : length t.left ≡ n
    left-long = out.long ∙ slots-long r

  -- what was taken is gone
  gone_at : {n : ℕ} {slots : Slots Fragment} → Read tree n slots → (i k : ℕ) → i < n → k < length (kids_at tree i)
      → get_or slots (get_or (kids_at tree i) k 0) None ≡ None
  gone_at start i k h l = absurd (omega arith)
  gone_at (next {n} {slots} len p t f r w e s g) i k h l =
      let small = kids-before (rows-read tree (next {n = n} {slots = slots} len p t f r w e s g) i h) k l in
      older t.left f (left-long p t r e s) (omega arith) ∙ by-test (ltb i n) refl (λ b. gone_at r i k b l)
    where
      by-test : (b : Bool) → ltb i n ≡ b → (i < n → get_or slots (get_or (kids_at tree i) k 0) None ≡ None)
          → get_or t.left (get_or (kids_at tree i) k 0) None ≡ None
      by-test true b rec = (out p t r e s).stay (get_or (kids_at tree i) k 0) (rec (ltb-true i n b))
      by-test false b rec =
          let same : i ≡ n = omega (arith, ltb-false i n b) in
          subst (λ (m : ℕ). get_or t.left (get_or (kids_at tree m) k 0) None ≡ None) (sym same)
          ((out p t r e s).gone k (subst (λ (m : ℕ). k < length (kids_at tree m)) same l))

  -- a later record has no child that an earlier one has, and no record has one twice
  never-again : {n : ℕ} {slots : Slots Fragment} → Read tree n slots → (p q k l : ℕ) → p < q → q < n → k < length (kids_at tree p)
      → l < length (kids_at tree q) → get_or (kids_at tree p) k 0 ≡ get_or (kids_at tree q) l 0 → ⊥
  never-again start p q k l h i a b same = omega arith
  never-again (next {n} {slots} len pay t f r w e s g) p q k l h i a b same = by-test (ltb q n) refl (λ d. never-again r p q k l h d a b same)
    where
      by-test : (d : Bool) → ltb q n ≡ d → (q < n → ⊥) → ⊥
      by-test true d rec = rec (ltb-true q n d)
      by-test false d rec =
          let last : q ≡ n = omega (arith, ltb-false q n d) in
          let free = (out pay t r e s).were l (subst (λ (m : ℕ). l < length (kids_at tree m)) last b) in
          let m = get_or (kids_at tree n) l 0 in
          let its : get_or (kids_at tree p) k 0 ≡ m = same ∙ ap (λ (q : ℕ). get_or (kids_at tree q) l 0) last in
          no_slot slots m free.1 (subst (λ (m : ℕ). get_or slots m None ≡ None) its (gone_at r p k (omega arith) a))

  never-twice : {n : ℕ} {slots : Slots Fragment} → Read tree n slots → (p k l : ℕ) → p < n → k < l → l < length (kids_at tree p)
      → get_or (kids_at tree p) k 0 ≡ get_or (kids_at tree p) l 0 → ⊥
  never-twice start p k l h i b same = omega arith
  never-twice (next {n} {slots} len pay t f r w e s g) p k l h i b same = by-test (ltb p n) refl (λ d. never-twice r p k l d i b same)
    where
      by-test : (d : Bool) → ltb p n ≡ d → (p < n → ⊥) → ⊥
      by-test true d rec = rec (ltb-true p n d)
      by-test false d rec =
          let last : p ≡ n = omega (arith, ltb-false p n d) in
          (out pay t r e s).apart k l i (subst (λ (m : ℕ). l < length (kids_at tree m)) last b)
          (subst (λ (m : ℕ). get_or (kids_at tree m) k 0 ≡ get_or (kids_at tree m) l 0) last same)

  -- what is gone was taken
  record Parent (n i : ℕ) : Type 0 where
    it : ℕ
    place : ℕ
    inside : it < n
    has : place < length (kids_at tree it)
    this : get_or (kids_at tree it) place 0 ≡ i

  taken-by : {n : ℕ} {slots : Slots Fragment} → Read tree n slots → (i : ℕ) → i < n → get_or slots i None ≡ None → Parent n i
  taken-by start i h z = absurd (omega arith)
  taken-by (next {n} {slots} len p t f r w e s g) i h z = by-test (ltb i n) refl (λ l o. taken-by r i l o)
    where
      later : Parent n i → Parent (suc n) i
      later q = record { it = q.it; place = q.place; inside = omega (arith, q.inside); has = q.has; this = q.this }

      by-slot : (o : Option Fragment) → get_or slots i None ≡ o → get_or t.left i None ≡ None → (get_or slots i None ≡ None → Parent n i)
          → Parent (suc n) i
      by-slot None o z rec = later (rec o)
      by-slot (Some x) o z rec =
          let found = (out p t r e s).those i (x, o) z in
          record { it = n; place = found.0; inside = omega arith; has = found.1; this = found.2 }

      by-test : (b : Bool) → ltb i n ≡ b → (i < n → get_or slots i None ≡ None → Parent n i) → Parent (suc n) i
      by-test true b rec =
          let l = ltb-true i n b in
          by-slot (get_or slots i None) refl (sym (older t.left f (left-long p t r e s) l) ∙ z) (rec l)
      by-test false b rec =
          let last : i ≡ n = omega (arith, ltb-false i n b) in
          let mine : get_or (t.left ++ (Some f ∷ [])) i None ≡ Some f =
          rw last (get_or_at t.left (Some f) [] None n (left-long p t r e s)) in
          absurd (no_slot (t.left ++ (Some f ∷ [])) i mine z)

-- at the end the last slot alone is free
only-root : (slots : Slots Fragment) {f : Fragment} → root_of slots ≡ Some f → (i : ℕ) → suc i < length slots → get_or slots i None ≡ None
unfolding root_of
only-root [] e i h = absurd (omega arith)
only-root (x ∷ []) e i h = absurd (omega arith)
only-root (None ∷ x ∷ slots) e zero h = refl
only-root (None ∷ x ∷ slots) e (suc i) h = only-root (x ∷ slots) e i (omega arith)
only-root (Some y ∷ x ∷ slots) e i h = absurd (let z : ◌≡◌ {A = ℕ} 0 1 = cc in omega arith)

-- ---- the tree's records

module _ {tree : List ℕ} {f : Fragment} (r : TreeRecords tree f) where
  pub one_parent : (p q k l : ℕ) → p < r.count → q < r.count → k < length (kids_at tree p) → l < length (kids_at tree q)
      → get_or (kids_at tree p) k 0 ≡ get_or (kids_at tree q) l 0 → (p ≡ q) × (k ≡ l)
  one_parent p q k l h i a b same =
      let all = read_all tree f r.writes in
      let n : r.count ≡ all.count = count-is r all.count all.ends (rows-read tree all.reads) in
      by-parent all.reads n (ltb p q) (ltb q p) refl refl
    where
      by_place : {n : ℕ} {slots : Slots Fragment} → Read tree n slots → r.count ≡ n → p ≡ q → (d e : Bool) → ltb k l ≡ d → ltb l k ≡ e → k ≡ l
      by_place read n it true e u v =
          absurd (never-twice tree read q k l (omega arith) (ltb-true k l u) b (subst (λ (p : ℕ). get_or (kids_at tree p) k 0 ≡ get_or (kids_at tree q) l 0) it same))
      by_place read n it false true u v =
          absurd (never-twice tree read q l k (omega arith) (ltb-true l k v) (subst (λ (p : ℕ). k < length (kids_at tree p)) it a)
          (subst (λ (p : ℕ). get_or (kids_at tree q) l 0 ≡ get_or (kids_at tree p) k 0) it (sym same)))
      by_place read n it false false u v = omega (arith, ltb-false k l u, ltb-false l k v)

      by-parent : {n : ℕ} {slots : Slots Fragment} → Read tree n slots → r.count ≡ n → (d e : Bool) → ltb p q ≡ d → ltb q p ≡ e → (p ≡ q) × (k ≡ l)
      by-parent read n true e d' e' = absurd (never-again tree read p q k l (ltb-true p q d') (omega arith) a b same)
      by-parent read n false true d' e' = absurd (never-again tree read q p l k (ltb-true q p e') (omega arith) b a (sym same))
      by-parent read n false false d' e' =
          let it : p ≡ q = omega (arith, ltb-false p q d', ltb-false q p e') in
          (it, by_place read n it (ltb k l) (ltb l k) refl refl)

  pub has-parent : (i : ℕ) → suc i < r.count → (p k : ℕ) × (p < r.count) × (k < length (kids_at tree p)) × (get_or (kids_at tree p) k 0 ≡ i)
  has-parent i h =
      let all = read_all tree f r.writes in
      let n : r.count ≡ all.count = count-is r all.count all.ends (rows-read tree all.reads) in
      let gone = only-root all.slots all.root i (omega (arith, n, slots-long tree all.reads)) in
      let parent = taken-by tree all.reads i (omega (arith, n)) gone in
      (parent.it, parent.place, omega (arith, n, parent.inside), parent.has, parent.this)
