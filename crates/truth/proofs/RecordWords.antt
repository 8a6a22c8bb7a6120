-- The word of a record, and the words of a tree's records in work memory. Assumes nothing.
use Prim.Native.Nat.{ℕ, zero, suc, ◌+◌, ◌-◌, ◌≤◌, ◌<◌}
use mathlib.Core.Bool.{Bool, true, false, cond}
use mathlib.Core.List.{List, [], ◌∷◌, map}
use Rattle.std.specs.Prelude.{Option, Some}
use mathlib.Core.Path.{◌≡◌, refl, sym, ap, subst, ◌∙◌}
use native.Mathlib.Omega.{arith}
use borrow.Author.Tests.{eqb-true, eqb-false}
use lib.Dec.{eqb, leb}
use lib.ListN.{length, get_or, set, take, drop, length-set}
use lib.Seq.{get_or-take, get_or-set_same, get_or-set_other}
use Rattle.records.specs.declared.Parts.{Parts}
use Rattle.records.specs.Payloads.{Payload, k_of, children_of}
use Rattle.records.specs.RecordForm.{kind_of, fragment_payload}
use Rattle.records.specs.Answers.{parts_of}
use Rattle.records.specs.Shapes.{arity}
use Rattle.records.proofs.Arities as arities
use Rattle.records.proofs.Arities.{own-children, few-children, same-children}
use Rattle.contexts.specs.Lists.{one}
use Rattle.trees.specs.Fragment.{Fragment}
use Rattle.walk.specs.TreeRecords.{length_from, record_at, fragment_at, TreeRecord, TreeRecords, Told}
use Rattle.walk.specs.Heads.{head_with, head_in}
use Rattle.walk.proofs.FoldLaws.{value-at}
use Rattle.walk.proofs.KindLaws.{threshold-bounds}
use Rattle.meaning.specs.Meaning.{count_true, tree_means}
use Rattle.variables.specs.declared.Var.{Var}
use Rattle.variables.specs.declared.Own.{Own}
use Rattle.variables.specs.Gathering as gathering
use Rattle.variables.specs.Gathering.{codes_in, OwnIs}
use Rattle.variables.proofs.Walking.{On, begins, some_left, all-walked, its-row, its-bytes, its-payload, next}
use Rattle.truth.specs.Words.{bit_at, assigned, Planes}
use Rattle.truth.specs.Gates.{tree_gate, again, places_true, bits_at, own_bits, k_here, children_here, Stands, RecordWord}
use Rattle.truth.proofs.GateLaws.{step, tree-gates, tree-gate-low}

-- ---- one record

pub as_fits : {bytes work : List ℕ} → Stands bytes work → gathering.Fits bytes
as_fits s = record { payload = s.payload; fits = s.fits }

module _ {bytes work : List ℕ} (stands : Stands bytes work) {parts : Parts} {kind n : ℕ} (p : parts ≡ parts_of (fragment_payload bytes))
    (k : kind ≡ kind_of bytes) (a : n ≡ arity kind parts.count) where
  abbrev its-record : arities.Found bytes parts kind n
  its-record = record { payload = stands.payload; fits = stands.fits; parts_are = p ∙ ap parts_of stands.fits; kind-is = k; n-is = a }

  pub few-here : n ≤ 16
  few-here = few-children its-record

  number-of : (i : ℕ) → i < n → get_or parts.children i 0 ≡ get_or (children_of stands.payload) i 0
  number-of i h = sym (get_or-take n parts.children i 0 h) ∙ ap (λ (l : List ℕ). get_or l i 0) (same-children its-record)

  pub inside-here : (i : ℕ) → i < n → get_or parts.children i 0 < length work
  inside-here i h = rw (number-of i h) (stands.inside i (omega (arith, own-children its-record)))

  three : kind ≡ 55 → 2 < n
  three e =
      let m : n ≡ 3 = a ∙ rw e in
      omega arith

  pub third-inside : kind ≡ 55 → get_or parts.children 2 0 < length work
  third-inside e = inside-here 2 (three e)

  same-k : parts.k ≡ k_here (fragment_payload bytes)
  same-k = ap (λ (x : Parts). x.k) its-record.parts_are ∙ sym (ap k_here stands.fits)

  pub gate-inside : {g : ℕ} → g ≡ tree_gate kind parts.k → g < 17
  gate-inside e =
      rw e (tree-gate-low kind parts.k
      (λ h. let b = stands.bounds (omega (arith, k, h)) in
      let m : parts.k ≡ k_of stands.payload = ap (λ (x : Parts). x.k) its-record.parts_are in
      omega (arith, m, b.1, b.2)))

  mapped : (f : ℕ → Bool) (cs : List ℕ) (i : ℕ) → i < length cs → get_or (map f cs) i false ≡ f (get_or cs i 0)
  mapped f [] i h = absurd (omega arith)
  mapped f (c ∷ cs) zero h = refl
  mapped f (c ∷ cs) (suc i) h = mapped f cs i (omega arith)

  module _ {own : Own} (is : OwnIs bytes own) {row : List Var} {words : List ℕ} {planes : List ℕ}
      (counted : Planes planes (λ j. cond (eqb kind 55) (one (bit_at (get_or work (get_or parts.children 2 0) 0) j)) 0
      + (count_true (bits_at work j (take n parts.children)) + (count_true (own_bits row words j (take own.n own.list)) + 0))))
      {g : ℕ} (e : g ≡ tree_gate kind parts.k) where
    pub word-is : RecordWord bytes work row words (get_or planes g 0)
    word-is = record { each = each }
      where
        js : List ℕ
        js = children_here (fragment_payload bytes)

        js-are : children_here (fragment_payload bytes) ≡ children_of stands.payload
        js-are = ap children_here stands.fits

        third : (j : ℕ) → cond (eqb kind 55) (one (bit_at (get_or work (get_or parts.children 2 0) 0) j)) 0 ≡ again kind (bits_at work j (children_of stands.payload))
        third j = by_kind (eqb kind 55) refl
          where
            by_kind : (b : Bool) → eqb kind 55 ≡ b → cond b (one (bit_at (get_or work (get_or parts.children 2 0) 0) j)) 0
                ≡ cond b (one (get_or (bits_at work j (children_of stands.payload)) 2 false)) 0
            by_kind true t =
                let is-55 = eqb-true kind 55 t in
                ap one (ap (λ (m : ℕ). bit_at (get_or work m 0) j) (number-of 2 (three is-55))
                ∙ sym (mapped (λ i. bit_at (get_or work i 0) j) (children_of stands.payload) 2 (omega (arith, three is-55, own-children its-record))))
            by_kind false t = refl

        each : (j : ℕ) → j < 64 → bit_at (get_or planes g 0) j
            ≡ leb (tree_gate (kind_of bytes) (k_here (fragment_payload bytes)))
            (places_true (kind_of bytes) (own_bits row words j (codes_in (head_in bytes))) (bits_at work j (children_here (fragment_payload bytes))))
        each j h =
            let o = count_true (own_bits row words j (take own.n own.list)) in
            let z : o + 0 ≡ o = omega arith in
            counted.each g j (gate-inside e) h
            ∙ ap (λ (m : ℕ). leb m (cond (eqb kind 55) (one (bit_at (get_or work (get_or parts.children 2 0) 0) j)) 0
            + (count_true (bits_at work j (take n parts.children)) + (o + 0)))) e
            ∙ ap (λ (m : ℕ). leb (tree_gate kind parts.k) (cond (eqb kind 55) (one (bit_at (get_or work (get_or parts.children 2 0) 0) j)) 0
            + (count_true (bits_at work j (take n parts.children)) + m))) z
            ∙ ap (λ (m : ℕ). leb (tree_gate kind parts.k) (m + (count_true (bits_at work j (take n parts.children)) + o))) (third j)
            ∙ ap (λ (l : List ℕ). leb (tree_gate kind parts.k) (again kind (bits_at work j (children_of stands.payload)) + (count_true (bits_at work j l) + o)))
            (same-children its-record)
            ∙ ap (λ (l : List Var). leb (tree_gate kind parts.k) (places_true kind (own_bits row words j l) (bits_at work j (children_of stands.payload)))) is.are
            ∙ ap (λ (m : ℕ). leb (tree_gate kind m) (places_true kind (own_bits row words j (codes_in (head_in bytes))) (bits_at work j (children_of stands.payload)))) same-k
            ∙ ap (λ (m : ℕ). leb (tree_gate m (k_here (fragment_payload bytes)))
            (places_true m (own_bits row words j (codes_in (head_in bytes))) (bits_at work j (children_of stands.payload)))) k
            ∙ ap (λ (l : List ℕ). leb (tree_gate (kind_of bytes) (k_here (fragment_payload bytes)))
            (places_true (kind_of bytes) (own_bits row words j (codes_in (head_in bytes))) (bits_at work j l))) (sym js-are)

-- ---- a record of a tree

same_map : (g h : ℕ → Bool) (js : List ℕ) → ((k : ℕ) → k < length js → g (get_or js k 0) ≡ h (get_or js k 0)) → map g js ≡ map h js
same_map g h [] e = refl
same_map g h (j ∷ js) e = rw (e 0 (omega arith), same_map g h js (λ k l. e (suc k) (omega arith)))

record-means : {tree : List ℕ} {i : ℕ} (row : TreeRecord tree i) (work : List ℕ) (r : List Var) (words : List ℕ) (j : ℕ)
    → ((s : ℕ) → s < i → bit_at (get_or work s 0) j ≡ tree_means (assigned r words j) (fragment_at tree s)) → (w : ℕ)
    → bit_at w j
    ≡ leb (tree_gate (kind_of (record_at tree i)) (k_here (fragment_payload (record_at tree i))))
    (places_true (kind_of (record_at tree i)) (own_bits r words j (codes_in (head_in (record_at tree i)))) (bits_at work j (children_here (fragment_payload (record_at tree i)))))
    → bit_at w j ≡ tree_means (assigned r words j) (fragment_at tree i)
record-means {tree} {i} row work r words j known w e =
    let p = row.payload in
    let bytes = record_at tree i in
    let kind = kind_of bytes in
    let value : ℕ → Bool = λ s. tree_means (assigned r words j) (fragment_at tree s) in
    let same : bits_at work j (children_of p) ≡ map value (children_of p) =
    same_map (λ s. bit_at (get_or work s 0) j) value (children_of p) (λ k l. known (get_or (children_of p) k 0) (row.before k l)) in
    e
    ∙ ap (λ (o : Option Payload). leb (tree_gate kind (k_here o)) (places_true kind (own_bits r words j (codes_in (head_with kind o))) (bits_at work j (children_here o)))) row.fits
    ∙ ap (λ (xs : List Bool). leb (tree_gate kind (k_of p)) (places_true kind (own_bits r words j (codes_in (head_with kind (Some p)))) xs)) same
    ∙ sym (ap (λ (o : Option Payload). step r words j (head_with kind o) (map value (children_of p))) row.fits)
    ∙ sym (value-at (tree_means (assigned r words j)) (step r words j) (tree-gates r words j) row)

-- ---- the records so far

pub record WordsOn (tree work : List ℕ) (row : List Var) (words : List ℕ) (at i : ℕ) : Type 0 where
  pub on : On tree at i
  pub room : length work ≡ 65536
  pub each : (s j : ℕ) → s < i → j < 64 → bit_at (get_or work s 0) j ≡ tree_means (assigned row words j) (fragment_at tree s)

pub words-begin : (tree work : List ℕ) (row : List Var) (words : List ℕ) → length work ≡ 65536 → WordsOn tree work row words 0 0
words-begin tree work row words room = record { on = begins tree; room = room; each = λ s j h. absurd (omega arith) }

told : {tree : List ℕ} {i : ℕ} (row : TreeRecord tree i) → Told tree i (record_at tree i) (kind_of (record_at tree i)) (parts_of (Some row.payload))
told row = record { row = row; bytes-are = refl; kind-is = refl; parts_are = refl }

module _ {tree work : List ℕ} {row : List Var} {words : List ℕ} {at i : ℕ} (sofar : WordsOn tree work row words at i) {f : Fragment} (r : TreeRecords tree f) where
  pub words_left : at < length tree → i < 4096
  words_left h = omega (arith, some_left sofar.on r h, r.few)

  module _ (h : at < length tree) {end : ℕ} (e : end ≡ at + length_from tree at) where
    pub words-stand : Stands (take (end - at) (drop at tree)) work
    words-stand =
        let its = its-row sofar.on r h e in
        let same = its-bytes sofar.on r h e in
        record {
          payload = its.payload;
          fits = its-payload sofar.on r h e;
          inside = λ j l. omega (arith, its.before j l, words_left h, sofar.room);
          bounds = λ l. threshold-bounds (told its) (subst (λ (b : List ℕ). 56 ≤ kind_of b) same l);
        }

    pub words_more : {w : ℕ} → RecordWord (take (end - at) (drop at tree)) work row words w → WordsOn tree (set work i w) row words end (i + 1)
    words_more {w} is =
        record {
          on = next sofar.on r h e;
          room = length-set work i w ∙ sofar.room;
          each = λ s j l m. by_number s j (eqb s i) refl l m;
        }
      where
        by_number : (s j : ℕ) (b : Bool) → eqb s i ≡ b → s < i + 1 → j < 64 → bit_at (get_or (set work i w) s 0) j ≡ tree_means (assigned row words j) (fragment_at tree s)
        by_number s j true b l m =
            let same = eqb-true s i b in
            let own : get_or (set work i w) i 0 ≡ w = get_or-set_same work i w 0 (omega (arith, words_left h, sofar.room)) in
            let means = record-means (its-row sofar.on r h e) work row words j (λ s l. sofar.each s j l m) w
            (subst (λ (b : List ℕ). bit_at w j
            ≡ leb (tree_gate (kind_of b) (k_here (fragment_payload b))) (places_true (kind_of b) (own_bits row words j (codes_in (head_in b))) (bits_at work j (children_here (fragment_payload b)))))
            (its-bytes sofar.on r h e) (is.each j m)) in
            rw (same, own) means
        by_number s j false b l m =
            let kept : get_or (set work i w) s 0 ≡ get_or work s 0 = get_or-set_other work i s w 0 (eqb-false s i b) in
            rw kept (sofar.each s j (omega (arith, eqb-false s i b)) m)

pub words-any : {tree work : List ℕ} {row : List Var} {words : List ℕ} {at i : ℕ} → WordsOn tree work row words at i → {f : Fragment} → TreeRecords tree f
    → length tree ≤ at → (1 ≤ i) × (i - 1 < length work)
words-any sofar r h =
    let same = all-walked sofar.on r h in
    (omega (arith, r.any), omega (arith, r.few, sofar.room))

pub words-done : {tree work : List ℕ} {row : List Var} {words : List ℕ} {at i : ℕ} → WordsOn tree work row words at i → length tree ≤ at
    → (f : Fragment) → TreeRecords tree f → (j : ℕ) → j < 64 → bit_at (get_or work (i - 1) 0) j ≡ tree_means (assigned row words j) f
words-done {tree} {work} {row} {words} {at} {i} sofar h f r j l =
    let same = all-walked sofar.on r h in
    let root : fragment_at tree (i - 1) ≡ f = ap (λ (n : ℕ). fragment_at tree (n - 1)) same ∙ r.root in
    sofar.each (i - 1) j (omega (arith, r.any)) l ∙ ap (tree_means (assigned row words j)) root
