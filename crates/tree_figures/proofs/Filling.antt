-- Work memory is filled with figures record by record, children first, as long as each is locally valid. Assumes nothing.
use Prim.Native.Nat.{ℕ, ◌+◌, ◌*◌, ◌-◌, ◌≤◌, ◌<◌}
use mathlib.Core.Bool.{Bool, true, false}
use mathlib.Core.List.{List, map, ◌++◌}
use Rattle.std.specs.Prelude.{Option, None, Some}
use mathlib.Core.Path.{◌≡◌, refl, sym, ap, subst, ◌∙◌}
use native.Mathlib.Omega.{arith}
use borrow.Author.Tests.{eqb-true, eqb-false, ltb-true, ltb-false}
use lib.Dec.{eqb, ltb}
use lib.ListN.{length, get_or, take, drop}
use lib.Seq.{get_or-take, drop-drop}
use Rattle.records.specs.declared.Parts.{Parts}
use Rattle.records.specs.Payloads.{Payload, number_of, k_of, count_of, children_of}
use Rattle.records.specs.RecordForm.{kind_of, fragment_payload}
use Rattle.records.specs.Answers.{parts_of}
use Rattle.records.specs.Shapes.{arity}
use Rattle.records.proofs.KindRanges.{shapes-in}
use Rattle.records.proofs.Laws.{of-fragment, fragment-record, is-lock, lock-bounds}
use Rattle.records.proofs.Arities.{Found, own-children, few-children, rule-needs, same-children}
use Rattle.contexts.specs.declared.Context.{Context}
use Rattle.figures.specs.declared.ExtData.{ExtData}
use Rattle.figures.specs.Bounds.{Entered, Candidate, Small}
use Rattle.figures.specs.Validity.{check_local_validity}
use Rattle.figures.proofs.Entering.{candidate-small, valid-entered, entered-higher}
use Rattle.trees.specs.Fragment.{Fragment}
use Rattle.walk.specs.TreeRecords.{length_from, record_at, fragment_at, TreeRecord, TreeRecords, Told}
use Rattle.walk.specs.Heads.{Head, head_of, head_with}
use Rattle.walk.proofs.HeadLaws.{head_at}
use Rattle.walk.proofs.KindLaws.{threshold-bounds}
use Rattle.variables.proofs.Walking.{On, begins, some_left, all-walked, its-row, its-bytes, its-payload, next}
use Rattle.definition_laws.specs.Laws.{figures_of}
use Rattle.figure_rules.specs.ByKind.{child, figures_by, Ready}
use Rattle.figure_rules.proofs.Making.{blank-entered, makes}
use Rattle.tree_figures.specs.LocallyValid.{valid, all_valid}
use Rattle.tree_figures.specs.Memory.{figure_words, figures_at, put_figures, Loaded, figures_here, Stands}
use Rattle.tree_figures.proofs.Words.{put-long, put_same, put-before}
use Rattle.tree_figures.proofs.Loading.{loaded-child, loaded-all}
use Rattle.tree_figures.proofs.Steps.{same-figures, record-figures}
use Rattle.tree_figures.proofs.Everywhere.{all-records, somewhere-not}

-- ---- one record's bytes

module _ {bytes work : List ℕ} {i : ℕ} (stands : Stands bytes work i) {parts : Parts} {kind n : ℕ} (p : parts ≡ parts_of (fragment_payload bytes))
    (k : kind ≡ kind_of bytes) (a : n ≡ arity kind parts.count) where
  abbrev its-record : Found bytes parts kind n
  its-record = record { payload = stands.payload; fits = stands.fits; parts_are = p ∙ ap parts_of stands.fits; kind-is = k; n-is = a }

  pub few-loaded : n ≤ 16
  few-loaded = few-children its-record

  pub few-counted : parts.count ≤ 16
  few-counted = (rule-needs its-record).2

  number-of : (j : ℕ) → j < n → get_or parts.children j 0 ≡ get_or (children_of stands.payload) j 0
  number-of j h = sym (get_or-take n parts.children j 0 h) ∙ ap (λ (l : List ℕ). get_or l j 0) (same-children its-record)

  before : (j : ℕ) → j < n → get_or parts.children j 0 < i
  before j h = rw (number-of j h) (stands.before j (omega (arith, own-children its-record)))

  pub inside : (j : ℕ) → j < n → get_or parts.children j 0 < 4096
  inside j h = omega (arith, before j h, stands.few)

  same-k : parts.k ≡ k_of stands.payload
  same-k = ap (λ (x : Parts). x.k) its-record.parts_are

  same-n : parts.count ≡ count_of stands.payload
  same-n = ap (λ (x : Parts). x.count) its-record.parts_are

  same_number : parts.number ≡ number_of stands.payload
  same_number = ap (λ (x : Parts). x.number) its-record.parts_are

  small-lock : 36 ≤ kind_of bytes → kind_of bytes ≤ 37 → number_of stands.payload < 4294967296
  small-lock l h =
      let is = of-fragment bytes (fragment-record bytes stands.fits).0 (shapes-in 36 37 refl (kind_of bytes) l h) in
      let its = is-lock bytes (sym is ∙ stands.fits) in
      rw its (omega (arith, (lock-bounds bytes (sym is ∙ stands.fits ∙ ap Some its)).1))

  module _ {out : List ExtData} (l : Loaded work parts.children n out) where
    pub ready : Ready i kind parts.number parts.k parts.count out
    ready =
        record {
          low = omega (arith, stands.few);
          entered = λ j h. by_place j (ltb j n) refl;
          lock = λ l h. rw same_number (small-lock (omega (arith, k)) (omega (arith, k)));
          bounds = λ h. let b = stands.bounds (omega (arith, k, h)) in
              (omega (arith, same-k, b.0), omega (arith, same-k, same-n, b.1), omega (arith, same-n, b.2));
        }
      where
        by_place : (j : ℕ) (t : Bool) → ltb j n ≡ t → Entered i (child out j)
        by_place j true t =
            let h = ltb-true j n t in
            rw (l.each j h) (stands.entered (get_or parts.children j 0) (before j h))
        by_place j false t = rw (l.past j (ltb-false j n t)) (blank-entered i)

    module _ (c : Context) {r : ExtData} (e : r ≡ figures_by c kind parts.number parts.k parts.count out) where
      pub figures-are : r ≡ figures_here c bytes work
      figures-are =
          let q = stands.payload in
          let js = children_of q in
          let xs = map (figures_at work) js in
          let thresh : kind ≡ 56 → take parts.count out ≡ take parts.count xs =
          λ t. let same : n ≡ parts.count = a ∙ rw t in
          subst (λ (m : ℕ). take m out ≡ take m xs) same (loaded-all l js (same-children its-record) (own-children its-record) few-loaded) in
          e
          ∙ same-figures c kind parts.number parts.k parts.count out xs
          (loaded-child l js (same-children its-record) (own-children its-record) few-loaded) thresh
          ∙ rw (same_number, same-k, same-n, k, stands.fits)

      pub figures-make : Candidate (i + 1) r
      figures-make = subst (Candidate (i + 1)) (sym e) (makes ready l.long c)

pub make-small : {bytes work : List ℕ} {i : ℕ} → Stands bytes work i → {x : ExtData} → Candidate (i + 1) x → Small x
make-small stands m = candidate-small m (omega (arith, stands.few))

pub rooms : {bytes work : List ℕ} {i : ℕ} → Stands bytes work i → 16 * i + 16 ≤ length work
rooms stands = omega (arith, stands.few, stands.room)

-- ---- the records so far

pub record FiguresOn (c : Context) (tree work : List ℕ) (at i : ℕ) : Type 0 where
  pub on : On tree at i
  pub room : length work ≡ 65536
  pub each : (j : ℕ) → j < i → figures_at work j ≡ figures_of c (fragment_at tree j)
  pub entered : (j : ℕ) → j < i → Entered i (figures_of c (fragment_at tree j))
  pub so_far : (j : ℕ) → j < i → valid c (fragment_at tree j) ≡ true

pub figures-begin : (c : Context) (tree work : List ℕ) → length work ≡ 65536 → FiguresOn c tree work 0 0
figures-begin c tree work room =
    record {
      on = begins tree;
      room = room;
      each = λ j h. absurd (omega arith);
      entered = λ j h. absurd (omega arith);
      so_far = λ j h. absurd (omega arith);
    }

told : {tree : List ℕ} {i : ℕ} (row : TreeRecord tree i) → Told tree i (record_at tree i) (kind_of (record_at tree i)) (parts_of (Some row.payload))
told row = record { row = row; bytes-are = refl; kind-is = refl; parts_are = refl }

head-kind : (kind : ℕ) (o : Option Payload) → (head_with kind o).kind ≡ kind
head-kind kind (Some p) = refl
head-kind kind None = refl

module _ {c : Context} {tree work : List ℕ} {at i : ℕ} (sofar : FiguresOn c tree work at i) {f : Fragment} (r : TreeRecords tree f) where
  pub figures-left : at < length tree → i < 4096
  figures-left h = omega (arith, some_left sofar.on r h, r.few)

  pub figures-kept : at < length tree → (x : ExtData) {after : List ℕ} → after ≡ put_figures work i x → length after ≡ length work
  figures-kept h x e = ap length e ∙ put-long work i x (omega (arith, figures-left h, sofar.room))

  module _ (h : at < length tree) {end : ℕ} (e : end ≡ at + length_from tree at) where
    abbrev bytes : List ℕ
    bytes = take (end - at) (drop at tree)

    pub figures-stand : Stands bytes work i
    figures-stand =
        let row = its-row sofar.on r h e in
        let same = its-bytes sofar.on r h e in
        record {
          payload = row.payload;
          fits = its-payload sofar.on r h e;
          before = row.before;
          bounds = λ l. threshold-bounds (told row) (subst (λ (b : List ℕ). 56 ≤ kind_of b) same l);
          few = figures-left h;
          room = sofar.room;
          entered = λ j l. rw (sofar.each j l) (sofar.entered j l);
        }

    its-figures : figures_here c bytes work ≡ figures_of c (fragment_at tree i)
    its-figures =
        ap (λ (b : List ℕ). figures_here c b work) (its-bytes sofar.on r h e) ∙ record-figures c (its-row sofar.on r h e) work sofar.each

    kind-same : kind_of bytes ≡ (head_of (fragment_at tree i)).kind
    kind-same =
        ap kind_of (its-bytes sofar.on r h e) ∙ sym (head-kind (kind_of (record_at tree i)) (fragment_payload (record_at tree i)))
        ∙ ap (λ (x : Head). x.kind) (sym (head_at (its-row sofar.on r h e)))

    module _ {b : Bool} (v : b ≡ check_local_validity c (kind_of bytes) (figures_here c bytes work)) where
      its-valid : b ≡ valid c (fragment_at tree i)
      its-valid =
          v ∙ ap (λ (k : ℕ). check_local_validity c k (figures_here c bytes work)) kind-same
          ∙ ap (check_local_validity c (head_of (fragment_at tree i)).kind) its-figures

      pub figures-stop : b ≡ false → (g : Fragment) → TreeRecords tree g → false ≡ all_valid c g
      figures-stop n g s = somewhere-not c s i (some_left sofar.on s h) (sym its-valid ∙ n)

      pub figures-more : b ≡ true → Candidate (i + 1) (figures_here c bytes work) → {after : List ℕ}
          → after ≡ put_figures work i (figures_here c bytes work) → FiguresOn c tree after end (i + 1)
      figures-more t m {after} put =
          let x = figures_here c bytes work in
          let inside : 16 * i + 16 ≤ length work = omega (arith, figures-left h, sofar.room) in
          record {
            on = next sofar.on r h e;
            room = ap length put ∙ put-long work i x inside ∙ sofar.room;
            each = λ j l. by_number j (eqb j i) refl l;
            entered = λ j l. high j (eqb j i) refl l;
            so_far = λ j l. true-at j (eqb j i) refl l;
          }
        where
          by_number : (j : ℕ) (s : Bool) → eqb j i ≡ s → j < i + 1 → figures_at after j ≡ figures_of c (fragment_at tree j)
          by_number j true s l =
              let same = eqb-true j i s in
              rw (same, put) (put_same work i (figures_here c bytes work) (omega (arith, figures-left h, sofar.room)) ∙ its-figures)
          by_number j false s l =
              rw put (put-before work i (figures_here c bytes work) (omega (arith, figures-left h, sofar.room)) j (omega (arith, eqb-false j i s))
              ∙ sofar.each j (omega (arith, eqb-false j i s)))

          high : (j : ℕ) (s : Bool) → eqb j i ≡ s → j < i + 1 → Entered (i + 1) (figures_of c (fragment_at tree j))
          high j true s l =
              let same = eqb-true j i s in
              let own : Entered (i + 1) (figures_here c bytes work) = valid-entered c (kind_of bytes) m (sym v ∙ t) in
              rw same (subst (Entered (i + 1)) its-figures own)
          high j false s l = entered-higher (omega arith) (sofar.entered j (omega (arith, eqb-false j i s)))

          true-at : (j : ℕ) (s : Bool) → eqb j i ≡ s → j < i + 1 → valid c (fragment_at tree j) ≡ true
          true-at j true s l =
              let same = eqb-true j i s in
              rw same (sym its-valid ∙ t)
          true-at j false s l = sofar.so_far j (omega (arith, eqb-false j i s))

pub figures-done : {c : Context} {tree work : List ℕ} {at i : ℕ} → FiguresOn c tree work at i → length tree ≤ at
    → (g : Fragment) → TreeRecords tree g → true ≡ all_valid c g
figures-done {c} sofar h g s = all-records c s (λ j l. sofar.so_far j (omega (arith, l, all-walked sofar.on s h)))

-- ---- what is stored, and what is said of it

module _ (c : Context) (bytes work : List ℕ) {x : ExtData} (e : x ≡ figures_here c bytes work) where
  pub valid-is : {b : Bool} {kind : ℕ} → b ≡ check_local_validity c kind x → kind ≡ kind_of bytes → b ≡ check_local_validity c (kind_of bytes) (figures_here c bytes work)
  valid-is v k = v ∙ ap (λ (n : ℕ). check_local_validity c n x) k ∙ ap (check_local_validity c (kind_of bytes)) e

  pub made-is : (i : ℕ) → Candidate (i + 1) x → Candidate (i + 1) (figures_here c bytes work)
  made-is i m = subst (Candidate (i + 1)) e m

  pub put_is : (i : ℕ) {words new : List ℕ} → words ≡ figure_words x → new ≡ words
      → take (16 * i) work ++ (new ++ drop (16 * i + 16 - 16 * i) (drop (16 * i) work)) ≡ put_figures work i (figures_here c bytes work)
  unfolding put_figures
  put_is i {words} {new} w n =
      let size : 16 * i + 16 - 16 * i ≡ 16 = omega arith in
      let rest : drop (16 * i + 16 - 16 * i) (drop (16 * i) work) ≡ drop (16 * i + 16) work =
      ap (λ (m : ℕ). drop m (drop (16 * i) work)) size ∙ drop-drop 16 (16 * i) work in
      ap (λ (l : List ℕ). take (16 * i) work ++ (new ++ l)) rest
      ∙ ap (λ (l : List ℕ). take (16 * i) work ++ (l ++ drop (16 * i + 16) work)) (n ∙ w)
      ∙ ap (λ (y : ExtData). take (16 * i) work ++ (figure_words y ++ drop (16 * i + 16) work)) e
