-- How many children a fragment's record has: by its kind, by its payload, and by what its readers told. Assumes nothing.
use Prim.Native.Nat.{ℕ, suc, ◌-◌, ◌≤◌, ◌<◌}
use mathlib.Core.Bool.{Bool, true, false}
use mathlib.Core.List.{List, [], ◌∷◌}
use Rattle.std.specs.Prelude.{None, Some}
use mathlib.Core.Path.{◌≡◌, refl, sym, ap, ◌∙◌}
use native.Mathlib.Omega.{arith}
use borrow.Author.Tests.{le-leb, lt-leb, leb-true, leb-false, ne_eqb}
use lib.Dec.{leb}
use lib.ListN.{length, take, replicate}
use lib.Seq.{take-append_seam}
use Rattle.records.specs.declared.Shape.{Shape}
use Rattle.records.specs.Numbers.{u16, u16s, max_count}
use Rattle.records.specs.Shapes.{rows, arity}
use Rattle.records.specs.Payloads.{Payload, nothing, number, children, weighted, threshold, keys, payload_of, count_of, children_of, keys_in}
use Rattle.records.specs.RecordForm.{kind_of, fragment_payload}
use Rattle.records.specs.declared.Parts.{Parts}
use Rattle.records.specs.Answers.{padded, parts_of}
use Rattle.records.proofs.Forms.{and_left, and_right}
use Rattle.records.proofs.KindRanges.{look_up_range, shapes-in}
use Rattle.records.proofs.Laws.{of-fragment, fragment-record, is-nothing, is_number, is-lock, is-one-child, is-two-children}
use Rattle.records.proofs.Laws.{is-three-children, is-threshold, is-keys, threshold-bounds, keys-bounds, fits-some, unfit-none}

-- ---- what is left after some keys of a match

pub past : {n kind : ℕ} → n ≤ kind → (kind ≡ n → ⊥) → suc n ≤ kind
past l f = omega arith

-- ---- by the kind

pub arity-one : (kind count : ℕ) → 42 ≤ kind → kind ≤ 48 → 1 ≡ arity kind count
arity-one kind count l h = simp (le-leb 42 kind l, le-leb kind 48 h)

pub arity-two : (kind count : ℕ) → 49 ≤ kind → kind ≤ 54 → 2 ≡ arity kind count
arity-two kind count l h = simp (le-leb 42 kind (omega arith), lt-leb kind 48 (omega arith), le-leb 49 kind l, le-leb kind 54 h)

pub arity-below : (kind count : ℕ) → kind < 42 → 0 ≡ arity kind count
arity-below kind count h =
    simp (lt-leb 42 kind h, lt-leb 49 kind (omega arith), ne_eqb kind 55 (omega arith), ne_eqb kind 56 (omega arith))

pub arity-above : (kind count : ℕ) → 56 < kind → 0 ≡ arity kind count
arity-above kind count h =
    simp (
      le-leb 42 kind (omega arith),
      lt-leb kind 48 (omega arith),
      le-leb 49 kind (omega arith),
      lt-leb kind 54 (omega arith),
      ne_eqb kind 55 (omega arith),
      ne_eqb kind 56 (omega arith),
    )

-- ---- by the payload

pub record Counts (kind : ℕ) (p : Payload) : Type 0 where
  pub from : 32 ≤ kind
  pub to : kind ≤ 58
  pub few : count_of p ≤ 16
  pub own : arity kind (count_of p) ≡ length (children_of p)

module _ (s : List ℕ) (p : Payload) (e : fragment_payload s ≡ Some p) where
  of-shape : (low high : ℕ) {shape : Shape} → look_up_range rows low high ≡ Some (Some shape) → low ≤ kind_of s → kind_of s ≤ high
      → payload_of shape s ≡ Some p
  of-shape low high t l h = sym (of-fragment s (fragment-record s e).0 (shapes-in low high t (kind_of s) l h)) ∙ e

  -- p is known, so its number of children is
  as_is : (q : Payload) → p ≡ q → 32 ≤ kind_of s → kind_of s ≤ 58 → count_of q ≤ 16 → arity (kind_of s) (count_of q) ≡ length (children_of q)
      → Counts (kind_of s) p
  as_is q e l h few own = record { from = l; to = h; few = rw e few; own = rw e own }

  first_kind : 32 ≤ kind_of s
  first_kind = leb-true 32 (kind_of s) (and_left (leb 32 (kind_of s)) (leb (kind_of s) 58) (fragment-record s e).0)

  last-kind : kind_of s ≤ 58
  last-kind = leb-true (kind_of s) 58 (and_right (leb 32 (kind_of s)) (leb (kind_of s) 58) (fragment-record s e).0)

  no-child : (q : Payload) → p ≡ q → count_of q ≡ 0 → length (children_of q) ≡ 0 → kind_of s < 42 → Counts (kind_of s) p
  no-child q e z z' h =
      as_is q e first_kind last-kind (omega arith) (sym (arity-below (kind_of s) (count_of q) h) ∙ sym z')

  of-threshold : kind_of s ≡ 56 → payload_of Shape.Threshold s ≡ Some p → Counts (kind_of s) p
  of-threshold k t =
      let is = is-threshold s t in
      let few = (threshold-bounds s (t ∙ ap Some is)).2 in
      as_is (threshold (u16 s 4) (u16s s 8 (u16 s 6))) is first_kind last-kind (omega (arith, few)) (rw k (omega arith))

  of-keys : 56 < kind_of s → payload_of Shape.Keys s ≡ Some p → Counts (kind_of s) p
  of-keys h t =
      let is = is-keys s t in
      let few = (keys-bounds s (t ∙ ap Some is)).2 in
      let q = keys (u16 s 4) (keys_in s) in
      as_is q is first_kind last-kind (omega (arith, few)) (sym (arity-above (kind_of s) (count_of q) h))

  -- the kinds of document 01, range by range
  pub counts : Counts (kind_of s) p
  counts = to-33 (leb (kind_of s) 33) refl
    where
      above-56 : (t : Bool) → leb (kind_of s) 56 ≡ t → 56 ≤ kind_of s → Counts (kind_of s) p
      above-56 true b l =
          of-threshold (omega (arith, leb-true (kind_of s) 56 b)) (of-shape 56 56 refl l (leb-true (kind_of s) 56 b))
      above-56 false b l =
          let h = leb-false (kind_of s) 56 b in
          of-keys h (of-shape 57 58 refl h last-kind)

      to-55 : (t : Bool) → leb (kind_of s) 55 ≡ t → 55 ≤ kind_of s → Counts (kind_of s) p
      to-55 true b l =
          let h = leb-true (kind_of s) 55 b in
          let k : kind_of s ≡ 55 = omega arith in
          as_is (children (u16 s 4 ∷ u16 s 6 ∷ u16 s 8 ∷ [])) (is-three-children s (of-shape 55 55 refl l h)) first_kind last-kind
          (omega arith) (rw k)
      to-55 false b l = above-56 (leb (kind_of s) 56) refl (leb-false (kind_of s) 55 b)

      to-54 : (t : Bool) → leb (kind_of s) 54 ≡ t → 49 ≤ kind_of s → Counts (kind_of s) p
      to-54 true b l =
          let h = leb-true (kind_of s) 54 b in
          as_is (children (u16 s 4 ∷ u16 s 6 ∷ [])) (is-two-children s (of-shape 49 54 refl l h)) first_kind last-kind (omega arith)
          (sym (arity-two (kind_of s) 2 l h))
      to-54 false b l = to-55 (leb (kind_of s) 55) refl (leb-false (kind_of s) 54 b)

      to-48 : (t : Bool) → leb (kind_of s) 48 ≡ t → 42 ≤ kind_of s → Counts (kind_of s) p
      to-48 true b l =
          let h = leb-true (kind_of s) 48 b in
          as_is (children (u16 s 4 ∷ [])) (is-one-child s (of-shape 42 48 refl l h)) first_kind last-kind (omega arith)
          (sym (arity-one (kind_of s) 1 l h))
      to-48 false b l = to-54 (leb (kind_of s) 54) refl (leb-false (kind_of s) 48 b)

      to-41 : (t : Bool) → leb (kind_of s) 41 ≡ t → 38 ≤ kind_of s → Counts (kind_of s) p
      to-41 true b l =
          let h = leb-true (kind_of s) 41 b in
          no-child _ (is_number s (of-shape 38 41 refl l h)) refl refl (omega arith)
      to-41 false b l = to-48 (leb (kind_of s) 48) refl (leb-false (kind_of s) 41 b)

      to-37 : (t : Bool) → leb (kind_of s) 37 ≡ t → 36 ≤ kind_of s → Counts (kind_of s) p
      to-37 true b l =
          let h = leb-true (kind_of s) 37 b in
          no-child _ (is-lock s (of-shape 36 37 refl l h)) refl refl (omega arith)
      to-37 false b l = to-41 (leb (kind_of s) 41) refl (leb-false (kind_of s) 37 b)

      to-35 : (t : Bool) → leb (kind_of s) 35 ≡ t → 34 ≤ kind_of s → Counts (kind_of s) p
      to-35 true b l =
          let h = leb-true (kind_of s) 35 b in
          no-child _ (is_number s (of-shape 34 35 refl l h)) refl refl (omega arith)
      to-35 false b l = to-37 (leb (kind_of s) 37) refl (leb-false (kind_of s) 35 b)

      to-33 : (t : Bool) → leb (kind_of s) 33 ≡ t → Counts (kind_of s) p
      to-33 true b =
          let h = leb-true (kind_of s) 33 b in
          no-child _ (is-nothing s (of-shape 32 33 refl first_kind h)) refl refl (omega arith)
      to-33 false b = to-35 (leb (kind_of s) 35) refl (leb-false (kind_of s) 33 b)

children-le : (p : Payload) → length (children_of p) ≤ count_of p
children-le nothing = omega arith
children-le (number n) = omega arith
children-le (children cs) = omega arith
children-le (weighted l r lw rw) = omega arith
children-le (threshold k cs) = omega arith
children-le (keys k ks) = omega arith

-- the sixteen places hold the children first
pub padded-front : (cs : List ℕ) → take (length cs) (padded cs) ≡ cs
padded-front cs = take-append_seam cs (replicate (max_count - length cs) 0)

-- ---- from what the readers of a record told

-- a record of the form: its payload, its parts, its kind and the number of its children
pub record Found (s : List ℕ) (parts : Parts) (kind n : ℕ) : Type 0 where
  pub payload : Payload
  pub fits : fragment_payload s ≡ Some payload
  pub parts_are : parts ≡ parts_of (Some payload)
  pub kind-is : kind ≡ kind_of s
  pub n-is : n ≡ arity kind parts.count

pub found : (s : List ℕ) {parts : Parts} {kind n : ℕ} → parts ≡ parts_of (fragment_payload s) → parts.fits ≡ true → kind ≡ kind_of s
    → n ≡ arity kind parts.count → Found s parts kind n
found s e f k a =
    let is = fits-some (fragment_payload s) (sym (ap (λ (x : Parts). x.fits) e) ∙ f) in
    record { payload = is.0; fits = is.1; parts_are = e ∙ ap parts_of is.1; kind-is = k; n-is = a }

pub not_found : (s : List ℕ) {parts : Parts} → parts ≡ parts_of (fragment_payload s) → parts.fits ≡ false → fragment_payload s ≡ None
not_found s e f = unfit-none (fragment_payload s) (sym (ap (λ (x : Parts). x.fits) e) ∙ f)

module _ {s : List ℕ} {parts : Parts} {kind n : ℕ} (x : Found s parts kind n) where
  abbrev its-counts : Counts (kind_of s) x.payload
  its-counts = counts s x.payload x.fits

  own-count : parts.count ≡ count_of x.payload
  own-count = ap (λ (y : Parts). y.count) x.parts_are

  pub own-children : n ≡ length (children_of x.payload)
  own-children = x.n-is ∙ ap (arity kind) own-count ∙ ap (λ (m : ℕ). arity m (count_of x.payload)) x.kind-is ∙ its-counts.own

  pub few-children : n ≤ 16
  few-children = omega (arith, own-children, children-le x.payload, its-counts.few)

  pub rule-needs : (32 ≤ kind) × (kind ≤ 58) × (parts.count ≤ 16)
  rule-needs = (rw x.kind-is its-counts.from, rw x.kind-is its-counts.to, rw own-count its-counts.few)

  pub same-children : take n parts.children ≡ children_of x.payload
  same-children =
      ap (λ (m : ℕ). take m parts.children) own-children
      ∙ ap (λ (y : Parts). take (length (children_of x.payload)) y.children) x.parts_are
      ∙ padded-front (children_of x.payload)
