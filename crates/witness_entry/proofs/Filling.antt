-- Work memory is filled record by record, children first. Assumes nothing.
use Prim.Native.Nat.{ℕ, ◌+◌, ◌*◌, ◌-◌, ◌≤◌, ◌<◌}
use mathlib.Core.Bool.{Bool, true, false}
use mathlib.Core.List.{List, map}
use Rattle.std.specs.Prelude.{Some}
use mathlib.Core.Path.{◌≡◌, refl, sym, ap, subst, ◌∙◌}
use native.Mathlib.Omega.{arith}
use borrow.Author.Tests.{eqb-true, eqb-false}
use lib.Dec.{eqb}
use lib.ListN.{length, get_or, take, drop}
use lib.Seq.{get_or-take}
use Rattle.records.specs.declared.Parts.{Parts}
use Rattle.records.specs.Numbers.{or_zero}
use Rattle.records.specs.Payloads.{k_of, count_of, children_of}
use Rattle.records.specs.RecordForm.{record_length, kind_of, fragment_payload}
use Rattle.records.specs.Answers.{parts_of}
use Rattle.records.specs.Shapes.{arity}
use Rattle.records.proofs.Arities.{Found, own-children, few-children, rule-needs, same-children}
use Rattle.records.proofs.Laws.{length-bounds, whole_room}
use Rattle.contexts.specs.declared.Context.{Context}
use Rattle.trees.specs.Fragment.{Fragment}
use Rattle.walk.specs.TreeRecords.{length_from, start_of, record_at, fragment_at, TreeRecord, TreeRecords}
use Rattle.walk.proofs.Laws.{start_first, start-next, bytes-at, not_last, all_read, same_count}
use Rattle.witness_ways.specs.declared.Both.{Both}
use Rattle.witness_ways.specs.Extremes.{extremes}
use Rattle.witness_rules.specs.Bounds.{BothBelow}
use Rattle.witness_rules.specs.ByKind.{ways_of}
use Rattle.witness_entry.specs.Memory.{both_in, put_both, Loaded}
use Rattle.witness_entry.specs.Records.{ways_in, Stands, Filled}
use Rattle.witness_entry.proofs.Steps.{same-ways, record-ways}
use Rattle.witness_entry.proofs.Weights.{extremes-small}
use Rattle.witness_entry.proofs.Memory.{put_same, put_other, loaded-child, loaded-all}

-- ---- one record's bytes

module _ {bytes work : List ℕ} (stands : Stands bytes work) {parts : Parts} {kind n : ℕ} (p : parts ≡ parts_of (fragment_payload bytes))
    (k : kind ≡ kind_of bytes) (a : n ≡ arity kind parts.count) where
  abbrev its-record : Found bytes parts kind n
  its-record = record { payload = stands.payload; fits = stands.fits; parts_are = p ∙ ap parts_of stands.fits; kind-is = k; n-is = a }

  pub few-loaded : n ≤ 16
  few-loaded = few-children its-record

  pub few-counted : parts.count ≤ 16
  few-counted = (rule-needs its-record).2

  pub children-inside : (j : ℕ) → j < n → 2 * get_or parts.children j 0 + 1 < length work
  children-inside j h =
      let same : get_or (take n parts.children) j 0 ≡ get_or (children_of stands.payload) j 0 =
      ap (λ (l : List ℕ). get_or l j 0) (same-children its-record) in
      let is : get_or parts.children j 0 ≡ get_or (children_of stands.payload) j 0 = sym (get_or-take n parts.children j 0 h) ∙ same in
      rw is (stands.inside j (omega (arith, own-children its-record)))

  pub ways-are : (c : Context) {out : List Both} {r : Both} → Loaded work parts.children n out → r ≡ ways_of c kind parts.k parts.count out
      → r ≡ ways_in c bytes work
  ways-are c {out} l e =
      let q = stands.payload in
      let js = children_of q in
      let xs = map (both_in work) js in
      let same-k : parts.k ≡ k_of q = ap (λ (x : Parts). x.k) its-record.parts_are in
      let same-n : parts.count ≡ count_of q = ap (λ (x : Parts). x.count) its-record.parts_are in
      let thresh : kind ≡ 56 → take parts.count out ≡ take parts.count xs =
      λ t. let same : n ≡ parts.count = a ∙ rw t in
      subst (λ (m : ℕ). take m out ≡ take m xs) same (loaded-all l js (same-children its-record) (own-children its-record) few-loaded) in
      e
      ∙ same-ways c kind parts.k parts.count out xs (loaded-child l js (same-children its-record) (own-children its-record) few-loaded) thresh
      ∙ rw (same-k, same-n, k, stands.fits)

-- ---- the records so far

pub record FillOn (c : Context) (tree work : List ℕ) (at i : ℕ) : Type 0 where
  pub here : at ≡ start_of tree i
  pub within : (f : Fragment) (r : TreeRecords tree f) → i ≤ r.count
  pub each : (j : ℕ) → j < i → both_in work j ≡ extremes c (fragment_at tree j)

pub fill_begins : (c : Context) (tree work : List ℕ) → FillOn c tree work 0 0
fill_begins c tree work =
    record { here = sym (start_first tree); within = λ f r. omega arith; each = λ j h. absurd (omega arith) }

module _ {c : Context} {tree work : List ℕ} {at i : ℕ} (on : FillOn c tree work at i) {f : Fragment} (r : TreeRecords tree f) where
  pub some_left : at < length tree → i < r.count
  some_left h = not_last r i on.here (on.within f r) h

  module _ (h : at < length tree) {end : ℕ} (e : end ≡ at + length_from tree at) where
    its-row : TreeRecord tree i
    its-row = r.row i (some_left h)

    whole : record_length (drop at tree) ≡ Some its-row.len
    whole = subst (λ (x : ℕ). record_length (drop x tree) ≡ Some its-row.len) (sym on.here) its-row.whole

    end_is : end ≡ at + its-row.len
    end_is = e ∙ ap (λ (n : ℕ). at + n) (ap or_zero whole)

    pub ends-inside : end ≤ length tree
    ends-inside = omega (arith, end_is, whole_room tree at whole)

    pub ends-later : at < end
    ends-later = omega (arith, end_is, length-bounds (drop at tree) whole)

    its-bytes : take (end - at) (drop at tree) ≡ record_at tree i
    its-bytes = ap (λ (n : ℕ). take (n - at) (drop at tree)) end_is ∙ bytes-at tree i on.here whole

    pub stands : length work ≡ 8192 → Stands (take (end - at) (drop at tree)) work
    stands room =
        record {
          payload = its-row.payload;
          fits = ap fragment_payload its-bytes ∙ its-row.fits;
          inside = λ j l. omega (arith, room, its-row.before j l, some_left h, r.few);
        }

    module _ {ways : Both} (w : ways ≡ ways_in c (take (end - at) (drop at tree)) work) where
      pub ways-is : ways ≡ extremes c (fragment_at tree i)
      ways-is = w ∙ ap (λ (bytes : List ℕ). ways_in c bytes work) its-bytes ∙ record-ways c its-row work on.each

      pub ways-small : BothBelow 2147483648 ways
      ways-small = subst (BothBelow 2147483648) (sym ways-is) (extremes-small c r i (some_left h))

      pub fill_more : length work ≡ 8192 → {next : List ℕ} → next ≡ put_both work i ways → FillOn c tree next end (i + 1)
      fill_more room {next} p =
          record {
            here = end_is ∙ start-next tree i on.here whole;
            within = λ g s. omega (arith, some_left h, same_count r s);
            each = λ j l. by_number j (eqb j i) refl l;
          }
        where
          by_number : (j : ℕ) (b : Bool) → eqb j i ≡ b → j < i + 1 → both_in next j ≡ extremes c (fragment_at tree j)
          by_number j true b l =
              let same = eqb-true j i b in
              rw (same, p) (put_same work i ways (omega (arith, room, some_left h, r.few)) ways-small ∙ ways-is)
          by_number j false b l =
              rw p (put_other work i j ways (eqb-false j i b) ∙ on.each j (omega (arith, eqb-false j i b)))

  pub fill-ends : length tree ≤ at → Filled c tree work i
  fill-ends h =
      let last : i ≡ r.count = all_read r i on.here (on.within f r) h in
      record { counts = λ g s. last ∙ same_count r s; each = on.each }
