-- A byte is looked up in an index, which is compared first. Assumes nothing.
use Prim.Native.Nat.{ℕ, suc, ◌+◌, ◌-◌, ◌<◌}
use mathlib.Core.Bool.{Bool, true, false, false≢true}
use mathlib.Core.List.{List}
use Rattle.std.specs.Prelude.{Option, Result, Ok, Err}
use mathlib.Core.Path.{◌≡◌, refl, sym, ap, subst, ◌∙◌}
use native.Mathlib.Omega.{arith}
use borrow.Author.Tests.{le-leb, lt-ltb, leb-true, leb-false, ltb-true, ltb-false}
use lib.Dec.{leb, ltb}
use lib.ListN.{length, replicate}
use Rattle.contexts.specs.declared.Context.{Context}
use Rattle.trees.specs.Fragment.{Fragment}
use Rattle.trees.specs.Reading.{max_records}
use Rattle.words.specs.Memory.{zeroed}
use Rattle.claspwillow.specs.Results.{number_in}
use Rattle.refusals.specs.declared.Refusal.{Refusal}
use Rattle.refusals.specs.Numbers.{number_of}
use Rattle.walk.specs.TreeRecords.{TreeRecords}
use Rattle.walk.proofs.Laws.{rows}
use Rattle.script_bytes.proofs.Known.{and_both}
use Rattle.index_places.specs.Places.{span_at, Stands, root, Holds, Beneath}
use Rattle.index_places.proofs.Stands.{stands-once, stands-inside, innermost}
use Rattle.index_entry.specs.Index.{IsIndex, tree_in, Looked, inside, past, Found, FindPromise}
use Rattle.index_memory.specs.Memory.{size_in, first_in, entry_in, index_in}
use Rattle.index_entry.specs.Index as Index
use Rattle.index_entry.specs.Building.{Checked, Built, Passing, checks, fails}
use Rattle.index_memory.specs.Looking.{Compared, holds_in, FirstHolding, first, nowhere}
use Rattle.index_entry.specs.Looking.{found_of, it_of, found_in, it_in, FindOutcome, looks, another, FindAnswered, passes, refuses}
use Rattle.index_entry.proofs.Promised.{is-index}
use Rattle.index_entry.proofs.Determined.{index-once}

-- ---- the record that is found

module _ {c : Context} {tree work : List ℕ} {count : ℕ} (built : Built c tree work count) {f : Fragment} (r : TreeRecords tree f) (at : ℕ) where
  same-records : count ≡ r.count
  same-records = built.counts f r

  -- what work memory says is so
  holds-there : (i : ℕ) → i < count → holds_in work i at ≡ true → Holds c tree count i at
  unfolding holds_in entry_in
  holds-there i h e =
      let both = and_both (leb (first_in work i) at) (ltb at (first_in work i + size_in work false i)) e in
      let own = built.each i h in
      let end = ltb-true at (first_in work i + size_in work false i) both.1 in
      record {
        first = first_in work i;
        stands = own.stands;
        from = leb-true (first_in work i) at both.0;
        to = omega (arith, end, own.long);
      }

  told : (i : ℕ) → i < count → Holds c tree count i at → holds_in work i at ≡ true
  unfolding holds_in entry_in
  told i h has =
      let own = built.each i h in
      let one = stands-once c r (subst (λ (n : ℕ). Stands c tree n i has.first) same-records has.stands)
      (subst (λ (n : ℕ). Stands c tree n i (first_in work i)) same-records own.stands) in
      let low = le-leb (first_in work i) at (omega (arith, has.from, one)) in
      let high = lt-ltb at (first_in work i + size_in work false i) (omega (arith, has.to, one, own.long)) in
      rw (low, high)

  not-told : (i : ℕ) → i < count → holds_in work i at ≡ false → Holds c tree count i at → ⊥
  not-told i h e has = false≢true (sym e ∙ told i h has)

  inside-count : (i : ℕ) → Holds c tree count i at → i < count
  inside-count i has =
      let in_rows = stands-inside c r (subst (λ (n : ℕ). Stands c tree n i has.first) same-records has.stands) in
      omega (arith, in_rows, same-records)

  pub looked : {o : Option ℕ} → FirstHolding work count at o → Looked c tree count at (found_of o) (it_of o)
  looked (first {i} h before on) =
      let here = holds-there i h on in
      inside here (λ k has. beneath k has here (ltb k i) refl)
    where
      beneath : (k : ℕ) → Holds c tree count k at → Holds c tree count i at → (b : Bool) → ltb k i ≡ b → Beneath tree count i k
      beneath k has here true b = absurd (not-told k (inside-count k has) (before k (ltb-true k i b)) has)
      beneath k has here false b =
          subst (λ (n : ℕ). Holds c tree n i at → Holds c tree n k at → Beneath tree n i k) (sym same-records)
          (λ x y. innermost c r at i k (ltb-false k i b) x y) here has
  looked (nowhere none) = by-test (leb (span_at c tree (count - 1)) at) refl
    where
      by-test : (b : Bool) → leb (span_at c tree (count - 1)) at ≡ b → Looked c tree count at 0 0
      by-test true b = past (leb-true (span_at c tree (count - 1)) at b)
      by-test false b =
          let any : 0 < count = omega (arith, same-records, r.any) in
          let last : suc (count - 1) ≡ count = omega arith in
          let has : Holds c tree count (count - 1) at =
          record {
            first = 0;
            stands = root last refl;
            from = omega arith;
            to = omega (arith, leb-false (span_at c tree (count - 1)) at b);
          } in
          absurd (not-told (count - 1) (omega arith) (none (count - 1) (omega arith)) has)

-- ---- what is found of a tree that the check passed

module _ {c : Context} {tree work : List ℕ} {count : ℕ} (checked : Checked c tree) (built : Built c tree work count) {given : List ℕ} (at : ℕ) where
  its-index : {r : Bool} → Compared given (index_in work count) r → r ≡ true → IsIndex c tree count given
  its-index compared e = subst (IsIndex c tree count) (sym (compared.yes e)) (is-index built)

  pub finds : {r : Bool} {o : Option ℕ} → Compared given (index_in work count) r → r ≡ true → FirstHolding work count at o → FindOutcome c tree given at (Ok o)
  finds compared e h = looks built.counts (its-index compared e) (looked built checked.rows at h)

  pub finds-another : {r : Bool} → Compared given (index_in work count) r → r ≡ false → FindOutcome c tree given at (Err Refusal.NotItsIndex)
  finds-another compared e =
      let same = built.counts checked.root checked.rows in
      let not-its : IsIndex c tree count given → ⊥ =
      λ is. compared.no e (index-once c checked.rows (subst (λ (n : ℕ). IsIndex c tree n given) same is) (subst (λ (n : ℕ). IsIndex c tree n (index_in work count)) same (is-index built))) in
      another built.counts not-its

-- ---- the entry

pub found : {context : ℕ} {tree work : List ℕ} {c : Context} → Passing context tree work (Ok c) → {given : List ℕ} {at : ℕ} {r : Result (Option ℕ) Refusal}
    → FindOutcome c tree given at r → FindAnswered context tree given at work r
found (checks k room e t) o = passes k e t o

pub found-refused : {context : ℕ} {tree work : List ℕ} {r : Refusal} → Passing context tree work (Err r) → {given : List ℕ} {at : ℕ}
    → FindAnswered context tree given at work (Err r)
found-refused (fails e) = refuses e

module _ (context : ℕ) (tree given : List ℕ) (at : ℕ) (work : List ℕ) where
  results : {r : Result (Option ℕ) Refusal} → FindAnswered context tree given at work r
      → Found context tree given at (tree_in context tree work) (number_in r) (found_in r) (it_in r)
  results (passes {c} {x} k e t (looks {o = o} counts is looked)) =
      let own = rows context tree max_records x e in
      let same = counts x.tree own in
      rw t (Index.looks k own (subst (λ (n : ℕ). IsIndex c tree n given) same is) (subst (λ (n : ℕ). Looked c tree n at (found_of o) (it_of o)) same looked))
  results (passes {c} {x} k e t (another counts not-its)) =
      let own = rows context tree max_records x e in
      let same = counts x.tree own in
      rw t (Index.another k own (λ is. not-its (subst (λ (n : ℕ). IsIndex c tree n given) (sym same) is)))
  results (refuses {r} t) = rw t (Index.turned_down (number_of r))

  pub find-promised : {r : Result (Option ℕ) Refusal} (worked : List ℕ) {after : List ℕ} → FindAnswered context tree given at work r
      → length worked ≡ length work → after ≡ zeroed worked → FindPromise context tree given at work (number_in r) (found_in r) (it_in r) after
  find-promised worked a e c = record { gives = results a; clears = c ∙ ap (λ (n : ℕ). replicate n 0) e }
