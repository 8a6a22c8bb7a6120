-- The entry's promise: what the checks refuse is refused, and of two trees that pass the differences are told if they fit. Assumes nothing.
use Prim.Native.Nat.{ℕ, ◌-◌, ◌*◌, ◌≤◌, ◌<◌}
use mathlib.Core.Bool.{Bool, true, false}
use mathlib.Core.List.{List, [], ◌++◌}
use Rattle.std.specs.Prelude.{Option, None, Some, Result, Ok, Err}
use mathlib.Core.Path.{◌≡◌, refl, sym, ap, subst, ◌∙◌}
use native.Mathlib.Omega.{arith}
use borrow.Author.Tests.{le-leb, lt-leb, eq-eqb, ne_eqb, eqb-false}
use lib.Dec.{eqb}
use lib.ListN.{length, replicate}
use Rattle.words.specs.Memory.{zeroed}
use Rattle.refusals.specs.declared.Refusal.{Refusal}
use Rattle.refusals.specs.Numbers.{number_of}
use Rattle.contexts.specs.declared.Context.{Context}
use Rattle.contexts.specs.declared.Context.TheVariants.{Segwitv0, Tap}
use Rattle.types.specs.declared.«Type».{«Type»}
use Rattle.trees.specs.Fragment.{Fragment}
use Rattle.trees.specs.Reading.{Answer, refused, done, max_records}
use Rattle.trees.specs.TreeCheck.{Typed, bad_context, bad_work, context_of, check_of}
use Rattle.trees.specs.Checked.{type_only}
use Rattle.claspwillow.proofs.CheckLaws.{passed-as, refused-by}
use Rattle.walk.specs.TreeRecords.{TreeRecords, Written}
use Rattle.walk.proofs.Laws.{rows}
use Rattle.differ.specs.Numbered.{Numbered, numbered}
use Rattle.differ.specs.Differences.{Difference, differences}
use Rattle.differ.specs.Differ.{work_words, output_too_small, fitting, check_both, differ_of, DifferPromise}
use Rattle.differ.specs.Records.{numbered_at}
use Rattle.differ.specs.Telling.{tell_all, Tells, Gives}
use Rattle.differ.specs.Checks.{BothPass}
use Rattle.differ.proofs.Numbering.{numbered_is}
use Rattle.differ.proofs.Telling.{no_output, all_told}

pub gives_as : {a b : Answer (List Difference)} {out told : List ℕ} {r : Result ℕ Refusal} → a ≡ b → Gives b out told r → Gives a out told r
gives_as {a} {b} {out} {told} {r} e g = subst (λ (x : Answer (List Difference)). Gives x out told r) (sym e) g

-- a refusal leaves the output as it was
pub refuses : {r : Refusal} {out told : List ℕ} → told ≡ out → Gives (refused (number_of r)) out told (Err r)
refuses e = record { number = refl; writes = e; counts = refl }

-- ---- the run that counts and the run that writes

module _ (ds : List Difference) (out : List ℕ) {part : List ℕ} {n : ℕ} (measured : Tells [] part 0 ds n) where
  as_it_was : part ++ out ≡ out
  as_it_was = ap (λ (z : List ℕ). z ++ out) (measured.is ∙ no_output ds 0)

  counted-all : n ≡ length ds
  counted-all = omega (arith, measured.ends)

  pub too_many : length (part ++ out) < 8 * n → Gives (fitting (length out) ds) out (part ++ out) (Err Refusal.OutputTooSmall)
  too_many h =
      let long : length out < 8 * length ds = omega (arith, h, ap length as_it_was, counted-all) in
      let no : fitting (length out) ds ≡ refused output_too_small = rw (lt-leb (8 * length ds) (length out) long) in
      gives_as no (refuses as_it_was)

  pub fits : 8 * n ≤ length (part ++ out) → {told : List ℕ} {end : ℕ} → Tells (part ++ out) told 0 ds end
      → Gives (fitting (length out) ds) out told (Ok n)
  fits h {told} t =
      let short : 8 * length ds ≤ length out = omega (arith, h, ap length as_it_was, counted-all) in
      let yes-is : fitting (length out) ds ≡ done ds = rw (le-leb (8 * length ds) (length out) short) in
      gives_as yes-is (record {
        number = refl;
        writes = t.is ∙ ap (λ (m : List ℕ). tell_all m 0 ds) as_it_was ∙ all_told ds out short;
        counts = counted-all;
      })

-- ---- the roots of two trees

pub of-roots : {left right : List ℕ} {f g : Fragment} (r : TreeRecords left f) (s : TreeRecords right g) {n m : ℕ} → n ≡ r.count → m ≡ s.count
    → differences (numbered_at left (n - 1)) (numbered_at right (m - 1)) ≡ differences (numbered left) (numbered right)
of-roots {left} {right} r s {n} {m} e d =
    let first : numbered_at left (n - 1) ≡ numbered left = ap (λ (n : ℕ). numbered_at left (n - 1)) e ∙ sym (numbered_is r) in
    let second : numbered_at right (m - 1) ≡ numbered right = ap (λ (m : ℕ). numbered_at right (m - 1)) d ∙ sym (numbered_is s) in
    ap (λ (t : Numbered). differences t (numbered_at right (m - 1))) first ∙ ap (differences (numbered left)) second

-- ---- the checks

module _ (context : ℕ) (tree work : List ℕ) (room : length work ≡ max_records) where
  pub tree-passes : {t : «Type»} → done t ≡ type_only (check_of context tree (length work)) → (x : Typed) × (check_of context tree max_records ≡ done x)
  tree-passes e =
      let p = passed-as context tree work e in
      (p.typed, sym (ap (check_of context tree) room) ∙ p.passes)

  pub tree-refused : (r : Refusal) → refused (number_of r) ≡ type_only (check_of context tree (length work))
      → check_of context tree max_records ≡ refused (number_of r)
  tree-refused r e = sym (ap (check_of context tree) room) ∙ refused-by context tree work e

module _ (context : ℕ) (left right : List ℕ) where
  pub first-refused : (r : Refusal) → check_of context left max_records ≡ refused (number_of r) → check_both context left right ≡ refused (number_of r)
  first-refused r e = rw e

  module _ (x : (x : Typed) × (check_of context left max_records ≡ done x)) where
    pub second-refused : (r : Refusal) → check_of context right max_records ≡ refused (number_of r) → check_both context left right ≡ refused (number_of r)
    second-refused r e =
        let first = x.1 in
        rw (first, e)

    pub both-pass : (y : Typed) × (check_of context right max_records ≡ done y) → BothPass context left right
    both-pass y = record { first = x.0; second = y.0; left_is = x.1; right_is = y.1 }

  module _ (p : BothPass context left right) where
    pub written-left : Written left
    written-left = record { root = p.first.tree; rows = rows context left max_records p.first p.left_is }

    pub written-right : Written right
    written-right = record { root = p.second.tree; rows = rows context right max_records p.second p.right_is }

-- ---- what the entry comes to

-- a number below 2 has a context
some-context : (context : ℕ) → context < 2 → context_of context ≡ None → ⊥
some-context context l = by-test (eqb context 0) (eqb context 1) refl refl
  where
    by-test : (a b : Bool) → eqb context 0 ≡ a → eqb context 1 ≡ b → context_of context ≡ None → ⊥
    by-test true b p q e =
        let some_is : context_of context ≡ Some Segwitv0 = rw p in
        let z : ◌≡◌ {A = ℕ} 0 1 = cc in omega arith
    by-test false true p q e =
        let some_is : context_of context ≡ Some Tap = rw (p, q) in
        let z : ◌≡◌ {A = ℕ} 0 1 = cc in omega arith
    by-test false false p q e = omega (arith, eqb-false context 0 p, eqb-false context 1 q)

module _ (context : ℕ) (left right out work : List ℕ) where
  -- no context, no check
  no-context : (tree : List ℕ) → context_of context ≡ None → check_of context tree max_records ≡ refused bad_context
  unfolding check_of
  no-context tree e = rw e

  module _ (room : length work ≡ work_words) where
    pub differ-refused : {n : ℕ} → check_both context left right ≡ refused n → differ_of context left right out work ≡ refused n
    unfolding differ_of
    differ-refused {n} e = by-context (context_of context) refl
      where
        by-context : (o : Option Context) → context_of context ≡ o → differ_of context left right out work ≡ refused n
        by-context (Some c) k = rw (k, eq-eqb (length work) work_words room, e)
        by-context None k =
            let first : check_both context left right ≡ refused bad_context = rw (no-context left k) in
            let same : ◌≡◌ {A = Answer Typed} (refused bad_context) (refused n) = sym first ∙ e in
            let number : bad_context ≡ n = cc (same) in
            rw (k, number)

    pub differ-done : BothPass context left right
        → differ_of context left right out work ≡ fitting (length out) (differences (numbered left) (numbered right))
    unfolding differ_of
    differ-done p = by-context (context_of context) refl
      where
        by-context : (o : Option Context) → context_of context ≡ o
            → differ_of context left right out work ≡ fitting (length out) (differences (numbered left) (numbered right))
        by-context (Some c) k = rw (k, eq-eqb (length work) work_words room, p.left_is, p.right_is)
        by-context None k =
            let same : ◌≡◌ {A = Answer Typed} (refused bad_context) (done p.first) = sym (no-context left k) ∙ p.left_is in
            absurd (let z : ◌≡◌ {A = ℕ} 0 1 = cc (same) in omega arith)

  pub no-such-context : 2 ≤ context → differ_of context left right out work ≡ refused bad_context
  unfolding differ_of
  no-such-context l =
      let none_is : context_of context ≡ None = rw (ne_eqb context 0 (λ e. omega arith), ne_eqb context 1 (λ e. omega arith)) in
      rw none_is

  pub other-length : context < 2 → (length work ≡ work_words → ⊥) → differ_of context left right out work ≡ refused bad_work
  unfolding differ_of
  other-length l h = by-context (context_of context) refl
    where
      by-context : (o : Option Context) → context_of context ≡ o → differ_of context left right out work ≡ refused bad_work
      by-context (Some c) k = rw (k, ne_eqb (length work) work_words h)
      by-context None k = absurd (some-context context l k)

  cleared : (worked : List ℕ) {after : List ℕ} → length worked ≡ length work → after ≡ zeroed worked → after ≡ zeroed work
  cleared worked e c = c ∙ ap (λ (n : ℕ). replicate n 0) e

  module _ (worked : List ℕ) {told after : List ℕ} (same : length worked ≡ length work) (c : after ≡ zeroed worked) where
    pub done-promised : {n : ℕ} → Gives (differ_of context left right out work) out told (Ok n)
        → DifferPromise context left right out work 0 told n after
    done-promised g = record { gives = g.number; writes = g.writes; counts = g.counts; clears = cleared worked same c }

    pub refused-promised : {r : Refusal} {number : ℕ} → number ≡ number_of r → Gives (differ_of context left right out work) out told (Err r)
        → DifferPromise context left right out work number told 0 after
    refused-promised n g = record { gives = n ∙ g.number; writes = g.writes; counts = g.counts; clears = cleared worked same c }
