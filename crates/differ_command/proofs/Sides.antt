-- What the console says of a refusal of two trees is so, and the differences that it shows lie in their room. Assumes nothing.
use Prim.Native.Nat.{ℕ, ◌*◌, ◌≤◌}
use mathlib.Core.Bool.{Bool, true, false, cond}
use mathlib.Core.List.{List}
use Rattle.std.specs.Prelude.{Option, None, Some}
use mathlib.Core.Path.{◌≡◌, refl, sym, ap, ◌∙◌}
use native.Mathlib.Omega.{arith}
use lib.Dec.{leb}
use borrow.Author.Tests.{leb-true}
use lib.ListN.{length, take, drop, length-append}
use Rattle.contexts.specs.declared.Context.{Context}
use Rattle.trees.specs.Reading.{Answer, refused, done, ◌>>=◌, or_refuse, bad_tree, max_records}
use Rattle.trees.specs.TreeCheck.{Typed, bad_context, bad_work, context_of, check_of}
use Rattle.claspwillow.specs.Promises.{number_of, CheckPromise}
use Rattle.differ.specs.Numbered.{numbered}
use Rattle.differ.specs.Differences.{Difference, differences}
use Rattle.differ.specs.Differ.{output_too_small, work_of, fitting, check_both, differ_of, differences_bytes, output_after, counted, DifferPromise}
use Rattle.differ.proofs.Telling.{length-differences}
use Rattle.claspwillow.proofs.CheckLaws.{passed, refused_as, same-room}
use Rattle.differ.proofs.Halves.{first-long}
use Rattle.differ_command.specs.Sides.{Refuses}

same-refusal : {m n : ℕ} → m ≡ n → ◌≡◌ {A = Answer Typed} (refused m) (refused n)
same-refusal e = rw e

-- ---- the entry's promise

-- the entry's steps in order, of which the last refuses with 13 alone
abbrev steps : Option Context → Option ℕ → Answer Typed → Answer (List Difference) → Answer (List Difference)
steps c words both told = do
  _ ← or_refuse bad_context c
  _ ← or_refuse bad_work words
  _ ← both
  told

by-steps : (c : Option Context) (words : Option ℕ) (both : Answer Typed) (told : Answer (List Difference)) → number_of told ≤ output_too_small
    → bad_tree ≤ number_of (steps c words both told) → both ≡ refused (number_of (steps c words both told))
by-steps None words both told few from = absurd (omega (arith, from))
by-steps (Some c) None both told few from = absurd (omega (arith, from))
by-steps (Some c) (Some n) (refused m) told few from = refl
by-steps (Some c) (Some n) (done x) told few from = absurd (omega (arith, few, from))

fits-or-13 : (fits : Bool) (ds : List Difference) → number_of {A = List Difference} (cond fits (done ds) (refused output_too_small)) ≤ output_too_small
fits-or-13 true ds = omega arith
fits-or-13 false ds = omega arith

few-steps : (c : Option Context) (words : Option ℕ) (both : Answer Typed) (told : Answer (List Difference)) (room : ℕ) → 8 * counted told ≤ room
    → 8 * counted (steps c words both told) ≤ room
few-steps None words both told room few = omega arith
few-steps (Some c) None both told room few = omega arith
few-steps (Some c) (Some n) (refused m) told room few = omega arith
few-steps (Some c) (Some n) (done x) told room few = few

fits-few : (fits : Bool) (ds : List Difference) (room : ℕ) → leb (8 * length ds) room ≡ fits
    → 8 * counted (cond fits (done ds) (refused output_too_small)) ≤ room
fits-few true ds room e = leb-true (8 * length ds) room e
fits-few false ds room e = omega arith

by_answer : (a : Answer (List Difference)) (out told : List ℕ) (count : ℕ) → told ≡ output_after a out → count ≡ counted a → 8 * count ≤ length told
by_answer (refused n) out told count writes counts = omega (arith, counts)
by_answer (done ds) out told count writes counts =
    omega (arith, counts, ap length writes, length-append (differences_bytes ds) (drop (8 * length ds) out), length-differences ds)

module _ {context : ℕ} {left right out work : List ℕ} {number : ℕ} {told : List ℕ} {count : ℕ} {after : List ℕ}
    (promise : DifferPromise context left right out work number told count after) where
  pub refuses-with : Refuses context left right number
  unfolding differ_of
  refuses-with from =
      let ds = differences (numbered left) (numbered right) in
      let by = by-steps (context_of context) (work_of (length work)) (check_both context left right) (fitting (length out) ds)
      (fits-or-13 (leb (8 * length ds) (length out)) ds) (omega (arith, from, promise.gives)) in
      by ∙ same-refusal (sym promise.gives)

  told-few : 8 * count ≤ length out
  unfolding differ_of
  told-few =
      let ds = differences (numbered left) (numbered right) in
      let few = few-steps (context_of context) (work_of (length work)) (check_both context left right) (fitting (length out) ds) (length out)
      (fits-few (leb (8 * length ds) (length out)) ds (length out) refl) in
      omega (arith, promise.counts, few)

  pub told-small : {room : ℕ} → room ≡ length out → 8 * count ≤ room
  told-small e = omega (arith, e, told-few)

  -- the first half of work memory has a word for each record
  pub half-long : 8192 ≡ length work → length (take 4096 after) ≡ max_records
  half-long e = first-long 4096 8192 refl after (same-room work promise.clears ∙ sym e)

  -- the differences that the entry says it told lie in the output
  pub told-within : 8 * count ≤ length told
  told-within = by_answer (differ_of context left right out work) out told count promise.writes promise.counts

-- ---- the check of the left tree alone

module _ {context : ℕ} {left : List ℕ} (right : List ℕ) {work : List ℕ} {number own ty : ℕ} {after : List ℕ} (room : length work ≡ max_records)
    (refuses : Refuses context left right number) (from : bad_tree ≤ number) (promise : CheckPromise context left work own ty after) where
  -- the left tree passes: the right one is refused
  pub right-refused : own ≡ 0 → ((x : Typed) × (check_of context left max_records ≡ done x)) × (check_of context right max_records ≡ refused number)
  right-refused z =
      let p = passed context left work promise.gives z in
      let passes : (x : Typed) × (check_of context left max_records ≡ done x) = (p.typed, sym (ap (check_of context left) room) ∙ p.passes) in
      let first : check_both context left right ≡ check_of context right max_records = rw passes.1 in
      (passes, sym first ∙ refuses from)

  -- the left tree does not pass: it is refused with that number
  pub left-refused : (own ≡ 0 → ⊥) → check_of context left max_records ≡ refused number
  left-refused z =
      let alone : check_of context left max_records ≡ refused own =
      sym (ap (check_of context left) room) ∙ refused_as context left work promise.gives z in
      let first : check_both context left right ≡ refused own = rw alone in
      let same : ◌≡◌ {A = Answer Typed} (refused own) (refused number) = sym first ∙ refuses from in
      alone ∙ same
