-- The root: the last slot, every other being taken; and the policy that it is. Assumes nothing.
use Rattle.refusals.specs.declared.Refusal.{Refusal}
use Rattle.refusals.specs.Numbers.{number_of}
use mathlib.Core.Path.{◌≡◌, refl, sym, subst, ◌∙◌, ap}
use mathlib.Core.Bool.{Bool, true, false, cond}
use mathlib.Core.List.{List, [], ◌∷◌}
use Rattle.std.specs.Prelude.{Option, None, Some, Result, Ok, Err}
use Prim.Native.Nat.{ℕ, zero, suc, ◌+◌, ◌*◌, ◌-◌, ◌<◌, ◌≤◌}
use native.Mathlib.Numerals.{add-one}
use native.Mathlib.Omega.{arith}
use borrow.Author.Tests.{eq-eqb, ne_eqb, le-leb, lt-leb}
use lib.Dec.{eqb, leb}
use lib.ListN.{length, get_or, drop, length-drop, replicate, length-replicate, drop_of_length-le}
use lib.Seq.{drop-cons}
use Rattle.policies.specs.Policy.{Policy, depth}
use Rattle.policies.specs.Reading.{Answer, refused, Slots, root_of, finish, read_policy}
use Rattle.policies.specs.Array.{taken_at, count_at, record_policy, policy_at, slot_at, slots_at, Good}
use Rattle.policies.specs.Answers.{Rooted, root, no-root, Read, PolicyRead, reads, bad-array, AllRead, RecordsGood, OfReading, refusal_answer}
use Rattle.words.specs.Memory.{zeroed}
use Rattle.policies.proofs.Slots.{length-slots, slot-at}
use Rattle.policies.proofs.Views.{stored_is}

-- ---- the loop over the slots

pub record RootInv (m : List ℕ) (last i : ℕ) : Type 0 where
  pub within : i ≤ last
  pub still : root_of (drop i (slots_at m (suc last))) ≡ root_of (slots_at m (suc last))

pub root-starts : (m : List ℕ) (last : ℕ) → RootInv m last 0
root-starts m last = record { within = omega arith; still = refl }

next-slot : (m : List ℕ) (last i : ℕ) → i ≤ last → drop i (slots_at m (suc last)) ≡ slot_at m i ∷ drop (suc i) (slots_at m (suc last))
next-slot m last i h =
    let l : length (slots_at m (suc last)) ≡ suc last = length-slots m (suc last) in
    drop-cons (slots_at m (suc last)) i None (omega arith)
    ∙ ap (λ (s : Option Policy). s ∷ drop (suc i) (slots_at m (suc last))) (slot-at m i (suc last) (omega arith))

-- a slot that is not taken, with others behind it
unused : (p : Policy) (slots : Slots) → 1 ≤ length slots → root_of (Some p ∷ slots) ≡ None
unfolding root_of
unused p [] h = absurd (omega arith)
unused p (s ∷ slots) h = refl

used : (slots : Slots) → 1 ≤ length slots → root_of (None ∷ slots) ≡ root_of slots
unfolding root_of
used [] h = absurd (omega arith)
used (s ∷ slots) h = refl

alone : (s : Option Policy) → root_of (s ∷ []) ≡ s
unfolding root_of
alone None = refl
alone (Some p) = refl

module _ (m : List ℕ) (last i : ℕ) (inv : RootInv m last i) where
  behind : i < last → 1 ≤ length (drop (suc i) (slots_at m (suc last)))
  behind h =
      let l : length (slots_at m (suc last)) ≡ suc last = length-slots m (suc last) in
      rw (length-drop (suc i) (slots_at m (suc last))) (omega arith)

  pub root-unused : i < last → taken_at m i ≡ 0 → Rooted m last false
  root-unused h z =
      no-root
      (sym inv.still
      ∙ rw (next-slot m last i (omega arith), eq-eqb (taken_at m i) 0 z)
      (unused (record_policy m i) (drop (suc i) (slots_at m (suc last))) (behind h)))

  pub root-more : i < last → (taken_at m i ≡ 0 → ⊥) → RootInv m last (i + 1)
  root-more h ne =
      let step : root_of (drop i (slots_at m (suc last))) ≡ root_of (drop (suc i) (slots_at m (suc last))) =
      rw (next-slot m last i (omega arith), ne_eqb (taken_at m i) 0 ne) (used (drop (suc i) (slots_at m (suc last))) (behind h)) in
      record { within = omega arith; still = rw (add-one i) (sym step ∙ inv.still) }

  pub root-last : last ≤ i → {w : ℕ} → w ≡ taken_at m last → Rooted m last (eqb w 0)
  root-last h {w} e =
      let l : length (slots_at m (suc last)) ≡ suc last = length-slots m (suc last) in
      let same : i ≡ last = omega (arith, inv.within) in
      let nothing : drop (suc last) (slots_at m (suc last)) ≡ [] = drop_of_length-le (slots_at m (suc last)) {i = suc last} (omega arith) in
      let only : root_of (slots_at m (suc last)) ≡ slot_at m last =
      sym inv.still ∙ rw (same, next-slot m last last (omega arith), nothing) (alone (slot_at m last)) in
      by-test (eqb w 0) (ap (λ (x : ℕ). eqb x 0) (sym e)) only
    where
      by-test : (t : Bool) → eqb (taken_at m last) 0 ≡ t → root_of (slots_at m (suc last)) ≡ slot_at m last → Rooted m last t
      by-test true q only = root (only ∙ rw q)
      by-test false q only = no-root (only ∙ rw q)

-- ---- the end of the reading

rooted-false : (m : List ℕ) (last : ℕ) {r : Bool} → Rooted m last r → r ≡ false → root_of (slots_at m (suc last)) ≡ None
rooted-false m last (root e) q = absurd (let z : ◌≡◌ {A = ℕ} 0 1 = cc in omega arith)
rooted-false m last (no-root e) q = e

rooted-true : (m : List ℕ) (last : ℕ) {r : Bool} → Rooted m last r → r ≡ true → root_of (slots_at m (suc last)) ≡ Some (record_policy m last)
rooted-true m last (root e) q = e
rooted-true m last (no-root e) q = absurd (let z : ◌≡◌ {A = ℕ} 0 1 = cc in omega arith)

pub finish-empty : (m : List ℕ) (count : ℕ) → count ≡ 0 → Read (finish (slots_at m count)) (Err Refusal.BadPolicy) m
unfolding finish slots_at root_of
finish-empty m count e = rw e (record { says = refl; good = tt })

module _ (m : List ℕ) (count : ℕ) (g : Good m) (few : count ≤ 64) (ne : count ≡ 0 → ⊥) {r : Bool} (rooted : Rooted m (count - 1) r) where
  one_more : count ≡ suc (count - 1)
  one_more = omega (arith, ne)

  pub finish-bad : r ≡ false → Read (finish (slots_at m count)) (Err Refusal.BadPolicy) m
  unfolding finish
  finish-bad q =
      let e : root_of (slots_at m count) ≡ None = ap (λ (k : ℕ). root_of (slots_at m k)) one_more ∙ rooted-false m (count - 1) rooted q in
      record { says = rw e; good = tt }

  module _ (q : r ≡ true) {d : ℕ} (deep : d ≡ depth (policy_at m (count - 1))) where
    the-root : root_of (slots_at m count) ≡ Some (policy_at m (count - 1))
    the-root =
        ap (λ (k : ℕ). root_of (slots_at m k)) one_more
        ∙ rooted-true m (count - 1) rooted q
        ∙ ap Some (sym (stored_is m (count - 1) (omega (arith, ne))))

    pub finish-deep : 16 < d → Read (finish (slots_at m count)) (Err Refusal.PolicyTooLarge) m
    unfolding finish
    finish-deep h =
        let t : leb (depth (policy_at m (count - 1))) 16 ≡ false = lt-leb (depth (policy_at m (count - 1))) 16 (omega arith) in
        record { says = rw (the-root, t); good = tt }

    pub finish-done : d ≤ 16 → Read (finish (slots_at m count)) (Ok (count - 1)) m
    unfolding finish
    finish-done h =
        let t : leb (depth (policy_at m (count - 1))) 16 ≡ true = le-leb (depth (policy_at m (count - 1))) 16 (omega arith) in
        record { says = rw (the-root, t); good = (g, omega (arith, ne)) }

-- ---- the start: an array of zeros holds no record

zero_word : (n a : ℕ) → ◌≡◌ {A = ℕ} (get_or (replicate n 0) a 0) 0
zero_word zero a = refl
zero_word (suc n) zero = refl
zero_word (suc n) (suc a) = zero_word n a

pub cleared : (m : List ℕ) {m' : List ℕ} → length m ≡ 2560 → m' ≡ zeroed m → Good m'
cleared m long e =
    rw e
    (record {
      rows = record { long = length-replicate (length m) 0 ∙ long; few = λ i l. rw (empty i) (omega arith) };
      below = λ i j l u. absurd (let z = empty i in omega arith);
      some_of = λ i l k. absurd (let z = zero_word (length m) (40 * i + 0) in omega arith);
    })
  where
    empty : (i : ℕ) → count_at (zeroed m) i ≡ 0
    empty i = rw (zero_word (length m) (40 * i + 0))

pub not-whole : (bytes m₀ m : List ℕ) → (length m₀ ≡ 2560 → ⊥) → PolicyRead bytes m₀ (Err Refusal.BadWork) m
not-whole bytes m₀ m ne = bad-array ne refl

module _ (bytes m₀ m : List ℕ) (long : length m₀ ≡ 2560) {all : Result ℕ Refusal} (read : AllRead (read_policy bytes) all m) where
  pub policy-refused : {r : Refusal} → all ≡ Err r → PolicyRead bytes m₀ (Err r) m
  policy-refused {r} e =
      let good : OfReading r = subst (λ (x : Result ℕ Refusal). RecordsGood x m) e read.good in
      let says : read_policy bytes ≡ refused (number_of r) = read.says ∙ rw e in
      let told : ◌≡◌ {A = Option (Answer Policy)} (Some (refused (number_of r))) (refusal_answer (number_of r)) = rw (ne_eqb (number_of r) 2 good) in
      reads long (record { says = ap Some says ∙ told; good = tt })

  all-good : (all : Result ℕ Refusal) (count : ℕ) → all ≡ Ok count → RecordsGood all m → Good m × (count ≤ 64)
  all-good (Ok n) count e g =
      let same : n ≡ count = cc in
      (g.0, omega (arith, g.1))
  all-good (Err r) count e g = absurd (let z : ◌≡◌ {A = ℕ} 0 1 = cc in omega arith)

  pub policy-ready : (count : ℕ) → all ≡ Ok count → Good m × (count ≤ 64)
  policy-ready count e = all-good all count e read.good

  pub policy-done : (count : ℕ) → all ≡ Ok count → {r : Result ℕ Refusal} → Read (finish (slots_at m count)) r m → PolicyRead bytes m₀ r m
  policy-done count e {r} finished =
      let same : read_policy bytes ≡ finish (slots_at m count) = read.says ∙ rw e in
      reads long (record { says = ap Some same ∙ finished.says; good = finished.good })

-- what a refusal says of the bytes
pub refusal-is : {answer : Answer Policy} {r : Refusal} {m : List ℕ} → Read answer (Err r) m → answer ≡ refused (number_of r)
refusal-is {answer} {r} {m} read = by-test (eqb (number_of r) 2) read.says
  where
    by-test : (b : Bool) → Some answer ≡ cond b None (Some (refused (number_of r))) → answer ≡ refused (number_of r)
    by-test true e = absurd (let z : ◌≡◌ {A = ℕ} 0 1 = cc in omega arith)
    by-test false e = cc
