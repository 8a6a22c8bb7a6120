-- Stacks, outcomes and ends with a count or a byte in front; an entry's limits; a run's beginning and its verdict. Assumes nothing.
use Prim.Native.Nat.{ℕ, zero, suc, ◌+◌, ◌-◌, ◌≤◌, ◌<◌}
use mathlib.Core.Bool.{Bool, true, false, ◌&&◌, cond}
use mathlib.Core.List.{List, [], ◌∷◌, reverse_aux, reverse}
use mathlib.Core.Path.{◌≡◌, refl, sym, ap, ◌∙◌}
use native.Mathlib.Omega.{arith}
use borrow.Author.Tests.{le-leb, lt-leb, eq-eqb, ne_eqb, ltb-true, ltb-false}
use lib.Dec.{leb, ltb, eqb}
use lib.ListN.{length, get_or}
use Rattle.contexts.specs.Lists.{all}
use Rattle.records.specs.Numbers.{u32}
use Rattle.script_machine.specs.Numbers.{Bytes, Stack, same}
use Rattle.script_machine.specs.Machine.{aborted, state}
use Rattle.script_machine.specs.WorkedRuns.{same_stack}
use Rattle.spend_machine.specs.Entries.{Outcome, End, aborts, leaves}
use Rattle.spend_machine.specs.Recorded.{Run, stands, stuck, large, max_elements}
use Rattle.spend_machine.specs.Verdicts.{small_bytes, small_stack, small_outcome, small_end, small_entry, judged, verdict_number}
use Rattle.spend_stack.specs.declared.Machine.{Machine}
use Rattle.spend_stack.specs.declared.Status.TheVariants as Status
use Rattle.spend_stack.specs.Outcomes.{outcomes_from, outcomes_end}
use Rattle.spend_stack.specs.Machines.{stack_of, run_of, left_of, Fits}
use Rattle.spend_stack.proofs.Stacks.{height}
use Rattle.spend_judge.specs.declared.EntryAt.{EntryAt}
use Rattle.spend_judge.specs.Places.{elements_from, elements_end, stack_in, stack_end, outcomes_in, outcomes_past, end_in, end_past, entry_in}
use Rattle.spend_judge.specs.Results.{Loaded, Begins}

-- ---- a stack and its elements

elements-many : (log : Bytes) (n at : ℕ) → length (elements_from log at n) ≡ n
unfolding elements_from
elements-many log zero at = refl
elements-many log (suc n) at = ap suc (elements-many log n _)

reversed-long : (xs ys : List Bytes) → length (reverse_aux xs ys) ≡ length xs + length ys
reversed-long [] ys = omega arith
reversed-long (x ∷ xs) ys = omega (arith, reversed-long xs (x ∷ ys))

reversed-all : (p : Bytes → Bool) (xs ys : List Bytes) → all p (reverse_aux xs ys) ≡ all p xs && all p ys
unfolding all
reversed-all p [] ys = refl
reversed-all p (x ∷ xs) ys = reversed-all p xs (x ∷ ys) ∙ exchange (p x) (all p xs) (all p ys)
  where
    exchange : (a b c : Bool) → b && (a && c) ≡ (a && b) && c
    exchange true b c = refl
    exchange false true c = refl
    exchange false false c = refl

and-true : (b : Bool) → b && true ≡ b
and-true true = refl
and-true false = refl

module _ (log : Bytes) (at : ℕ) where
  pub stack-many : length (stack_in log at) ≡ u32 log at
  unfolding stack_in
  stack-many =
      reversed-long (elements_from log (at + 4) (u32 log at)) []
      ∙ omega (arith, elements-many log (u32 log at) (at + 4))

  stack-all : all small_bytes (stack_in log at) ≡ all small_bytes (elements_from log (at + 4) (u32 log at))
  unfolding stack_in all
  stack-all =
      reversed-all small_bytes (elements_from log (at + 4) (u32 log at)) []
      ∙ and-true (all small_bytes (elements_from log (at + 4) (u32 log at)))

  pub stack-small : {n : ℕ} {b : Bool} → n ≡ u32 log at → n ≤ 4096 → b ≡ all small_bytes (elements_from log (at + 4) n) → b ≡ small_stack (stack_in log at)
  stack-small {n} e h f =
      let few : length (stack_in log at) ≤ max_elements = omega (arith, stack-many) in
      rw (le-leb (length (stack_in log at)) max_elements few)
      (f ∙ ap (λ (k : ℕ). all small_bytes (elements_from log (at + 4) k)) e ∙ sym stack-all)

  pub stack-large : {n : ℕ} → n ≡ u32 log at → 4096 < n → false ≡ small_stack (stack_in log at)
  stack-large e h =
      let many : max_elements < length (stack_in log at) = omega (arith, stack-many) in
      rw (lt-leb (length (stack_in log at)) max_elements many) refl

  -- the elements and the outcomes end where the stack and the count of outcomes do
  pub stack-lies : {n : ℕ} → n ≡ u32 log at → stack_end log at ≤ length log → elements_end log (at + 4) n ≤ length log
  unfolding stack_end
  stack-lies e h = rw e h

  pub outcomes-lie : {n : ℕ} → n ≡ u32 log at → outcomes_past log at ≤ length log → outcomes_end log (at + 4) n ≤ length log
  unfolding outcomes_past
  outcomes-lie e h = rw e h

  pub outcomes-small : {n : ℕ} {b : Bool} → n ≡ u32 log at → b ≡ all small_outcome (outcomes_from log (at + 4) n) → b ≡ all small_outcome (outcomes_in log at)
  unfolding outcomes_in
  outcomes-small e f = f ∙ ap (λ (k : ℕ). all small_outcome (outcomes_from log (at + 4) k)) e

  -- ---- a recorded end, by the byte in front

  pub end-aborts : get_or log at 0 ≡ 0 → end_in log at ≡ aborts
  unfolding end_in
  end-aborts e = rw (eq-eqb (get_or log at 0) 0 e) refl

  pub end_leaves : (get_or log at 0 ≡ 0 → ⊥) → end_in log at ≡ leaves (stack_in log (at + 1))
  unfolding end_in
  end_leaves e = rw (ne_eqb (get_or log at 0) 0 e) refl

  pub past-leaves : (get_or log at 0 ≡ 0 → ⊥) → end_past log at ≤ length log → stack_end log (at + 1) ≤ length log
  unfolding end_past
  past-leaves e h = rw (ne_eqb (get_or log at 0) 0 e) at h

-- ---- an entry's limits

module _ (log : Bytes) (e : EntryAt) {s : Bool} (is-s : s ≡ small_stack (stack_in log e.start)) where
  pub entry_stack : s ≡ false → false ≡ small_entry (entry_in log e)
  unfolding small_entry entry_in
  entry_stack n = let no : small_stack (stack_in log e.start) ≡ false = sym is-s ∙ n in rw no refl

  pub entry-outcomes : {o : Bool} → s ≡ true → o ≡ all small_outcome (outcomes_in log e.outcomes) → o ≡ false → false ≡ small_entry (entry_in log e)
  unfolding small_entry entry_in
  entry-outcomes y k n =
      let a : small_stack (stack_in log e.start) ≡ true = sym is-s ∙ y in
      let b : all small_outcome (outcomes_in log e.outcomes) ≡ false = sym k ∙ n in
      rw (a, b) refl

  pub entry-end : {o x : Bool} → s ≡ true → o ≡ all small_outcome (outcomes_in log e.outcomes) → o ≡ true → x ≡ small_end (end_in log e.ending)
      → x ≡ small_entry (entry_in log e)
  unfolding small_entry entry_in
  entry-end y k z l =
      let a : small_stack (stack_in log e.start) ≡ true = sym is-s ∙ y in
      let b : all small_outcome (outcomes_in log e.outcomes) ≡ true = sym k ∙ z in
      rw (a, b) l

-- ---- loading, and a run's beginning

pub loaded : (log before after : List ℕ) (at : ℕ) {n : ℕ} → n ≡ u32 log at → Loaded log before after n (reverse (elements_from log (at + 4) n))
    → Loaded log before after n (stack_in log at)
unfolding stack_in
loaded log before after at e l =
    record { is = l.is ∙ ap (λ (k : ℕ). reverse (elements_from log (at + 4) k)) e; few = l.few; same = l.same }

pub begun : (log memory : List ℕ) (n at : ℕ) {left : ℕ} {r : Machine} → n ≤ 4096 → 8192 ≤ length memory → outcomes_past log at ≤ length log
    → left ≡ u32 log at → r ≡ record { main = n; alt = 0; at = at + 4; left = left; status = Status.Going } → Begins log memory n at r
unfolding run_of stack_of outcomes_in outcomes_past
begun log memory n at few room lies e is =
    record {
      says = λ alt. rw (is, e) refl;
      fits = rw is (record { few = omega arith; room = room; asks = record { ends = rw e lies } });
    }

-- ---- the same stack

and-false : (b : Bool) → b && false ≡ false
and-false true = refl
and-false false = refl

no-match : (s t : Stack) → (length s ≡ length t → ⊥) → same_stack s t ≡ false
unfolding same_stack
no-match [] [] h = absurd (h refl)
no-match [] (y ∷ t) h = refl
no-match (x ∷ s) [] h = refl
no-match (x ∷ s) (y ∷ t) h = rw (no-match s t λ e. h (ap suc e)) (and-false (same x y))

pub other-count : (log memory : List ℕ) (at : ℕ) {n count : ℕ} → count ≡ u32 log at → (count ≡ n → ⊥)
    → false ≡ same_stack (stack_of log memory n) (stack_in log at)
other-count log memory at {n} {count} e h =
    sym (no-match (stack_of log memory n) (stack_in log at) λ l. h (e ∙ sym (stack-many log at) ∙ sym l ∙ height log memory n))

pub same_count : (log memory : List ℕ) (at : ℕ) {n count : ℕ} {b : Bool} → count ≡ u32 log at → count ≡ n
    → b ≡ same_stack (stack_of log memory n) (reverse (elements_from log (at + 4) n)) → b ≡ same_stack (stack_of log memory n) (stack_in log at)
unfolding stack_in
same_count log memory at {n} e h f =
    f ∙ ap (λ (k : ℕ). same_stack (stack_of log memory n) (reverse (elements_from log (at + 4) k))) (sym h ∙ e)

-- ---- the verdict

-- outcomes that are left, and none
some_left : (log : List ℕ) (at n : ℕ) → 0 < n → (f : List Outcome → ℕ)
    → ((r : Outcome) (rs : List Outcome) → f (r ∷ rs) ≡ 2) → f (outcomes_from log at n) ≡ 2
unfolding outcomes_from
some_left log at zero h f k = absurd (omega arith)
some_left log at (suc n) h f k = k _ _

module _ (log memory : List ℕ) (m : Machine) (x : End) where
  pub judge-going : {b : Bool} → m.status ≡ Status.Going → b ≡ ltb 0 m.left → b ≡ true → (alt : List ℕ) → 2 ≡ verdict_number (judged (run_of log memory alt m) x)
  unfolding run_of
  judge-going e is t alt =
      rw e (sym (some_left log m.at m.left (ltb-true 0 m.left (sym is ∙ t))
      (λ rs. verdict_number (judged (stands (state (stack_of log memory m.main) (stack_of log alt m.alt) []) rs) x)) (λ r rs. refl)))

  pub judge-aborted : {b : Bool} → m.status ≡ Status.Aborted → b ≡ ltb 0 m.left → b ≡ true → (alt : List ℕ) → 2 ≡ verdict_number (judged (run_of log memory alt m) x)
  unfolding run_of
  judge-aborted e is t alt =
      rw e (sym (some_left log m.at m.left (ltb-true 0 m.left (sym is ∙ t)) (λ rs. verdict_number (judged (stands aborted rs) x)) (λ r rs. refl)))

  pub judge-stuck : m.status ≡ Status.Stuck → (alt : List ℕ) → 2 ≡ verdict_number (judged (run_of log memory alt m) x)
  unfolding run_of
  judge-stuck e alt = rw e refl

  pub judge-large : m.status ≡ Status.Large → (alt : List ℕ) → 3 ≡ verdict_number (judged (run_of log memory alt m) x)
  unfolding run_of
  judge-large e alt = rw e refl

  no-left : {b : Bool} → b ≡ ltb 0 m.left → b ≡ false → outcomes_from log m.at m.left ≡ []
  unfolding outcomes_from
  no-left is t = let z : m.left ≡ 0 = omega (arith, ltb-false 0 m.left (sym is ∙ t)) in rw z refl

  pub judge-end : {r : ℕ} {b : Bool} → m.status ≡ Status.Going → b ≡ ltb 0 m.left → b ≡ false
      → ((a : Stack) → r ≡ verdict_number (judged (stands (state (stack_of log memory m.main) a []) []) x))
      → (alt : List ℕ) → r ≡ verdict_number (judged (run_of log memory alt m) x)
  unfolding run_of
  judge-end e is t f alt = rw (e, no-left is t) (f (stack_of log alt m.alt))

  pub judge-abort : {r : ℕ} {b : Bool} → m.status ≡ Status.Aborted → b ≡ ltb 0 m.left → b ≡ false → r ≡ verdict_number (judged (stands aborted []) x)
      → (alt : List ℕ) → r ≡ verdict_number (judged (run_of log memory alt m) x)
  unfolding run_of
  judge-abort e is t f alt = rw (e, no-left is t) f

module _ (log : List ℕ) (at : ℕ) where
  pub abort-agrees : get_or log at 0 ≡ 0 → 0 ≡ verdict_number (judged (stands aborted []) (end_in log at))
  abort-agrees e = rw (end-aborts log at e) refl

  pub abort-differs : (get_or log at 0 ≡ 0 → ⊥) → 1 ≡ verdict_number (judged (stands aborted []) (end_in log at))
  abort-differs e = rw (end_leaves log at e) refl

  module _ (memory : List ℕ) (n : ℕ) (a : Stack) where
    abbrev ended : Run
    ended = stands (state (stack_of log memory n) a []) []

    pub stack-aborts : get_or log at 0 ≡ 0 → 1 ≡ verdict_number (judged ended (end_in log at))
    stack-aborts e = rw (end-aborts log at e) refl

    pub stack-agrees : (get_or log at 0 ≡ 0 → ⊥) → true ≡ same_stack (stack_of log memory n) (stack_in log (at + 1))
        → 0 ≡ verdict_number (judged ended (end_in log at))
    stack-agrees e f = rw (end_leaves log at e, ← f) refl

    pub stack-differs : (get_or log at 0 ≡ 0 → ⊥) → false ≡ same_stack (stack_of log memory n) (stack_in log (at + 1))
        → 1 ≡ verdict_number (judged ended (end_in log at))
    stack-differs e f = rw (end_leaves log at e, ← f) refl
