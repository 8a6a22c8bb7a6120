-- Elements and outcomes passed one by one: what is still to come, where it ends, and what it says. Assumes nothing.
use Prim.Native.Nat.{ℕ, zero, suc, ◌+◌, ◌*◌, ◌-◌, ◌≤◌, ◌<◌}
use mathlib.Core.Bool.{Bool, true, false, ◌&&◌, cond}
use mathlib.Core.List.{List, [], ◌∷◌, reverse_aux, reverse}
use mathlib.Core.Path.{◌≡◌, refl, sym, ap, ◌∙◌}
use native.Mathlib.Omega.{arith}
use borrow.Author.Tests.{le-leb, lt-leb, eqb-true}
use lib.Dec.{leb, eqb}
use lib.ListN.{length, get_or, take, drop, length-drop}
use lib.Seq.{length-take-le}
use Rattle.contexts.specs.Lists.{all}
use Rattle.records.specs.Numbers.{u32}
use Rattle.script_machine.specs.Numbers.{Bytes, Stack, same}
use Rattle.script_machine.specs.WorkedRuns.{same_stack}
use Rattle.spend_machine.specs.Entries.{Outcome, no, yes, digest}
use Rattle.spend_machine.specs.Verdicts.{max_bytes, small_bytes, small_outcome}
use Rattle.spend_log.specs.Places.{element_at, digest_by, outcome_at}
use Rattle.spend_log.specs.declared.Part.{Part}
use Rattle.spend_log.specs.declared.OutcomeAt.{OutcomeAt}
use Rattle.spend_elements.specs.declared.Element.{Element}
use Rattle.spend_elements.specs.Elements.{bytes_in}
use Rattle.spend_stack.specs.Outcomes.{outcome_by, outcomes_from, outcomes_end}
use Rattle.spend_stack.specs.Machines as stacks
use Rattle.spend_stack.specs.Machines.{stack_of, put_element}
use Rattle.spend_stack.proofs.Stacks.{put-length, put-top}
use Rattle.spend_asks.proofs.Next.{range, next_more, ends-later}
use Rattle.spend_judge.specs.Places.{element_in, elements_from, elements_end}
use Rattle.spend_judge.specs.Results.{Loaded}
use Rattle.spend_judge.proofs.Entries.{elements-later}

-- all of n, and one fewer
all_left : (n : ℕ) → n - 0 ≡ n
all_left n = omega arith

one_fewer : (n i : ℕ) → i < n → n - i ≡ suc (n - (i + 1))
one_fewer n i h = omega arith

none_left : (n i : ℕ) → n ≤ i → n - i ≡ 0
none_left n i h = omega arith

length_part : (log : Bytes) (at n : ℕ) → at + n ≤ length log → length (take n (drop at log)) ≡ n
length_part log at n h =
    let l : length (drop at log) ≡ length log - at = length-drop at log in
    length-take-le n (drop at log) (omega arith)

-- ---- elements

-- n elements from a place on, of which i are passed: the others begin here, and end where all do
pub record Elements (log : Bytes) (at n to i : ℕ) : Type 0 where
  pub few : i ≤ n
  pub ends : elements_end log to (n - i) ≤ length log

pub elements-begin : (log : Bytes) (at n : ℕ) → elements_end log at n ≤ length log → Elements log at n at 0
elements-begin log at n h = record { few = omega arith; ends = rw (all_left n) h }

module _ {log : Bytes} {at n to i : ℕ} (s : Elements log at n to i) where
  pub elements-in : to ≤ length log
  elements-in = omega (arith, s.ends, elements-later log to (n - i))

  module _ (more : i < n) where
    ends_next : elements_end log to (n - i) ≡ elements_end log (element_at log to).next (n - (i + 1))
    unfolding elements_end
    ends_next = rw (one_fewer n i more)

    pub from_next : elements_from log to (n - i) ≡ element_in log to ∷ elements_from log (element_at log to).next (n - (i + 1))
    unfolding elements_from
    from_next = rw (one_fewer n i more)

    element-whole : to + 4 + u32 log to ≤ length log
    element-whole = omega (arith, s.ends, ends_next, elements-later log (element_at log to).next (n - (i + 1)))

    element-long : length (element_in log to) ≡ u32 log to
    element-long = length_part log (to + 4) (u32 log to) element-whole

    pub elements-more : {part : Part} → part ≡ element_at log to → Elements log at n part.next (i + 1)
    elements-more e = record { few = omega arith; ends = rw (e, ← ends_next) s.ends }

  pub from-done : n ≤ i → elements_from log to (n - i) ≡ []
  unfolding elements_from
  from-done h = rw (none_left n i h)

-- whether all are small
abbrev pub SmallToCome : (log : Bytes) (at n to i : ℕ) → Type 0
SmallToCome log at n to i = all small_bytes (elements_from log to (n - i)) ≡ all small_bytes (elements_from log at n)

pub small-begin : (log : Bytes) (at n : ℕ) → SmallToCome log at n at 0
small-begin log at n = rw (all_left n) refl

module _ {log : Bytes} {at n to i : ℕ} {part : Part} (s : Elements log at n to i) (more : i < n) (e : part ≡ element_at log to) where
  pub small-more : part.len ≤ 520 → SmallToCome log at n to i → SmallToCome log at n part.next (i + 1)
  unfolding all
  small-more h so_far =
      let len : part.len ≡ u32 log to = ap (λ (p : Part). p.len) e in
      let fits : length (element_in log to) ≤ max_bytes = omega (arith, element-long s more) in
      rw e (sym (ap (all small_bytes) (from_next s more) ∙ rw (le-leb (length (element_in log to)) max_bytes fits) refl) ∙ so_far)

  pub small-not : 520 < part.len → SmallToCome log at n to i → false ≡ all small_bytes (elements_from log at n)
  unfolding all
  small-not h so_far =
      let len : part.len ≡ u32 log to = ap (λ (p : Part). p.len) e in
      let long : max_bytes < length (element_in log to) = omega (arith, element-long s more) in
      sym (ap (all small_bytes) (from_next s more) ∙ rw (lt-leb (length (element_in log to)) max_bytes long) refl) ∙ so_far

pub small-done : {log : Bytes} {at n to i : ℕ} → Elements log at n to i → n ≤ i → SmallToCome log at n to i
    → true ≡ all small_bytes (elements_from log at n)
unfolding all
small-done s h so_far = sym (ap (all small_bytes) (from-done s h)) ∙ so_far

-- an element of the log, as one of a stack
element-bytes : (log : Bytes) (to : ℕ) {part : Part} {x : Element} → ((i : ℕ) → get_or log i 0 < 256) → part ≡ element_at log to
    → x ≡ record { at = part.start; len = part.len } → bytes_in log x ≡ element_in log to
element-bytes log to bytes e f = rw (f, e) (range log bytes to)

-- those that are loaded, and over them those to come
pub record LoadToCome (log before after : List ℕ) (at n to i : ℕ) : Type 0 where
  pub those : reverse_aux (elements_from log to (n - i)) (stack_of log after i) ≡ reverse (elements_from log at n)
  pub same : length after ≡ length before

pub load-begin : (log before : List ℕ) (at n : ℕ) → LoadToCome log before before at n at 0
unfolding stack_of
load-begin log before at n = record { those = rw (all_left n) refl; same = refl }

module _ {log before memory after : List ℕ} {at n to i : ℕ} {part : Part} {x : Element} (s : Elements log at n to i) (more : i < n) where
  pub load-more : ((j : ℕ) → get_or log j 0 < 256) → n ≤ 4096 → 8192 ≤ length before → part ≡ element_at log to
      → x ≡ record { at = part.start; len = part.len } → after ≡ put_element memory i x
      → LoadToCome log before memory at n to i → LoadToCome log before after at n part.next (i + 1)
  load-more bytes few room e f put so_far =
      let same = so_far.same in
      let suc-i : i + 1 ≡ suc i = omega arith in
      let top : stack_of log (put_element memory i x) (suc i) ≡ element_in log to ∷ stack_of log memory i =
      put-top log memory i x (omega arith) (omega arith) ∙ ap (λ (y : Bytes). y ∷ stack_of log memory i) (element-bytes log to bytes e f) in
      record {
        those =
            rw (put, e) (ap (λ (k : ℕ). reverse_aux (elements_from log (element_at log to).next (n - (i + 1))) (stack_of log (put_element memory i x) k)) suc-i
            ∙ ap (λ (m : Stack). reverse_aux (elements_from log (element_at log to).next (n - (i + 1))) m) top
            ∙ sym (ap (λ (xs : List Bytes). reverse_aux xs (stack_of log memory i)) (from_next s more)) ∙ so_far.those);
        same = ap length put ∙ put-length memory i x ∙ same;
      }

pub load-done : {log before after : List ℕ} {at n to i : ℕ} → Elements log at n to i → n ≤ i → n ≤ 4096 → LoadToCome log before after at n to i
    → Loaded log before after n (reverse (elements_from log at n))
load-done {log} {before} {after} {at} {n} {to} {i} s h few so_far =
    let l = s.few in
    let is : n ≡ i = omega arith in
    record {
      is =
          ap (stack_of log after) is
          ∙ sym (ap (λ (xs : List Bytes). reverse_aux xs (stack_of log after i)) (from-done s h))
          ∙ so_far.those;
      few = few;
      same = so_far.same;
    }

-- ---- elements against those of a stack in memory

module _ (log memory : List ℕ) where
  -- the elements from number i on are those from a place on
  unfoldable pub same_from : (at i k : ℕ) → Bool
  same_from at i zero = true
  same_from at i (suc k) = same (bytes_in log (stacks.element_at memory i)) (element_in log at) && same_from (element_at log at).next (suc i) k

  exchange : (a b c : Bool) → b && (a && c) ≡ (a && b) && c
  exchange true b c = refl
  exchange false true c = refl
  exchange false false c = refl

  same_over : (k at i : ℕ) (t : Stack)
      → same_stack (stack_of log memory (i + k)) (reverse_aux (elements_from log at k) t) ≡ same_from at i k && same_stack (stack_of log memory i) t
  unfolding same_from elements_from stack_of same_stack
  same_over zero at i t =
      let e : i + 0 ≡ i = omega arith in
      rw e refl
  same_over (suc k) at i t =
      let e : i + suc k ≡ suc i + k = omega arith in
      ap (λ (h : ℕ). same_stack (stack_of log memory h) (reverse_aux (elements_from log (element_at log at).next k) (element_in log at ∷ t))) e
      ∙ same_over k (element_at log at).next (suc i) (element_in log at ∷ t)
      ∙ exchange (same (bytes_in log (stacks.element_at memory i)) (element_in log at)) (same_from (element_at log at).next (suc i) k) (same_stack (stack_of log memory i) t)

  pub same-all : (at n : ℕ) → same_from at 0 n ≡ same_stack (stack_of log memory n) (reverse (elements_from log at n))
  unfolding stack_of same_stack
  same-all at n =
      let z : 0 + n ≡ n = omega arith in
      sym (ap (λ (h : ℕ). same_stack (stack_of log memory h) (reverse (elements_from log at n))) (sym z) ∙ same_over n at 0 [] ∙ and-true (same_from at 0 n))
    where
      and-true : (b : Bool) → b && true ≡ b
      and-true true = refl
      and-true false = refl

  abbrev pub SameToCome : (at n to i : ℕ) → Type 0
  SameToCome at n to i = same_from to i (n - i) ≡ same_from at 0 n

  pub same-begin : (at n : ℕ) → SameToCome at n at 0
  same-begin at n = rw (all_left n) refl

module _ (log memory : List ℕ) (at n to i : ℕ) {part : Part} {x y : Element} (more : i < n) (bytes : (j : ℕ) → get_or log j 0 < 256)
    (e : part ≡ element_at log to) (f : x ≡ record { at = part.start; len = part.len }) (m : y ≡ stacks.element_at memory i) where
  same_next : same_from log memory to i (n - i) ≡ same (bytes_in log y) (bytes_in log x) && same_from log memory part.next (i + 1) (n - (i + 1))
  unfolding same_from
  same_next =
      let suc-i : i + 1 ≡ suc i = omega arith in
      rw (one_fewer n i more, m, element-bytes log to bytes e f, e, suc-i) refl

  pub same_more : same (bytes_in log y) (bytes_in log x) ≡ true → SameToCome log memory at n to i → SameToCome log memory at n part.next (i + 1)
  same_more t so_far = sym (same_next ∙ rw t refl) ∙ so_far

  pub same_not : same (bytes_in log y) (bytes_in log x) ≡ false → SameToCome log memory at n to i
      → false ≡ same_stack (stack_of log memory n) (reverse (elements_from log at n))
  same_not t so_far = sym (same_next ∙ rw t refl) ∙ so_far ∙ same-all log memory at n

pub same-done : (log memory : List ℕ) (at n to i : ℕ) → n ≤ i → SameToCome log memory at n to i
    → true ≡ same_stack (stack_of log memory n) (reverse (elements_from log at n))
unfolding same_from
same-done log memory at n to i h so_far =
    let none : same_from log memory to i (n - i) ≡ true = rw (none_left n i h) refl in
    sym none ∙ so_far ∙ same-all log memory at n

-- ---- outcomes

pub record Outcomes (log : Bytes) (at n to i : ℕ) : Type 0 where
  pub few : i ≤ n
  pub ends : outcomes_end log to (n - i) ≤ length log

pub outcomes-begin : (log : Bytes) (at n : ℕ) → outcomes_end log at n ≤ length log → Outcomes log at n at 0
outcomes-begin log at n h = record { few = omega arith; ends = rw (all_left n) h }

abbrev pub DigestsToCome : (log : Bytes) (at n to i : ℕ) → Type 0
DigestsToCome log at n to i = all small_outcome (outcomes_from log to (n - i)) ≡ all small_outcome (outcomes_from log at n)

pub digests-begin : (log : Bytes) (at n : ℕ) → DigestsToCome log at n at 0
digests-begin log at n = rw (all_left n) refl

module _ {log : Bytes} {at n to i : ℕ} (s : Outcomes log at n to i) where
  module _ (more : i < n) where
    outcomes-next : outcomes_end log to (n - i) ≡ outcomes_end log (outcome_at log to).next (n - (i + 1))
    unfolding outcomes_end
    outcomes-next = rw (one_fewer n i more)

    of-next : outcomes_from log to (n - i) ≡ outcome_by log (outcome_at log to) ∷ outcomes_from log (outcome_at log to).next (n - (i + 1))
    unfolding outcomes_from
    of-next = rw (one_fewer n i more)

    outcome-whole : (outcome_at log to).next ≤ length log
    outcome-whole = omega (arith, s.ends, outcomes-next, ends-later log (outcome_at log to).next (n - (i + 1)))

    pub outcomes-in : to < length log
    outcomes-in = omega (arith, outcome-whole, next_more log to)

    pub outcomes-more : {o : OutcomeAt} → o ≡ outcome_at log to → Outcomes log at n o.next (i + 1)
    outcomes-more e = record { few = omega arith; ends = rw (e, ← outcomes-next) s.ends }

    -- an outcome is small as its digest is
    small-digest : (sort : ℕ) (b : Bool) → eqb sort 2 ≡ b → (digest_by log to sort).next ≤ length log
        → small_outcome (outcome_by log (record { sort = sort; digest = digest_by log to sort; next = (digest_by log to sort).next }))
        ≡ leb (digest_by log to sort).len max_bytes
    small-digest sort true t w =
        let long : to + 1 + 4 + u32 log (to + 1) ≤ length log = rw t at w in
        rw t (ap (λ (k : ℕ). leb k max_bytes) (length_part log (to + 1 + 4) (u32 log (to + 1)) long))
    small-digest sort false t w = rw t (by_one (eqb sort 1))
      where
        by_one : (c : Bool) → small_outcome (cond c yes no) ≡ leb 0 max_bytes
        by_one true = refl
        by_one false = refl

    digest-small : {o : OutcomeAt} → o ≡ outcome_at log to → small_outcome (outcome_by log (outcome_at log to)) ≡ leb o.digest.len max_bytes
    digest-small e = rw e (small-digest (get_or log to 0) (eqb (get_or log to 0) 2) refl outcome-whole)

    pub digests-more : {o : OutcomeAt} → o ≡ outcome_at log to → o.digest.len ≤ 520 → DigestsToCome log at n to i
        → DigestsToCome log at n o.next (i + 1)
    unfolding all
    digests-more {o} e h so_far =
        let one = digest-small e ∙ le-leb o.digest.len max_bytes h in
        rw e (sym (ap (all small_outcome) of-next ∙ rw one refl) ∙ so_far)

    pub digests-not : {o : OutcomeAt} → o ≡ outcome_at log to → 520 < o.digest.len → DigestsToCome log at n to i
        → false ≡ all small_outcome (outcomes_from log at n)
    unfolding all
    digests-not {o} e h so_far =
        let one = digest-small e ∙ lt-leb o.digest.len max_bytes h in
        sym (ap (all small_outcome) of-next ∙ rw one refl) ∙ so_far

  pub digests-done : n ≤ i → DigestsToCome log at n to i → true ≡ all small_outcome (outcomes_from log at n)
  unfolding all outcomes_from
  digests-done h so_far =
      let none : all small_outcome (outcomes_from log to (n - i)) ≡ true = rw (none_left n i h) refl in
      sym none ∙ so_far
