-- The next outcome of a machine.
use Prim.Native.Nat.{ℕ, zero, suc, ◌+◌, ◌-◌, ◌≤◌, ◌<◌}
use native.Mathlib.Omega.{arith}
use mathlib.Core.Bool.{Bool, true, false, cond, false≢true}
use mathlib.Core.List.{List, [], ◌∷◌}
use Rattle.std.specs.Prelude.{Option, None, Some}
use mathlib.Core.Path.{◌≡◌, refl, ◌∙◌, sym, ap}
use borrow.Author.Tests.{eq-eqb, ne_eqb}
use lib.Dec.{eqb}
use lib.ListN.{length, get_or, take, drop}
use Rattle.words.specs.Bytes.{has_bytes}
use Rattle.words.proofs.Bytes.{found-4, missing}
use Rattle.records.specs.Numbers.{u32}
use Rattle.spend_machine.specs.Entries.{Outcome, no, yes, digest}
use Rattle.spend_log.specs.Places.{element_at, digest_by, outcome_at}
use Rattle.spend_log.specs.declared.Part.{Part}
use Rattle.spend_log.specs.declared.OutcomeAt.{OutcomeAt}
use Rattle.spend_elements.specs.Elements.{bytes_in}
use Rattle.spend_elements.proofs.Ranges.{in-range}
use Rattle.spend_stack.specs.declared.Machine.{Machine}
use Rattle.spend_stack.specs.Outcomes.{outcome_by, outcomes_from, outcomes_end}
use Rattle.spend_stack.specs.Machines.{left_of, after_one, Asks, Fits}
use Rattle.spend_asks.specs.declared.Answer.TheVariants as Answer
use Rattle.spend_asks.specs.declared.Said.{Said}
use Rattle.spend_asks.specs.declared.Said.TheVariants as Said
use Rattle.spend_asks.specs.Answers.{answered, first_of, said_by, said_of}

-- a u32 of a log of bytes, and a range of the log as an element
pub u32-small : (log : List ℕ) → ((i : ℕ) → get_or log i 0 < 256) → (at : ℕ) → u32 log at < 4294967296
u32-small log bytes at = go (has_bytes 4 log at) refl
  where
    go : (b : Bool) → has_bytes 4 log at ≡ b → u32 log at < 4294967296
    go true e =
        let b0 = bytes at in let b1 = bytes (at + 1) in let b2 = bytes (at + 2) in let b3 = bytes (at + 3) in
        rw (found-4 log at e) (omega arith)
    go false e = rw (missing 4 log at e) (omega arith)

pub range : (log : List ℕ) → ((i : ℕ) → get_or log i 0 < 256) → (at : ℕ)
    → bytes_in log (record { at = (element_at log at).start; len = (element_at log at).len })
    ≡ take (element_at log at).len (drop (element_at log at).start log)
range log bytes at = in-range log (record { at = (element_at log at).start; len = (element_at log at).len }) (u32-small log bytes at)

module _ (log : List ℕ) where
  -- an outcome takes a byte at least
  pub next_more : (at : ℕ) → at < (outcome_at log at).next
  next_more at = go (eqb (get_or log at 0) 2)
    where
      go : (b : Bool) → at < (cond b (element_at log (at + 1)) (record { start = at + 1; len = 0; next = at + 1 })).next
      go true = omega arith
      go false = omega arith

  pub ends-later : (at n : ℕ) → at ≤ outcomes_end log at n
  unfolding outcomes_end
  ends-later at zero = omega arith
  ends-later at (suc n) = omega (arith, ends-later (outcome_at log at).next n, next_more at)

  ends_next : (at n : ℕ) → 0 < n → outcomes_end log at n ≡ outcomes_end log (outcome_at log at).next (n - 1)
  unfolding outcomes_end
  ends_next at zero h = absurd (omega arith)
  ends_next at (suc n) h = let e : suc n - 1 ≡ n = omega arith in rw e

  pub from_next : (at n : ℕ) → 0 < n
      → outcomes_from log at n ≡ outcome_by log (outcome_at log at) ∷ outcomes_from log (outcome_at log at).next (n - 1)
  unfolding outcomes_from
  from_next at zero h = absurd (omega arith)
  from_next at (suc n) h = let e : suc n - 1 ≡ n = omega arith in rw e

  pub from-none : (at n : ℕ) → n ≡ 0 → outcomes_from log at n ≡ []
  unfolding outcomes_from
  from-none at n e = rw e

  -- the next outcome lies within the log, and what is behind it too
  pub asks-in : (m : Machine) → Asks log m → 0 < m.left → m.at < length log
  asks-in m a h =
      let e = a.ends in
      omega (arith, ends_next m.at m.left h, ends-later (outcome_at log m.at).next (m.left - 1), next_more m.at)

  pub fits_next : (memory : List ℕ) (m : Machine) → Fits log memory m → 0 < m.left → Fits log memory (after_one log m)
  fits_next memory m f h =
      record { few = f.few; room = f.room; asks = record { ends = rw (← ends_next m.at m.left h) f.asks.ends } }

  -- what the first outcome is
  pub record First (m : Machine) (r : Outcome) : Type 0 where
    pub some_left : 0 < m.left
    pub are : left_of log m ≡ r ∷ left_of log (after_one log m)

  first-from : (at n : ℕ) (r : Outcome) → first_of (outcomes_from log at n) ≡ Some r
      → (0 < n) × (outcomes_from log at n ≡ r ∷ outcomes_from log (outcome_at log at).next (n - 1))
  unfolding outcomes_from
  first-from at zero r e = absurd (let z : ◌≡◌ {A = ℕ} 0 1 = cc in omega arith)
  first-from at (suc n) r e =
      let d : suc n - 1 ≡ n = omega arith in
      let is : outcome_by log (outcome_at log at) ≡ r = cc in
      (omega arith, rw (d, is))

  pub first-is : (m : Machine) (r : Outcome) → first_of (left_of log m) ≡ Some r → First m r
  first-is m r e = let p = first-from m.at m.left r e in record { some_left = p.0; are = p.1 }

said-no : (rs : List Outcome) → said_of rs ≡ Said.No → first_of rs ≡ Some no
said-no [] e = absurd (let z : ◌≡◌ {A = ℕ} 0 1 = cc in omega arith)
said-no (no ∷ rs) e = refl
said-no (yes ∷ rs) e = absurd (let z : ◌≡◌ {A = ℕ} 0 1 = cc in omega arith)
said-no (digest x ∷ rs) e = absurd (let z : ◌≡◌ {A = ℕ} 0 1 = cc in omega arith)

said-yes : (rs : List Outcome) → said_of rs ≡ Said.Yes → first_of rs ≡ Some yes
said-yes [] e = absurd (let z : ◌≡◌ {A = ℕ} 0 1 = cc in omega arith)
said-yes (no ∷ rs) e = absurd (let z : ◌≡◌ {A = ℕ} 0 1 = cc in omega arith)
said-yes (yes ∷ rs) e = refl
said-yes (digest x ∷ rs) e = absurd (let z : ◌≡◌ {A = ℕ} 0 1 = cc in omega arith)

pub first-no : (log : List ℕ) (m : Machine) {s : Said} → s ≡ said_of (left_of log m) → s ≡ Said.No → First log m no
first-no log m d e = first-is log m no (said-no (left_of log m) (sym d ∙ e))

pub first-yes : (log : List ℕ) (m : Machine) {s : Said} → s ≡ said_of (left_of log m) → s ≡ Said.Yes → First log m yes
first-yes log m d e = first-is log m yes (said-yes (left_of log m) (sym d ∙ e))

pub above_zero : (n : ℕ) → (n ≡ 0 → ⊥) → 0 < n
above_zero zero h = absurd (h refl)
above_zero (suc n) h = omega arith

-- the next outcome by its byte
module _ (log : List ℕ) (m : Machine) (some_left : 0 < m.left) where
  first_next : first_of (left_of log m) ≡ Some (outcome_by log (outcome_at log m.at))
  first_next = ap first_of (from_next log m.at m.left some_left)

  pub digest-next : {o : OutcomeAt} → ((i : ℕ) → get_or log i 0 < 256) → o ≡ outcome_at log m.at → o.sort ≡ 2
      → answered log (Answer.Digest (record { at = o.digest.start; len = o.digest.len })) ≡ first_of (left_of log m)
  digest-next {o} bytes e s =
      let two : get_or log m.at 0 ≡ 2 = rw e at s in
      let is : (outcome_at log m.at).digest ≡ element_at log (m.at + 1) = rw (eq-eqb (get_or log m.at 0) 2 two) refl in
      let by : outcome_by log (outcome_at log m.at) ≡ digest (take (element_at log (m.at + 1)).len (drop (element_at log (m.at + 1)).start log)) =
      rw (eq-eqb (get_or log m.at 0) 2 two) refl in
      rw e (ap (λ (p : Part). Some (digest (bytes_in log (record { at = p.start; len = p.len })))) is
      ∙ ap (λ (x : List ℕ). Some (digest x)) (range log bytes (m.at + 1))
      ∙ sym (first_next ∙ ap Some by))

  pub yes-next : {o : OutcomeAt} → o ≡ outcome_at log m.at → o.sort ≡ 1 → answered log Answer.Yes ≡ first_of (left_of log m)
  yes-next {o} e s =
      let one : (outcome_at log m.at).sort ≡ 1 = rw e at s in
      let d : (outcome_at log m.at).sort ≡ 2 → ⊥ = λ h. omega arith in
      sym (first_next ∙ rw (ne_eqb (outcome_at log m.at).sort 2 d, eq-eqb (outcome_at log m.at).sort 1 one) refl)

  pub no-next : {o : OutcomeAt} → o ≡ outcome_at log m.at → (o.sort ≡ 2 → ⊥) → (o.sort ≡ 1 → ⊥) → answered log Answer.No ≡ first_of (left_of log m)
  no-next {o} e s u =
      let two : (outcome_at log m.at).sort ≡ 2 → ⊥ = rw e at s in
      let one : (outcome_at log m.at).sort ≡ 1 → ⊥ = rw e at u in
      sym (first_next ∙ rw (ne_eqb (outcome_at log m.at).sort 2 two, ne_eqb (outcome_at log m.at).sort 1 one) refl)
