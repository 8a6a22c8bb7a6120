-- The entry that is read at a place is the one that stands there. Assumes nothing.
use Prim.Native.Nat.{ℕ, zero, suc, ◌+◌, ◌≤◌, ◌<◌}
use mathlib.Core.Bool.{Bool, true, false, cond}
use mathlib.Core.List.{List}
use Rattle.std.specs.Prelude.{Some, Option}
use mathlib.Core.Path.{◌≡◌, refl, sym, ap, ◌∙◌}
use native.Mathlib.Omega.{arith}
use lib.Dec.{eqb}
use lib.ListN.{length, get_or, drop}
use Rattle.records.specs.Numbers.{u32}
use Rattle.script_machine.specs.Numbers.{Bytes, Stack}
use Rattle.spend_machine.specs.Entries.{Outcome, End, Entry}
use Rattle.spend_log.specs.Readers.{Read, number, counted}
use Rattle.spend_log.specs.Logs.{elements, outcome, ending, entry}
use Rattle.spend_log.specs.Places.{place_of, element_at}
use Rattle.spend_log.proofs.Passing.{some_same}
use Rattle.spend_log.proofs.Parts.{Is}
use Rattle.spend_asks.proofs.Next.{ends-later}
use Rattle.spend_judge.specs.Places.{elements_from, elements_end, stack_in, stack_end, outcomes_in, outcomes_past, end_in, end_past, entry_at, entry_in, Lie}
use Rattle.std.specs.Option.{unwrap_or}
use Rattle.spend_judge.specs.declared.EntryAt.{EntryAt}
use Rattle.spend_judge.proofs.Readings.{went, place_read, number_read, stack-read, outcomes-read, end_read}

-- ---- each part ends behind where it begins

module _ (log : Bytes) where
  pub elements-later : (at n : ℕ) → at ≤ elements_end log at n
  unfolding elements_end
  elements-later at zero = omega arith
  elements-later at (suc n) = omega (arith, elements-later (element_at log at).next n)

  pub stack-later : (at : ℕ) → at + 4 ≤ stack_end log at
  unfolding stack_end
  stack-later at = elements-later (at + 4) (u32 log at)

  pub outcomes-later : (at : ℕ) → at + 4 ≤ outcomes_past log at
  unfolding outcomes_past
  outcomes-later at = ends-later log (at + 4) (u32 log at)

  pub end_later : (at : ℕ) → at + 1 ≤ end_past log at
  unfolding end_past
  end_later at = go (eqb (get_or log at 0) 0)
    where
      go : (b : Bool) → at + 1 ≤ cond b (at + 1) (stack_end log (at + 1))
      go true = omega arith
      go false = omega (arith, stack-later (at + 1))

-- ---- an entry

-- what was read at a place: the entry that stands there, and where each part ends
pub record EntryRead (log : Bytes) (at : ℕ) (g : Read Entry) : Type 0 where
  pub value : g.value ≡ entry_in log (entry_at log at)
  pub behind : g.behind ≡ drop (entry_at log at).next log
  pub lies : Lie log (entry_at log at)
  pub room : at + 4 ≤ length log
  pub stack-in : stack_end log (at + 4) ≤ length log
  pub outcomes-in : outcomes_past log (stack_end log (at + 4)) ≤ length log
  pub stack-place : place_of elements log (at + 4) ≡ Some (stack_end log (at + 4))
  pub outcomes-place : place_of (counted outcome) log (stack_end log (at + 4)) ≡ Some (outcomes_past log (stack_end log (at + 4)))
  pub end-place : place_of ending log (outcomes_past log (stack_end log (at + 4))) ≡ Some (end_past log (outcomes_past log (stack_end log (at + 4))))

pub entry_read : (log : Bytes) (at : ℕ) → at ≤ length log → (g : Read Entry) → entry (drop at log) ≡ Some g → EntryRead log at g
unfolding entry entry_at entry_in
entry_read log at h g e =
    let w1 = went (number (drop at log)) _ g e in
    let n = number_read log at h w1.first w1.reads in
    let w2 = went (elements w1.first.behind) _ g w1.then in
    let at-stack = ap elements (sym n.behind) ∙ w2.reads in
    let s = stack-read log (at + 4) n.within w2.first at-stack in
    let w3 = went (counted outcome w2.first.behind) _ g w2.then in
    let at-outcomes = ap (counted outcome) (sym s.behind) ∙ w3.reads in
    let os = outcomes-read log (stack_end log (at + 4)) s.within w3.first at-outcomes in
    let w4 = went (ending w3.first.behind) _ g w3.then in
    let at-end = ap ending (sym os.behind) ∙ w4.reads in
    let x = end_read log (outcomes_past log (stack_end log (at + 4))) os.within w4.first at-end in
    let is = sym (some_same w4.then) in
    record {
      value =
          ap (λ (r : Read Entry). r.value) is
          ∙ same-entry n.value s.value os.value x.value;
      behind = ap (λ (r : Read Entry). r.behind) is ∙ x.behind;
      lies = record { start = s.within; outcomes = os.within; ending = x.within };
      room = n.within;
      stack-in = s.within;
      outcomes-in = os.within;
      stack-place = place_read elements log (at + 4) at-stack s;
      outcomes-place = place_read (counted outcome) log (stack_end log (at + 4)) at-outcomes os;
      end-place = place_read ending log (outcomes_past log (stack_end log (at + 4))) at-end x;
    }
  where
    same-entry : {n n' : ℕ} {s s' : Stack} {os os' : List Outcome} {x x' : End} → n ≡ n' → s ≡ s' → os ≡ os' → x ≡ x'
        → ◌≡◌ {A = Entry} (record { number = n; start = s; outcomes = os; recorded = x }) (record { number = n'; start = s'; outcomes = os'; recorded = x' })
    same-entry a b c d = cc

-- where the parts begin, by the places that were told
module _ (log : Bytes) (at : ℕ) {g : Read Entry} (r : EntryRead log at g) where
  pub stack-told : {p : Option ℕ} {a : ℕ} → p ≡ place_of elements log (at + 4) → a ≡ unwrap_or p (at + 4) → a ≡ stack_end log (at + 4)
  stack-told e f = f ∙ ap (λ (x : Option ℕ). unwrap_or x (at + 4)) (e ∙ r.stack-place)

  pub outcomes-told : {p : Option ℕ} {a b : ℕ} → a ≡ stack_end log (at + 4) → p ≡ place_of (counted outcome) log a → b ≡ unwrap_or p a
      → b ≡ outcomes_past log (stack_end log (at + 4))
  outcomes-told {p} {a} k e f = f ∙ ap (λ (x : Option ℕ). unwrap_or x a) (e ∙ ap (place_of (counted outcome) log) k ∙ r.outcomes-place)

  pub end-told : {p : Option ℕ} {b d : ℕ} → b ≡ outcomes_past log (stack_end log (at + 4)) → p ≡ place_of ending log b → d ≡ unwrap_or p b
      → d ≡ end_past log (outcomes_past log (stack_end log (at + 4)))
  end-told {p} {b} k e f = f ∙ ap (λ (x : Option ℕ). unwrap_or x b) (e ∙ ap (place_of ending log) k ∙ r.end-place)

pub parts-told : (log : Bytes) (at : ℕ) {n a b d : ℕ} → n ≡ u32 log at → a ≡ stack_end log (at + 4) → b ≡ outcomes_past log (stack_end log (at + 4))
    → d ≡ end_past log (outcomes_past log (stack_end log (at + 4)))
    → ◌≡◌ {A = EntryAt} (record { number = n; start = at + 4; outcomes = a; ending = b; next = d }) (entry_at log at)
unfolding entry_at
parts-told log at k l m o = cc
