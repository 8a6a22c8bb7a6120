-- The parts of an entry are read where they stand: elements, stacks, outcomes and recorded ends. Assumes nothing.
use Prim.Native.Nat.{ℕ, zero, suc, ◌+◌, ◌-◌, ◌≤◌, ◌<◌}
use mathlib.Core.Bool.{Bool, true, false, cond}
use mathlib.Core.List.{List, [], ◌∷◌, reverse}
use Rattle.std.specs.Prelude.{Option, None, Some}
use mathlib.Core.Path.{◌≡◌, refl, sym, ap, ◌∙◌}
use native.Mathlib.Omega.{arith}
use borrow.Author.Tests.{leb-true, leb-false, eq-eqb, ne_eqb}
use lib.Dec.{leb, eqb}
use lib.ListN.{length, get_or, take, drop}
use Rattle.records.specs.Numbers.{u32}
use Rattle.script_machine.specs.Numbers.{Bytes, Stack}
use Rattle.spend_machine.specs.Entries.{Outcome, no, yes, digest, End, aborts, leaves}
use Rattle.spend_log.specs.Readers.{Read, Reader, give, broken, onward, ◌>>=◌, block, byte, number, several, counted}
use Rattle.spend_log.specs.Logs.{element, elements, outcome_of, outcome, end_of, ending}
use Rattle.spend_log.specs.Places.{place_of, element_at, digest_by, outcome_at}
use Rattle.spend_log.proofs.Passing.{some_same, place-passed}
use Rattle.spend_log.proofs.Parts.{block-found, block-missing, number_short, number-there, byte-found, byte-missing, Is}
use Rattle.spend_stack.specs.Outcomes.{outcome_by, outcomes_from, outcomes_end}
use Rattle.spend_judge.specs.Places.{element_in, elements_from, elements_end, stack_in, stack_end, outcomes_in, outcomes_past, end_in, end_past}

never : {A B : Type 0} {x : B} → None ≡ Some x → A
never e = absurd (let z : ◌≡◌ {A = ℕ} 0 1 = cc in omega arith)

-- ---- two readers in a row

-- the first read this, and the second the whole
pub record Went {A B : Type 0} (o : Option (Read A)) (next : A → Reader B) (g : Read B) : Type 0 where
  pub first : Read A
  pub reads : o ≡ Some first
  pub then : next first.value first.behind ≡ Some g

pub went : {A B : Type 0} (o : Option (Read A)) (next : A → Reader B) (g : Read B) → onward o next ≡ Some g → Went o next g
went None next g e = never e
went (Some a) next g e = record { first = a; reads = refl; then = e }

-- what a reader gave, and where
given : {A : Type 0} {log : Bytes} {x y : A} {s : Bytes} {next : ℕ} {g : Read A} → give x s ≡ Some g → x ≡ y → s ≡ drop next log → next ≤ length log
    → Is g log y next
given e v b w =
    let f = sym (some_same e) in
    record { value = ap (λ r. r.value) f ∙ v; behind = ap (λ r. r.behind) f ∙ b; within = w }

-- the place where a value that was read ends
pub place_read : {A : Type 0} (r : Reader A) (log : Bytes) (at : ℕ) {f : Read A} {x : A} {next : ℕ} → r (drop at log) ≡ Some f → Is f log x next
    → place_of r log at ≡ Some next
place_read r log at {f} {x} {next} e is =
    place-passed r log at {v = f.value} (e ∙ ap (λ (s : Bytes). Some (record { value = f.value; behind = s })) is.behind) is.within

module _ (log : Bytes) where
  -- ---- numbers and elements

  pub number_read : (at : ℕ) → at ≤ length log → (g : Read ℕ) → number (drop at log) ≡ Some g → Is g log (u32 log at) (at + 4)
  number_read at h g e = by-room (leb (at + 4) (length log)) refl
    where
      by-room : (t : Bool) → leb (at + 4) (length log) ≡ t → Is g log (u32 log at) (at + 4)
      by-room true t =
          let l = leb-true (at + 4) (length log) t in
          given (sym (number-there log at l) ∙ e) refl refl l
      by-room false t = never (sym (number_short log at h (leb-false (at + 4) (length log) t)) ∙ e)

  block_read : (n at : ℕ) → at ≤ length log → (g : Read Bytes) → block n (drop at log) ≡ Some g → Is g log (take n (drop at log)) (at + n)
  block_read n at h g e = by-room (leb (at + n) (length log)) refl
    where
      by-room : (t : Bool) → leb (at + n) (length log) ≡ t → Is g log (take n (drop at log)) (at + n)
      by-room true t =
          let l = leb-true (at + n) (length log) t in
          given (sym (block-found n log at l) ∙ e) refl refl l
      by-room false t = never (sym (block-missing n log at (leb-false (at + n) (length log) t) h) ∙ e)

  pub element-read : (at : ℕ) → at ≤ length log → (g : Read Bytes) → element (drop at log) ≡ Some g
      → Is g log (element_in log at) (element_at log at).next
  unfolding element
  element-read at h g e =
      let w = went (number (drop at log)) block g e in
      let n = number_read at h w.first w.reads in
      block_read (u32 log at) (at + 4) n.within g (sym (ap (λ (s : Bytes). block (u32 log at) s) n.behind)
      ∙ sym (ap (λ (k : ℕ). block k w.first.behind) n.value) ∙ w.then)

  -- ---- several, one behind the other

  elements-read : (n at : ℕ) → at ≤ length log → (g : Read (List Bytes)) → several element n (drop at log) ≡ Some g
      → Is g log (elements_from log at n) (elements_end log at n)
  unfolding several elements_from elements_end
  elements-read zero at h g e = given e refl refl h
  elements-read (suc n) at h g e =
      let w = went (element (drop at log)) _ g e in
      let x = element-read at h w.first w.reads in
      let v = went (several element n w.first.behind) _ g w.then in
      let xs = elements-read n (element_at log at).next x.within v.first (ap (several element n) (sym x.behind) ∙ v.reads) in
      given v.then (ap (λ (y : Bytes). y ∷ v.first.value) x.value ∙ ap (λ (ys : List Bytes). element_in log at ∷ ys) xs.value) xs.behind
      xs.within

  pub stack-read : (at : ℕ) → at ≤ length log → (g : Read Stack) → elements (drop at log) ≡ Some g → Is g log (stack_in log at) (stack_end log at)
  unfolding elements counted stack_in stack_end
  stack-read at h g e =
      let w = went (counted element (drop at log)) _ g e in
      let v = went (number (drop at log)) (several element) w.first w.reads in
      let n = number_read at h v.first v.reads in
      let xs = elements-read (u32 log at) (at + 4) n.within w.first (sym (ap (several element (u32 log at)) n.behind)
      ∙ sym (ap (λ (k : ℕ). several element k v.first.behind) n.value) ∙ v.then) in
      given w.then (ap reverse xs.value) xs.behind xs.within

  -- ---- outcomes

  by-sort : (at : ℕ) → at + 1 ≤ length log → (g : Read Outcome) (sort : ℕ) → outcome_of sort (drop (at + 1) log) ≡ Some g
      → Is g log (outcome_by log (record { sort = sort; digest = digest_by log at sort; next = (digest_by log at sort).next })) (digest_by log at sort).next
  unfolding outcome_of
  by-sort at l g zero e = given e refl refl l
  by-sort at l g (suc zero) e = given e refl refl l
  by-sort at l g (suc (suc zero)) e =
      let w = went (element (drop (at + 1) log)) (λ bytes. give (digest bytes)) g e in
      let x = element-read (at + 1) l w.first w.reads in
      given w.then (ap digest x.value) x.behind x.within
  by-sort at l g (suc (suc (suc n))) e =
      let m = suc (suc (suc n)) in
      never (simp (ne_eqb m 0 (λ q. omega arith), ne_eqb m 1 (λ q. omega arith), ne_eqb m 2 (λ q. omega arith)) at e)

  pub outcome-read : (at : ℕ) → at ≤ length log → (g : Read Outcome) → outcome (drop at log) ≡ Some g
      → Is g log (outcome_by log (outcome_at log at)) (outcome_at log at).next
  unfolding outcome
  outcome-read at h g e = by-room (leb (at + 1) (length log)) refl
    where
      by-room : (t : Bool) → leb (at + 1) (length log) ≡ t → Is g log (outcome_by log (outcome_at log at)) (outcome_at log at).next
      by-room true t =
          let l = leb-true (at + 1) (length log) t in
          by-sort at l g (get_or log at 0) (sym (ap (λ o. onward o outcome_of) (byte-found log at (omega arith))) ∙ e)
      by-room false t =
          let l = leb-false (at + 1) (length log) t in
          never (sym (ap (λ o. onward o outcome_of) (byte-missing log at (omega arith))) ∙ e)

  several-read : (n at : ℕ) → at ≤ length log → (g : Read (List Outcome)) → several outcome n (drop at log) ≡ Some g
      → Is g log (outcomes_from log at n) (outcomes_end log at n)
  unfolding several outcomes_from outcomes_end
  several-read zero at h g e = given e refl refl h
  several-read (suc n) at h g e =
      let w = went (outcome (drop at log)) _ g e in
      let x = outcome-read at h w.first w.reads in
      let v = went (several outcome n w.first.behind) _ g w.then in
      let xs = several-read n (outcome_at log at).next x.within v.first (ap (several outcome n) (sym x.behind) ∙ v.reads) in
      given v.then (ap (λ (y : Outcome). y ∷ v.first.value) x.value ∙ ap (λ (ys : List Outcome). outcome_by log (outcome_at log at) ∷ ys) xs.value)
      xs.behind xs.within

  pub outcomes-read : (at : ℕ) → at ≤ length log → (g : Read (List Outcome)) → counted outcome (drop at log) ≡ Some g
      → Is g log (outcomes_in log at) (outcomes_past log at)
  unfolding counted outcomes_in outcomes_past
  outcomes-read at h g e =
      let v = went (number (drop at log)) (several outcome) g e in
      let n = number_read at h v.first v.reads in
      several-read (u32 log at) (at + 4) n.within g (sym (ap (several outcome (u32 log at)) n.behind)
      ∙ sym (ap (λ (k : ℕ). several outcome k v.first.behind) n.value) ∙ v.then)

  -- ---- recorded ends

  end_by : (at : ℕ) → at + 1 ≤ length log → (g : Read End) (sort : ℕ) → end_of sort (drop (at + 1) log) ≡ Some g
      → Is g log (cond (eqb sort 0) aborts (leaves (stack_in log (at + 1)))) (cond (eqb sort 0) (at + 1) (stack_end log (at + 1)))
  unfolding end_of
  end_by at l g zero e = given e refl refl l
  end_by at l g (suc zero) e =
      let w = went (elements (drop (at + 1) log)) (λ m. give (leaves m)) g e in
      let x = stack-read (at + 1) l w.first w.reads in
      given w.then (ap leaves x.value) x.behind x.within
  end_by at l g (suc (suc n)) e =
      let m = suc (suc n) in
      never (simp (ne_eqb m 0 (λ q. omega arith), ne_eqb m 1 (λ q. omega arith)) at e)

  pub end_read : (at : ℕ) → at ≤ length log → (g : Read End) → ending (drop at log) ≡ Some g → Is g log (end_in log at) (end_past log at)
  unfolding ending end_in end_past
  end_read at h g e = by-room (leb (at + 1) (length log)) refl
    where
      by-room : (t : Bool) → leb (at + 1) (length log) ≡ t
          → Is g log (cond (eqb (get_or log at 0) 0) aborts (leaves (stack_in log (at + 1)))) (cond (eqb (get_or log at 0) 0) (at + 1) (stack_end log (at + 1)))
      by-room true t =
          let l = leb-true (at + 1) (length log) t in
          end_by at l g (get_or log at 0) (sym (ap (λ o. onward o end_of) (byte-found log at (omega arith))) ∙ e)
      by-room false t =
          let l = leb-false (at + 1) (length log) t in
          never (sym (ap (λ o. onward o end_of) (byte-missing log at (omega arith))) ∙ e)
