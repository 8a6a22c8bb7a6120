-- A stack in memory: its top, its height, and what a store leaves of it.
use Prim.Native.Nat.{ℕ, zero, suc, ◌+◌, ◌*◌, ◌-◌, ◌≤◌, ◌<◌}
use native.Mathlib.Omega.{arith}
use mathlib.Core.Bool.{Bool, true, false, cond}
use mathlib.Core.List.{List, [], ◌∷◌}
use mathlib.Core.Path.{◌≡◌, refl, ◌∙◌, sym, ap}
use borrow.Author.Tests.{le-leb, lt-leb}
use lib.Dec.{leb}
use lib.ListN.{length, get_or, set, length-set}
use lib.Seq.{get_or-set_same, get_or-set_other, lt-length-set}
use Rattle.script_machine.specs.Numbers.{Bytes, Stack}
use Rattle.script_machine.specs.Machine.{State, aborted, state}
use Rattle.spend_machine.specs.Entries.{Outcome}
use Rattle.spend_machine.specs.Recorded.{Run, stands, large, within}
use Rattle.spend_elements.specs.declared.Element.{Element}
use Rattle.spend_elements.specs.Elements.{bytes_in}
use Rattle.spend_stack.specs.Machines.{element_at, put_element, stack_of}

module _ (memory : List ℕ) where
  pub put-length : (i : ℕ) (e : Element) → length (put_element memory i e) ≡ length memory
  put-length i e = simp length-set

  pub put_same : (i : ℕ) (e : Element) → i < 4096 → 8192 ≤ length memory → element_at (put_element memory i e) i ≡ e
  put_same i e h room =
      let apart : 2 * i ≡ 2 * i + 1 → ⊥ = λ d. omega arith in
      let here : 2 * i < length memory = omega arith in
      let there : 2 * i + 1 < length (set memory (2 * i) e.at) = simp length-set (omega arith) in
      rw (
        get_or-set_same (set memory (2 * i) e.at) (2 * i + 1) e.len 0 there,
        get_or-set_other (set memory (2 * i) e.at) (2 * i + 1) (2 * i) e.len 0 apart,
        get_or-set_same memory (2 * i) e.at 0 here,
      )

  pub put_other : (i j : ℕ) (e : Element) → j < i → element_at (put_element memory i e) j ≡ element_at memory j
  put_other i j e h =
      let a : 2 * j ≡ 2 * i → ⊥ = λ d. omega arith in
      let b : 2 * j ≡ 2 * i + 1 → ⊥ = λ d. omega arith in
      let c : 2 * j + 1 ≡ 2 * i → ⊥ = λ d. omega arith in
      let k : 2 * j + 1 ≡ 2 * i + 1 → ⊥ = λ d. omega arith in
      rw (
        get_or-set_other (set memory (2 * i) e.at) (2 * i + 1) (2 * j) e.len 0 b,
        get_or-set_other memory (2 * i) (2 * j) e.at 0 a,
        get_or-set_other (set memory (2 * i) e.at) (2 * i + 1) (2 * j + 1) e.len 0 k,
        get_or-set_other memory (2 * i) (2 * j + 1) e.at 0 c,
      )

module _ (log memory : List ℕ) where
  pub height : (n : ℕ) → length (stack_of log memory n) ≡ n
  unfolding stack_of
  height zero = refl
  height (suc n) = ap suc (height n)

  -- a store leaves what is below it
  pub put-below : (n i : ℕ) (e : Element) → n ≤ i → stack_of log (put_element memory i e) n ≡ stack_of log memory n
  unfolding stack_of
  put-below zero i e h = refl
  put-below (suc n) i e h = rw (put_other memory i n e (omega arith), put-below n i e (omega arith))

  pub put-top : (n : ℕ) (e : Element) → n < 4096 → 8192 ≤ length memory
      → stack_of log (put_element memory n e) (suc n) ≡ bytes_in log e ∷ stack_of log memory n
  unfolding stack_of
  put-top n e h room = rw (put_same memory n e h room, put-below n n e (omega arith))

  -- no element, one, two and three on top
  pub none-on : (n : ℕ) → n < 1 → stack_of log memory n ≡ []
  unfolding stack_of
  none-on zero h = refl
  none-on (suc n) h = absurd (omega arith)

  pub one_on : (n : ℕ) → 1 ≤ n → stack_of log memory n ≡ bytes_in log (element_at memory (n - 1)) ∷ stack_of log memory (n - 1)
  unfolding stack_of
  one_on zero h = absurd (omega arith)
  one_on (suc n) h = let e : suc n - 1 ≡ n = omega arith in rw e

  pub two-on : (n : ℕ) → 2 ≤ n
      → stack_of log memory n
      ≡ bytes_in log (element_at memory (n - 1)) ∷ bytes_in log (element_at memory (n - 2)) ∷ stack_of log memory (n - 2)
  two-on n h =
      let e : n - 1 - 1 ≡ n - 2 = omega arith in
      one_on n (omega arith)
      ∙ ap (λ (s : Stack). bytes_in log (element_at memory (n - 1)) ∷ s) (one_on (n - 1) (omega arith) ∙ rw e)

  pub three-on : (n : ℕ) → 3 ≤ n
      → stack_of log memory n
      ≡ bytes_in log (element_at memory (n - 1)) ∷ bytes_in log (element_at memory (n - 2)) ∷ bytes_in log (element_at memory (n - 3))
      ∷ stack_of log memory (n - 3)
  three-on n h =
      let e : n - 2 - 1 ≡ n - 3 = omega arith in
      two-on n (omega arith)
      ∙ ap (λ (s : Stack). bytes_in log (element_at memory (n - 1)) ∷ bytes_in log (element_at memory (n - 2)) ∷ s)
      (one_on (n - 2) (omega arith) ∙ rw e)

  pub one_only : (n : ℕ) → 1 ≤ n → n < 2 → stack_of log memory n ≡ bytes_in log (element_at memory (n - 1)) ∷ []
  one_only n h k = one_on n h ∙ ap (λ (s : Stack). bytes_in log (element_at memory (n - 1)) ∷ s) (none-on (n - 1) (omega arith))

  pub two-only : (n : ℕ) → 2 ≤ n → n < 3
      → stack_of log memory n ≡ bytes_in log (element_at memory (n - 1)) ∷ bytes_in log (element_at memory (n - 2)) ∷ []
  two-only n h k =
      two-on n h
      ∙ ap (λ (s : Stack). bytes_in log (element_at memory (n - 1)) ∷ bytes_in log (element_at memory (n - 2)) ∷ s) (none-on (n - 2) (omega arith))

-- stacks within the limit and over it
pub within-few : (m a : Stack) (cs : List Bool) (rs : List Outcome) → length m + length a ≤ 4096 → within (state m a cs) rs ≡ stands (state m a cs) rs
within-few m a cs rs h = rw (le-leb (length m + length a) 4096 h)

pub within-many : (m a : Stack) (cs : List Bool) (rs : List Outcome) → 4096 < length m + length a → within (state m a cs) rs ≡ large
within-many m a cs rs h = rw (lt-leb (length m + length a) 4096 h)
