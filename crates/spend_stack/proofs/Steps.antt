-- What each word that asks nothing does, by the elements on top of the main stack.
use Prim.Native.Nat.{ℕ, zero, suc, ◌+◌, ◌-◌, ◌≤◌, ◌<◌}
use native.Mathlib.Omega.{arith}
use mathlib.Core.Bool.{Bool, true, false, not, ◌&&◌, ◌||◌, cond, false≢true}
use mathlib.Core.List.{List, [], ◌∷◌}
use mathlib.Core.Path.{◌≡◌, refl, ◌∙◌, sym, ap}
use borrow.Author.Tests.{ltb-true, ltb-false, le-leb}
use lib.Dec.{leb, ltb}
use lib.IntN.{ℤ, pos}
use lib.ListN.{length, take, drop}
use Rattle.words.proofs.Bytes.{length-bytes}
use Rattle.contexts.specs.declared.Context.{Context}
use Rattle.script_machine.specs.Numbers.{Bytes, Stack, is_true, element, same, read, write, nonzero}
use Rattle.script_machine.specs.Words.{Word, DUP, IFDUP, SWAP, SIZE, TOALTSTACK, VERIFY, 0NOTEQUAL, EQUAL}
use Rattle.script_machine.specs.Machine.{ok, State, aborted, state, step, may_branch}
use Rattle.script_bytes.specs.Tables.{Tables}
use Rattle.spend_machine.specs.Entries.{Outcome}
use Rattle.spend_machine.specs.Recorded.{Run, stands, large, within, recorded_step}
use Rattle.spend_machine.specs.Playing.{opened}
use Rattle.spend_elements.specs.declared.Element.{Element}
use Rattle.spend_elements.specs.declared.Number.{Number}
use Rattle.spend_elements.specs.Elements.{held, small_length, bytes_in}
use Rattle.spend_elements.proofs.Ranges.{in-range, in_place, small-at-most}
use Rattle.spend_elements.specs.Signed.{value_in, ReadAs}
use Rattle.spend_stack.specs.declared.Machine.{Machine}
use Rattle.spend_stack.specs.declared.Pair.{Pair}
use Rattle.spend_stack.specs.declared.Pair.TheVariants as Pair
use Rattle.spend_stack.specs.Machines.{element_at, stack_of}
use Rattle.spend_stack.specs.Pieces.{combine, word_of, top_true}
use Rattle.spend_stack.proofs.Stacks.{none-on, one_on, two-on, one_only}
use Rattle.spend_stack.proofs.Laws.{On}

-- too few elements
abbrev pub AbortsOn : Word → Stack → Type 0
AbortsOn w m = (c : Context) (t : Tables) (a : Stack) (rs : List Outcome) → recorded_step c t w (stands (state m a []) rs) ≡ stands aborted rs

pub dup-none : AbortsOn DUP []
unfolding recorded_step step
dup-none c t a rs = refl

pub if-dup-none : AbortsOn IFDUP []
unfolding recorded_step step
if-dup-none c t a rs = refl

pub size_none : AbortsOn SIZE []
unfolding recorded_step step
size_none c t a rs = refl

pub to-alt-none : AbortsOn TOALTSTACK []
unfolding recorded_step step
to-alt-none c t a rs = refl

pub verify-none : AbortsOn VERIFY []
unfolding recorded_step step
verify-none c t a rs = refl

pub zero-none : AbortsOn 0NOTEQUAL []
unfolding recorded_step step
zero-none c t a rs = refl

pub swap-none : AbortsOn SWAP []
unfolding recorded_step step
swap-none c t a rs = refl

pub swap-one : (x : Bytes) → AbortsOn SWAP (x ∷ [])
unfolding recorded_step step
swap-one x c t a rs = refl

pub equal-none : AbortsOn EQUAL []
unfolding recorded_step step
equal-none c t a rs = refl

pub equal-one : (x : Bytes) → AbortsOn EQUAL (x ∷ [])
unfolding recorded_step step
equal-one x c t a rs = refl

pub pair-none : (p : Pair) → AbortsOn (word_of p) []
unfolding recorded_step step
pair-none Pair.NumEqual c t a rs = refl
pair-none Pair.BoolAnd c t a rs = refl
pair-none Pair.BoolOr c t a rs = refl
pair-none Pair.Add c t a rs = refl

pub pair_one : (p : Pair) (x : Bytes) → AbortsOn (word_of p) (x ∷ [])
unfolding recorded_step step
pair_one Pair.NumEqual x c t a rs = refl
pair_one Pair.BoolAnd x c t a rs = refl
pair_one Pair.BoolOr x c t a rs = refl
pair_one Pair.Add x c t a rs = refl

-- few bytes
take-few : (n : ℕ) (l : List ℕ) → length (take n l) ≤ n
take-few zero l = omega arith
take-few (suc n) [] = omega arith
take-few (suc n) (x ∷ l) = omega (arith, take-few n l)

pub few_bytes : (log : List ℕ) (e : Element) → length (bytes_in log e) < held
few_bytes log e = go (ltb e.len held) refl
  where
    go : (b : Bool) → ltb e.len held ≡ b → length (bytes_in log e) < held
    go true h =
        let l = ltb-true e.len held h in
        rw (in-range log e l) (omega (arith, take-few e.len (drop e.at log)))
    go false h = rw (in_place log e (ltb-false e.len held h), length-bytes (small_length e.len) e.at) (omega (arith, small-at-most e.len))

module _ (log main : List ℕ) (m : Machine) where
  -- element i on top of the main stack
  abbrev pub top : ℕ → Bytes
  top i = bytes_in log (element_at main (m.main - i))

  pub without-one : (w : Word) → AbortsOn w [] → m.main < 1 → On w log main m (λ a rs. stands aborted rs)
  without-one w f h c t a rs = rw (none-on log main m.main h) (f c t a rs)

  pub without-two : (w : Word) → AbortsOn w [] → ((x : Bytes) → AbortsOn w (x ∷ [])) → m.main < 2 → On w log main m (λ a rs. stands aborted rs)
  without-two w f g h c t a rs = by (ltb m.main 1) refl
    where
      by : (b : Bool) → ltb m.main 1 ≡ b → recorded_step c t w (stands (state (stack_of log main m.main) a []) rs) ≡ stands aborted rs
      by true e = without-one w f (ltb-true m.main 1 e) c t a rs
      by false e = rw (one_only log main m.main (ltb-false m.main 1 e) h) (g (top 1) c t a rs)

  pub dup-on : 1 ≤ m.main → On DUP log main m (λ a rs. within (state (top 1 ∷ stack_of log main m.main) a []) rs)
  unfolding recorded_step step
  dup-on h c t a rs = rw (one_on log main m.main h)

  pub if-dup-on : 1 ≤ m.main → is_true (top 1) ≡ true → On IFDUP log main m (λ a rs. within (state (top 1 ∷ stack_of log main m.main) a []) rs)
  unfolding recorded_step step
  if-dup-on h e c t a rs = rw (one_on log main m.main h, e)

  pub if-dup-not : 1 ≤ m.main → is_true (top 1) ≡ false → On IFDUP log main m (λ a rs. within (state (stack_of log main m.main) a []) rs)
  unfolding recorded_step step
  if-dup-not h e c t a rs = rw (one_on log main m.main h, e)

  pub size-on : 1 ≤ m.main → On SIZE log main m (λ a rs. within (state (write (pos (length (top 1))) ∷ stack_of log main m.main) a []) rs)
  unfolding recorded_step step
  size-on h c t a rs = rw (one_on log main m.main h)

  pub swap-on : 2 ≤ m.main → On SWAP log main m (λ a rs. within (state (top 2 ∷ top 1 ∷ stack_of log main (m.main - 2)) a []) rs)
  unfolding recorded_step step
  swap-on h c t a rs = rw (two-on log main m.main h)

  pub verify-on : 1 ≤ m.main → is_true (top 1) ≡ true → On VERIFY log main m (λ a rs. within (state (stack_of log main (m.main - 1)) a []) rs)
  unfolding recorded_step step ok
  verify-on h e c t a rs = rw (one_on log main m.main h, e)

  pub verify-not : 1 ≤ m.main → is_true (top 1) ≡ false → On VERIFY log main m (λ a rs. stands aborted rs)
  unfolding recorded_step step ok
  verify-not h e c t a rs = rw (one_on log main m.main h, e)

  pub equal-on : 2 ≤ m.main
      → On EQUAL log main m (λ a rs. within (state (element (same (top 1) (top 2)) ∷ stack_of log main (m.main - 2)) a []) rs)
  unfolding recorded_step step
  equal-on h c t a rs = rw (two-on log main m.main h)

  pub zero-on : 1 ≤ m.main → leb (length (top 1)) 4 ≡ true
      → On 0NOTEQUAL log main m (λ a rs. within (state (element (nonzero (read (top 1))) ∷ stack_of log main (m.main - 1)) a []) rs)
  unfolding recorded_step step ok
  zero-on h e c t a rs = rw (one_on log main m.main h, e)

  pub zero-long : 1 ≤ m.main → leb (length (top 1)) 4 ≡ false → On 0NOTEQUAL log main m (λ a rs. stands aborted rs)
  unfolding recorded_step step ok
  zero-long h e c t a rs = rw (one_on log main m.main h, e)

  pub pair-on : (p : Pair) → 2 ≤ m.main → leb (length (top 1)) 4 ≡ true → leb (length (top 2)) 4 ≡ true
      → On (word_of p) log main m (λ a rs. within (state (combine p (read (top 1)) (read (top 2)) ∷ stack_of log main (m.main - 2)) a []) rs)
  unfolding recorded_step step ok
  pair-on Pair.NumEqual h d e c t a rs = rw (two-on log main m.main h, d, e)
  pair-on Pair.BoolAnd h d e c t a rs = rw (two-on log main m.main h, d, e)
  pair-on Pair.BoolOr h d e c t a rs = rw (two-on log main m.main h, d, e)
  pair-on Pair.Add h d e c t a rs = rw (two-on log main m.main h, d, e)

  pub pair-long : (p : Pair) → 2 ≤ m.main → leb (length (top 1)) 4 && leb (length (top 2)) 4 ≡ false
      → On (word_of p) log main m (λ a rs. stands aborted rs)
  unfolding recorded_step step ok
  pair-long p h e c t a rs = rw (two-on log main m.main h) (go p (leb (length (top 1)) 4) refl (leb (length (top 2)) 4) refl)
    where
      clash : leb (length (top 1)) 4 ≡ true → leb (length (top 2)) 4 ≡ true → ⊥
      clash d f = false≢true (sym (rw (d, f) at e))

      go : (p : Pair) (x : Bool) → leb (length (top 1)) 4 ≡ x → (y : Bool) → leb (length (top 2)) 4 ≡ y
          → recorded_step c t (word_of p) (stands (state (top 1 ∷ top 2 ∷ stack_of log main (m.main - 2)) a []) rs) ≡ stands aborted rs
      go Pair.NumEqual true d true f = absurd (clash d f)
      go Pair.BoolAnd true d true f = absurd (clash d f)
      go Pair.BoolOr true d true f = absurd (clash d f)
      go Pair.Add true d true f = absurd (clash d f)
      go Pair.NumEqual true d false f = rw (d, f)
      go Pair.BoolAnd true d false f = rw (d, f)
      go Pair.BoolOr true d false f = rw (d, f)
      go Pair.Add true d false f = rw (d, f)
      go Pair.NumEqual false d y f = rw d
      go Pair.BoolAnd false d y f = rw d
      go Pair.BoolOr false d y f = rw d
      go Pair.Add false d y f = rw d

  pub top-true : 1 ≤ m.main → top_true (stack_of log main m.main) ≡ is_true (top 1)
  top-true h = rw (one_on log main m.main h)

  pub top-none : m.main < 1 → top_true (stack_of log main m.main) ≡ false
  top-none h = rw (none-on log main m.main h)

  -- IF and NOTIF
  pub open_none : (c : Context) → m.main < 1 → (a : Stack) (rs : List Outcome) → opened c (stands (state (stack_of log main m.main) a []) rs) ≡ stands aborted rs
  open_none c h a rs = rw (none-on log main m.main h)

  pub open-may : (c : Context) → 1 ≤ m.main → may_branch c (top 1) ≡ true → (a : Stack) (rs : List Outcome)
      → opened c (stands (state (stack_of log main m.main) a []) rs) ≡ stands (state (stack_of log main (m.main - 1)) a []) rs
  open-may c h e a rs = rw (one_on log main m.main h, e)

  pub open-not : (c : Context) → 1 ≤ m.main → may_branch c (top 1) ≡ false → (a : Stack) (rs : List Outcome)
      → opened c (stands (state (stack_of log main m.main) a []) rs) ≡ stands aborted rs
  open-not c h e a rs = rw (one_on log main m.main h, e)
