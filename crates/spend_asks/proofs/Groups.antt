-- The operands of CHECKMULTISIG.
use Rattle.std.specs.Prelude.{Option, None, Some}
use Prim.Native.Nat.{ℕ, zero, suc, ◌+◌, ◌-◌, ◌≤◌, ◌<◌}
use native.Mathlib.Omega.{arith}
use mathlib.Core.Bool.{Bool, true, false, not, ◌&&◌, cond, false≢true}
use mathlib.Core.List.{List, [], ◌∷◌}
use mathlib.Core.Path.{◌≡◌, refl, ◌∙◌, sym, ap}
use borrow.Author.Tests.{eqb-true}
use lib.Dec.{leb, eqb}
use lib.IntN.{ℤ, pos, negsuc}
use lib.ListN.{length}
use Rattle.contexts.specs.declared.Context.{Context}
use Rattle.script_machine.specs.Numbers.{Bytes, Stack, element, same, read, nonzero}
use Rattle.script_machine.specs.Words.{CHECKMULTISIG}
use Rattle.script_machine.specs.Machine.{Result, abort, done, ok, pop, pop_many, pop_count, pop_group, check_multi_sig}
use Rattle.script_machine.specs.Machine.{State, aborted, state, under, step}
use Rattle.script_bytes.specs.Tables.{Tables}
use Rattle.spend_machine.specs.Entries.{Outcome}
use Rattle.spend_machine.specs.Recorded.{Run, stands, stuck, within, is_yes, signatures, asking, recorded_step}
use Rattle.spend_elements.specs.declared.Number.{Number}
use Rattle.spend_elements.specs.Elements.{bytes_in}
use Rattle.spend_elements.specs.Signed.{int_of, value_in, IsRead}
use Rattle.spend_stack.specs.declared.Machine.{Machine}
use Rattle.spend_stack.specs.declared.Status.TheVariants as Status
use Rattle.spend_stack.specs.Machines.{element_at, stack_of, is_going, with_status, left_of, run_of, Fits, Does}
use Rattle.spend_stack.proofs.Stacks.{none-on, one_on}
use Rattle.spend_stack.proofs.Laws.{goes}
use Rattle.spend_asks.specs.Answers.{told, asked, SaysOver, behind, below, Grouped, dummy_on, signed, ChecksSignatures}
use Rattle.spend_asks.proofs.Telling.{told-as}

module _ (log main : List ℕ) where
  many : (count n : ℕ) (k : Stack → Result) → count ≤ n → pop_many count (stack_of log main n) (λ xs m. k m) ≡ k (stack_of log main (n - count))
  unfolding stack_of
  many zero n k h = let e : n - 0 ≡ n = omega arith in rw e
  many (suc count) zero k h = absurd (omega arith)
  many (suc count) (suc n) k h = let e : suc n - suc count ≡ n - count = omega arith in rw e (many count n k (omega arith))

  too_many : (count n : ℕ) (k : Stack → Result) → n < count → pop_many count (stack_of log main n) (λ xs m. k m) ≡ abort
  unfolding stack_of
  too_many zero n k h = absurd (omega arith)
  too_many (suc count) zero k h = refl
  too_many (suc count) (suc n) k h = too_many count n k (omega arith)

  -- a count that is no number, below zero, too large, and one that is there
  pub group-none : (n : ℕ) → n < 1 → Grouped log main n None
  group-none n h = record { says = λ k. rw (none-on log main n h); less = tt }

  pub group-long : (n : ℕ) → 1 ≤ n → leb (length (bytes_in log (element_at main (n - 1)))) 4 ≡ false → Grouped log main n None
  unfolding ok
  group-long n one e = record { says = λ k. rw (one_on log main n one, e); less = tt }

  module _ (n : ℕ) (x : Number) (one : 1 ≤ n) (r : IsRead (bytes_in log (element_at main (n - 1))) x) where
    number-as : (k : Stack → Result)
        → pop_group (stack_of log main n) (λ xs m. k m) ≡ pop_count (value_in x) λ count. pop_many count (stack_of log main (n - 1)) (λ xs m. k m)
    unfolding ok
    number-as k = rw (one_on log main n one, r.short, ← r.is)

    pub group-negative : (x.negative && nonzero (value_in x)) ≡ true → Grouped log main n None
    unfolding nonzero
    group-negative d = record { says = λ k. number-as k ∙ by x.negative x.size d k; less = tt }
      where
        by : (s : Bool) (size : ℕ) → (s && nonzero (int_of s size)) ≡ true → (k : Stack → Result)
            → (pop_count (int_of s size) λ count. pop_many count (stack_of log main (n - 1)) (λ xs m. k m)) ≡ abort
        by true zero d k = absurd (false≢true d)
        by true (suc size) d k = refl
        by false size d k = absurd (false≢true d)

    not_negative : (s : Bool) (size : ℕ) → (s && nonzero (int_of s size)) ≡ false → int_of s size ≡ pos size
    unfolding nonzero
    not_negative true zero d = refl
    not_negative true (suc size) d = absurd (false≢true (sym d))
    not_negative false size d = refl

    pub group-large : (x.negative && nonzero (value_in x)) ≡ false → n - 1 < x.size → Grouped log main n None
    group-large d h =
        record {
          says = λ k.
              number-as k
              ∙ ap (λ (i : ℤ). pop_count i λ count. pop_many count (stack_of log main (n - 1)) (λ xs m. k m)) (not_negative x.negative x.size d)
              ∙ too_many x.size (n - 1) k h;
          less = tt;
        }

    pub group-there : (x.negative && nonzero (value_in x)) ≡ false → x.size ≤ n - 1
        → Grouped log main n (Some (n - 1 - x.size))
    group-there d h =
        record {
          says = λ k.
              number-as k
              ∙ ap (λ (i : ℤ). pop_count i λ count. pop_many count (stack_of log main (n - 1)) (λ xs m. k m)) (not_negative x.negative x.size d)
              ∙ many x.size (n - 1) k h;
          less = omega arith;
        }

  -- the dummy
  same-empty : (x : Bytes) → eqb (length x) 0 ≡ true → same x [] ≡ true
  unfolding same
  same-empty [] e = refl
  same-empty (b ∷ bs) e = absurd (let l = eqb-true (suc (length bs)) 0 e in omega arith)

  same-other : (x : Bytes) → eqb (length x) 0 ≡ false → same x [] ≡ false
  unfolding same
  same-other [] e = absurd (false≢true (sym e))
  same-other (b ∷ bs) e = refl

  abbrev pub Behind : Stack → Stack → Bool → Result
  Behind m a b = pop m λ dummy m. ok (same dummy []) (done (element b ∷ m) a)

  dummied : (n : ℕ) (a : Stack) (b : Bool) → 1 ≤ n → dummy_on (stack_of log main n) ≡ true
      → Behind (stack_of log main n) a b ≡ done (element b ∷ stack_of log main (n - 1)) a
  unfolding ok
  dummied n a b h e =
      rw (one_on log main n h, same-empty (bytes_in log (element_at main (n - 1))) (rw (one_on log main n h) at e))

  pub not-dummied : (n : ℕ) (a : Stack) (b : Bool) → dummy_on (stack_of log main n) ≡ false → Behind (stack_of log main n) a b ≡ abort
  unfolding ok
  not-dummied n a b e = by (stack_of log main n) e
    where
      by : (m : Stack) → dummy_on m ≡ false → Behind m a b ≡ abort
      by [] e = refl
      by (x ∷ m) e = rw (same-other x e)

  pub some-dummy : (n : ℕ) → dummy_on (stack_of log main n) ≡ true → 1 ≤ n
  unfolding stack_of
  some-dummy zero e = absurd (false≢true e)
  some-dummy (suc n) e = omega arith

module _ {log before : List ℕ} {m r : Machine} {n : ℕ} (f : Fits log before m) where
  -- no group of signatures, or no dummy below it
  pub checks-abort : {s : Option ℕ} → Grouped log before n s → ((a : Stack) (b : Bool) → behind log before s (λ m. Behind log before m a b) ≡ abort)
      → r ≡ with_status m Status.Aborted → ChecksSignatures log before before m n r
  unfolding run_of
  checks-abort g h er =
      record {
        says = λ on alt.
            rw er (sym (ap (λ (x : Result). asked x (signed (stack_of log before n) (stack_of log alt m.alt)) (left_of log m))
            (g.says (λ m'. Behind log before m' (stack_of log alt m.alt) true) ∙ h (stack_of log alt m.alt) true)));
        fits = rw er (record { few = f.few; room = f.room; asks = record { ends = f.asks.ends } });
        same = refl;
      }

  pub checks-over : {after : List ℕ} {d : ℕ} → Grouped log before n (Some d) → dummy_on (stack_of log before d) ≡ true → SaysOver log before after m (d - 1) r
      → ChecksSignatures log before after m n r
  checks-over {after} {d} g e s =
      record {
        says = λ on alt.
            let a = stack_of log alt m.alt in
            let is : (b : Bool) → signed (stack_of log before n) a b ≡ done (element b ∷ stack_of log before (d - 1)) a =
            λ b. g.says (λ m'. Behind log before m' a b) ∙ dummied log before d a b (some-dummy log before d e) e in
            s.says on alt
            ∙ sym (ap (λ (x : Result). asked x (signed (stack_of log before n) a) (left_of log m)) (is true)
            ∙ told-as (signed (stack_of log before n) a) (λ b. done (element b ∷ stack_of log before (d - 1)) a) (left_of log m) is);
        fits = s.fits;
        same = s.same;
      }

-- CHECKMULTISIG asks where it would not abort on a yes
multi-asks : (c : Context) (t : Tables) (s a : Stack) (rs : List Outcome)
    → recorded_step c t CHECKMULTISIG (stands (state s a []) rs)
    ≡ asked (check_multi_sig (λ ks ss. true) s a) (λ b. check_multi_sig (λ ks ss. b) s a) rs
unfolding recorded_step step
multi-asks c t s a rs = by (check_multi_sig (λ ks ss. true) s a) rs
  where
    by : (x : Result) (rs : List Outcome)
        → asking c t (under [] x) signatures CHECKMULTISIG s a [] rs ≡ asked x (λ b. check_multi_sig (λ ks ss. b) s a) rs
    by abort rs = refl
    by (done m' a') [] = refl
    by (done m' a') (q ∷ rs) = refl

module _ {log before : List ℕ} {m r : Machine} (on : is_going m ≡ true) (f : Fits log before m) where
  pub multi-abort : Grouped log before m.main None → r ≡ with_status m Status.Aborted → Does CHECKMULTISIG log before before m r
  unfolding run_of
  multi-abort g er =
      record {
        says = λ c t alt.
            let a = stack_of log alt m.alt in
            rw er (sym (ap (recorded_step c t CHECKMULTISIG) (goes log before alt m on)
            ∙ multi-asks c t (stack_of log before m.main) a (left_of log m)
            ∙ ap (λ (x : Result). asked x (λ b. check_multi_sig (λ ks ss. b) (stack_of log before m.main) a) (left_of log m))
            (g.says (λ m'. signed m' a true))));
        fits = rw er (record { few = f.few; room = f.room; asks = record { ends = f.asks.ends } });
        same = refl;
      }

  pub multi-checks : {after : List ℕ} {n : ℕ} → Grouped log before m.main (Some n) → ChecksSignatures log before after m n r
      → Does CHECKMULTISIG log before after m r
  multi-checks {after} {n} g k =
      record {
        says = λ c t alt.
            let a = stack_of log alt m.alt in
            let is : (b : Bool) → check_multi_sig (λ ks ss. b) (stack_of log before m.main) a ≡ signed (stack_of log before n) a b =
            λ b. g.says (λ m'. signed m' a b) in
            k.says on alt
            ∙ sym (ap (recorded_step c t CHECKMULTISIG) (goes log before alt m on)
            ∙ multi-asks c t (stack_of log before m.main) a (left_of log m)
            ∙ ap (λ (x : Result). asked x (λ b. check_multi_sig (λ ks ss. b) (stack_of log before m.main) a) (left_of log m)) (is true)
            ∙ asked-as (left_of log m) (signed (stack_of log before n) a true) is);
        fits = k.fits;
        same = k.same;
      }
    where
      asked-as : {g h : Bool → Result} (rs : List Outcome) (x : Result) → ((b : Bool) → g b ≡ h b) → asked x g rs ≡ asked x h rs
      asked-as rs abort e = refl
      asked-as {g} {h} rs (done m' a') e = told-as g h rs e
