-- What each word that asks does, by the elements on top of the main stack and the next outcome.
use Prim.Native.Nat.{ℕ, zero, suc, ◌+◌, ◌-◌, ◌≤◌, ◌<◌}
use native.Mathlib.Omega.{arith}
use mathlib.Core.Bool.{Bool, true, false, not, ◌&&◌, cond, false≢true}
use mathlib.Core.List.{List, [], ◌∷◌}
use Rattle.std.specs.Prelude.{Option, None, Some}
use mathlib.Core.Path.{◌≡◌, refl, ◌∙◌, sym, ap}
use borrow.Author.Tests.{ltb-true, ltb-false, eqb-true, eqb-false, ne_eqb}
use lib.Dec.{leb, ltb, eqb}
use lib.IntN.{ℤ, pos, negsuc}
use lib.ListN.{length}
use Rattle.contexts.specs.declared.Context.{Context}
use Rattle.contexts.specs.Leaves.{LockKind, After, Older, HashKind}
use Rattle.script_machine.specs.Numbers.{Bytes, Stack, element, same, read, write, nonzero}
use Rattle.script_machine.specs.Words.{Word, HASH, CHECKSIG, CHECKSIGADD, CHECKMULTISIG, CHECKLOCKTIMEVERIFY, CHECKSEQUENCEVERIFY}
use Rattle.script_machine.specs.Machine.{Result, abort, done, ok, pop, pop_many, pop_count, pop_group, one_more, check_multi_sig}
use Rattle.script_machine.specs.Machine.{State, aborted, state, under, step}
use Rattle.script_bytes.specs.Tables.{Tables}
use Rattle.spend_machine.specs.Entries.{Outcome, no, yes, digest}
use Rattle.spend_machine.specs.Recorded.{Run, stands, stuck, large, within, is_digest, is_yes, signatures, asking, recorded_step}
use Rattle.spend_machine.specs.Playing.{time_word}
use Rattle.spend_elements.specs.declared.Element.{Element}
use Rattle.spend_elements.specs.Elements.{bytes_in}
use Rattle.spend_elements.specs.Signed.{int_of}
use Rattle.spend_stack.specs.declared.Machine.{Machine}
use Rattle.spend_stack.specs.declared.Status.TheVariants as Status
use Rattle.spend_stack.specs.Machines.{element_at, stack_of, is_going, with_status, after_one, left_of, run_of, Fits, Over, Does}
use Rattle.spend_stack.proofs.Stacks.{height, none-on, one_on, two-on, three-on, one_only, two-only, within-few}
use Rattle.spend_stack.proofs.Laws.{goes, state_of}
use Rattle.spend_stack.proofs.Steps.{AbortsOn}
use Rattle.spend_asks.specs.declared.Said.{Said}
use Rattle.spend_asks.specs.declared.Said.TheVariants as Said
use Rattle.spend_asks.specs.Answers.{first_of, said_of, told, asked, SaysOver, behind, below, Grouped, dummy_on, signed, ChecksSignatures}
use Rattle.spend_asks.proofs.Next.{First, fits_next}

-- a word that asks for yes or no on the stacks of a run that goes on: what it does on each
abbrev pub TellsOn : Word → (log main : List ℕ) → Machine → (Stack → Bool → Result) → Type 0
TellsOn w log main m g =
    (c : Context) (t : Tables) (a : Stack) (rs : List Outcome)
    → recorded_step c t w (stands (state (stack_of log main m.main) a []) rs) ≡ told (g a) rs

told-neither : (g : Bool → Result) (rs : List Outcome) → said_of rs ≡ Said.Neither → told g rs ≡ stuck
told-neither g [] e = refl
told-neither g (no ∷ rs) e = absurd (let z : ◌≡◌ {A = ℕ} 0 1 = cc in omega arith)
told-neither g (yes ∷ rs) e = absurd (let z : ◌≡◌ {A = ℕ} 0 1 = cc in omega arith)
told-neither g (digest x ∷ rs) e = refl

pub told-as : (g h : Bool → Result) (rs : List Outcome) → ((b : Bool) → g b ≡ h b) → told g rs ≡ told h rs
told-as g h [] e = refl
told-as g h (r ∷ rs) e = rw (e (is_yes r))

-- the outcome of a yes or a no
abbrev pub outcome_of : Bool → Outcome
outcome_of true = yes
outcome_of false = no

told-first : (g : Bool → Result) (b : Bool) (rs : List Outcome) → told g (outcome_of b ∷ rs) ≡ within (under [] (g b)) rs
told-first g true rs = refl
told-first g false rs = refl

-- a run behind the outcome, by the result that the word leaves
tells : (w : Word) (log before : List ℕ) (m : Machine) (g : Stack → Bool → Result) → is_going m ≡ true → TellsOn w log before m g → (b : Bool)
    → First log m (outcome_of b) → (c : Context) (t : Tables) (alt : List ℕ)
    → recorded_step c t w (run_of log before alt m) ≡ within (under [] (g (stack_of log alt m.alt) b)) (left_of log (after_one log m))
tells w log before m g on h b p c t alt =
    ap (recorded_step c t w) (goes log before alt m on)
    ∙ h c t (stack_of log alt m.alt) (left_of log m)
    ∙ ap (told (g (stack_of log alt m.alt))) p.are
    ∙ told-first (g (stack_of log alt m.alt)) b (left_of log (after_one log m))

module _ {w : Word} {log before : List ℕ} {m r : Machine} (g : Stack → Bool → Result) (on : is_going m ≡ true) (f : Fits log before m)
    (h : TellsOn w log before m g) where
  -- neither yes nor no
  pub tells-stuck : {s : Said} → s ≡ said_of (left_of log m) → s ≡ Said.Neither → r ≡ with_status m Status.Stuck → Does w log before before m r
  unfolding run_of
  tells-stuck d e er =
      record {
        says = λ c t alt.
            rw er (sym (ap (recorded_step c t w) (goes log before alt m on) ∙ h c t (stack_of log alt m.alt) (left_of log m)
            ∙ told-neither (g (stack_of log alt m.alt)) (left_of log m) (sym d ∙ e)));
        fits = rw er (record { few = f.few; room = f.room; asks = record { ends = f.asks.ends } });
        same = refl;
      }

  -- it leaves v over the lowest n elements
  pub tells-over : (b : Bool) {after : List ℕ} {n : ℕ} {e : Element} {v : Bytes} → First log m (outcome_of b) → Over log before after (after_one log m) n e r
      → bytes_in log e ≡ v → ((a : Stack) → g a b ≡ done (v ∷ stack_of log before n) a) → Does w log before after m r
  tells-over b {after} {n} {e} {v} p o d k =
      record {
        says = λ c t alt.
            o.says on alt
            ∙ ap (λ (x : Bytes). within (state (x ∷ stack_of log before n) (stack_of log alt m.alt) []) (left_of log (after_one log m))) d
            ∙ sym (tells w log before m g on h b p c t alt ∙ ap (λ (x : Result). within (under [] x) (left_of log (after_one log m))) (k (stack_of log alt m.alt)));
        fits = o.fits;
        same = o.same;
      }

  -- it aborts
  pub tells-abort : (b : Bool) → First log m (outcome_of b) → r ≡ with_status (after_one log m) Status.Aborted → ((a : Stack) → g a b ≡ abort)
      → Does w log before before m r
  unfolding run_of
  tells-abort b p er k =
      let next = fits_next log before m f p.some_left in
      record {
        says = λ c t alt.
            rw er (sym (tells w log before m g on h b p c t alt ∙ ap (λ (x : Result). within (under [] x) (left_of log (after_one log m))) (k (stack_of log alt m.alt))));
        fits = rw er (record { few = next.few; room = next.room; asks = record { ends = next.asks.ends } });
        same = refl;
      }

  -- it leaves the stack
  pub tells-keep : (b : Bool) → First log m (outcome_of b) → r ≡ after_one log m
      → ((a : Stack) → g a b ≡ done (stack_of log before m.main) a) → Does w log before before m r
  tells-keep b p er k =
      let few = f.few in
      record {
        says = λ c t alt.
            rw er (goes log before alt (after_one log m) on
            ∙ sym (within-few (stack_of log before m.main) (stack_of log alt m.alt) [] (left_of log (after_one log m))
            (rw (height log before m.main, height log alt m.alt) (omega arith)))
            ∙ sym (tells w log before m g on h b p c t alt ∙ ap (λ (x : Result). within (under [] x) (left_of log (after_one log m))) (k (stack_of log alt m.alt))));
        fits = rw er (fits_next log before m f p.some_left);
        same = refl;
      }

-- what SaysOver says
module _ {log before : List ℕ} {m r : Machine} {n : ℕ} (f : Fits log before m) where
  pub over-stuck : {s : Said} → s ≡ said_of (left_of log m) → s ≡ Said.Neither → r ≡ with_status m Status.Stuck → SaysOver log before before m n r
  unfolding run_of
  over-stuck d e er =
      record {
        says = λ g alt. rw er (sym (told-neither (λ (b : Bool). done (element b ∷ stack_of log before n) (stack_of log alt m.alt)) (left_of log m) (sym d ∙ e)));
        fits = rw er (record { few = f.few; room = f.room; asks = record { ends = f.asks.ends } });
        same = refl;
      }

  pub over-test : (b : Bool) {after : List ℕ} {e : Element} → First log m (outcome_of b) → Over log before after (after_one log m) n e r
      → bytes_in log e ≡ element b → SaysOver log before after m n r
  over-test b {after} {e} p o d =
      record {
        says = λ g alt.
            o.says g alt
            ∙ ap (λ (x : Bytes). within (state (x ∷ stack_of log before n) (stack_of log alt m.alt) []) (left_of log (after_one log m))) d
            ∙ sym (ap (told (λ (b : Bool). done (element b ∷ stack_of log before n) (stack_of log alt m.alt))) p.are
            ∙ told-first (λ (b : Bool). done (element b ∷ stack_of log before n) (stack_of log alt m.alt)) b (left_of log (after_one log m)));
        fits = o.fits;
        same = o.same;
      }

-- CHECKSIG
pub sig_none : AbortsOn CHECKSIG []
unfolding recorded_step step
sig_none c t a rs = refl

pub sig-one : (x : Bytes) → AbortsOn CHECKSIG (x ∷ [])
unfolding recorded_step step
sig-one x c t a rs = refl

pub sig-does : {log before after : List ℕ} {m r : Machine} → is_going m ≡ true → 2 ≤ m.main → SaysOver log before after m (m.main - 2) r
    → Does CHECKSIG log before after m r
unfolding recorded_step step
sig-does {log} {before} {after} {m} {r} on two s =
    record {
      says = λ c t alt.
          s.says on alt
          ∙ sym (ap (recorded_step c t CHECKSIG) (goes log before alt m on)
          ∙ ap (λ (x : Stack). recorded_step c t CHECKSIG (stands (state x (stack_of log alt m.alt) []) (left_of log m))) (two-on log before m.main two)
          ∙ by c t (stack_of log alt m.alt) (left_of log m));
      fits = s.fits;
      same = s.same;
    }
  where
    by : (c : Context) (t : Tables) (a : Stack) (rs : List Outcome)
        → recorded_step c t CHECKSIG (stands (state (bytes_in log (element_at before (m.main - 1)) ∷ bytes_in log (element_at before (m.main - 2))
        ∷ stack_of log before (m.main - 2)) a []) rs)
        ≡ told (λ b. done (element b ∷ stack_of log before (m.main - 2)) a) rs
    by c t a [] = refl
    by c t a (q ∷ rs) = refl

module _ (log main : List ℕ) (m : Machine) where
  abbrev top : ℕ → Bytes
  top i = bytes_in log (element_at main (m.main - i))

  -- CHECKSIGADD
  abbrev pub added : Stack → Bool → Result
  added a b = done (write (one_more b (read (top 2))) ∷ stack_of log main (m.main - 3)) a

  pub add-tells : 3 ≤ m.main → leb (length (top 2)) 4 ≡ true → TellsOn CHECKSIGADD log main m added
  unfolding recorded_step step ok
  add-tells h e c t a [] = rw (three-on log main m.main h, e)
  add-tells h e c t a (no ∷ rs) = rw (three-on log main m.main h, e, e)
  add-tells h e c t a (yes ∷ rs) = rw (three-on log main m.main h, e, e)
  add-tells h e c t a (digest x ∷ rs) = rw (three-on log main m.main h, e)

  pub add-long : 3 ≤ m.main → leb (length (top 2)) 4 ≡ false → (c : Context) (t : Tables) (a : Stack) (rs : List Outcome)
      → recorded_step c t CHECKSIGADD (stands (state (stack_of log main m.main) a []) rs) ≡ stands aborted rs
  unfolding recorded_step step ok
  add-long h e c t a rs = rw (three-on log main m.main h, e)

  pub add-short : m.main < 3 → (c : Context) (t : Tables) (a : Stack) (rs : List Outcome)
      → recorded_step c t CHECKSIGADD (stands (state (stack_of log main m.main) a []) rs) ≡ stands aborted rs
  unfolding recorded_step step
  add-short h c t a rs = by (ltb m.main 1) refl
    where
      more : (b : Bool) → ltb m.main 2 ≡ b → 1 ≤ m.main
          → recorded_step c t CHECKSIGADD (stands (state (stack_of log main m.main) a []) rs) ≡ stands aborted rs
      more true e l = rw (one_only log main m.main l (ltb-true m.main 2 e))
      more false e l = rw (two-only log main m.main (ltb-false m.main 2 e) h)

      by : (b : Bool) → ltb m.main 1 ≡ b → recorded_step c t CHECKSIGADD (stands (state (stack_of log main m.main) a []) rs) ≡ stands aborted rs
      by true e = rw (none-on log main m.main (ltb-true m.main 1 e))
      by false e = more (ltb m.main 2) refl (ltb-false m.main 1 e)

  -- time checks
  abbrev pub timed : Stack → Bool → Result
  timed a b = ok b (done (stack_of log main m.main) a)

  pub time-tells : (kind : LockKind) → 1 ≤ m.main → leb (length (top 1)) 4 ≡ true → TellsOn (time_word kind) log main m timed
  unfolding recorded_step step ok
  time-tells After h e c t a [] = rw (one_on log main m.main h, e)
  time-tells After h e c t a (no ∷ rs) = rw (one_on log main m.main h, e, e)
  time-tells After h e c t a (yes ∷ rs) = rw (one_on log main m.main h, e, e)
  time-tells After h e c t a (digest x ∷ rs) = rw (one_on log main m.main h, e)
  time-tells Older h e c t a [] = rw (one_on log main m.main h, e)
  time-tells Older h e c t a (no ∷ rs) = rw (one_on log main m.main h, e, e)
  time-tells Older h e c t a (yes ∷ rs) = rw (one_on log main m.main h, e, e)
  time-tells Older h e c t a (digest x ∷ rs) = rw (one_on log main m.main h, e)

  pub time-long : (kind : LockKind) → 1 ≤ m.main → leb (length (top 1)) 4 ≡ false → (c : Context) (t : Tables) (a : Stack) (rs : List Outcome)
      → recorded_step c t (time_word kind) (stands (state (stack_of log main m.main) a []) rs) ≡ stands aborted rs
  unfolding recorded_step step ok
  time-long After h e c t a rs = rw (one_on log main m.main h, e)
  time-long Older h e c t a rs = rw (one_on log main m.main h, e)

  pub time-none : (kind : LockKind) → m.main < 1 → (c : Context) (t : Tables) (a : Stack) (rs : List Outcome)
      → recorded_step c t (time_word kind) (stands (state (stack_of log main m.main) a []) rs) ≡ stands aborted rs
  unfolding recorded_step step
  time-none After h c t a rs = rw (none-on log main m.main h)
  time-none Older h c t a rs = rw (none-on log main m.main h)

  -- hashes
  pub hash-none : (kind : HashKind) → m.main < 1 → (c : Context) (t : Tables) (a : Stack) (rs : List Outcome)
      → recorded_step c t (HASH kind) (stands (state (stack_of log main m.main) a []) rs) ≡ stands aborted rs
  unfolding recorded_step step
  hash-none kind h c t a rs = rw (none-on log main m.main h)

  pub hash-on : (kind : HashKind) → 1 ≤ m.main → (c : Context) (t : Tables) (a : Stack) (x : Bytes) (rs : List Outcome)
      → recorded_step c t (HASH kind) (stands (state (stack_of log main m.main) a []) (digest x ∷ rs))
      ≡ within (state (x ∷ stack_of log main (m.main - 1)) a []) rs
  unfolding recorded_step step
  hash-on kind h c t a x rs = rw (one_on log main m.main h)

  pub hash-missing : (kind : HashKind) → 1 ≤ m.main → (c : Context) (t : Tables) (a : Stack) (rs : List Outcome) → first_of rs ≡ None
      → recorded_step c t (HASH kind) (stands (state (stack_of log main m.main) a []) rs) ≡ stuck
  unfolding recorded_step step
  hash-missing kind h c t a [] e = rw (one_on log main m.main h)
  hash-missing kind h c t a (q ∷ rs) e = absurd (let z : ◌≡◌ {A = ℕ} 0 1 = cc in omega arith)

  pub hash-said : (kind : HashKind) (b : Bool) → 1 ≤ m.main → (c : Context) (t : Tables) (a : Stack) (rs : List Outcome) → first_of rs ≡ Some (outcome_of b)
      → recorded_step c t (HASH kind) (stands (state (stack_of log main m.main) a []) rs) ≡ stuck
  unfolding recorded_step step
  hash-said kind b h c t a [] e = absurd (let z : ◌≡◌ {A = ℕ} 0 1 = cc in omega arith)
  hash-said kind b h c t a (no ∷ rs) e = rw (one_on log main m.main h)
  hash-said kind b h c t a (yes ∷ rs) e = rw (one_on log main m.main h)
  hash-said kind true h c t a (digest x ∷ rs) e = absurd (let z : ◌≡◌ {A = ℕ} 0 1 = cc in omega arith)
  hash-said kind false h c t a (digest x ∷ rs) e = absurd (let z : ◌≡◌ {A = ℕ} 0 1 = cc in omega arith)

pub hash-over : {kind : HashKind} {log before after : List ℕ} {m r : Machine} {e : Element} → is_going m ≡ true → 1 ≤ m.main
    → First log m (digest (bytes_in log e)) → Over log before after (after_one log m) (m.main - 1) e r → Does (HASH kind) log before after m r
hash-over {kind} {log} {before} {after} {m} {r} {e} on one p o =
    record {
      says = λ c t alt.
          o.says on alt
          ∙ sym (ap (recorded_step c t (HASH kind)) (goes log before alt m on)
          ∙ ap (λ (rs : List Outcome). recorded_step c t (HASH kind) (stands (state_of log before alt m) rs)) p.are
          ∙ hash-on log before m kind one c t (stack_of log alt m.alt) (bytes_in log e) (left_of log (after_one log m)));
      fits = o.fits;
      same = o.same;
    }
