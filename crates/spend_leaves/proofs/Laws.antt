-- Pieces of a script, one after another: what each does to the machine makes up what all of them do. Assumes nothing.
use Prim.Native.Nat.{ℕ, suc, ◌+◌, ◌-◌, ◌≤◌, ◌<◌}
use native.Mathlib.Omega.{arith}
use mathlib.Core.Bool.{Bool, true, false}
use mathlib.Core.List.{List, [], ◌∷◌}
use mathlib.Core.Path.{◌≡◌, refl, sym, ap, ◌∙◌}
use lib.IntN.{pos}
use lib.ListN.{length}
use Rattle.contexts.specs.declared.Context.{Context}
use Rattle.contexts.specs.Leaves.{HashKind}
use Rattle.script_machine.specs.Numbers.{Bytes, Stack, is_true, element, same, write}
use Rattle.script_machine.specs.Words.{Word, <n>, <key>, <keyhash>, <h>, EQUAL, EQUALVERIFY, VERIFY, CHECKSIG, CHECKSIGADD}
use Rattle.script_machine.specs.Machine.{State, aborted, state, step, ok}
use Rattle.script_bytes.specs.Tables.{Tables, key, key_hash, hash}
use Rattle.spend_machine.specs.Entries.{Outcome}
use Rattle.spend_machine.specs.Recorded.{Run, stands, stuck, large, within, recorded_step}
use Rattle.spend_elements.specs.declared.Element.{Element}
use Rattle.spend_elements.specs.Elements.{bytes_in}
use Rattle.spend_stack.specs.declared.Machine.{Machine}
use Rattle.spend_stack.specs.declared.Status.{Status}
use Rattle.spend_stack.specs.declared.Status.TheVariants as Status
use Rattle.spend_stack.specs.Machines.{stack_of, standing, left_of, run_of, Fits, pushed, Pushes, Does}
use Rattle.spend_stack.proofs.Stacks.{height, within-few}
use Rattle.spend_leaves.specs.Acting.{Acts, sig_word}

module _ {log : List ℕ} where
  -- one after another
  infixr 30 ◌⨾◌
  pub ◌⨾◌ : {g h : Run → Run} {a b d : List ℕ} {m q r : Machine} → Acts g log a b m q → Acts h log b d q r → Acts (λ s. h (g s)) log a d m r
  ◌⨾◌ {h = h} x y =
      record {
        says = λ alt. y.says alt ∙ ap h (x.says alt);
        fits = y.fits;
        same = y.same ∙ x.same;
      }

  -- the same piece under another name
  pub acts-as : {g h : Run → Run} {a b : List ℕ} {m r : Machine} → ((s : Run) → g s ≡ h s) → Acts g log a b m r → Acts h log a b m r
  acts-as {a = a} {m = m} e x = record { says = λ alt. x.says alt ∙ e (run_of log a alt m); fits = x.fits; same = x.same }

  -- nothing
  pub acts-none : {a : List ℕ} {m : Machine} → Fits log a m → Acts (λ s. s) log a a m m
  acts-none f = record { says = λ alt. refl; fits = f; same = refl }

  -- a word
  pub word : {w : Word} {a b : List ℕ} {m r : Machine} (c : Context) (t : Tables) → Does w log a b m r → Acts (recorded_step c t w) log a b m r
  word c t d = record { says = λ alt. d.says c t alt; fits = d.fits; same = d.same }

-- ---- words that push

-- a word pushes x, where no condition is open
abbrev PushesThis : Context → Tables → Word → Bytes → Type 0
PushesThis c t w x = (m a : Stack) (rs : List Outcome) → recorded_step c t w (stands (state m a []) rs) ≡ within (state (x ∷ m) a []) rs

module _ (c : Context) (t : Tables) (w : Word) (x : Bytes) (e : PushesThis c t w x) where
  standing-pushes : (s : Status) (m a : Stack) (rs : List Outcome) → pushed x (standing s (state m a []) rs) ≡ recorded_step c t w (standing s (state m a []) rs)
  unfolding recorded_step
  standing-pushes Status.Going m a rs = sym (e m a rs)
  standing-pushes Status.Aborted m a rs = refl
  standing-pushes Status.Stuck m a rs = refl
  standing-pushes Status.Large m a rs = refl

  run-pushes : (log main alt : List ℕ) (m : Machine) → pushed x (run_of log main alt m) ≡ recorded_step c t w (run_of log main alt m)
  unfolding run_of
  run-pushes log main alt m = standing-pushes m.status (stack_of log main m.main) (stack_of log alt m.alt) (left_of log m)

  pub pushing : {log before after : List ℕ} {m r : Machine} {z : Element} → bytes_in log z ≡ x → Pushes log before after m z r
      → Acts (recorded_step c t w) log before after m r
  pushing {log} {before} {after} {m} f p =
      record {
        says = λ alt. p.says alt ∙ ap (λ (b : Bytes). pushed b (run_of log before alt m)) f ∙ run-pushes log before alt m;
        fits = p.fits;
        same = p.same;
      }

module _ (c : Context) (t : Tables) (n : ℕ) where
  pub number_pushed : PushesThis c t (<n> n) (write (pos n))
  unfolding recorded_step step
  number_pushed m a rs = refl

  pub key_pushed : PushesThis c t (<key> n) (key c t n)
  unfolding recorded_step step
  key_pushed m a rs = refl

  pub key-hash-pushed : PushesThis c t (<keyhash> n) (key_hash t n)
  unfolding recorded_step step
  key-hash-pushed m a rs = refl

  pub hash-pushed : (kind : HashKind) → PushesThis c t (<h> kind n) (hash t kind n)
  unfolding recorded_step step
  hash-pushed kind m a rs = refl

pub number-does : (n : ℕ) {log before after : List ℕ} {m r : Machine} {z : Element} → bytes_in log z ≡ write (pos n) → Pushes log before after m z r
    → Does (<n> n) log before after m r
number-does n f p =
    record {
      says = λ c t alt. (pushing c t (<n> n) (write (pos n)) (number_pushed c t n) f p).says alt;
      fits = p.fits;
      same = p.same;
    }

-- ---- EQUALVERIFY is EQUAL and VERIFY

module _ (c : Context) (t : Tables) (rs : List Outcome) where
  by-stack : (m a : Stack) → length m + length a ≤ 4096
      → recorded_step c t VERIFY (recorded_step c t EQUAL (stands (state m a []) rs)) ≡ recorded_step c t EQUALVERIFY (stands (state m a []) rs)
  unfolding recorded_step step
  by-stack [] a l = refl
  by-stack (x ∷ []) a l = refl
  by-stack (x ∷ y ∷ m) a l = ap (recorded_step c t VERIFY) (within-few (element (same x y) ∷ m) a [] rs (omega arith))

  standing-verifies : (s : Status) (m a : Stack) → length m + length a ≤ 4096
      → recorded_step c t VERIFY (recorded_step c t EQUAL (standing s (state m a []) rs)) ≡ recorded_step c t EQUALVERIFY (standing s (state m a []) rs)
  unfolding recorded_step
  standing-verifies Status.Going m a l = by-stack m a l
  standing-verifies Status.Aborted m a l = refl
  standing-verifies Status.Stuck m a l = refl
  standing-verifies Status.Large m a l = refl

pub equal-verifies : {log before between after : List ℕ} {m q r : Machine} → Fits log before m
    → Does EQUAL log before between m q → Does VERIFY log between after q r → Does EQUALVERIFY log before after m r
unfolding run_of
equal-verifies {log} {before} {between} {after} {m} f x y =
    let few = f.few in
    record {
      says = λ c t alt.
          y.says c t alt ∙ ap (recorded_step c t VERIFY) (x.says c t alt)
          ∙ standing-verifies c t (left_of log m) m.status (stack_of log before m.main) (stack_of log alt m.alt)
          (rw (height log before m.main, height log alt m.alt) few);
      fits = y.fits;
      same = y.same ∙ x.same;
    }

-- ---- the word behind a key of a MultiA

module _ {log before after : List ℕ} {m r : Machine} {first : Bool} where
  pub first-checks : first ≡ true → Does CHECKSIG log before after m r → Does (sig_word first) log before after m r
  first-checks e x = rw e x

  pub other-checks : first ≡ false → Does CHECKSIGADD log before after m r → Does (sig_word first) log before after m r
  other-checks e x = rw e x
