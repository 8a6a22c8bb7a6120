-- What each word does to the stacks that memory stands for.
use Prim.Native.Nat.{ℕ, zero, suc, ◌+◌, ◌*◌, ◌-◌, ◌≤◌, ◌<◌}
use native.Mathlib.Omega.{arith}
use mathlib.Core.Bool.{Bool, true, false, not, cond, false≢true}
use mathlib.Core.List.{List, [], ◌∷◌, ◌++◌}
use mathlib.Core.Logic.{inl, inr}
use mathlib.Core.Path.{◌≡◌, refl, ◌∙◌, sym, ap}
use Rattle.std.specs.Prelude.{Err}
use lib.ListN.{length, drop}
use Rattle.contexts.specs.declared.Context.{Context}
use Rattle.script_machine.specs.Numbers.{Bytes, Stack}
use Rattle.script_machine.specs.Words.{Word, SWAP, TOALTSTACK, FROMALTSTACK}
use Rattle.script_machine.specs.Machine.{State, aborted, state, step}
use Rattle.script_bytes.specs.Tables.{Tables}
use Rattle.spend_machine.specs.Entries.{Outcome}
use Rattle.spend_machine.specs.Recorded.{Run, stands, stuck, large, within, recorded_step}
use Rattle.spend_machine.specs.Playing.{opened}
use Rattle.spend_elements.specs.declared.Element.{Element}
use Rattle.spend_elements.specs.Elements.{bytes_in}
use Rattle.spend_stack.specs.declared.Machine.{Machine}
use Rattle.spend_stack.specs.declared.Status.{Status}
use Rattle.spend_stack.specs.declared.Status.TheVariants as Status
use Rattle.spend_stack.specs.Memory.{work_words, main_in, alt_in}
use Rattle.spend_stack.specs.Machines.{element_at, put_element, stack_of, going, is_going, with_status, with_main, standing, left_of, run_of}
use Rattle.spend_stack.specs.Machines.{Asks, Fits, Over, pushed, Pushes, Does, DoesBoth}
use Rattle.spend_stack.specs.Pieces.{Readied, Opens}
use Rattle.spend_stack.proofs.Memory.{main-back, alt-back}
use Rattle.spend_stack.proofs.Stacks.{put-length, height, put-top, none-on, one_on, within-few, within-many}

-- how a machine stands
going-is : (s : Status) → going s ≡ true → s ≡ Status.Going
going-is Status.Going e = refl
going-is Status.Aborted e = absurd (false≢true e)
going-is Status.Stuck e = absurd (false≢true e)
going-is Status.Large e = absurd (false≢true e)

-- the state of a machine that goes on
abbrev pub state_of : (log main alt : List ℕ) → Machine → State
state_of log main alt m = state (stack_of log main m.main) (stack_of log alt m.alt) []

pub goes : (log main alt : List ℕ) (m : Machine) → is_going m ≡ true → run_of log main alt m ≡ stands (state_of log main alt m) (left_of log m)
unfolding run_of
goes log main alt m e = rw (going-is m.status e)

-- a run that does not go on stays as it is
stays-so : (c : Context) (t : Tables) (w : Word) (s : Status) (x : State) (rs : List Outcome) → going s ≡ false
    → recorded_step c t w (standing s x rs) ≡ standing s x rs
unfolding recorded_step
stays-so c t w Status.Going x rs e = absurd (false≢true (sym e))
stays-so c t w Status.Aborted x rs e = refl
stays-so c t w Status.Stuck x rs e = refl
stays-so c t w Status.Large x rs e = refl

pub stays : {w : Word} {log main : List ℕ} {m : Machine} → is_going m ≡ false → Fits log main m → Does w log main main m m
unfolding run_of
stays {w} {log} {main} {m} e f =
    record { says = λ c t alt. sym (stays-so c t w m.status (state_of log main alt m) (left_of log m) e); fits = f; same = refl }

-- a word on the stacks of a run that goes on
abbrev pub On : Word → (log main : List ℕ) → Machine → (Stack → List Outcome → Run) → Type 0
On w log main m f =
    (c : Context) (t : Tables) (a : Stack) (rs : List Outcome) → recorded_step c t w (stands (state (stack_of log main m.main) a []) rs) ≡ f a rs

module _ {w : Word} {log before after : List ℕ} {m r : Machine} (g : is_going m ≡ true) (f : Fits log before m) where
  -- it leaves v over the lowest n elements
  pub leaves : {n : ℕ} {e : Element} {v : Bytes} → Over log before after m n e r → bytes_in log e ≡ v
      → On w log before m (λ a rs. within (state (v ∷ stack_of log before n) a []) rs) → Does w log before after m r
  leaves {n} {e} {v} o d h =
      record {
        says = λ c t alt.
            o.says g alt
            ∙ ap (λ (x : Bytes). within (state (x ∷ stack_of log before n) (stack_of log alt m.alt) []) (left_of log m)) d
            ∙ sym (ap (recorded_step c t w) (goes log before alt m g) ∙ h c t (stack_of log alt m.alt) (left_of log m));
        fits = o.fits;
        same = o.same;
      }

module _ {w : Word} {log main : List ℕ} {m r : Machine} (g : is_going m ≡ true) (f : Fits log main m) where
  -- it aborts
  pub aborts : r ≡ with_status m Status.Aborted → On w log main m (λ a rs. stands aborted rs) → Does w log main main m r
  unfolding run_of
  aborts e h =
      record {
        says = λ c t alt.
            rw e (sym (ap (recorded_step c t w) (goes log main alt m g) ∙ h c t (stack_of log alt m.alt) (left_of log m)));
        fits = rw e (record { few = f.few; room = f.room; asks = record { ends = f.asks.ends } });
        same = refl;
      }

  -- it lacks an outcome
  pub sticks : r ≡ with_status m Status.Stuck
      → ((c : Context) (t : Tables) (a : Stack) → recorded_step c t w (stands (state (stack_of log main m.main) a []) (left_of log m)) ≡ stuck)
      → Does w log main main m r
  unfolding run_of
  sticks e h =
      record {
        says = λ c t alt. rw e (sym (ap (recorded_step c t w) (goes log main alt m g) ∙ h c t (stack_of log alt m.alt)));
        fits = rw e (record { few = f.few; room = f.room; asks = record { ends = f.asks.ends } });
        same = refl;
      }

  -- it keeps the lowest n elements
  pub keeps : {n : ℕ} → r ≡ with_main m n → n ≤ m.main → On w log main m (λ a rs. within (state (stack_of log main n) a []) rs)
      → Does w log main main m r
  unfolding run_of
  keeps {n} e l h =
      let few = f.few in
      record {
        says = λ c t alt.
            rw e (goes log main alt (with_main m n) g
            ∙ sym (within-few (stack_of log main n) (stack_of log alt m.alt) [] (left_of log m)
            (rw (height log main n, height log alt m.alt) (omega arith)))
            ∙ sym (ap (recorded_step c t w) (goes log main alt m g) ∙ h c t (stack_of log alt m.alt) (left_of log m)));
        fits = rw e (record { few = omega arith; room = f.room; asks = record { ends = f.asks.ends } });
        same = refl;
      }

-- it does not go on, or has too few elements
pub not-ready : {w : Word} {log main : List ℕ} {m r : Machine} (n : ℕ) → Fits log main m → Readied m n (Err r)
    → (m.main < n → On w log main m (λ a rs. stands aborted rs)) → Does w log main main m r
not-ready n f (inl p) h = rw p.1 (stays p.0 f)
not-ready n f (inr p) h = aborts p.0 f p.2 (h p.1)

-- over
pub put-over : {log before after : List ℕ} {m r : Machine} {n : ℕ} {e : Element} → Fits log before m → n ≤ m.main → n + m.alt < 4096
    → after ≡ put_element before n e → r ≡ with_main m (n + 1) → Over log before after m n e r
unfolding run_of
put-over {log} {before} {after} {m} {r} {n} {e} f l h ea er =
    let few = f.few in
    let room = f.room in
    let next : n + 1 ≡ suc n = omega arith in
    record {
      says = λ g alt.
          rw (er, ea) (goes log (put_element before n e) alt (with_main m (n + 1)) g
          ∙ ap (λ (s : Stack). stands (state s (stack_of log alt m.alt) []) (left_of log m))
          (ap (stack_of log (put_element before n e)) next ∙ put-top log before n e (omega arith) f.room)
          ∙ sym (within-few (bytes_in log e ∷ stack_of log before n) (stack_of log alt m.alt) [] (left_of log m)
          (rw (height log before n, height log alt m.alt) (omega arith))));
      fits = rw (er, ea) (record { few = omega arith; room = rw (put-length before n e) f.room; asks = record { ends = f.asks.ends } });
      same = rw ea (put-length before n e);
    }

pub too_large : {log before : List ℕ} {m r : Machine} {n : ℕ} {e : Element} → Fits log before m → n ≤ m.main → 4096 ≤ n + m.alt
    → r ≡ with_status m Status.Large → Over log before before m n e r
unfolding run_of
too_large {log} {before} {m} {r} {n} {e} f l h er =
    record {
      says = λ g alt.
          rw er (sym (within-many (bytes_in log e ∷ stack_of log before n) (stack_of log alt m.alt) [] (left_of log m)
          (rw (height log before n, height log alt m.alt) (omega arith))));
      fits = rw er (record { few = f.few; room = f.room; asks = record { ends = f.asks.ends } });
      same = refl;
    }

-- pushes
pub pushes : {log before after : List ℕ} {m r : Machine} {e : Element} → is_going m ≡ true → Over log before after m m.main e r
    → Pushes log before after m e r
pushes {log} {before} {after} {m} {r} {e} g o =
    record {
      says = λ alt. o.says g alt ∙ sym (ap (pushed (bytes_in log e)) (goes log before alt m g));
      fits = o.fits;
      same = o.same;
    }

pushes-stay : (y : Bytes) (s : Status) (x : State) (rs : List Outcome) → going s ≡ false → standing s x rs ≡ pushed y (standing s x rs)
pushes-stay y Status.Going x rs h = absurd (false≢true (sym h))
pushes-stay y Status.Aborted x rs h = refl
pushes-stay y Status.Stuck x rs h = refl
pushes-stay y Status.Large x rs h = refl

pub no-push : {log main : List ℕ} {m : Machine} {e : Element} → is_going m ≡ false → Fits log main m → Pushes log main main m e m
unfolding run_of
no-push {log} {main} {m} {e} g f =
    record {
      says = λ alt. pushes-stay (bytes_in log e) m.status (state_of log main alt m) (left_of log m) g;
      fits = f;
      same = refl;
    }

-- SWAP
pub swaps : {log before mid after : List ℕ} {m : Machine} {x y : Element} → is_going m ≡ true → Fits log before m → 2 ≤ m.main
    → x ≡ element_at before (m.main - 1) → y ≡ element_at before (m.main - 2)
    → mid ≡ put_element before (m.main - 2) x → after ≡ put_element mid (m.main - 1) y
    → On SWAP log before m (λ a rs. within (state (bytes_in log (element_at before (m.main - 2)) ∷ bytes_in log (element_at before (m.main - 1))
    ∷ stack_of log before (m.main - 2)) a []) rs)
    → Does SWAP log before after m m
swaps {log} {before} {mid} {after} {m} {x} {y} g f two ex ey em ea h =
    let few = f.few in
    let room = f.room in
    let n = m.main in
    let low : suc (n - 2) ≡ n - 1 = omega arith in
    let all : suc (n - 1) ≡ n = omega arith in
    let keep : length mid ≡ length before = rw em (put-length before (n - 2) x) in
    let kept : length after ≡ length mid = rw ea (put-length mid (n - 1) y) in
    let under : stack_of log mid (n - 1) ≡ bytes_in log x ∷ stack_of log before (n - 2) =
    rw (← low, em) (put-top log before (n - 2) x (omega arith) f.room) in
    let whole : stack_of log after n ≡ bytes_in log y ∷ stack_of log mid (n - 1) =
    ap (stack_of log after) (sym all) ∙ (rw ea (put-top log mid (n - 1) y (omega arith) (omega arith))) in
    let is : stack_of log after n
    ≡ bytes_in log (element_at before (n - 2)) ∷ bytes_in log (element_at before (n - 1)) ∷ stack_of log before (n - 2) =
    whole ∙ ap (λ (s : Stack). bytes_in log y ∷ s) under ∙ rw (ex, ey) refl in
    record {
      says = λ c t alt.
          goes log after alt m g
          ∙ sym (within-few (stack_of log after n) (stack_of log alt m.alt) [] (left_of log m)
          (rw (height log after n, height log alt m.alt) (omega arith)))
          ∙ ap (λ (s : Stack). within (state s (stack_of log alt m.alt) []) (left_of log m)) is
          ∙ sym (ap (recorded_step c t SWAP) (goes log before alt m g) ∙ h c t (stack_of log alt m.alt) (left_of log m));
      fits = record { few = f.few; room = omega arith; asks = f.asks };
      same = kept ∙ keep;
    }

-- words between the two stacks
pub one-stack : {w : Word} {log main alt : List ℕ} {m r : Machine} → Does w log main main m r → DoesBoth w log main alt main alt m r
one-stack {alt = alt} d = record { says = λ c t. d.says c t alt; fits = d.fits; same = refl }

module _ {log main alt : List ℕ} {m r : Machine} (g : is_going m ≡ true) (f : Fits log main m) (wide : 8192 ≤ length alt) where
  pub to-alts : {alt' : List ℕ} {e : Element} → 1 ≤ m.main → e ≡ element_at main (m.main - 1) → alt' ≡ put_element alt m.alt e
      → r ≡ record { main = m.main - 1; alt = m.alt + 1; at = m.at; left = m.left; status = m.status }
      → DoesBoth TOALTSTACK log main alt main alt' m r
  unfolding run_of recorded_step step
  to-alts {alt'} {e} one ee ea er =
      let few = f.few in
      let is : r ≡ record { main = m.main - 1; alt = m.alt + 1; at = m.at; left = m.left; status = Status.Going } = rw (← going-is m.status g) er in
      let next : m.alt + 1 ≡ suc m.alt = omega arith in
      let on : stack_of log alt' (m.alt + 1) ≡ bytes_in log e ∷ stack_of log alt m.alt =
      ap (stack_of log alt') next ∙ (rw ea (put-top log alt m.alt e (omega arith) wide)) in
      record {
        says = λ c t.
            rw is (ap (λ (s : Stack). stands (state (stack_of log main (m.main - 1)) s []) (left_of log m)) (on ∙ rw ee refl)
            ∙ sym (within-few (stack_of log main (m.main - 1)) (bytes_in log (element_at main (m.main - 1)) ∷ stack_of log alt m.alt) [] (left_of log m)
            (rw (height log main (m.main - 1), height log alt m.alt) (omega arith)))
            ∙ sym (ap (recorded_step c t TOALTSTACK) (goes log main alt m g) ∙ rw (one_on log main m.main one) refl));
        fits = rw er (record { few = omega arith; room = f.room; asks = record { ends = f.asks.ends } });
        same = refl;
      }

  pub from-alts : {main' : List ℕ} {e : Element} → 1 ≤ m.alt → e ≡ element_at alt (m.alt - 1) → main' ≡ put_element main m.main e
      → r ≡ record { main = m.main + 1; alt = m.alt - 1; at = m.at; left = m.left; status = m.status }
      → DoesBoth FROMALTSTACK log main alt main' alt m r
  unfolding run_of recorded_step step
  from-alts {main'} {e} one ee ea er =
      let few = f.few in
      let is : r ≡ record { main = m.main + 1; alt = m.alt - 1; at = m.at; left = m.left; status = Status.Going } = rw (← going-is m.status g) er in
      let room = f.room in
      let next : m.main + 1 ≡ suc m.main = omega arith in
      let on : stack_of log main' (m.main + 1) ≡ bytes_in log e ∷ stack_of log main m.main =
      ap (stack_of log main') next ∙ (rw ea (put-top log main m.main e (omega arith) f.room)) in
      record {
        says = λ c t.
            rw is (ap (λ (s : Stack). stands (state s (stack_of log alt (m.alt - 1)) []) (left_of log m)) (on ∙ rw ee refl)
            ∙ sym (within-few (bytes_in log (element_at alt (m.alt - 1)) ∷ stack_of log main m.main) (stack_of log alt (m.alt - 1)) [] (left_of log m)
            (rw (height log main m.main, height log alt (m.alt - 1)) (omega arith)))
            ∙ sym (ap (recorded_step c t FROMALTSTACK) (goes log main alt m g) ∙ rw (one_on log alt m.alt one) refl));
        fits = rw er (record { few = omega arith; room = rw ea (rw (put-length main m.main e) f.room); asks = record { ends = f.asks.ends } });
        same = rw ea (put-length main m.main e);
      }

  pub no-alt : m.alt < 1 → r ≡ with_status m Status.Aborted → DoesBoth FROMALTSTACK log main alt main alt m r
  unfolding run_of recorded_step step
  no-alt none er =
      record {
        says = λ c t. rw er (sym (ap (recorded_step c t FROMALTSTACK) (goes log main alt m g) ∙ rw (none-on log alt m.alt none) refl));
        fits = rw er (record { few = f.few; room = f.room; asks = record { ends = f.asks.ends } });
        same = refl;
      }

-- the part that was lent for the element, put back into the memory
module _ {w : Word} {log main alt : List ℕ} {m r : Machine} (work : List ℕ) (long : length work ≡ work_words) (p : List ℕ) where
  pub moved_up : length p ≡ length (alt_in work) → DoesBoth w log main alt (main_in work) p m r
      → DoesBoth w log main alt (main_in (main_in work ++ (p ++ drop 8192 (drop 8192 work)))) (alt_in (main_in work ++ (p ++ drop 8192 (drop 8192 work)))) m r
  moved_up same x = alt-back work long p same (λ a b. DoesBoth w log main alt a b m r) x

  pub moved_down : length p ≡ length (main_in work) → DoesBoth w log main alt p (alt_in work) m r
      → DoesBoth w log main alt (main_in (p ++ drop 8192 work)) (alt_in (p ++ drop 8192 work)) m r
  moved_down same x = main-back work long p same (λ a b. DoesBoth w log main alt a b m r) x

-- IF and NOTIF
opened-so : (c : Context) (s : Status) (x : State) (rs : List Outcome) → going s ≡ false → standing s x rs ≡ opened c (standing s x rs)
opened-so c Status.Going x rs h = absurd (false≢true (sym h))
opened-so c Status.Aborted x rs h = refl
opened-so c Status.Stuck x rs h = refl
opened-so c Status.Large x rs h = refl

pub opens_not : {c : Context} {log main : List ℕ} {m : Machine} → is_going m ≡ false → Fits log main m → Opens c log main m m
unfolding run_of
opens_not {c} {log} {main} {m} g f =
    record { says = λ alt. opened-so c m.status (state_of log main alt m) (left_of log m) g; fits = f }

module _ {c : Context} {log main : List ℕ} {m r : Machine} (g : is_going m ≡ true) (f : Fits log main m) where
  pub opens-abort : r ≡ with_status m Status.Aborted → ((alt : List ℕ) → opened c (stands (state_of log main alt m) (left_of log m)) ≡ stands aborted (left_of log m)) → Opens c log main m r
  unfolding run_of
  opens-abort e h =
      record {
        says = λ alt. rw e (sym (ap (opened c) (goes log main alt m g) ∙ h alt));
        fits = rw e (record { few = f.few; room = f.room; asks = record { ends = f.asks.ends } });
      }

  pub opens-keep : r ≡ with_main m (m.main - 1)
      → ((alt : List ℕ) → opened c (stands (state_of log main alt m) (left_of log m))
      ≡ stands (state (stack_of log main (m.main - 1)) (stack_of log alt m.alt) []) (left_of log m))
      → Opens c log main m r
  opens-keep e h =
      let few = f.few in
      record {
        says = λ alt. rw e (goes log main alt (with_main m (m.main - 1)) g ∙ sym (ap (opened c) (goes log main alt m g) ∙ h alt));
        fits = rw e (record { few = omega arith; room = f.room; asks = record { ends = f.asks.ends } });
      }

pub opens-not-ready : {c : Context} {log main : List ℕ} {m r : Machine} → Fits log main m → Readied m 1 (Err r)
    → (m.main < 1 → (alt : List ℕ) → opened c (stands (state_of log main alt m) (left_of log m)) ≡ stands aborted (left_of log m)) → Opens c log main m r
opens-not-ready f (inl p) h = rw p.1 (opens_not p.0 f)
opens-not-ready f (inr p) h = opens-abort p.0 f p.2 (h p.1)
