-- What stands before, between and behind children, kind by kind. Assumes nothing.
use Prim.Native.Nat.{ℕ, zero, suc, ◌+◌, ◌<◌}
use mathlib.Core.Bool.{Bool, true, false, not, cond, false≢true}
use mathlib.Core.List.{List, [], ◌∷◌, ◌++◌}
use mathlib.Core.Logic.{◌≢◌}
use mathlib.Core.Path.{◌≡◌, refl, sym, ap, ◌∙◌}
use borrow.Author.Tests.{ne_eqb}
use lib.ListN.{length, drop}
use Rattle.contexts.specs.declared.Context.{Context}
use Rattle.trees.specs.Tree.{find}
use Rattle.script_machine.specs.Numbers.{Stack}
use Rattle.script_machine.specs.Words.{Word, <n>, DUP, IFDUP, SWAP, SIZE, TOALTSTACK, FROMALTSTACK, VERIFY, 0NOTEQUAL, BOOLAND, BOOLOR, ADD, EQUAL, CHECKSIG}
use Rattle.script_machine.specs.Machine.{State, state}
use Rattle.script_bytes.specs.Tables.{Tables}
use Rattle.spend_machine.specs.Entries.{Outcome}
use Rattle.spend_machine.specs.Recorded.{Run, stands, recorded_step}
use Rattle.spend_machine.specs.Playing.{top_true, opened}
use Rattle.spend_stack.specs.declared.Machine.{Machine}
use Rattle.spend_stack.specs.declared.Status.{Status}
use Rattle.spend_stack.specs.declared.Status.TheVariants as Status
use Rattle.spend_stack.specs.Machines.{stack_of, going, is_going, standing, left_of, run_of, Fits, Does, DoesBoth}
use Rattle.spend_stack.specs.Memory.{work_words, main_in, alt_in}
use Rattle.spend_stack.specs.Pieces.{Opens}
use Rattle.spend_stack.specs.Pieces as Pieces
use Rattle.spend_stack.proofs.Memory.{main-back}
use Rattle.spend_stack.proofs.Laws.{goes}
use Rattle.spend_leaves.specs.Acting.{Acts}
use Rattle.spend_run.specs.declared.Turn.{Turn}
use Rattle.spend_run.specs.Turns.{branching, starting, behind_first, behind_later, behind, ending, Turns, Moves}

-- ---- IF

same-top : (m a : Stack) (rs : List Outcome) → Pieces.top_true m ≡ top_true (stands (state m a []) rs)
same-top [] a rs = refl
same-top (x ∷ m) a rs = refl

pub top-going : (log main : List ℕ) (m : Machine) {b : Bool} → is_going m ≡ true → b ≡ Pieces.top_true (stack_of log main m.main) → (alt : List ℕ)
    → b ≡ top_true (run_of log main alt m)
top-going log main m g e alt =
    e ∙ same-top (stack_of log main m.main) (stack_of log alt m.alt) (left_of log m) ∙ sym (ap top_true (goes log main alt m g))

not-standing : (s : Status) (x : State) (rs : List Outcome) → going s ≡ false → false ≡ top_true (standing s x rs)
not-standing Status.Going x rs e = absurd (false≢true (sym e))
not-standing Status.Aborted x rs e = refl
not-standing Status.Stuck x rs e = refl
not-standing Status.Large x rs e = refl

pub top-not : (log main : List ℕ) (m : Machine) → is_going m ≡ false → (alt : List ℕ) → false ≡ top_true (run_of log main alt m)
unfolding run_of
top-not log main m g alt =
    not-standing m.status (state (stack_of log main m.main) (stack_of log alt m.alt) []) (left_of log m) g

module _ (holding failing : ℕ) {c : Context} {log main : List ℕ} {m a : Machine} {b : Bool} (h : (alt : List ℕ) → b ≡ top_true (run_of log main alt m))
    (o : Opens c log main m a) where
  pub branches-yes : b ≡ true → (t : Tables) (alt : List ℕ)
      → Turns (branching c t holding failing) log main alt main alt m (record { place = holding; m = a })
  branches-yes e t alt =
      record {
        says = λ y. ap (y holding) (o.says alt) ∙ rw (sym (h alt) ∙ e);
        fits = o.fits;
        same = refl;
      }

  pub branches-no : b ≡ false → (t : Tables) (alt : List ℕ)
      → Turns (branching c t holding failing) log main alt main alt m (record { place = failing; m = a })
  branches-no e t alt =
      record {
        says = λ y. ap (y failing) (o.says alt) ∙ rw (sym (h alt) ∙ e);
        fits = o.fits;
        same = refl;
      }

-- ---- turns and words

module _ {log main alt main' alt' : List ℕ} {m : Machine} {r : Turn} where
  -- the same turn under another name
  pub turns_as : {g h : (ℕ → Run → Run) → Run → Run} → ((y : ℕ → Run → Run) (s : Run) → g y s ≡ h y s) → Turns g log main alt main' alt' m r
      → Turns h log main alt main' alt' m r
  turns_as e x =
      record {
        says = λ y. x.says y ∙ e y (run_of log main alt m);
        fits = x.fits;
        same = x.same;
      }

module _ {log : List ℕ} where
  -- no word at all
  pub stays_at : {main : List ℕ} {m : Machine} (alt : List ℕ) (p : ℕ) → Fits log main m
      → Turns (λ y. y p) log main alt main alt m (record { place = p; m = m })
  stays_at alt p f = record { says = λ y. refl; fits = f; same = refl }

  -- a word in front of a turn, and one before a child
  module _ (c : Context) (t : Tables) where
    pub word-turn : {w : Word} {g : (ℕ → Run → Run) → Run → Run} {a b d alt : List ℕ} {m q : Machine} {r : Turn} → Does w log a b m q
        → Turns g log b alt d alt q r → Turns (λ y s. g y (recorded_step c t w s)) log a alt d alt m r
    word-turn {g = g} {alt = alt} x z =
        record {
          says = λ y. z.says y ∙ ap (g y) (x.says c t alt);
          fits = z.fits;
          same = z.same ∙ x.same;
        }

    pub word_at : {w : Word} {a b : List ℕ} {m q : Machine} (alt : List ℕ) (p : ℕ) → Does w log a b m q
        → Turns (λ y s. y p (recorded_step c t w s)) log a alt b alt m (record { place = p; m = q })
    word_at alt p x = record { says = λ y. ap (y p) (x.says c t alt); fits = x.fits; same = x.same }

    pub both_at : {w : Word} {a b alt alt' : List ℕ} {m q : Machine} (p : ℕ) → DoesBoth w log a alt b alt' m q
        → Turns (λ y s. y p (recorded_step c t w s)) log a alt b alt' m (record { place = p; m = q })
    both_at p x = record { says = λ y. ap (y p) (x.says c t); fits = x.fits; same = x.same }

    -- words at the end
    pub word-moves : {w : Word} {a b : List ℕ} {m q : Machine} (alt : List ℕ) → Does w log a b m q
        → Moves (recorded_step c t w) log a alt b alt m q
    word-moves alt x = record { says = x.says c t alt; fits = x.fits; same = x.same }

    pub both-moves : {w : Word} {a b alt alt' : List ℕ} {m q : Machine} → DoesBoth w log a alt b alt' m q
        → Moves (recorded_step c t w) log a alt b alt' m q
    both-moves x = record { says = x.says c t; fits = x.fits; same = x.same }

    pub two-move : {v w : Word} {a b d : List ℕ} {m q r : Machine} (alt : List ℕ) → Does v log a b m q → Does w log b d q r
        → Moves (λ s. recorded_step c t w (recorded_step c t v s)) log a alt d alt m r
    two-move {w = w} alt x z =
        record {
          says = z.says c t alt ∙ ap (recorded_step c t w) (x.says c t alt);
          fits = z.fits;
          same = z.same ∙ x.same;
        }

  pub no_move : {main : List ℕ} {m : Machine} (alt : List ℕ) → Fits log main m → Moves (λ s. s) log main alt main alt m m
  no_move alt f = record { says = refl; fits = f; same = refl }

module _ {log main alt main' alt' : List ℕ} {m r : Machine} where
  pub moves-as : {g h : Run → Run} → ((s : Run) → g s ≡ h s) → Moves g log main alt main' alt' m r → Moves h log main alt main' alt' m r
  moves-as e x =
      record { says = x.says ∙ e (run_of log main alt m); fits = x.fits; same = x.same }

-- ---- in the main stack's part of the memory

pub acts-moves : {g : Run → Run} {log a b : List ℕ} {m r : Machine} (alt : List ℕ) → Acts g log a b m r → Moves g log a alt b alt m r
acts-moves alt x = record { says = x.says alt; fits = x.fits; same = x.same }

module _ {log main alt : List ℕ} {m : Machine} (w : List ℕ) (long : length w ≡ work_words) (p : List ℕ) (same : length p ≡ length (main_in w)) where
  pub turns-back : {g : (ℕ → Run → Run) → Run → Run} {r : Turn} → Turns g log main alt p (alt_in w) m r
      → Turns g log main alt (main_in (p ++ drop 8192 w)) (alt_in (p ++ drop 8192 w)) m r
  turns-back {g} {r} x = main-back w long p same (λ a b. Turns g log main alt a b m r) x

  pub moves-back : {g : Run → Run} {r : Machine} → Moves g log main alt p (alt_in w) m r
      → Moves g log main alt (main_in (p ++ drop 8192 w)) (alt_in (p ++ drop 8192 w)) m r
  moves-back {g} {r} x = main-back w long p same (λ a b. Moves g log main alt a b m r) x

-- ---- by kind

module _ (c : Context) (t : Tables) (kind : ℕ) where
  module _ (n : ℕ) (y : ℕ → Run → Run) (s : Run) where
    pub start-alt : kind ≡ 42 → y 0 (recorded_step c t TOALTSTACK s) ≡ starting c t kind n y s
    unfolding starting find
    start-alt e = rw e

    pub start-swap : kind ≡ 43 → y 0 (recorded_step c t SWAP s) ≡ starting c t kind n y s
    unfolding starting find
    start-swap e = rw e

    pub start-dup-if : kind ≡ 45 → branching c t 0 n y (recorded_step c t DUP s) ≡ starting c t kind n y s
    unfolding starting find
    start-dup-if e = rw e

    pub start-non-zero : kind ≡ 47 → branching c t 0 n y (recorded_step c t 0NOTEQUAL (recorded_step c t SIZE s)) ≡ starting c t kind n y s
    unfolding starting find
    start-non-zero e = rw e

    pub start-or-i : kind ≡ 54 → branching c t 0 1 y s ≡ starting c t kind n y s
    unfolding starting find
    start-or-i e = rw e

    pub start-other : kind ≢ 42 → kind ≢ 43 → kind ≢ 45 → kind ≢ 47 → kind ≢ 54 → y 0 s ≡ starting c t kind n y s
    unfolding starting find
    start-other a b d e f = rw (ne_eqb kind 42 a, ne_eqb kind 43 b, ne_eqb kind 45 d, ne_eqb kind 47 e, ne_eqb kind 54 f)

    -- NOTIF is IF with its branches exchanged
    exchanged : (b : Bool) (u v : Run) → cond b u v ≡ cond (not b) v u
    exchanged true u v = refl
    exchanged false u v = refl

    pub first-and-b : kind ≡ 49 → y 1 s ≡ behind_first c t kind n y s
    unfolding behind_first find
    first-and-b e = rw e

    pub first-and-v : kind ≡ 50 → y 1 s ≡ behind_first c t kind n y s
    unfolding behind_first find
    first-and-v e = rw e

    pub first-or-b : kind ≡ 51 → y 1 s ≡ behind_first c t kind n y s
    unfolding behind_first find
    first-or-b e = rw e

    pub first-or-d : kind ≡ 52 → branching c t n 1 y (recorded_step c t IFDUP s) ≡ behind_first c t kind n y s
    unfolding behind_first find
    first-or-d e =
        let q : Run = recorded_step c t IFDUP s in
        rw e (exchanged (top_true q) (y n (opened c q)) (y 1 (opened c q)))

    pub first-or-c : kind ≡ 53 → branching c t n 1 y s ≡ behind_first c t kind n y s
    unfolding behind_first find
    first-or-c e = rw e (exchanged (top_true s) (y n (opened c s)) (y 1 (opened c s)))

    pub first-and-or : kind ≡ 55 → branching c t 1 2 y s ≡ behind_first c t kind n y s
    unfolding behind_first find
    first-and-or e = rw e (exchanged (top_true s) (y 1 (opened c s)) (y 2 (opened c s)))

    pub first-thresh : kind ≡ 56 → y 1 s ≡ behind_first c t kind n y s
    unfolding behind_first find
    first-thresh e = rw e

    pub first-other : kind ≢ 49 → kind ≢ 50 → kind ≢ 51 → kind ≢ 52 → kind ≢ 53 → kind ≢ 55 → kind ≢ 56 → y n s ≡ behind_first c t kind n y s
    unfolding behind_first find
    first-other a b d e f g h =
        rw (
          ne_eqb kind 49 a,
          ne_eqb kind 50 b,
          ne_eqb kind 51 d,
          ne_eqb kind 52 e,
          ne_eqb kind 53 f,
          ne_eqb kind 55 g,
          ne_eqb kind 56 h,
        )

    pub behind-first : (j : ℕ) → j ≡ 0 → behind_first c t kind n y s ≡ behind c t kind n j y s
    behind-first j e = rw e

    is_later : (j : ℕ) → j ≢ 0 → behind_later c t kind n j y s ≡ behind c t kind n j y s
    is_later zero h = absurd (h refl)
    is_later (suc j) h = refl

    pub later-thresh : (j : ℕ) → j ≢ 0 → kind ≡ 56 → y (j + 1) (recorded_step c t ADD s) ≡ behind c t kind n j y s
    unfolding behind_later find
    later-thresh j h e = added ∙ is_later j h
      where
        added : y (j + 1) (recorded_step c t ADD s) ≡ behind_later c t kind n j y s
        added = rw e

    pub later-other : (j : ℕ) → j ≢ 0 → kind ≢ 56 → y n s ≡ behind c t kind n j y s
    unfolding behind_later find
    later-other j h e = ended ∙ is_later j h
      where
        ended : y n s ≡ behind_later c t kind n j y s
        ended = rw (ne_eqb kind 56 e)

  module _ (k : ℕ) (s : Run) where
    pub end-alt : kind ≡ 42 → recorded_step c t FROMALTSTACK s ≡ ending c t kind k s
    unfolding ending find
    end-alt e = rw e

    pub end-check : kind ≡ 44 → recorded_step c t CHECKSIG s ≡ ending c t kind k s
    unfolding ending find
    end-check e = rw e

    pub end-verify : kind ≡ 46 → recorded_step c t VERIFY s ≡ ending c t kind k s
    unfolding ending find
    end-verify e = rw e

    pub end-zero-not-equal : kind ≡ 48 → recorded_step c t 0NOTEQUAL s ≡ ending c t kind k s
    unfolding ending find
    end-zero-not-equal e = rw e

    pub end-and-b : kind ≡ 49 → recorded_step c t BOOLAND s ≡ ending c t kind k s
    unfolding ending find
    end-and-b e = rw e

    pub end-or-b : kind ≡ 51 → recorded_step c t BOOLOR s ≡ ending c t kind k s
    unfolding ending find
    end-or-b e = rw e

    pub end-thresh : kind ≡ 56 → recorded_step c t EQUAL (recorded_step c t (<n> k) s) ≡ ending c t kind k s
    unfolding ending find
    end-thresh e = rw e

    pub end-other : kind ≢ 42 → kind ≢ 44 → kind ≢ 46 → kind ≢ 48 → kind ≢ 49 → kind ≢ 51 → kind ≢ 56 → s ≡ ending c t kind k s
    unfolding ending find
    end-other a b d e f g h =
        rw (
          ne_eqb kind 42 a,
          ne_eqb kind 44 b,
          ne_eqb kind 46 d,
          ne_eqb kind 48 e,
          ne_eqb kind 49 f,
          ne_eqb kind 51 g,
          ne_eqb kind 56 h,
        )
