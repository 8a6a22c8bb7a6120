-- The run of a fragment with children, child by child (specs/Turns.antt), is its run of `spend_machine`, specs/Playing.antt. Assumes nothing.
use Prim.Native.Nat.{ℕ, zero, suc, ◌+◌, ◌≤◌, ◌<◌}
use mathlib.Core.Bool.{Bool, true, false}
use mathlib.Core.List.{List}
use mathlib.Core.Path.{◌≡◌, refl, sym, ap, subst, ◌∙◌}
use native.Mathlib.Numerals.{add-one}
use native.Mathlib.Omega.{arith}
use borrow.Author.Tests.{eqb-true, eqb-false}
use lib.Dec.{eqb}
use lib.ListN.{length, get_or}
use Rattle.records.specs.declared.Parts.{Parts}
use Rattle.records.specs.Shapes.{arity}
use Rattle.records.specs.RecordForm.{kind_of, fragment_payload}
use Rattle.records.specs.Answers.{parts_of}
use Rattle.records.proofs.Arities.{arity-above}
use Rattle.contexts.specs.declared.Context.{Context}
use Rattle.trees.specs.Fragment.{Fragment, Fragments, end, ◌▹◌}
use Rattle.trees.specs.Fragment.{Alt, Swap, Check, DupIf, Verify, NonZero, ZeroNotEqual, AndB, AndV, OrB, OrD, OrC, OrI, AndOr, Thresh}
use Rattle.trees.specs.Tree.{find}
use Rattle.walk.specs.TreeRecords.{record_at, fragment_at, children_from, TreeRecord, Told}
use Rattle.walk.specs.Nodes.{node_of}
use Rattle.walk.proofs.Laws.{has-children, row_told, all-places}
use Rattle.walk.proofs.KindLaws.{threshold-bounds, children-next, children-none, is-alt, is-swap, is-check, is-dup-if, is-verify, is-non-zero}
use Rattle.walk.proofs.KindLaws.{is-zero-not-equal, is-and-b, is-and-v, is-or-b, is-or-d, is-or-c, is-or-i, is-and-or, is-thresh}
use Rattle.script_machine.specs.Words.{ADD}
use Rattle.script_bytes.specs.Tables.{Tables}
use Rattle.spend_machine.specs.Recorded.{Run, recorded_step}
use Rattle.spend_machine.specs.Playing.{plays, summed, added, if_not}
use Rattle.spend_run.specs.Turns.{starting, behind_first, behind_later, behind, ending}

module _ (c : Context) (t : Tables) where
  -- y j is all that comes from child number j on: that child, and what comes behind it
  pub record Continues (kind k n : ℕ) (x y : ℕ → Run → Run) : Type 0 where
    pub ends : (p : ℕ) → n ≤ p → (s : Run) → y p s ≡ ending c t kind k s
    pub step : (p : ℕ) → p < n → (s : Run) → y p s ≡ behind c t kind n p y (x p s)

  -- a fragment's run is what comes from its start on
  pub record RunsAs (kind k n : ℕ) (x : ℕ → Run → Run) (f : Fragment) : Type 0 where
    pub y : ℕ → Run → Run
    pub goes : Continues kind k n x y
    pub whole : (s : Run) → starting c t kind n y s ≡ plays c t f s

  named : {kind k n : ℕ} {x : ℕ → Run → Run} {f g : Fragment} → f ≡ g → RunsAs kind k n x g → RunsAs kind k n x f
  named e r = record { y = r.y; goes = r.goes; whole = λ s. r.whole s ∙ ap (λ (f : Fragment). plays c t f s) (sym e) }

  -- ---- one child

  abbrev one : (kind k : ℕ) → (Run → Run) → ℕ → Run → Run
  one kind k x zero s = ending c t kind k (x s)
  one kind k x (suc p) s = ending c t kind k s

  one-goes : (kind k : ℕ) (x : ℕ → Run → Run) → ((s : Run) → one kind k (x 0) 1 s ≡ behind_first c t kind 1 (one kind k (x 0)) s)
      → Continues kind k 1 x (one kind k (x 0))
  one-goes kind k x e = record { ends = ends; step = step }
    where
      ends : (p : ℕ) → 1 ≤ p → (s : Run) → one kind k (x 0) p s ≡ ending c t kind k s
      ends zero h s = absurd (omega arith)
      ends (suc p) h s = refl

      step : (p : ℕ) → p < 1 → (s : Run) → one kind k (x 0) p s ≡ behind c t kind 1 p (one kind k (x 0)) (x p s)
      step zero h s = e (x 0 s)
      step (suc p) h s = absurd (omega arith)

  module _ (k : ℕ) (x : ℕ → Fragment) where
    abbrev its-run : ℕ → Run → Run
    its-run j = plays c t (x j)

    as-alt : RunsAs 42 k 1 its-run (Alt (x 0))
    unfolding plays starting behind_first ending find
    as-alt = record { y = one 42 k (its-run 0); goes = one-goes 42 k its-run (λ s. refl); whole = λ s. refl }

    as-swap : RunsAs 43 k 1 its-run (Swap (x 0))
    unfolding plays starting behind_first ending find
    as-swap = record { y = one 43 k (its-run 0); goes = one-goes 43 k its-run (λ s. refl); whole = λ s. refl }

    as-check : RunsAs 44 k 1 its-run (Check (x 0))
    unfolding plays starting behind_first ending find
    as-check = record { y = one 44 k (its-run 0); goes = one-goes 44 k its-run (λ s. refl); whole = λ s. refl }

    as-dup-if : RunsAs 45 k 1 its-run (DupIf (x 0))
    unfolding plays starting behind_first ending find
    as-dup-if = record { y = one 45 k (its-run 0); goes = one-goes 45 k its-run (λ s. refl); whole = λ s. refl }

    as-verify : RunsAs 46 k 1 its-run (Verify (x 0))
    unfolding plays starting behind_first ending find
    as-verify = record { y = one 46 k (its-run 0); goes = one-goes 46 k its-run (λ s. refl); whole = λ s. refl }

    as-non-zero : RunsAs 47 k 1 its-run (NonZero (x 0))
    unfolding plays starting behind_first ending find
    as-non-zero = record { y = one 47 k (its-run 0); goes = one-goes 47 k its-run (λ s. refl); whole = λ s. refl }

    as-zero-not-equal : RunsAs 48 k 1 its-run (ZeroNotEqual (x 0))
    unfolding plays starting behind_first ending find
    as-zero-not-equal = record { y = one 48 k (its-run 0); goes = one-goes 48 k its-run (λ s. refl); whole = λ s. refl }

  -- ---- two children

  abbrev later : (ℕ → Run → Run) → ℕ → Run → Run
  later y zero s = s
  later y (suc p) s = y p s

  abbrev two : (kind k : ℕ) → (Run → Run) → (Run → Run) → ℕ → Run → Run
  two kind k x x' zero s = behind_first c t kind 2 (later (one kind k x')) (x s)
  two kind k x x' (suc p) s = one kind k x' p s

  two-goes : (kind k : ℕ) (x : ℕ → Run → Run)
      → ((s : Run) → behind_first c t kind 2 (later (one kind k (x 1))) s ≡ behind_first c t kind 2 (two kind k (x 0) (x 1)) s)
      → ((s : Run) → ending c t kind k s ≡ behind_later c t kind 2 1 (two kind k (x 0) (x 1)) s)
      → Continues kind k 2 x (two kind k (x 0) (x 1))
  two-goes kind k x e f = record { ends = ends; step = step }
    where
      ends : (p : ℕ) → 2 ≤ p → (s : Run) → two kind k (x 0) (x 1) p s ≡ ending c t kind k s
      ends zero h s = absurd (omega arith)
      ends (suc zero) h s = absurd (omega arith)
      ends (suc (suc p)) h s = refl

      step : (p : ℕ) → p < 2 → (s : Run) → two kind k (x 0) (x 1) p s ≡ behind c t kind 2 p (two kind k (x 0) (x 1)) (x p s)
      step zero h s = e (x 0 s)
      step (suc zero) h s = f (x 1 s)
      step (suc (suc p)) h s = absurd (omega arith)

  module _ (k : ℕ) (x : ℕ → Fragment) where
    as-and-b : RunsAs 49 k 2 (its-run k x) (AndB (x 0) (x 1))
    unfolding plays starting behind_first behind_later ending find
    as-and-b =
        record {
          y = two 49 k (its-run k x 0) (its-run k x 1);
          goes = two-goes 49 k (its-run k x) (λ s. refl) (λ s. refl);
          whole = λ s. refl;
        }

    as-and-v : RunsAs 50 k 2 (its-run k x) (AndV (x 0) (x 1))
    unfolding plays starting behind_first behind_later ending find
    as-and-v =
        record {
          y = two 50 k (its-run k x 0) (its-run k x 1);
          goes = two-goes 50 k (its-run k x) (λ s. refl) (λ s. refl);
          whole = λ s. refl;
        }

    as-or-b : RunsAs 51 k 2 (its-run k x) (OrB (x 0) (x 1))
    unfolding plays starting behind_first behind_later ending find
    as-or-b =
        record {
          y = two 51 k (its-run k x 0) (its-run k x 1);
          goes = two-goes 51 k (its-run k x) (λ s. refl) (λ s. refl);
          whole = λ s. refl;
        }

    as-or-d : RunsAs 52 k 2 (its-run k x) (OrD (x 0) (x 1))
    unfolding plays starting behind_first behind_later ending find
    as-or-d =
        record {
          y = two 52 k (its-run k x 0) (its-run k x 1);
          goes = two-goes 52 k (its-run k x) (λ s. refl) (λ s. refl);
          whole = λ s. refl;
        }

    as-or-c : RunsAs 53 k 2 (its-run k x) (OrC (x 0) (x 1))
    unfolding plays starting behind_first behind_later ending find
    as-or-c =
        record {
          y = two 53 k (its-run k x 0) (its-run k x 1);
          goes = two-goes 53 k (its-run k x) (λ s. refl) (λ s. refl);
          whole = λ s. refl;
        }

    as-or-i : RunsAs 54 k 2 (its-run k x) (OrI (x 0) (x 1))
    unfolding plays starting behind_first behind_later ending find
    as-or-i =
        record {
          y = two 54 k (its-run k x 0) (its-run k x 1);
          goes = two-goes 54 k (its-run k x) (λ s. refl) (λ s. refl);
          whole = λ s. refl;
        }

    -- ---- AndOr

    abbrev three : ℕ → Run → Run
    three zero s = if_not c t (its-run k x 2) (its-run k x 1) (its-run k x 0 s)
    three (suc zero) s = its-run k x 1 s
    three (suc (suc zero)) s = its-run k x 2 s
    three (suc (suc (suc p))) s = s

    as-and-or : RunsAs 55 k 3 (its-run k x) (AndOr (x 0) (x 1) (x 2))
    unfolding plays starting behind_first behind_later ending find
    as-and-or = record { y = three; goes = record { ends = ends; step = step }; whole = λ s. refl }
      where
        ends : (p : ℕ) → 3 ≤ p → (s : Run) → three p s ≡ ending c t 55 k s
        ends zero h s = absurd (omega arith)
        ends (suc zero) h s = absurd (omega arith)
        ends (suc (suc zero)) h s = absurd (omega arith)
        ends (suc (suc (suc p))) h s = refl

        step : (p : ℕ) → p < 3 → (s : Run) → three p s ≡ behind c t 55 3 p three (its-run k x p s)
        step zero h s = refl
        step (suc zero) h s = refl
        step (suc (suc zero)) h s = refl
        step (suc (suc (suc p))) h s = absurd (omega arith)

  -- ---- Thresh

  module _ (tree children : List ℕ) (k n : ℕ) (short : n ≤ length children) where
    abbrev each : ℕ → Run → Run
    each j = plays c t (fragment_at tree (get_or children j 0))

    abbrev rest : ℕ → Fragments
    rest p = children_from tree children p n

    abbrev sums : ℕ → Run → Run
    sums zero s = ending c t 56 k (summed c t (rest 0) s)
    sums (suc p) s = ending c t 56 k (added c t (rest (suc p)) s)

    sums_next : (p : ℕ) (s : Run) → sums (p + 1) s ≡ ending c t 56 k (added c t (rest (p + 1)) s)
    sums_next p s = rw (add-one p)

    as-thresh : RunsAs 56 k n each (Thresh k (rest 0))
    unfolding plays summed added starting behind_first behind_later ending find
    as-thresh = record { y = sums; goes = record { ends = ends; step = step }; whole = λ s. refl }
      where
        ends : (p : ℕ) → n ≤ p → (s : Run) → sums p s ≡ ending c t 56 k s
        ends zero h s = rw (children-none tree children 0 n h)
        ends (suc p) h s = rw (children-none tree children (suc p) n h)

        step : (p : ℕ) → p < n → (s : Run) → sums p s ≡ behind c t 56 n p sums (each p s)
        step zero h s = rw (children-next tree children 0 n h short)
        step (suc p) h s =
            ap (λ (xs : Fragments). ending c t 56 k (added c t xs s)) (children-next tree children (suc p) n h short)
            ∙ sym (sums_next (suc p) (recorded_step c t ADD (each (suc p) s)))

-- ---- a record's fragment

-- what holds of each number of a range holds of one in it
at-or-above : (P : ℕ → Type 0) (low kind : ℕ) → low ≤ kind → P low → (suc low ≤ kind → P kind) → P kind
at-or-above P low kind l here later = by-test (eqb kind low) refl
  where
    by-test : (b : Bool) → eqb kind low ≡ b → P kind
    by-test true e = subst P (sym (eqb-true kind low e)) here
    by-test false e = later (omega (arith, eqb-false kind low e))

module _ (c : Context) (t : Tables) {tree : List ℕ} {i : ℕ} (row : TreeRecord tree i) where
  abbrev its-kind : ℕ
  its-kind = kind_of (record_at tree i)

  abbrev its-parts : Parts
  its-parts = parts_of (fragment_payload (record_at tree i))

  abbrev told : Told tree i (record_at tree i) its-kind its-parts
  told = row_told row

  abbrev its-child : ℕ → Fragment
  its-child j = fragment_at tree (get_or its-parts.children j 0)

  abbrev AsPlayed : ℕ → Type 0
  AsPlayed kind = its-kind ≡ kind → 0 < arity kind its-parts.count
      → RunsAs c t kind its-parts.k (arity kind its-parts.count) (λ j. plays c t (its-child j)) (fragment_at tree i)

  its-thresh : its-kind ≡ 56 → RunsAs c t 56 its-parts.k its-parts.count (λ j. plays c t (its-child j)) (fragment_at tree i)
  its-thresh e =
      named c t (is-thresh told e)
      (as-thresh c t tree its-parts.children its-parts.k its-parts.count (rw (all-places row) (threshold-bounds told (omega arith)).2))

  by_kind : (kind : ℕ) → AsPlayed kind
  by_kind kind e h =
      let k = its-parts.k in
      let x = its-child in
      at-or-above AsPlayed 42 kind (has-children kind its-parts.count h) (λ e h. named c t (is-alt told e) (as-alt c t k x))
      (λ l. at-or-above AsPlayed 43 kind l (λ e h. named c t (is-swap told e) (as-swap c t k x))
      (λ l. at-or-above AsPlayed 44 kind l (λ e h. named c t (is-check told e) (as-check c t k x))
      (λ l. at-or-above AsPlayed 45 kind l (λ e h. named c t (is-dup-if told e) (as-dup-if c t k x))
      (λ l. at-or-above AsPlayed 46 kind l (λ e h. named c t (is-verify told e) (as-verify c t k x))
      (λ l. at-or-above AsPlayed 47 kind l (λ e h. named c t (is-non-zero told e) (as-non-zero c t k x))
      (λ l. at-or-above AsPlayed 48 kind l (λ e h. named c t (is-zero-not-equal told e) (as-zero-not-equal c t k x))
      (λ l. at-or-above AsPlayed 49 kind l (λ e h. named c t (is-and-b told e) (as-and-b c t k x))
      (λ l. at-or-above AsPlayed 50 kind l (λ e h. named c t (is-and-v told e) (as-and-v c t k x))
      (λ l. at-or-above AsPlayed 51 kind l (λ e h. named c t (is-or-b told e) (as-or-b c t k x))
      (λ l. at-or-above AsPlayed 52 kind l (λ e h. named c t (is-or-d told e) (as-or-d c t k x))
      (λ l. at-or-above AsPlayed 53 kind l (λ e h. named c t (is-or-c told e) (as-or-c c t k x))
      (λ l. at-or-above AsPlayed 54 kind l (λ e h. named c t (is-or-i told e) (as-or-i c t k x))
      (λ l. at-or-above AsPlayed 55 kind l (λ e h. named c t (is-and-or told e) (as-and-or c t k x))
      (λ l. at-or-above AsPlayed 56 kind l (λ e h. its-thresh e)
      (λ l e h. absurd (omega (arith, arity-above kind its-parts.count l))))))))))))))))) e h

  pub runs_as : 0 < (node_of (record_at tree i)).n
      → RunsAs c t (node_of (record_at tree i)).kind (node_of (record_at tree i)).k (node_of (record_at tree i)).n (λ j. plays c t (its-child j))
      (fragment_at tree i)
  runs_as h = by_kind its-kind refl h
