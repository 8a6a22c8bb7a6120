-- The verdict on an entry by its run in memory, and its report. Assumes nothing.
use Prim.Native.Nat.{ℕ, ◌+◌, ◌≤◌, ◌<◌}
use mathlib.Core.Bool.{Bool, true, false, ◌&&◌}
use mathlib.Core.List.{List, [], ◌++◌}
use mathlib.Core.Path.{◌≡◌, refl, sym, ap, subst, ◌∙◌}
use native.Mathlib.Omega.{arith}
use borrow.Author.Tests.{leb-true}
use lib.Dec.{leb}
use lib.ListN.{length, drop}
use Rattle.contexts.specs.declared.Context.{Context}
use Rattle.contexts.specs.Lists.{all}
use Rattle.trees.specs.Fragment.{Fragment}
use Rattle.script_machine.specs.Numbers.{Bytes, Stack}
use Rattle.script_machine.specs.Machine.{state}
use Rattle.script_bytes.specs.Tables.{Tables}
use Rattle.walk.specs.TreeRecords.{fragment_at}
use Rattle.spend_machine.specs.Entries.{Entry}
use Rattle.spend_machine.specs.Recorded.{stands, max_elements}
use Rattle.spend_machine.specs.Verdicts.{verdict_number, small_bytes, small_entry, judged, replay, verdict}
use Rattle.spend_machine.specs.Playing.{plays}
use Rattle.spend_machine.proofs.Playing.{script-plays}
use Rattle.spend_log.specs.Places.{tables_in}
use Rattle.spend_log.specs.declared.Offsets.{Offsets}
use Rattle.spend_stack.specs.declared.Machine.{Machine}
use Rattle.spend_stack.specs.Memory.{work_words, main_in}
use Rattle.spend_stack.specs.Machines.{run_of}
use Rattle.spend_stack.proofs.Memory.{main-back}
use Rattle.spend_judge.specs.declared.EntryAt.{EntryAt}
use Rattle.spend_judge.specs.Places.{stack_in, outcomes_in, end_in, entry_at, entry_in, Lie, Stands}
use Rattle.spend_judge.specs.Results.{Loaded, Begins}
use Rattle.spend_judge.proofs.Entries.{EntryRead, entry_read, stack-later, outcomes-later, end_later}
use Rattle.spend_run.specs.Running.{Runs, Played}
use Rattle.spend_entry.specs.Results.{put_numbers, Reported}
use Rattle.spend_entry.proofs.Telling.{length-numbers}

both_left : (a b : Bool) → a && b ≡ true → a ≡ true
both_left true b e = refl
both_left false b e = e

-- a small entry starts on a stack of few elements
pub few-elements : (log : Bytes) (e : EntryAt) {b : Bool} → b ≡ small_entry (entry_in log e) → b ≡ true → length (stack_in log e.start) ≤ 4096
unfolding small_entry entry_in
few-elements log e is t =
    let stack = both_left (leb (length (stack_in log e.start)) max_elements && all small_bytes (stack_in log e.start)) _ (sym is ∙ t) in
    leb-true (length (stack_in log e.start)) max_elements (both_left _ (all small_bytes (stack_in log e.start)) stack)

module _ (c : Context) (log : Bytes) (h : Offsets) (tree : List ℕ) (root : ℕ) (e : EntryAt) where
  abbrev tables : Tables
  tables = tables_in log h

  abbrev tree_is : Fragment
  tree_is = fragment_at tree root

  -- the run from the stack that was loaded is the replay
  replayed : {before main alt main' alt' : List ℕ} {n : ℕ} {m r : Machine} → length (stack_in log e.start) ≤ 4096 → Loaded log before main n (stack_in log e.start)
      → Begins log main n e.outcomes m → Played c log h tree root main alt main' alt' m r
      → run_of log main' alt' r ≡ replay c tables tree_is (entry_in log e)
  unfolding replay entry_in
  replayed {before} {main} {alt} {main'} {alt'} {n} {m} {r} few l b p =
      p.says
      ∙ ap (plays c tables tree_is) (b.says alt ∙ ap (λ (s : Stack). stands (state s [] []) (outcomes_in log e.outcomes)) l.is)
      ∙ sym (script-plays c tables tree_is (stands (state (stack_in log e.start) [] []) (outcomes_in log e.outcomes)) (omega arith))

  pub verdict-small : {before main alt main' alt' : List ℕ} {n v : ℕ} {m r : Machine} {b : Bool} → b ≡ small_entry (entry_in log e) → b ≡ true
      → Loaded log before main n (stack_in log e.start) → Begins log main n e.outcomes m → Played c log h tree root main alt main' alt' m r
      → ((a : List ℕ) → v ≡ verdict_number (judged (run_of log main' a r) (end_in log e.ending)))
      → v ≡ verdict_number (verdict c tables tree_is (entry_in log e))
  unfolding verdict entry_in
  verdict-small {alt' = alt'} is t l b p j =
      let small : small_entry (entry_in log e) ≡ true = sym is ∙ t in
      rw small (j alt' ∙ ap (λ x. verdict_number (judged x (end_in log e.ending))) (replayed (few-elements log e is t) l b p))

  pub verdict-large : {b : Bool} → b ≡ small_entry (entry_in log e) → b ≡ false → 3 ≡ verdict_number (verdict c tables tree_is (entry_in log e))
  unfolding verdict
  verdict-large is t =
      let large : small_entry (entry_in log e) ≡ false = sym is ∙ t in
      rw large refl

-- the stack that was loaded into the main stack's part of the memory
pub loaded-back : {log before : List ℕ} {n : ℕ} {m : Stack} (w : List ℕ) → length w ≡ work_words → (p : List ℕ) → length p ≡ length (main_in w)
    → Loaded log before p n m → Loaded log before (main_in (p ++ drop 8192 w)) n m
loaded-back {log} {before} {n = n} {m} w long p same x = main-back w long p same (λ a b. Loaded log before a n m) x

-- the run may begin from memory where the records' places are as they were
pub still-runs : {c : Context} {log : Bytes} {h : Offsets} {tree starts starts' : List ℕ} {i : ℕ} → Runs c log h tree starts i → starts' ≡ starts
    → Runs c log h tree starts' i
still-runs {c} {log} {h} {tree} {i = i} r e = subst (λ (s : List ℕ). Runs c log h tree s i) (sym e) r

-- ---- the report

module _ (log : Bytes) (at : ℕ) (s : Stands log at) where
  abbrev parts : EntryRead log at s.read
  parts = entry_read log at s.within s.read s.reads

  pub its-parts-lie : {e : EntryAt} → e ≡ entry_at log at → Lie log e
  its-parts-lie {e} is = subst (λ (x : EntryAt). Lie log x) (sym is) parts.lies

  next-later : at < (entry_at log at).next
  unfolding entry_at
  next-later =
      let a = stack-later log (at + 4) in
      let b = outcomes-later log (entry_at log at).outcomes in
      let d = end_later log (entry_at log at).ending in
      omega arith

  next-within : (entry_at log at).next ≤ length log
  unfolding entry_at
  next-within = parts.lies.ending

  pub reported : (c : Context) (t : Tables) (f : Fragment) (i : ℕ) (before : Bytes) {after : Bytes} {e : EntryAt} {v : ℕ} → e ≡ entry_at log at
      → v ≡ verdict_number (verdict c t f (entry_in log e)) → after ≡ put_numbers before i e.number v
      → Reported c t f log at i before after e.next
  unfolding entry_in
  reported c t f i before {after} {e} {v} is judge put =
      let next : e.next ≡ (entry_at log at).next = ap (λ (x : EntryAt). x.next) is in
      record {
        tells = λ g k.
            let r = entry_read log at s.within g k in
            let mine : entry_in log e ≡ g.value = ap (entry_in log) is ∙ sym r.value in
            put
            ∙ ap (λ (n : ℕ). put_numbers before i e.number n) (judge ∙ ap (λ (x : Entry). verdict_number (verdict c t f x)) mine)
            ∙ ap (λ (x : Entry). put_numbers before i x.number (verdict_number (verdict c t f g.value))) mine;
        behind = λ g k. (entry_read log at s.within g k).behind ∙ ap (λ (n : ℕ). drop n log) (sym next);
        onwards = omega (arith, next, next-later);
        within = omega (arith, next, next-within);
        same = ap length put ∙ length-numbers before i e.number v;
      }
