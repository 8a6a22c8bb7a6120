-- The entry's promise: each refusal in its turn, and else the reports. Assumes nothing.
use Prim.Native.Nat.{ℕ, ◌*◌, ◌-◌, ◌/◌, ◌≤◌, ◌<◌}
use mathlib.Core.Bool.{Bool, true, false}
use mathlib.Core.List.{List, [], ◌++◌}
use Rattle.std.specs.Prelude.{Option, None, Some, Result, Ok, Err}
use Rattle.refusals.specs.declared.Refusal.{Refusal}
use Rattle.refusals.specs.declared.Refusal.TheVariants as Refusal
use Rattle.refusals.specs.Numbers.{number_of}
use mathlib.Core.Path.{◌≡◌, refl, sym, ap, subst, ◌∙◌}
use native.Mathlib.Omega.{arith}
use borrow.Author.Tests.{le-leb, lt-leb, eq-eqb, ne_eqb}
use lib.ListN.{length, take, drop, replicate}
use Rattle.words.specs.Memory.{zeroed}
use Rattle.contexts.specs.declared.Context.{Context}
use Rattle.trees.specs.Fragment.{Fragment}
use Rattle.trees.specs.Reading.{Answer, refused, done, ◌>>=◌, max_records}
use Rattle.trees.specs.TreeCheck.{bad_context, Typed, context_of, typed_tree_of, check_of}
use Rattle.trees.specs.Checked.{type_only}
use Rattle.script_machine.specs.Numbers.{Bytes}
use Rattle.script_bytes.specs.Tables.{Tables}
use Rattle.script_bytes.specs.ScriptOf.{no_entry, output_too_small, has_entries}
use Rattle.script_bytes.specs.Entries.{entries_below}
use Rattle.script_bytes.proofs.OwnEntries.{of-records}
use Rattle.walk.specs.TreeRecords.{TreeRecords, Written, fragment_at}
use Rattle.walk.specs.Nodes.{AllPlaced}
use Rattle.walk.proofs.Laws.{rows}
use Rattle.script_entry.proofs.Scanning.{all-ready}
use Rattle.claspwillow.specs.Results.{number_in}
use Rattle.claspwillow.proofs.CheckLaws.{Passed, refused-by}
use Rattle.spend_machine.specs.Entries.{Entry}
use Rattle.spend_machine.specs.Verdicts.{reports}
use Rattle.spend_machine.proofs.Laws.{entries-apart}
use Rattle.spend_log.specs.Logs.{log, log_of}
use Rattle.spend_log.specs.Places.{Lies, tree_in, tables_in, head_in, count_answer}
use Rattle.spend_log.specs.Logs.{entry}
use Rattle.spend_log.specs.Readers.{to_end}
use Rattle.spend_log.specs.declared.Offsets.{Offsets}
use Rattle.spend_log.proofs.Heads.{entries-told}
use Rattle.spend_stack.specs.Memory.{work_words, starts_in}
use Rattle.spend_stack.proofs.Memory.{starts-back}
use Rattle.spend_run.specs.Running.{Runs}
use Rattle.spend_replay.specs.Replay.{bad_log, replay_words, Report, reports_in, replay_log, replay_of, ReplayPromise}
use Rattle.spend_entry.specs.Results.{put_reports, read_or, entries_from, count_in, Gives, Whole, wrong_length}
use Rattle.spend_entry.proofs.Telling.{all-put}

pub gives_as : {a b : Answer (List Report)} {out left : Bytes} {r : Result ℕ Refusal} → a ≡ b → Gives b out left r → Gives a out left r
gives_as {a} {b} {out} {left} {r} e g = subst (λ (x : Answer (List Report)). Gives x out left r) (sym e) g

-- a refusal leaves the output as it was
pub refuses : (e : Refusal) (out : Bytes) → Gives (refused (number_of e)) out out (Err e)
refuses e out = record { number = refl; writes = refl; counts = refl }

-- ---- a tree that the check passed

module _ (c : Context) (log : Bytes) (h : Offsets) {tree : Bytes} {f : Fragment} (r : TreeRecords tree f) {n : ℕ} (counted : n ≡ r.count) where
  abbrev t : Tables
  t = tables_in log h

  -- its run may begin at the root
  pub runs : {starts : List ℕ} → Lies log h → tree ≡ tree_in log h → AllPlaced tree starts (n - 1) → entries_below c t tree n ≡ true
      → Runs c log h tree starts (n - 1)
  runs lies is placed has =
      let ready = all-ready c t r counted placed has in
      record { lies = lies; is-tree = is; placed = ready.placed; entries = ready.entries }

  module _ {b : Bool} (told : b ≡ entries_below c t tree n) where
    tells : has_entries c t f ≡ b
    tells = of-records c t r ∙ ap (entries_below c t tree) (sym counted) ∙ sym told

    pub no-entry : (es : List Entry) (out : Bytes) → b ≡ false → Gives (reports_in c t (length out) es f) out out (Err Refusal.NoEntry)
    no-entry es out e =
        let miss : has_entries c t f ≡ false = tells ∙ e in
        let no : reports_in c t (length out) es f ≡ refused no_entry = rw miss in
        gives_as no (refuses Refusal.NoEntry out)

    module _ (es : List Entry) (out : Bytes) (yes : b ≡ true) {count : ℕ} (many : count ≡ length es) where
      has : has_entries c t f ≡ true
      has = tells ∙ yes

      long : length (reports c t f es) ≡ length es
      long = (entries-apart c t f).counted es

      pub no_room : length out / 8 < count → Gives (reports_in c t (length out) es f) out out (Err Refusal.OutputTooSmall)
      no_room l =
          let over : length out < 8 * length (reports c t f es) = omega (arith, long, many) in
          let no : reports_in c t (length out) es f ≡ refused output_too_small = rw (has, lt-leb (8 * length (reports c t f es)) (length out) over) in
          gives_as no (refuses Refusal.OutputTooSmall out)

      pub room : {left : Bytes} → count ≤ length out / 8 → left ≡ put_reports out 0 (reports c t (fragment_at tree (n - 1)) es)
          → Gives (reports_in c t (length out) es f) out left (Ok count)
      room l put =
          let fits : 8 * length (reports c t f es) ≤ length out = omega (arith, long, many) in
          let root : fragment_at tree (n - 1) ≡ f = ap (λ (k : ℕ). fragment_at tree (k - 1)) counted ∙ r.root in
          let yes-is : reports_in c t (length out) es f ≡ done (reports c t f es) = rw (has, le-leb (8 * length (reports c t f es)) (length out) fits) in
          gives_as yes-is (record {
            number = refl;
            writes = put ∙ ap (λ (x : Fragment). put_reports out 0 (reports c t x es)) root ∙ all-put (reports c t f es) out fits;
            counts = many ∙ sym long;
          })

-- the places of the records that the scan left, put back into the memory
pub placed-back : {tree : Bytes} {i : ℕ} (w : List ℕ) → (long : length w ≡ work_words) (p : List ℕ) → length p ≡ length (starts_in w) → AllPlaced tree p i
    → AllPlaced tree (starts_in (take 16384 w ++ (p ++ drop 4096 (drop 16384 w)))) i
placed-back {tree} {i} w long p same x = subst (λ (s : List ℕ). AllPlaced tree s i) (sym (starts-back w long p same)) x

pub fits-room : (es : List Entry) (out : Bytes) {count : ℕ} → count ≡ length es → count ≤ length out / 8 → 8 * length es ≤ length out
fits-room es out e h = omega arith

-- ---- a log that is not broken

module _ (log : Bytes) (h : Offsets) (count : ℕ) (w : Whole log h count) (out : Bytes) (work : List ℕ) where
  replay-is : replay_of log out work
      ≡ replay_log (record { front = head_in log h; entries = entries_from log h.entries }) (length out) (length work)
  unfolding replay_of
  replay-is = rw w.is-log

  pub wrong-work : (length work ≡ replay_words → ⊥) → {e : Refusal} → number_of e ≡ wrong_length h.context → Gives (replay_of log out work) out out (Err e)
  unfolding replay_log
  wrong-work n {e} is = gives_as (replay-is ∙ by-context (context_of h.context) refl ∙ ap refused (sym is)) (refuses e out)
    where
      by-context : (o : Option Context) → context_of h.context ≡ o
          → replay_log (record { front = head_in log h; entries = entries_from log h.entries }) (length out) (length work)
          ≡ refused (wrong_length h.context)
      by-context (Some c) k = rw (k, ne_eqb (length work) replay_words n)
      by-context None k = rw k

  module _ (right : length work ≡ replay_words) where
    -- the check of the log's tree says what is refused before the reports
    with-check : (words : ℕ) → words ≡ max_records → (a : Answer Typed) → check_of h.context (tree_in log h) words ≡ a → (c : Context)
        → context_of h.context ≡ Some c
        → replay_of log out work ≡ (a >>= λ x. reports_in c (tables_in log h) (length out) (entries_from log h.entries) x.tree)
    unfolding replay_log check_of
    with-check words e a k c o =
        let typed : typed_tree_of c (tree_in log h) ≡ a = rw (o, eq-eqb words max_records e) at k in
        replay-is ∙ rw (o, eq-eqb (length work) replay_words right, typed)

    check-refused : (words n : ℕ) → words ≡ max_records → check_of h.context (tree_in log h) words ≡ refused n → replay_of log out work ≡ refused n
    unfolding replay_log check_of
    check-refused words n e k = by-context (context_of h.context) refl
      where
        by-context : (o : Option Context) → context_of h.context ≡ o → replay_of log out work ≡ refused n
        by-context (Some c) o = with-check words e (refused n) k c o
        by-context None o =
            let same : ◌≡◌ {A = Answer Typed} (refused bad_context) (refused n) = rw o at k in
            let number : bad_context ≡ n = cc (same) in
            replay-is ∙ rw (o, number)

    pub check-refuses : (words : List ℕ) {e : Refusal} → refused (number_of e) ≡ type_only (check_of h.context (tree_in log h) (length words))
        → length words ≡ max_records → Gives (replay_of log out work) out out (Err e)
    check-refuses words {e} p room =
        gives_as (check-refused (length words) (number_of e) room (refused-by h.context (tree_in log h) words p)) (refuses e out)

    pub check-passes : {words : List ℕ} → (p : Passed h.context (tree_in log h) words) → length words ≡ max_records
        → {c : Context} → ((x : Context) → context_of h.context ≡ Some x → c ≡ x) → {left : Bytes} {g : Result ℕ Refusal}
        → Gives (reports_in c (tables_in log h) (length out) (entries_from log h.entries) p.typed.tree) out left g
        → Gives (replay_of log out work) out left g
    check-passes {words} p e {c} same g =
        gives_as (with-check (length words) e (done p.typed) p.passes c (p.context-is ∙ ap Some (sym (same p.its-context p.context-is)))) g

abbrev pub written : {context : ℕ} {tree : Bytes} {work : List ℕ} → Passed context tree work → Written tree
written {context} {tree} {work} x = record { root = x.typed.tree; rows = rows context tree (length work) x.typed x.passes }

-- ---- reading the log

pub broken-log : (log out : Bytes) (work : List ℕ) → log_of log ≡ None → Gives (replay_of log out work) out out (Err Refusal.BadTree)
unfolding replay_of
broken-log log out work e =
    let no : replay_of log out work ≡ refused bad_log = rw e in
    gives_as no (refuses Refusal.BadTree out)

pub whole : (log : Bytes) (h : Offsets) {a : Option ℕ} {count : ℕ} → Lies log h → a ≡ count_answer (to_end entry (drop h.entries log))
    → a ≡ Some count → Whole log h count
whole log h {a} {count} lies e m =
    let x = entries-told log h lies e m in
    let from : entries_from log h.entries ≡ x.those = ap (read_or []) x.stand.reads in
    record {
      lies = lies;
      follow = record { within = lies.within; read = record { value = x.those; behind = x.stand.last }; reads = x.stand.reads };
      counts = x.count ∙ ap length (sym from);
      is-log = x.is-log ∙ ap (λ (es : List Entry). Some (record { front = head_in log h; entries = es })) (sym from);
    }

-- ---- the promise

pub promised : (log out : Bytes) (work worked : List ℕ) {left after : Bytes} {r : Result ℕ Refusal} → Gives (replay_of log out work) out left r
    → length worked ≡ length work → after ≡ zeroed worked → ReplayPromise log out work (number_in r) left (count_in r) after
promised log out work worked g e c =
    record { gives = g.number; writes = g.writes; counts = g.counts; clears = c ∙ ap (λ (n : ℕ). replicate n 0) e }
