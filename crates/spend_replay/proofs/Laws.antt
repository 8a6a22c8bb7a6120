-- A log with its entries in another order gives the reports in that order: each block of bytes is an entry, and reports are a map over entries.
-- Assumes nothing.
use Prim.Native.Nat.{ℕ, zero, suc, ◌*◌, ◌≤◌}
use mathlib.Core.Bool.{Bool, true, false, cond}
use mathlib.Core.List.{List, [], ◌∷◌, map}
use Rattle.std.specs.Prelude.{Option, None, Some}
use mathlib.Core.Path.{◌≡◌, refl, sym, ap, ◌∙◌}
use native.Mathlib.Omega.{arith}
use borrow.Author.Tests.{leb-true, le-leb}
use lib.Dec.{leb, eqb}
use lib.ListN.{length, get_or}
use Rattle.contexts.specs.declared.Context.{Context}
use Rattle.trees.specs.Fragment.{Fragment}
use Rattle.trees.specs.Reading.{Answer, refused, done, ◌>>=◌, or_refuse}
use Rattle.trees.specs.TreeCheck.{bad_context, bad_work, Typed, context_of, typed_tree_of}
use Rattle.script_machine.specs.Numbers.{Bytes}
use Rattle.script_bytes.specs.ScriptOf.{no_entry, output_too_small, has_entries}
use Rattle.spend_machine.specs.Entries.{Entry}
use Rattle.spend_machine.specs.Verdicts.{report, reports}
use Rattle.spend_machine.specs.Laws.{in_order}
use Rattle.spend_machine.proofs.Laws.{entries-apart}
use Rattle.spend_log.specs.Logs.{Head, Log}
use Rattle.spend_log.specs.Written.{All, ShortEntry, ShortHead}
use Rattle.spend_log.proofs.ReadBack.{blocks-are-entries}
use Rattle.spend_replay.specs.Replay.{replay_words, Report, fitting, reports_in, replay_log, replay_of}
use Rattle.spend_replay.specs.Laws.{log_with, InOrder, Reordered}

done-same : {A : Type 0} {x y : A} → done x ≡ done y → x ≡ y
done-same e = cc

get_d-all : {A : Type 0} (P : A → Type 0) (xs : List A) (i : ℕ) (x : A) → All P xs → P x → P (get_or xs i x)
unfolding All
get_d-all P [] i x a p = p
get_d-all P (y ∷ xs) zero x a p = a.0
get_d-all P (y ∷ xs) (suc i) x a p = get_d-all P xs i x a.1 p

in-order-all : {A : Type 0} (P : A → Type 0) (xs : List A) (x : A) (order : List ℕ) → All P xs → P x → All P (in_order xs x order)
unfolding All
in-order-all P xs x [] a p = tt
in-order-all P xs x (i ∷ order) a p = (get_d-all P xs i x a p, in-order-all P xs x order a p)

order-long : {A : Type 0} (xs : List A) (x : A) (order : List ℕ) → length (in_order xs x order) ≡ length order
order-long xs x [] = refl
order-long xs x (i ∷ order) = ap suc (order-long xs x order)

module _ (h : Head) (es : List Entry) (e : Entry) (order : List ℕ) (room words : ℕ) (rs : List Report) (few : length order ≤ length es) where
  -- an answer is done with the reports in the order
  record Ordered (a : Answer (List Report)) : Type 0 where
    other : Report
    gives : a ≡ done (in_order rs other order)

  by-fit : (c : Context) (f : Fragment) (fits : Bool) → leb (8 * length (reports c h.tables f es)) room ≡ fits
      → cond fits (done (reports c h.tables f es)) (refused output_too_small) ≡ done rs
      → fitting room (reports c h.tables f (in_order es e order)) ≡ done (in_order rs (report c h.tables f e) order)
  by-fit c f true t k =
      let apart = entries-apart c h.tables f in
      let many = apart.counted es in
      let ordered = apart.counted (in_order es e order) in
      let long = order-long es e order in
      let room-enough = leb-true (8 * length (reports c h.tables f es)) room t in
      let fits : 8 * length (reports c h.tables f (in_order es e order)) ≤ room = omega arith in
      rw (le-leb (8 * length (reports c h.tables f (in_order es e order))) room fits)
      (ap done (apart.reordered es e order ∙ ap (λ xs. in_order xs (report c h.tables f e) order) (done-same k)))
  by-fit c f false t k = absurd (let y : ◌≡◌ {A = ℕ} 0 1 = cc in omega arith)

  by_entries : (c : Context) (f : Fragment) (all : Bool) → has_entries c h.tables f ≡ all → reports_in c h.tables room es f ≡ done rs
      → reports_in c h.tables room (in_order es e order) f ≡ done (in_order rs (report c h.tables f e) order)
  by_entries c f true a k = rw a (by-fit c f (leb (8 * length (reports c h.tables f es)) room) refl (rw a at k))
  by_entries c f false a k =
      let z : ◌≡◌ {A = Answer (List Report)} (refused no_entry) (done rs) = rw a at k in
      absurd (let y : ◌≡◌ {A = ℕ} 0 1 = cc in omega arith)

  -- the answer for entries, by the context and by whether work memory has its length
  abbrev answer : Option Context → Bool → List Entry → Answer (List Report)
  answer o right xs = do
    c ← or_refuse bad_context o
    _ ← or_refuse bad_work (cond right (Some words) None)
    x ← typed_tree_of c h.tree
    reports_in c h.tables room xs x.tree

  by-tree : (c : Context) (a : Answer Typed) → (a >>= λ x. reports_in c h.tables room es x.tree) ≡ done rs
      → Ordered (a >>= λ x. reports_in c h.tables room (in_order es e order) x.tree)
  by-tree c (refused n) k = absurd (let y : ◌≡◌ {A = ℕ} 0 1 = cc in omega arith)
  by-tree c (done x) k =
      record { other = report c h.tables x.tree e; gives = by_entries c x.tree (has_entries c h.tables x.tree) refl k }

  ordered : (o : Option Context) (right : Bool) → answer o right es ≡ done rs → Ordered (answer o right (in_order es e order))
  ordered None right k = absurd (let y : ◌≡◌ {A = ℕ} 0 1 = cc in omega arith)
  ordered (Some c) false k = absurd (let y : ◌≡◌ {A = ℕ} 0 1 = cc in omega arith)
  ordered (Some c) true k = by-tree c (typed_tree_of c h.tree) k

  replay-ordered : replay_log (record { front = h; entries = es }) room words ≡ done rs
      → Ordered (replay_log (record { front = h; entries = in_order es e order }) room words)
  unfolding replay_log
  replay-ordered k = ordered (context_of h.context) (eqb words replay_words) k

-- a log that is read is replayed
replay-read : (h : Head) (es : List Entry) (out : Bytes) (work : List ℕ) → ShortHead h → All ShortEntry es
    → replay_of (log_with h es) out work ≡ replay_log (record { front = h; entries = es }) (length out) (length work)
unfolding replay_of
replay-read h es out work s t = rw (blocks-are-entries h es s t)

pub reordered : Reordered
reordered h es e order out work rs s t te few k =
    let o = replay-ordered h es e order (length out) (length work) rs few (sym (replay-read h es out work s t) ∙ k) in
    record {
      other = o.other;
      gives = replay-read h (in_order es e order) out work s (in-order-all ShortEntry es e order t te) ∙ o.gives;
    }
