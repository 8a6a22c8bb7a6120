-- The entry's promise: what the check refuses is refused with its number, and what it passes has its script. Assumes nothing.
use Prim.Native.Nat.{ℕ}
use mathlib.Core.List.{List}
use Rattle.std.specs.Prelude.{Some, Result}
use mathlib.Core.Path.{◌≡◌, sym, ap, ◌∙◌}
use lib.ListN.{length, replicate}
use Rattle.words.specs.Memory.{zeroed}
use Rattle.contexts.specs.declared.Context.{Context}
use Rattle.trees.specs.Reading.{refused}
use Rattle.trees.specs.TreeCheck.{context_of, check_of}
use Rattle.script_machine.specs.Numbers.{Bytes}
use Rattle.script_bytes.specs.Tables.{Tables}
use Rattle.script_bytes.specs.ScriptOf.{script_in, script_of, ScriptPromise}
use Rattle.walk.specs.TreeRecords.{Written}
use Rattle.walk.proofs.Laws.{rows}
use Rattle.claspwillow.specs.Promises.{CheckPromise}
use Rattle.claspwillow.specs.Results.{number_in}
use Rattle.claspwillow.proofs.CheckLaws.{Passed, passed, refused_as, same-room}
use Rattle.refusals.specs.declared.Refusal.{Refusal}
use Rattle.script_entry.specs.Outcomes.{bytes_in, Gives}
use Rattle.script_entry.proofs.Runs.{gives_as}

module _ {context : ℕ} {tree : Bytes} {work : List ℕ} (x : Passed context tree work) where
  abbrev pub written : Written tree
  written = record { root = x.typed.tree; rows = rows context tree (length work) x.typed x.passes }

  pub script-is : (t : Tables) (out : Bytes) → script_of context tree t out work ≡ script_in x.its-context t (length out) x.typed.tree
  unfolding script_of
  script-is t out = rw (x.passes, x.context-is)

script-refused : (context : ℕ) (tree : Bytes) (work : List ℕ) (t : Tables) (out : Bytes) {number : ℕ}
    → check_of context tree (length work) ≡ refused number → script_of context tree t out work ≡ refused number
unfolding script_of
script-refused context tree work t out e = rw e

-- ---- the promise

cleared : (work worked : List ℕ) {after : List ℕ} → length worked ≡ length work → after ≡ zeroed worked → after ≡ zeroed work
cleared work worked e c = c ∙ ap (λ (n : ℕ). replicate n 0) e

module _ {context : ℕ} {tree : Bytes} {work : List ℕ} {number ty : ℕ} {checked : List ℕ} (promise : CheckPromise context tree work number ty checked) where
  pub refusal : (t : Tables) (out : Bytes) → (number ≡ 0 → ⊥) → ScriptPromise context tree t out work number out 0 checked
  refusal t out z =
      let no = script-refused context tree work t out (refused_as context tree work promise.gives z) in
      record { gives = rw no; writes = rw no; counts = rw no; clears = promise.clears }

  pub script : (t : Tables) (out : Bytes) (c : Context) (worked : List ℕ) {after left : List ℕ} {r : Result ℕ Refusal} → (z : number ≡ 0)
      → ((x : Context) → context_of context ≡ Some x → c ≡ x) → ((p : Passed context tree work) → Gives (script_in c t (length out) p.typed.tree) out left r)
      → length worked ≡ length checked → after ≡ zeroed worked → ScriptPromise context tree t out work (number_in r) left (bytes_in r) after
  script t out c worked {after} {left} {r} z same given long clear =
      let p = passed context tree work promise.gives z in
      let done-is = script-is p t out ∙ ap (λ (y : Context). script_in y t (length out) p.typed.tree) (sym (same p.its-context p.context-is)) in
      let g = gives_as done-is (given p) in
      record {
        gives = g.number;
        writes = g.writes;
        counts = g.counts;
        clears = cleared work worked (long ∙ same-room work promise.clears) clear;
      }
