-- The run that measures and the run that writes, and what the script of a tree comes to by them. Assumes nothing.
use Prim.Native.Nat.{ℕ, ◌-◌, ◌≤◌, ◌<◌}
use mathlib.Core.Bool.{Bool, true, false}
use mathlib.Core.List.{[], ◌++◌}
use Rattle.std.specs.Prelude.{Result, Ok, Err}
use Rattle.refusals.specs.declared.Refusal.{Refusal}
use Rattle.refusals.specs.Numbers.{number_of}
use mathlib.Core.Path.{◌≡◌, refl, sym, ap, subst, ◌∙◌}
use borrow.Author.Tests.{le-leb, lt-leb}
use lib.ListN.{length}
use Rattle.contexts.specs.declared.Context.{Context}
use Rattle.trees.specs.Fragment.{Fragment}
use Rattle.trees.specs.Reading.{Answer, refused, done}
use Rattle.script_machine.specs.Numbers.{Bytes}
use Rattle.script_bytes.specs.Tables.{Tables}
use Rattle.script_bytes.specs.Encoding.{script_bytes}
use Rattle.script_bytes.specs.ScriptOf.{no_entry, output_too_small, has_entries, fitting, script_in}
use Rattle.script_bytes.specs.Layout.{bytes_of}
use Rattle.walk.specs.TreeRecords.{TreeRecords, fragment_at}
use Rattle.script_bytes.specs.Entries.{entries_below}
use Rattle.script_bytes.proofs.OwnEntries.{of-records}
use Rattle.script_bytes.proofs.Merging.{script-bytes}
use Rattle.script_leaves.specs.Laying.{Lays}
use Rattle.script_leaves.proofs.Laws as laws
use Rattle.script_entry.specs.Outcomes.{Gives}

pub gives_as : {a b : Answer Bytes} {out left : Bytes} {r : Result ℕ Refusal} → a ≡ b → Gives b out left r → Gives a out left r
gives_as {a} {b} {out} {left} {r} e g = subst (λ (x : Answer Bytes). Gives x out left r) (sym e) g

-- a refusal leaves the output as it was
pub refuses : (r : Refusal) {out left : Bytes} → left ≡ out → Gives (refused (number_of r)) out left (Err r)
refuses r e = record { number = refl; writes = e; counts = refl }

module _ (c : Context) (t : Tables) (f : Fragment) (out : Bytes) {part : Bytes} {n : ℕ} (measured : Lays [] part 0 (bytes_of c t false f) n) where
  -- the measuring run leaves the output as it was
  as_it_was : part ++ out ≡ out
  as_it_was = ap (λ (z : Bytes). z ++ out) (laws.measuring measured)

  pub too_long : length (part ++ out) < n → Gives (fitting (length out) (script_bytes c t f)) out (part ++ out) (Err Refusal.OutputTooSmall)
  too_long h =
      let long : length out < length (script_bytes c t f) =
      rw (script-bytes c t f) (laws.too_long (length out) measured (rw (ap length as_it_was) at h)) in
      let no : fitting (length out) (script_bytes c t f) ≡ refused output_too_small = rw (lt-leb (length (script_bytes c t f)) (length out) long) in
      gives_as no (refuses Refusal.OutputTooSmall as_it_was)

  pub fits : n ≤ length (part ++ out) → {left : Bytes} {end : ℕ} → Lays (part ++ out) left 0 (bytes_of c t false f) end
      → Gives (fitting (length out) (script_bytes c t f)) out left (Ok n)
  fits h {left} {end} l =
      let written : Lays out left 0 (bytes_of c t false f) end = subst (λ (z : Bytes). Lays z left 0 (bytes_of c t false f) end) as_it_was l in
      let both = laws.fitting (length out) measured written.short (rw (ap length as_it_was) at h) in
      let short : length (script_bytes c t f) ≤ length out = rw (script-bytes c t f) both.0 in
      let yes-is : fitting (length out) (script_bytes c t f) ≡ done (bytes_of c t false f) =
      rw (le-leb (length (script_bytes c t f)) (length out) short) (ap done (script-bytes c t f)) in
      gives_as yes-is (record { number = refl; writes = laws.written written both.0; counts = both.1 })

-- ---- the script of a tree that the check passed

module _ (c : Context) (t : Tables) {tree : Bytes} {f : Fragment} (rows : TreeRecords tree f) {count : ℕ} (counted : count ≡ rows.count)
    {all : Bool} (told : all ≡ entries_below c t tree count) (room : ℕ) where
  tells : has_entries c t f ≡ all
  tells = of-records c t rows ∙ ap (entries_below c t tree) (sym counted) ∙ sym told

  pub with_entries : {out left : Bytes} {g : Result ℕ Refusal} → all ≡ true
      → Gives (fitting room (script_bytes c t (fragment_at tree (count - 1)))) out left g → Gives (script_in c t room f) out left g
  with_entries e g =
      let has : has_entries c t f ≡ true = tells ∙ e in
      let root : fragment_at tree (count - 1) ≡ f = ap (λ (n : ℕ). fragment_at tree (n - 1)) counted ∙ rows.root in
      let same : script_in c t room f ≡ fitting room (script_bytes c t (fragment_at tree (count - 1))) = rw (has, root) in
      gives_as same g

  pub without-entry : {out left : Bytes} → left ≡ out → all ≡ false → Gives (script_in c t room f) out left (Err Refusal.NoEntry)
  without-entry same e =
      let miss : has_entries c t f ≡ false = tells ∙ e in
      let no : script_in c t room f ≡ refused no_entry = rw miss in
      gives_as no (refuses Refusal.NoEntry same)
