-- Steps of work on a table that all of this crate takes: an answer by another name, no work, and a step that does nothing. Assumes nothing.
use Rattle.refusals.specs.declared.Refusal.{Refusal}
use Rattle.std.specs.Prelude.{Result, Ok, Err}
use mathlib.Core.Path.{◌≡◌, refl, sym, subst}
use mathlib.Core.List.{List}
use Prim.Native.Nat.{ℕ}
use native.Mathlib.Omega.{arith}
use Rattle.definition.specs.Tables.{Table}
use Rattle.definition.specs.Refusals.{M, State, Res, done, refused, then}
use Rattle.table.specs.Rows.{TableHolds}
use Rattle.closure.specs.declared.Closed.{Closed}
use Rattle.search_state.specs.State.{Ready}
use Rattle.search_state.specs.Recalled.{table_answer, Tabled}
use Rattle.search_state.proofs.Growing.{onward-refl}
use Rattle.search_state.proofs.Chains.{paid-refl}

-- nothing is a refusal and well at once
pub not-both : {A : Type 0} {x : A} {n : Refusal} → Err n ≡ Ok x → ⊥
not-both d = let z : ◌≡◌ {A = ℕ} 0 1 = cc in omega arith

-- a step that leaves every result leaves this one
pub then-pure : {A : Type 0} (r : Res A) (k : A → M A) → ((a : A) (s : State) → k a s ≡ done a s) → then r k ≡ r
unfolding then
then-pure (done a s) k same = same a s
then-pure (refused e) k same = refl

-- the same answer by another name
pub tabled-as : {extra : ℕ} {res res' : Res Table} {pol m₀ m : List ℕ} {o : Closed} → res ≡ res'
    → Tabled extra res pol o m₀ m → Tabled extra res' pol o m₀ m
tabled-as {extra} {pol} {m₀} {m} {o} e h = subst (λ (r : Res Table). Tabled extra r pol o m₀ m) e h

-- the same table, known to be at work
pub tabled-well : {extra : ℕ} {res : Res Table} {pol m₀ m : List ℕ} {o : Closed} → o.end ≡ Ok tt
    → Tabled extra res pol (record { table = o.table; end = Ok tt }) m₀ m → Tabled extra res pol o m₀ m
tabled-well {extra} {res} {pol} {m₀} {m} {o} e h =
    subst (λ (end : Result (Unit {0}) Refusal). Tabled extra res pol (record { table = o.table; end = end }) m₀ m) (sym e) h

-- no work
pub tabled-here : {pol m : List ℕ} → Ready pol m → (c : Closed) → TableHolds m c.table
    → Tabled 0 (table_answer pol m c) pol c m m
tabled-here {pol} {m} ready c table =
    record {
      says = refl;
      ready = ready;
      onward = onward-refl m;
      table = table;
      paid = λ e. paid-refl m;
    }

-- a step that leaves every table leaves this one
pub table_stays : {pol m : List ℕ} (c : Closed) (k : Table → M Table) → Ready pol m → TableHolds m c.table
    → ((t : Table) (s : State) → k t s ≡ done t s) → Tabled 0 (then (table_answer pol m c) k) pol c m m
table_stays {pol} {m} c k ready holds same =
    tabled-as (sym (then-pure (table_answer pol m c) k same)) (tabled-here ready c holds)
