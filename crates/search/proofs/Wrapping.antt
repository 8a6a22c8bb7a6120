-- Wrapping a candidate: its closure, then each cast of what the search without dissatisfaction found. One lemma for each way out of `wrapped`,
-- `wrapped_if_made`, `casts_of` and `cast_once`, and what their calls ask for. Assumes nothing.
use Rattle.refusals.specs.declared.Refusal.{Refusal}
use mathlib.Core.Path.{◌≡◌, refl, sym, ap, ◌∙◌, subst}
use mathlib.Core.Bool.{Bool, true, false, true≢false}
use mathlib.Core.List.{List}
use Rattle.refusals.specs.Numbers.{number_of}
use Rattle.std.specs.Prelude.{Option, None, Some, Ok, Err, Result, is_err}
use Rattle.std.specs.Result.{result_and}
use Prim.Native.Nat.{ℕ, suc, ◌+◌, ◌<◌, ◌≤◌}
use native.Mathlib.Numerals.{add-one}
use native.Mathlib.Omega.{arith}
use lib.ListN.{drop}
use lib.Ieee.{Float}
use Rattle.contexts.specs.declared.Context.{Context}
use Rattle.policies.specs.Policy.{Policy}
use Rattle.policies.specs.Array.{policy_at}
use Rattle.candidates.specs.declared.Candidate as node
use Rattle.candidates.specs.declared.NotMade.{NotMade}
use Rattle.definition.specs.Candidates.{Cast, all_casts, cast_no}
use Rattle.definition.specs.Tables as definition-tables
use Rattle.definition.specs.Tables.{Probs, probs}
use Rattle.definition.specs.Refusals.{M, State, Stored, done, refused, then, lookup}
use Rattle.definition.specs.Insertion.{insert_closure}
use Rattle.definition.specs.Search.{Again, redo, search, without, wrapped, wrapped_if_made, casts_of, for_each, inserted_if_typed}
use Rattle.definition_laws.specs.Bodies.{again_for, again_in}
use Rattle.definition_laws.proofs.Settling.{settled-skips, settled-stays, settles}
use Rattle.definition_laws.proofs.Steps.{then-done, then-refused, then-then, casts_of-none, casts_of-next, wrapped-alone, wrapped-redo}
use Rattle.nodes.specs.Views.{offered}
use Rattle.nodes.proofs.Casts.{casts-from}
use Rattle.table.specs.declared.Table.{Table}
use Rattle.table.specs.Rows.{TableHolds}
use Rattle.table.specs.Inserted.{state_of, seen_table}
use Rattle.closure.specs.declared.Closed.{Closed}
use Rattle.closure.specs.Closed.{answer, Closes}
use Rattle.closure.proofs.Offering.{closed}
use Rattle.search_state.specs.State.{Ready, Onward, Paid, flag_of, state_in, stored_all, slot_table}
use Rattle.search_state.specs.Recalled.{table_answer, IsSlot, Searched, Tabled, settles_with}
use Rattle.search_state.proofs.Growing.{onward-refl, onward-trans, onward-table, onward-holds, extends-onward, extends-stored}
use Rattle.search_state.proofs.Chains.{paid-refl, paid-after, room-kept, tabled-then, tabled-next, tabled-stop, tabled-done, tabled-refused}
use Rattle.search_state.proofs.Chains.{searched-next, searched-stop, closes-tabled}
use Rattle.nodes.specs.Offers.{made_seen}
use Rattle.offers.specs.Offering.{SlotReady, InsertedCasts}
use Rattle.offers.proofs.Ends.{some-refusal}
use Rattle.search.specs.Searching.{Going, Doing, SettledIf, cast_once}
use Rattle.search.proofs.Steps.{not-both, tabled-as, tabled-here, table_stays}

-- ---- work on a table that is handed on

module _ {pol : List ℕ} {r : ℕ} {dissat : Option Float} {c : Closed} {m₀ : List ℕ} (h : Doing pol r dissat c m₀) where
  -- after a refusal nothing is done
  pub stops : (k : definition-tables.Table → M definition-tables.Table) {n : Refusal} → c.end ≡ Err n
      → Tabled 0 (then (table_answer pol m₀ c) k) pol (closed c.table (Err n)) m₀ m₀
  stops k {n} e = tabled-stop (tabled-here h.ready c h.table) k n e (closed c.table (Err n)) refl h.table

  pub stays : (k : definition-tables.Table → M definition-tables.Table) → is_err c.end ≡ true → Tabled 0 (then (table_answer pol m₀ c) k) pol c m₀ m₀
  stays k e = let error = some-refusal c.end e in tabled-stop (tabled-here h.ready c h.table) k error.0 error.1 c error.1 h.table

  -- the first step
  pub starts : (k : definition-tables.Table → M definition-tables.Table) {o : Closed} {m : List ℕ} → c.end ≡ Ok tt
      → Tabled 0 (k (seen_table pol m₀ c.table) (state_in pol m₀)) pol o m₀ m → Tabled 0 (then (table_answer pol m₀ c) k) pol o m₀ m
  starts k e g = tabled-next (tabled-here h.ready c h.table) k e g

  -- a step that does nothing
  pub passes : (k : definition-tables.Table → M definition-tables.Table) → ((t : definition-tables.Table) (s : State) → k t s ≡ done t s)
      → Tabled 0 (then (table_answer pol m₀ c) k) pol c m₀ m₀
  passes k same = table_stays c k h.ready h.table same

  -- a step that is refused
  pub refuses : (k : definition-tables.Table → M definition-tables.Table) {n : Refusal} → ((t : definition-tables.Table) (s : State) → k t s ≡ refused (number_of n))
      → c.end ≡ Ok tt → Tabled 0 (then (table_answer pol m₀ c) k) pol (closed c.table (Err n)) m₀ m₀
  refuses k same e =
      record {
        says = then-done k (tabled-done (tabled-here h.ready c h.table) e) ∙ same _ _;
        ready = h.ready;
        onward = onward-refl m₀;
        table = h.table;
        paid = λ e. paid-refl m₀;
      }

  -- what follows a refusal is refused
  pub was-done : (k : definition-tables.Table → M definition-tables.Table) {o : Closed} {m : List ℕ}
      → Tabled 0 (then (table_answer pol m₀ c) k) pol o m₀ m → o.end ≡ (Ok tt) → c.end ≡ Ok tt
  unfolding then
  was-done k {o} {m} g e =
      by_end c.end o.end (seen_table pol m₀ c.table) (seen_table pol m o.table) (state_in pol m₀) (state_in pol m) g.says e
    where
      by_end : (a b : Result (Unit {0}) Refusal) (t u : definition-tables.Table) (s v : State) → then (answer a t s) k ≡ answer b u v → b ≡ (Ok tt) → a ≡ Ok tt
      by_end (Ok tt) b t u s v is e = refl
      by_end (Err n) b t u s v is e =
          let d : refused (number_of n) ≡ done u v = is ∙ ap (λ (e : Result (Unit {0}) Refusal). answer e u v) e in
          absurd (let z : ◌≡◌ {A = ℕ} 0 1 = cc in omega arith)

  -- more may be done to what a step left
  pub doing-next : (k : definition-tables.Table → M definition-tables.Table) {o : Closed} {m : List ℕ}
      → Tabled 0 (then (table_answer pol m₀ c) k) pol o m₀ m → Doing pol r dissat o m
  doing-next k {o} {m} g =
      record {
        classed = h.classed;
        named = h.named;
        formed = h.formed;
        ready = g.ready;
        table = g.table;
        room = λ e. room-kept 1 (policy_at pol r) dissat m₀ m (h.room (was-done k g e)) (g.paid e);
      }

  -- the table that is at work has room
  pub doing-going : c.end ≡ (Ok tt) → Going 1 pol r dissat m₀
  doing-going e = record { classed = h.classed; named = h.named; formed = h.formed; ready = h.ready; room = h.room e }

-- ---- a candidate

module _ (C : Context) (sat : Float) {pol : List ℕ} {r : ℕ} {dissat : Option Float} {c : Closed} {m₀ : List ℕ} (h : Doing pol r dissat c m₀)
    {x : node.Candidate} (e : c.end ≡ Ok tt) {o : Closed} {m₁ : List ℕ} (closes : Closes C (probs sat dissat) x c.table o m₀ m₁) where
  -- the casts may go on
  pub wrapped-doing : Doing pol r dissat o m₁
  wrapped-doing = doing-next h _ (starts h (λ t. insert_closure C (probs sat dissat) (offered pol m₀ x) t) e (closes-tabled h.ready closes))

  pub wrapped-plain : dissat ≡ None
      → Tabled 0
      (then (table_answer pol m₀ c)
      (λ t. wrapped C (probs sat dissat) (again_in C (policy_at pol r) (probs sat dissat)) (offered pol m₀ x) t)) pol o m₀ m₁
  wrapped-plain is =
      starts h _ e
      (tabled-as
      (sym (wrapped-alone C (probs sat dissat) (offered pol m₀ x) (seen_table pol m₀ c.table) (state_in pol m₀))
      ∙ ap (λ (d : Option Float). wrapped C (probs sat dissat) (again_for C (policy_at pol r) (probs sat dissat) d) (offered pol m₀ x)
      (seen_table pol m₀ c.table) (state_in pol m₀)) (sym is))
      (closes-tabled h.ready closes))

  pub wrapped-casts : {d : Float} → dissat ≡ Some d → {w : Closed} {m : List ℕ}
      → Tabled 0
      (then (table_answer pol m₁ o)
      (λ t. casts_of C (probs sat dissat) (search C (policy_at pol r) (without (probs sat dissat))) (all_casts C) t)) pol w m₁ m
      → Tabled 0
      (then (table_answer pol m₀ c)
      (λ t. wrapped C (probs sat dissat) (again_in C (policy_at pol r) (probs sat dissat)) (offered pol m₀ x) t)) pol w m₀ m
  wrapped-casts is casts =
      starts h _ e
      (tabled-as
      (sym (wrapped-redo C (probs sat dissat) (search C (policy_at pol r) (without (probs sat dissat))) (offered pol m₀ x)
      (seen_table pol m₀ c.table) (state_in pol m₀))
      ∙ ap (λ (d : Option Float). wrapped C (probs sat dissat) (again_for C (policy_at pol r) (probs sat dissat) d) (offered pol m₀ x)
      (seen_table pol m₀ c.table) (state_in pol m₀)) (sym is))
      (tabled-then (closes-tabled h.ready closes)
      (λ t. casts_of C (probs sat dissat) (search C (policy_at pol r) (without (probs sat dissat))) (all_casts C) t) casts))

  pub wrapped-settled : {d : Float} → dissat ≡ Some d → {told : Bool} → told ≡ true → SettledIf told C pol r sat dissat c m₀
      → Tabled 0
      (then (table_answer pol m₀ c)
      (λ t. wrapped C (probs sat dissat) (again_in C (policy_at pol r) (probs sat dissat)) (offered pol m₀ x) t)) pol o m₀ m₁
  wrapped-settled is told settled =
      starts h _ e
      (tabled-as
      (sym (settled-skips C (policy_at pol r) (probs sat dissat) (settled.settled told e) (offered pol m₀ x))
      ∙ ap (λ (d : Option Float). wrapped C (probs sat dissat) (again_for C (policy_at pol r) (probs sat dissat) d) (offered pol m₀ x)
      (seen_table pol m₀ c.table) (state_in pol m₀)) (sym is))
      (closes-tabled h.ready closes))

pub flag-some : {dissat : Option Float} {d : Float} → dissat ≡ Some d → flag_of dissat ≡ 1
flag-some is = ap flag_of is

-- ---- what was made of others

module _ (C : Context) (p : Probs) (g : Again) {pol : List ℕ} {r : ℕ} {dissat : Option Float} {c : Closed} {m₀ : List ℕ} (h : Doing pol r dissat c m₀)
    {x : Result node.Candidate NotMade} where
  pub made-wrapped : {y : node.Candidate} → x ≡ Ok y → {o : Closed} {m : List ℕ}
      → Tabled 0 (then (table_answer pol m₀ c) (λ t. wrapped C p g (offered pol m₀ y) t)) pol o m₀ m
      → Tabled 0 (then (table_answer pol m₀ c) (λ t. wrapped_if_made C p g (made_seen pol m₀ x) t)) pol o m₀ m
  made-wrapped is k =
      tabled-as (ap (λ (x : Result node.Candidate NotMade). then (table_answer pol m₀ c) (λ t. wrapped_if_made C p g (made_seen pol m₀ x) t)) (sym is)) k

  pub passed_over : {e : NotMade} → e ≡ NotMade.PassedOver → x ≡ Err e
      → Tabled 0 (then (table_answer pol m₀ c) (λ t. wrapped_if_made C p g (made_seen pol m₀ x) t)) pol c m₀ m₀
  passed_over passed so =
      let is : x ≡ Err NotMade.PassedOver = so ∙ ap (λ (e : NotMade). Err e) passed in
      passes h (λ t. wrapped_if_made C p g (made_seen pol m₀ x) t)
      (λ t s. ap (λ (x : Result node.Candidate NotMade). wrapped_if_made C p g (made_seen pol m₀ x) t s) is)

  -- a pair that has no cost
  pub missing-refused : {e : NotMade} → e ≡ NotMade.Missing → x ≡ Err e
      → Tabled 0 (then (table_answer pol m₀ c) (λ t. wrapped_if_made C p g (made_seen pol m₀ x) t)) pol
      (closed c.table (result_and c.end (Err Refusal.NotACost))) m₀ m₀
  missing-refused missing so = by_end c.end refl
    where
      is : x ≡ Err NotMade.Missing
      is = so ∙ ap (λ (e : NotMade). Err e) missing

      by_end : (end : Result (Unit {0}) Refusal) → c.end ≡ end →
          Tabled 0 (then (table_answer pol m₀ c) (λ t. wrapped_if_made C p g (made_seen pol m₀ x) t)) pol
          (closed c.table (result_and end (Err Refusal.NotACost))) m₀ m₀
      by_end (Ok tt) e =
          refuses h (λ t. wrapped_if_made C p g (made_seen pol m₀ x) t)
          (λ t s. ap (λ (x : Result node.Candidate NotMade). wrapped_if_made C p g (made_seen pol m₀ x) t s) is) e
      by_end (Err n) e = stops h (λ t. wrapped_if_made C p g (made_seen pol m₀ x) t) e

-- ---- whether the table is settled

pub unsettled : {C : Context} {pol : List ℕ} {r : ℕ} {sat : Float} {dissat : Option Float} {c : Closed} {m : List ℕ}
    → SettledIf false C pol r sat dissat c m
unsettled = record { asked = λ e. absurd (true≢false (sym e)); settled = λ e d. absurd (true≢false (sym e)) }

again-redo : (C : Context) (q : Policy) (p : Probs) (d : Option Float) → flag_of d ≡ 1 → again_for C q p d ≡ redo (search C q (without p))
again-redo C q p (Some d) e = refl
again-redo C q p None e = absurd (omega (arith, e))

-- what it says that a table is settled by the candidate that was wrapped
record SettledBy (x : Result node.Candidate NotMade) (d : Option Float) (t : Option definition-tables.Table) : Type 0 where
  candidate : node.Candidate
  is : x ≡ Ok candidate
  flag : flag_of d ≡ 1
  found : definition-tables.Table
  has : t ≡ Some found

settled-by : (x : Result node.Candidate NotMade) (d : Option Float) (t : Option definition-tables.Table) → settles_with x d t ≡ true → SettledBy x d t
settled-by (Ok y) (Some d) (Some t) e = record { candidate = y; is = refl; flag = refl; found = t; has = refl }
settled-by (Ok y) (Some d) None e = absurd (true≢false (sym e))
settled-by (Ok y) None t e = absurd (true≢false (sym e))
settled-by (Err n) d t e = absurd (true≢false (sym e))

module _ (C : Context) (sat : Float) {pol : List ℕ} {r : ℕ} {dissat : Option Float} {c : Closed} {m₀ : List ℕ} (h : Doing pol r dissat c m₀)
    (x : Result node.Candidate NotMade) {o : Closed} {m : List ℕ}
    (one : Tabled 0
    (then (table_answer pol m₀ c)
    (λ t. wrapped_if_made C (probs sat dissat) (again_in C (policy_at pol r) (probs sat dissat)) (made_seen pol m₀ x) t)) pol o m₀ m) where
  was-done-so : o.end ≡ (Ok tt) → c.end ≡ Ok tt
  was-done-so e = was-done h _ one e

  -- the step, for the definition
  stepped : flag_of dissat ≡ 1 → o.end ≡ Ok tt
      → wrapped_if_made C (probs sat dissat) (redo (search C (policy_at pol r) (without (probs sat dissat)))) (made_seen pol m₀ x)
      (seen_table pol m₀ c.table) (state_in pol m₀) ≡ done (seen_table pol m o.table) (state_in pol m)
  stepped flag e =
      ap (λ (g : Again). wrapped_if_made C (probs sat dissat) g (made_seen pol m₀ x) (seen_table pol m₀ c.table) (state_in pol m₀))
      (sym (again-redo C (policy_at pol r) (probs sat dissat) dissat flag))
      ∙ sym
      (then-done
      (λ t. wrapped_if_made C (probs sat dissat) (again_in C (policy_at pol r) (probs sat dissat)) (made_seen pol m₀ x) t)
      (ap (λ (e : Result (Unit {0}) Refusal). answer e (seen_table pol m₀ c.table) (state_in pol m₀)) (was-done-so e)))
      ∙ tabled-done one e

  pub settled_on : {told told' : Bool} → told' ≡ told → SettledIf told C pol r sat dissat c m₀ → SettledIf told' C pol r sat dissat o m
  settled_on same s =
      record {
        asked = λ t. s.asked (sym same ∙ t);
        settled =
            λ t e. settled-stays C (policy_at pol r) (probs sat dissat) (s.settled (sym same ∙ t) (was-done-so e)) (made_seen pol m₀ x)
            (stepped (s.asked (sym same ∙ t)) e);
      }

  pub settled-from : {told : Bool} → told ≡ settles_with x dissat (lookup (policy_at pol r) (probs sat None) (stored_all pol m))
      → SettledIf told C pol r sat dissat o m
  settled-from {told} is =
      let by : told ≡ true → SettledBy x dissat (lookup (policy_at pol r) (probs sat None) (stored_all pol m)) =
      λ t. settled-by x dissat (lookup (policy_at pol r) (probs sat None) (stored_all pol m)) (sym is ∙ t) in
      record {
        asked = λ t. (by t).flag;
        settled =
            λ t e. settles C (policy_at pol r) (probs sat dissat) (offered pol m₀ (by t).candidate) (seen_table pol m₀ c.table) (state_in pol m₀)
            (ap (λ (x : Result node.Candidate NotMade). wrapped_if_made C (probs sat dissat) (redo (search C (policy_at pol r) (without (probs sat dissat))))
            (made_seen pol m₀ x) (seen_table pol m₀ c.table) (state_in pol m₀)) (sym (by t).is)
            ∙ stepped (by t).flag e)
            (by t).has;
      }

-- ---- one cast

-- the casts of a slot's entries
inserted-tabled : {pol m₀ m : List ℕ} {C : Context} {p : Probs} {s number : ℕ} {t : Table} {o : Closed} → Ready pol m₀
    → InsertedCasts C p s number t o m₀ m
    → Tabled 0 (for_each (λ x. inserted_if_typed C p (cast_no C number x)) (slot_table pol m₀ s) (seen_table pol m₀ t) (state_in pol m₀)) pol o m₀ m
inserted-tabled {pol} {m₀} {m} {o = o} ready casts =
    let on = extends-onward ready casts.extends in
    record {
      says =
          casts.says pol (stored_all pol m₀)
          ∙ ap (λ (ts : List Stored). answer o.end (seen_table pol m o.table) (state_of m ts)) (sym (extends-stored ready casts.extends));
      ready = on.0;
      onward = on.1;
      table = casts.table;
      paid = λ e. omega (arith, casts.extends.rows, casts.extends.tables.count);
    }

module _ (C : Context) (p : Probs) (again : M definition-tables.Table) (number : ℕ) {pol m₀ m₁ : List ℕ} {t : Table} {out : Result ℕ Refusal}
    (ready : Ready pol m₀)
    (table : TableHolds m₀ t) (h : Searched (again (state_in pol m₀)) pol out m₀ m₁) where
  pub cast-refused : {n : Refusal} → out ≡ Err n
      → Tabled 0 (cast_once C p again (cast_no C number) (seen_table pol m₀ t) (state_in pol m₀)) pol (closed t (Err n)) m₀ m₁
  cast-refused {n} is = searched-stop h _ n is (closed t (Err n)) refl (onward-holds ready h.onward t table)

  -- what the casts of the entries ask for
  pub cast-ready : {s : ℕ} → out ≡ Ok s → SlotReady m₁ s × TableHolds m₁ t
  cast-ready {s} is =
      let there = subst (IsSlot m₁) is h.slot in (
        record { nodes = h.ready.nodes; tables = h.ready.tables; there = there; below = (h.ready.slots s there).below },
        onward-holds ready h.onward t table,
      )

  pub cast-done : {s : ℕ} → out ≡ Ok s → {o : Closed} {m : List ℕ} → InsertedCasts C p s number t o m₁ m
      → Tabled 0 (cast_once C p again (cast_no C number) (seen_table pol m₀ t) (state_in pol m₀)) pol o m₀ m
  cast-done {s} is casts =
      searched-next h _ s is
      (tabled-as
      (ap (λ (t : definition-tables.Table). for_each (λ x. inserted_if_typed C p (cast_no C number x)) (slot_table pol m₁ s) t (state_in pol m₁))
      (onward-table ready h.onward t table))
      (inserted-tabled h.ready casts))

-- ---- each cast in turn

-- before the cast of a number, in memory m, with the table t: the casts still to come give what all ten give
pub record CastsOn (C : Context) (p : Probs) (again : M definition-tables.Table) (pol : List ℕ) (t₀ : Table) (m₀ : List ℕ) (number : ℕ) (t : Table)
    (m : List ℕ) : Type 0 where
  pub says : casts_of C p again (drop number (all_casts C)) (seen_table pol m t) (state_in pol m)
      ≡ casts_of C p again (all_casts C) (seen_table pol m₀ t₀) (state_in pol m₀)
  pub ready : Ready pol m
  pub onward : Onward m₀ m
  pub table : TableHolds m t
  pub paid : Paid 0 m₀ m

module _ (C : Context) (p : Probs) (again : M definition-tables.Table) {pol m₀ : List ℕ} {r : ℕ} {dissat : Option Float} {c : Closed}
    (h : Doing pol r dissat c m₀) (e : c.end ≡ Ok tt) where
  pub casts-begin : CastsOn C p again pol c.table m₀ 0 c.table m₀
  casts-begin = record { says = refl; ready = h.ready; onward = onward-refl m₀; table = h.table; paid = paid-refl m₀ }

  module _ {number : ℕ} {t : Table} {m : List ℕ} (i : CastsOn C p again pol c.table m₀ number t m) where
    pub casts-going : Going 1 pol r dissat m
    casts-going =
        record {
          classed = h.classed;
          named = h.named;
          formed = h.formed;
          ready = i.ready;
          room = room-kept 1 (policy_at pol r) dissat m₀ m (h.room e) i.paid;
        }

    pub casts-end : 10 ≤ number → number ≤ 10
        → Tabled 0 (then (table_answer pol m₀ c) (λ t. casts_of C p again (all_casts C) t)) pol (closed t (Ok tt)) m₀ m
    casts-end ge le =
        let is : number ≡ 10 = omega arith in
        starts h (λ t. casts_of C p again (all_casts C) t) e
        (record {
          says =
              sym i.says
              ∙ ap (λ (n : ℕ). casts_of C p again (drop n (all_casts C)) (seen_table pol m t) (state_in pol m)) is
              ∙ casts_of-none C p again (seen_table pol m t) (state_in pol m);
          ready = i.ready;
          onward = i.onward;
          table = i.table;
          paid = λ e. i.paid;
        })

    module _ (few : number < 10) {o : Closed} {m' : List ℕ}
        (one : Tabled 0 (cast_once C p again (cast_no C number) (seen_table pol m t) (state_in pol m)) pol o m m') where
      -- the next cast, then the others
      step : casts_of C p again (all_casts C) (seen_table pol m₀ c.table) (state_in pol m₀)
          ≡ then (cast_once C p again (cast_no C number) (seen_table pol m t) (state_in pol m)) (λ t. casts_of C p again (drop (suc number) (all_casts C)) t)
      step =
          sym i.says
          ∙ ap (λ (fs : List Cast). casts_of C p again fs (seen_table pol m t) (state_in pol m)) (casts-from C number few)
          ∙ casts_of-next C p again (cast_no C number) (drop (suc number) (all_casts C)) (seen_table pol m t) (state_in pol m)
          ∙ sym
          (then-then (again (state_in pol m)) (λ xs. for_each (λ x. inserted_if_typed C p (cast_no C number x)) xs (seen_table pol m t))
          (λ t. casts_of C p again (drop (suc number) (all_casts C)) t))

      pub casts-stop : is_err o.end ≡ true → Tabled 0 (then (table_answer pol m₀ c) (λ t. casts_of C p again (all_casts C) t)) pol o m₀ m'
      casts-stop err =
          let error = some-refusal o.end err in
          starts h (λ t. casts_of C p again (all_casts C) t) e
          (record {
            says =
                step
                ∙ then-refused (λ t. casts_of C p again (drop (suc number) (all_casts C)) t) (tabled-refused one error.0 error.1)
                ∙ sym (ap (λ (e : Result (Unit {0}) Refusal). answer e (seen_table pol m' o.table) (state_in pol m')) error.1);
            ready = one.ready;
            onward = onward-trans i.onward one.onward;
            table = one.table;
            paid = λ d. absurd (not-both (sym error.1 ∙ d));
          })

      pub casts-go-on : o.end ≡ (Ok tt) → CastsOn C p again pol c.table m₀ (number + 1) o.table m'
      casts-go-on is =
          record {
            says =
                ap (λ (n : ℕ). casts_of C p again (drop n (all_casts C)) (seen_table pol m' o.table) (state_in pol m')) (add-one number)
                ∙ sym (step ∙ then-done (λ t. casts_of C p again (drop (suc number) (all_casts C)) t) (tabled-done one is));
            ready = one.ready;
            onward = onward-trans i.onward one.onward;
            table = one.table;
            paid = paid-after 0 m₀ m m' i.paid (one.paid is);
          }
