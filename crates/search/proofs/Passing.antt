-- What leaves the table as it is need not be wrapped. Assumes nothing.
use Rattle.refusals.specs.declared.Refusal.{Refusal}
use Rattle.std.specs.Prelude.{Option, None, Some, Ok, Err, Result}
use mathlib.Core.Path.{◌≡◌, refl, sym}
use mathlib.Core.Bool.{Bool, true, false, cond, true≢false}
use mathlib.Core.List.{List}
use Prim.Native.Nat.{ℕ}
use lib.Ieee.{Float}
use Rattle.contexts.specs.declared.Context.{Context}
use Rattle.policies.specs.Array.{policy_at}
use Rattle.candidates.specs.declared.Candidate as node
use Rattle.candidates.specs.declared.NotMade.{NotMade}
use Rattle.definition.specs.Tables.{Table, probs}
use Rattle.definition.specs.Refusals.{M, then}
use Rattle.definition.specs.Search.{wrapped, wrapped_if_made}
use Rattle.definition_laws.specs.Bodies.{again_in}
use Rattle.nodes.specs.Views.{offered}
use Rattle.nodes.specs.Offers.{made_seen}
use Rattle.table.specs.Rows.{rows, priced_as, turns_away}
use Rattle.table.proofs.Offering.{turned-away, offered-small}
use Rattle.closure.specs.declared.Closed.{Closed}
use Rattle.closure.specs.Closed.{Closes}
use Rattle.closure.proofs.Offering.{closed}
use Rattle.closure.proofs.Closing.{turned-closes}
use Rattle.search_state.specs.Recalled.{table_answer, Tabled}
use Rattle.offers.specs.Offering.{alone, leaves_all, SmallIfMade}
use Rattle.search.specs.Searching.{Doing, SettledIf, OffersIfMade}
use Rattle.search.proofs.Pairing.{GoingOn}
use Rattle.search.proofs.Wrapping.{stops, wrapped-plain, wrapped-settled, made-wrapped, passed_over}

pub small-if-made : {m : List ℕ} {x : Result node.Candidate NotMade} → OffersIfMade m x → SmallIfMade x
small-if-made h = record { small = λ y is. offered-small (h.offers y is) }

module _ (C : Context) (sat : Float) {pol : List ℕ} {r : ℕ} {dissat : Option Float} {c : Closed} {m : List ℕ} (h : Doing pol r dissat c m)
    {told : Bool} (settled : SettledIf told C pol r sat dissat c m) where
  -- the outcome of wrapping
  abbrev Wraps : node.Candidate → Closed → Type 0
  Wraps y o =
      Tabled 0
      (then (table_answer pol m c)
      (λ t. wrapped C (probs sat dissat) (again_in C (policy_at pol r) (probs sat dissat)) (offered pol m y) t)) pol o m m

  closed-alone : (d : Option Float) → dissat ≡ d → alone d told ≡ true → {y : node.Candidate} → c.end ≡ Ok tt
      → Closes C (probs sat dissat) y c.table (closed c.table (Ok tt)) m m → Wraps y (closed c.table (Ok tt))
  closed-alone None is a e closes = wrapped-plain C sat h e closes is
  closed-alone (Some d) is a e closes = wrapped-settled C sat h e closes is a settled

  by_end : (end : Result (Unit {0}) Refusal) → c.end ≡ end → (y : node.Candidate) → alone dissat told ≡ true
      → turns_away m (probs sat dissat) (priced_as (probs sat dissat) y) (rows c.table) ≡ true → Wraps y (closed c.table end)
  by_end (Ok tt) e y a away =
      closed-alone dissat refl a e
      (turned-closes C (probs sat dissat) h.ready.nodes h.table (turned-away h.ready.nodes h.table away))
  by_end (Err n) e y a away =
      stops h (λ t. wrapped C (probs sat dissat) (again_in C (policy_at pol r) (probs sat dissat)) (offered pol m y) t) e

  turned-passes : (y : node.Candidate) (b : Bool) → alone dissat told ≡ b
      → cond b (turns_away m (probs sat dissat) (priced_as (probs sat dissat) y) (rows c.table)) false ≡ true → Wraps y c
  turned-passes y true a away = by_end c.end refl y a away
  turned-passes y false a away = absurd (true≢false (sym away))

  pub leaves-passes : (x : Result node.Candidate NotMade) → leaves_all m (probs sat dissat) told x (rows c.table) ≡ true
      → Tabled 0
      (then (table_answer pol m c)
      (λ t. wrapped_if_made C (probs sat dissat) (again_in C (policy_at pol r) (probs sat dissat)) (made_seen pol m x) t)) pol c m m
  leaves-passes (Ok y) away =
      made-wrapped C (probs sat dissat) (again_in C (policy_at pol r) (probs sat dissat)) h refl (turned-passes y (alone dissat told) refl away)
  leaves-passes (Err NotMade.PassedOver) away = passed_over C (probs sat dissat) (again_in C (policy_at pol r) (probs sat dissat)) h refl refl
  leaves-passes (Err NotMade.Missing) away = absurd (true≢false (sym away))

-- ---- what the arms of the loop over pairs leave

pub pair-moves : (C : Context) (sat : Float) {pol : List ℕ} {r : ℕ} {dissat : Option Float} {c : Closed} {m₀ : List ℕ} {k₀ k : Table → M Table}
    {o o' : Closed} {m m' : List ℕ} {told told' : Bool} → m' ≡ m → o' ≡ o → told' ≡ told → GoingOn pol r dissat c m₀ k₀ k o m
    → SettledIf told C pol r sat dissat o m → GoingOn pol r dissat c m₀ k₀ k o' m' × SettledIf told' C pol r sat dissat o' m'
pair-moves C sat work done settled on s = rw (work, done, settled) (on, s)
