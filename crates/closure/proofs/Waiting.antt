-- What waits to be cast: the nodes from a number on, as a list that a new node joins at its end. Assumes nothing.
use mathlib.Core.Path.{◌≡◌, refl, ◌∙◌, ap}
use mathlib.Core.List.{List, [], ◌∷◌, ◌++◌}
use Prim.Native.Nat.{ℕ, zero, suc, ◌+◌, ◌-◌, ◌<◌, ◌≤◌}
use native.Mathlib.Omega.{arith}
use Rattle.definition.specs.Candidates.{Candidate}
use Rattle.definition.specs.Insertion.{Queued, queued}
use Rattle.memory.specs.Layout.{node_count}
use Rattle.nodes.specs.Views.{seen, seen_all}
use Rattle.nodes.specs.Answers.{Holds, Grows}
use Rattle.nodes.proofs.Grown.{seen-kept}
use Rattle.table.specs.declared.Table.{Table}
use Rattle.table.specs.Inserted.{seen_table}
use Rattle.closure.specs.Closed.{numbers_from, waiting}

-- a table, while the nodes from h on wait
abbrev pub queue_at : (pol m : List ℕ) → Table → (h : ℕ) → Queued
queue_at pol m t h = queued (seen_table pol m t) (waiting pol m h)

from-none : (pol m : List ℕ) (h n : ℕ) → n ≡ 0 → seen_all pol m (numbers_from h n) ≡ []
unfolding numbers_from
from-none pol m h zero is = refl
from-none pol m h (suc n) is = absurd (omega arith)

from_next : (pol m : List ℕ) (h n k : ℕ) → n ≡ suc k →
    seen_all pol m (numbers_from h n) ≡ seen pol m h ∷ seen_all pol m (numbers_from (suc h) k)
unfolding numbers_from
from_next pol m h n k is = rw is

from_end : (pol m : List ℕ) (h n : ℕ) →
    seen_all pol m (numbers_from h (suc n)) ≡ seen_all pol m (numbers_from h n) ++ (seen pol m (h + n) ∷ [])
unfolding numbers_from
from_end pol m h zero = ap (λ (i : ℕ). seen pol m i ∷ []) (omega arith)
from_end pol m h (suc n) =
    let at : suc h + n ≡ h + suc n = omega arith in
    ap (λ (q : List Candidate). seen pol m h ∷ q) (from_end pol m (suc h) n)
    ∙ ap (λ (i : ℕ). seen pol m h ∷ (seen_all pol m (numbers_from (suc h) n) ++ (seen pol m i ∷ []))) at

module _ (pol m : List ℕ) (h : ℕ) where
  pub waiting_none : node_count m ≤ h → waiting pol m h ≡ []
  waiting_none le = from-none pol m h (node_count m - h) (omega arith)

  pub waiting-next : h < node_count m → waiting pol m h ≡ seen pol m h ∷ waiting pol m (suc h)
  waiting-next l = from_next pol m h (node_count m - h) (node_count m - suc h) (omega arith)

module _ {m₀ m : List ℕ} (holds : Holds m₀) (grows : Grows m₀ m) (pol : List ℕ) where
  from-kept : (h n : ℕ) → h + n ≤ node_count m₀ → seen_all pol m (numbers_from h n) ≡ seen_all pol m₀ (numbers_from h n)
  unfolding numbers_from
  from-kept h zero le = refl
  from-kept h (suc n) le =
      ap (λ (x : Candidate). x ∷ seen_all pol m (numbers_from (suc h) n)) (seen-kept holds grows pol h (omega arith))
      ∙ ap (λ (q : List Candidate). seen pol m₀ h ∷ q) (from-kept (suc h) n (omega arith))

  pub waiting-same : node_count m ≡ node_count m₀ → (h : ℕ) → h ≤ node_count m₀ → waiting pol m h ≡ waiting pol m₀ h
  waiting-same count h le =
      ap (λ (n : ℕ). seen_all pol m (numbers_from h (n - h))) count ∙ from-kept h (node_count m₀ - h) (omega arith)

  pub waiting-more : node_count m ≡ suc (node_count m₀) → (h : ℕ) → h ≤ node_count m₀ →
      waiting pol m h ≡ waiting pol m₀ h ++ (seen pol m (node_count m₀) ∷ [])
  waiting-more count h le =
      let n : node_count m - h ≡ suc (node_count m₀ - h) = omega arith in
      let last : h + (node_count m₀ - h) ≡ node_count m₀ = omega arith in
      ap (λ (n : ℕ). seen_all pol m (numbers_from h n)) n
      ∙ from_end pol m h (node_count m₀ - h)
      ∙ ap (λ (i : ℕ). seen_all pol m (numbers_from h (node_count m₀ - h)) ++ (seen pol m i ∷ [])) last
      ∙ ap (λ (q : List Candidate). q ++ (seen pol m (node_count m₀) ∷ [])) (from-kept h (node_count m₀ - h) (omega arith))
