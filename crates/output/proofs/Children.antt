-- What the code reads of a node, its kind and the numbers of its children, is what the definitions say. Assumes nothing.
use mathlib.Core.Path.{◌≡◌, sym, ◌∙◌, ap}
use mathlib.Core.Bool.{false}
use mathlib.Core.List.{List}
use Prim.Native.Nat.{ℕ, ◌+◌, ◌*◌, ◌<◌, ◌≤◌}
use native.Mathlib.Omega.{arith}
use borrow.Author.Tests.{ne_eqb, lt-ltb, le-ltb}
use lib.Dec.{eqb}
use lib.ListN.{length}
use Rattle.records.specs.Shapes.{arity}
use Rattle.policies.specs.Heads.{head_of}
use Rattle.policies.specs.Forms.{children_of}
use Rattle.policies.specs.Array.{policy_at}
use Rattle.policies.specs.declared.Head.{Head}
use Rattle.candidates.specs.declared.Candidate.{Candidate}
use Rattle.memory.specs.Layout.{node_count, max_rows}
use Rattle.nodes.specs.Words.{node_at, row_child}
use Rattle.nodes.specs.Answers.{Holds}
use Rattle.output.specs.Records.{held_at, fragment_kind, kind_at, number_width, front_length, arity_at, named_child, child_at}
use Rattle.output.proofs.Shapes.{in-range, out_below, out-above}

-- ---- kinds

pub front-number : (kind n : ℕ) → 34 ≤ kind → kind ≤ 41 → number_width kind ≡ front_length kind n
front-number kind n l h = rw (in-range 34 41 kind l h)

pub front-keys : (kind n : ℕ) → 57 ≤ kind → kind ≤ 58 → 4 + 8 * n ≡ front_length kind n
front-keys kind n l h = rw (out-above 34 41 kind (omega arith), ne_eqb kind 56 (λ e. omega arith), in-range 57 58 kind l h)

pub front_low : (kind n : ℕ) → kind < 34 → 0 ≡ front_length kind n
front_low kind n h = rw (out_below 34 41 kind h, ne_eqb kind 56 (λ e. omega arith), out_below 57 58 kind (omega arith))

pub front-middle : (kind n : ℕ) → 42 ≤ kind → kind < 56 → 0 ≡ front_length kind n
front-middle kind n l h = rw (out-above 34 41 kind (omega arith), ne_eqb kind 56 (λ e. omega arith), out_below 57 58 kind (omega arith))

pub front-high : (kind n : ℕ) → 59 ≤ kind → 0 ≡ front_length kind n
front-high kind n l = rw (out-above 34 41 kind (omega arith), ne_eqb kind 56 (λ e. omega arith), out-above 57 58 kind (omega arith))

-- ---- a node that is read

module _ (m : List ℕ) (e : ℕ) (x : Candidate) (is : x ≡ node_at m e) where
  pub kind-read : (r : ℕ) → r ≡ fragment_kind x.kind → r ≡ kind_at m e
  unfolding kind_at
  kind-read r h = h ∙ ap (λ (y : Candidate). fragment_kind y.kind) is

  pub held-read : (pol : List ℕ) (h : Head) → h ≡ head_of (policy_at pol x.first) → h ≡ head_of (held_at pol m e)
  unfolding held_at
  held-read pol h r = r ∙ ap (λ (y : Candidate). head_of (policy_at pol y.first)) is

  pub arity-read : (pol : List ℕ) (h : Head) (n : ℕ) → h ≡ head_of (policy_at pol x.first) → n ≡ arity x.kind h.count
      → n ≡ arity_at pol m e
  unfolding arity_at held_at
  arity-read pol h n r a =
      a ∙ ap (λ (y : Head). arity x.kind y.count) r
      ∙ ap (λ (y : Candidate). arity y.kind (length (children_of (policy_at pol y.first)))) is

  pub row-there : Holds m → e < node_count m → x.kind ≡ 56 → x.second < max_rows
  row-there holds l k =
      let kind : (node_at m e).kind ≡ 56 = ap (λ (y : Candidate). y.kind) (sym is) ∙ k in
      let second : x.second ≡ (node_at m e).second = ap (λ (y : Candidate). y.second) is in
      omega (arith, (holds.nodes e l).rowed kind, holds.rows)

  module _ (j : ℕ) where
    pub row_read : (r : ℕ) → x.kind ≡ 56 → r ≡ row_child m x.second j → r ≡ named_child m e j
    unfolding named_child
    row_read r k h =
        let kind : (node_at m e).kind ≡ 56 = ap (λ (y : Candidate). y.kind) (sym is) ∙ k in
        rw kind (h ∙ ap (λ (y : Candidate). row_child m y.second j) is)

    no_row : (x.kind ≡ 56 → ⊥) → eqb (node_at m e).kind 56 ≡ false
    no_row ne = ne_eqb (node_at m e).kind 56 (λ (k : (node_at m e).kind ≡ 56). ne (ap (λ (y : Candidate). y.kind) is ∙ k))

    pub first_read : (x.kind ≡ 56 → ⊥) → j ≡ 0 → x.first ≡ named_child m e j
    unfolding named_child
    first_read ne z = rw (no_row ne, z) (ap (λ (y : Candidate). y.first) is)

    pub second-read : (x.kind ≡ 56 → ⊥) → j ≡ 1 → x.second ≡ named_child m e j
    unfolding named_child
    second-read ne z = rw (no_row ne, z) (ap (λ (y : Candidate). y.second) is)

    pub third-read : (x.kind ≡ 56 → ⊥) → (j ≡ 0 → ⊥) → (j ≡ 1 → ⊥) → x.third ≡ named_child m e j
    unfolding named_child
    third-read ne n₀ n₁ = rw (no_row ne, ne_eqb j 0 n₀, ne_eqb j 1 n₁) (ap (λ (y : Candidate). y.third) is)

module _ (m : List ℕ) (e j r : ℕ) (is : r ≡ named_child m e j) where
  pub child-before : r < e → r ≡ child_at m e j
  child-before l = rw (← is, lt-ltb r e l)

  pub child-false : e ≤ r → 0 ≡ child_at m e j
  child-false l = rw (← is, le-ltb r e l)
