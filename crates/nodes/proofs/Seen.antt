-- The candidate that a node's number stands for: it is made of the node's own words, over the nodes before it. Assumes nothing.
use mathlib.Core.Path.{◌≡◌, refl, ◌∙◌, ap}
use mathlib.Core.Bool.{Bool, true, false}
use mathlib.Core.List.{List, [], ◌∷◌, ◌++◌}
use Prim.Native.Nat.{ℕ, zero, suc, ◌<◌}
use native.Mathlib.Omega.{arith}
use borrow.Author.Tests.{eqb-true, eqb-false}
use lib.Dec.{eqb}
use lib.ListN.{length, length-append, get_or-append}
use lib.Seq.{get_or_at}
use Rattle.types.specs.declared.«Type».{«Type»}
use Rattle.figures.specs.declared.ExtData.{ExtData}
use Rattle.costs.specs.declared.Cost.{Cost}
use Rattle.trees.specs.Fragment.{Fragment}
use Rattle.trees.specs.Tree.{find}
use Rattle.definition.specs.Candidates.{Candidate, false', true'}
use Rattle.candidates.specs.declared.Candidate as code
use Rattle.candidates.specs.Candidates.{candidate}
use Rattle.candidates.specs.Leaves.{false_candidate, true_candidate}
use Rattle.memory.specs.Layout.{node_count}
use Rattle.nodes.specs.Words.{node_at}
use Rattle.nodes.specs.Views.{among, tree_of, seen_as, first_nodes, all_nodes, seen}
use Rattle.nodes.specs.Answers.{Holds}

module _ (pol m : List ℕ) where
  pub first-length : (n : ℕ) → length (first_nodes pol m n) ≡ n
  unfolding first_nodes
  first-length zero = refl
  first-length (suc n) =
      let h : length (first_nodes pol m n) ≡ n = first-length n in
      length-append (first_nodes pol m n) (seen_as pol m (first_nodes pol m n) (node_at m n) ∷ []) ∙ omega arith

  pub first-at : (e n : ℕ) → e < n → among (first_nodes pol m n) e ≡ seen_as pol m (first_nodes pol m e) (node_at m e)
  unfolding first_nodes
  first-at e zero h = absurd (omega arith)
  first-at e (suc n) h = by-test (first-at e n) (eqb e n) refl
    where
      by-test : (e < n → among (first_nodes pol m n) e ≡ seen_as pol m (first_nodes pol m e) (node_at m e)) → (t : Bool) → eqb e n ≡ t
          → among (first_nodes pol m n ++ (seen_as pol m (first_nodes pol m n) (node_at m n) ∷ [])) e ≡ seen_as pol m (first_nodes pol m e) (node_at m e)
      by-test before true t =
          let same : e ≡ n = eqb-true e n t in
          rw same (get_or_at (first_nodes pol m n) (seen_as pol m (first_nodes pol m n) (node_at m n)) [] false' n (first-length n))
      by-test before false t =
          let ne = eqb-false e n t in
          let l : length (first_nodes pol m n) ≡ n = first-length n in
          get_or-append (first_nodes pol m n) (seen_as pol m (first_nodes pol m n) (node_at m n) ∷ []) false' e (omega arith)
          ∙ before (omega arith)

  pub seen_at : (e : ℕ) → e < node_count m → seen pol m e ≡ seen_as pol m (first_nodes pol m e) (node_at m e)
  seen_at e h = first-at e (node_count m) h

-- a candidate with a tree has the type, the figures and the cost of one in memory
pub record Shows (s : Candidate) (x : code.Candidate) : Type 0 where
  pub ty : s.ty ≡ x.ty
  pub ext : s.ext ≡ x.ext
  pub cost : s.cost ≡ x.cost

shows-as : (pol m : List ℕ) (e : ℕ) (s : Candidate) (x : code.Candidate) → s ≡ seen_as pol m (first_nodes pol m e) x → Shows s x
unfolding seen_as
shows-as pol m e s x is =
    record {
      ty = ap (λ (c : Candidate). c.ty) is;
      ext = ap (λ (c : Candidate). c.ext) is;
      cost = ap (λ (c : Candidate). c.cost) is;
    }

pub seen-fields : (pol m : List ℕ) (e : ℕ) → e < node_count m → Shows (seen pol m e) (node_at m e)
seen-fields pol m e h = shows-as pol m e (seen pol m e) (node_at m e) (seen_at pol m e h)

-- the tree of what has a kind and three children, whatever its type, its figures and its cost
abbrev pub TreeIs : (pol m : List ℕ) (kind first second third : ℕ) → Fragment → Type 0
TreeIs pol m kind first second third f =
    (t : «Type») (d : ExtData) (c : Cost) → tree_of pol m (all_nodes pol m) (candidate kind first second third t d c) ≡ f

-- the first two nodes

false-as : (pol m : List ℕ) (n : ℕ) → seen_as pol m (first_nodes pol m n) false_candidate ≡ false'
unfolding seen_as tree_of find
false-as pol m n = refl

true-as : (pol m : List ℕ) (n : ℕ) → seen_as pol m (first_nodes pol m n) true_candidate ≡ true'
unfolding seen_as tree_of find
true-as pol m n = refl

pub seen_false : {m : List ℕ} → Holds m → (pol : List ℕ) → seen pol m 0 ≡ false'
seen_false {m} h pol =
    seen_at pol m 0 (omega (arith, h.two))
    ∙ ap (λ (x : code.Candidate). seen_as pol m (first_nodes pol m 0) x) h.false_first
    ∙ false-as pol m 0

pub seen_true : {m : List ℕ} → Holds m → (pol : List ℕ) → seen pol m 1 ≡ true'
seen_true {m} h pol =
    seen_at pol m 1 (omega (arith, h.two))
    ∙ ap (λ (x : code.Candidate). seen_as pol m (first_nodes pol m 1) x) h.true_next
    ∙ true-as pol m 1
