-- The record of the tree that a node stands for: its kind, its front, and the records of its children, each of which is a node before it.
-- Assumes nothing.
use mathlib.Core.Path.{◌≡◌, refl, sym, ◌∙◌, ap}
use mathlib.Core.Bool.{Bool, true, false, cond, ◌&&◌}
use mathlib.Core.List.{List, [], ◌∷◌, ◌++◌, map}
use Rattle.std.specs.Prelude.{Option, None, Some}
use mathlib.Core.Logic.{◌⊎◌, inl, inr, ⊎_elim}
use Prim.Native.Nat.{ℕ, zero, suc, ◌+◌, ◌<◌, ◌≤◌}
use native.Mathlib.Omega.{arith}
use borrow.Author.Tests.{eqb-true, ne_eqb, ltb-true, ltb-false, le-leb, lt-leb}
use lib.Dec.{eqb, ltb, leb}
use lib.ListN.{length, length-map, length-append}
use Rattle.records.specs.Numbers.{between}
use Rattle.trees.specs.Fragment.{Fragment, to_list}
use Rattle.trees.specs.Tree.{Line, find}
use Rattle.records.specs.Shapes.{arity}
use Rattle.writing.specs.Writing.{Node, node, Nodes, nil, ◌▸◌, leaf, in_row, k_and_n, node_of, nodes_of}
use Rattle.policies.specs.Forms.{number_of, k_of, children_of}
use Rattle.policies.proofs.Ranges.{Each, each}
use Rattle.definition.specs.Candidates.{Candidate, false', fragments}
use Rattle.definition.specs.Tables.{Table}
use Rattle.memory.specs.Layout.{node_count}
use Rattle.nodes.specs.Words.{node_at, row_child}
use Rattle.nodes.specs.Views.{among, row_at, Parts, makers, make_by, parts_of, tree_of, seen_as, first_nodes, seen, keys_of}
use Rattle.nodes.specs.Answers.{Holds}
use Rattle.nodes.proofs.Seen.{first-length, first-at, seen_at, seen_false}
use Rattle.output.specs.Records.{tree_at, held_at, count_at, fragment_kind, kind_at, number_width, front_of, front_at, arity_at, named_child, before, child_at}
use Rattle.output.specs.Records.{child_nodes}

-- ---- kinds in and out of a range

true-false : true ≡ false → ⊥
true-false e =
    let z : ◌≡◌ {A = ℕ} 0 1 = cc in
    omega arith

both_true : (a b : Bool) → a && b ≡ true → (a ≡ true) × (b ≡ true)
both_true true b h = (refl, h)
both_true false b h = (h, cc)

pub in-range : (low high n : ℕ) → low ≤ n → n ≤ high → between low high n ≡ true
in-range low high n l h = rw (le-leb low n l, le-leb n high h)

pub out_below : (low high n : ℕ) → n < low → between low high n ≡ false
out_below low high n l = rw (lt-leb low n l)

both_false : (b : Bool) → b && false ≡ false
both_false true = refl
both_false false = refl

pub out-above : (low high n : ℕ) → high < n → between low high n ≡ false
out-above low high n h = rw (lt-leb n high h) (both_false (leb low n))

-- the number that is written for a kind
module _ (kind : ℕ) where
  pub kind-first : 32 ≤ kind → kind ≤ 33 → kind ≡ fragment_kind kind
  kind-first l h = rw (in-range 32 58 kind l (omega arith), out_below 34 35 kind (omega arith), out_below 57 58 kind (omega arith))

  pub kind-key : 34 ≤ kind → kind ≤ 35 → kind + 50 ≡ fragment_kind kind
  kind-key l h = rw (in-range 32 58 kind (omega arith) (omega arith), in-range 34 35 kind l h)

  pub kind-middle : 36 ≤ kind → kind ≤ 56 → kind ≡ fragment_kind kind
  kind-middle l h =
      rw (in-range 32 58 kind (omega arith) (omega arith), out-above 34 35 kind (omega arith), out_below 57 58 kind (omega arith))

  pub kind-keys : 57 ≤ kind → kind ≤ 58 → kind + 50 ≡ fragment_kind kind
  kind-keys l h = rw (in-range 32 58 kind (omega arith) h, out-above 34 35 kind (omega arith), in-range 57 58 kind l h)

  pub kind-below : kind < 32 → 32 ≡ fragment_kind kind
  kind-below l = rw (out_below 32 58 kind l)

  pub kind-above : 58 < kind → 32 ≡ fragment_kind kind
  kind-above l = rw (out-above 32 58 kind l)

-- ---- the record of what a kind makes of its parts

module _ (p : Parts) where
  -- the records of the children
  unfoldable kids : ℕ → Nodes
  kids kind =
      cond (between 42 48 kind) (node_of p.first ▸ nil)
      (cond (between 49 54 kind) (node_of p.first ▸ node_of p.second ▸ nil)
      (cond (eqb kind 55) (node_of p.first ▸ node_of p.second ▸ node_of p.third ▸ nil)
      (cond (eqb kind 56) (nodes_of (fragments p.row)) nil)))

  abbrev form : ℕ → Node
  form kind = node (fragment_kind kind) (front_of kind p.held) (kids kind)

  abbrev Formed : ℕ → Type 0
  Formed kind = node_of (make_by (find kind makers) p) ≡ form kind

  module _ (l : length (to_list (fragments p.row)) ≡ length (children_of p.held)) where
    keyed : (kind : ℕ) → leaf kind (k_and_n (k_of p.held) (length (keys_of p.held)) ++ in_row 8 (keys_of p.held))
        ≡ leaf kind (k_and_n (k_of p.held) (length (children_of p.held)) ++ in_row 8 (keys_of p.held))
    keyed kind = ap (λ (n : ℕ). leaf kind (k_and_n (k_of p.held) n ++ in_row 8 (keys_of p.held))) (length-map (children_of p.held) number_of)

    formed-55 : Each Formed 55 4
    unfolding find node_of kids
    formed-55 = (refl, (ap (λ (n : ℕ). node 56 (k_and_n (k_of p.held) n) (nodes_of (fragments p.row))) l, (keyed 107, (keyed 108, tt))))

    formed-32 : Each Formed 32 10
    unfolding find node_of kids number_width
    formed-32 = (refl, (refl, (refl, (refl, (refl, (refl, (refl, (refl, (refl, (refl, tt))))))))))

    formed-42 : Each Formed 42 13
    unfolding find node_of kids
    formed-42 = (refl, (refl, (refl, (refl, (refl, (refl, (refl, (refl, (refl, (refl, (refl, (refl, (refl, tt)))))))))))))

    formed-in : (kind : ℕ) → 32 ≤ kind → kind ≤ 58 → Formed kind
    formed-in kind low high = by-test (ltb kind 42) (ltb kind 55) refl refl
      where
        by-test : (b c : Bool) → ltb kind 42 ≡ b → ltb kind 55 ≡ c → Formed kind
        by-test true c s t = each Formed 32 10 formed-32 kind low (omega (arith, ltb-true kind 42 s))
        by-test false true s t = each Formed 42 13 formed-42 kind (ltb-false kind 42 s) (omega (arith, ltb-true kind 55 t))
        by-test false false s t = each Formed 55 4 formed-55 kind (ltb-false kind 55 t) (omega arith)

  -- no maker stands under a number that is no fragment's kind
  all_kinds : List (Line (Parts → Fragment)) → Bool
  all_kinds [] = true
  all_kinds (line ∷ lines) = between 32 58 line.kind && all_kinds lines

  found_none : (kind : ℕ) (lines : List (Line (Parts → Fragment))) → all_kinds lines ≡ true → between 32 58 kind ≡ false → find kind lines ≡ None
  unfolding find all_kinds
  found_none kind [] all out = refl
  found_none kind (line ∷ lines) all out =
      let both = both_true (between 32 58 line.kind) (all_kinds lines) all in
      by-test (eqb kind line.kind) refl both.0 (found_none kind lines both.1 out)
    where
      by-test : (b : Bool) → eqb kind line.kind ≡ b → between 32 58 line.kind ≡ true → find kind lines ≡ None
          → cond b (Some line.this) (find kind lines) ≡ None
      by-test true e is others =
          let same : between 32 58 kind ≡ true = ap (between 32 58) (eqb-true kind line.kind e) ∙ is in
          absurd (true-false (sym same ∙ out))
      by-test false e is others = others

  formed-out : (kind : ℕ) → between 32 58 kind ≡ false → (kind < 32) ⊎ (58 < kind) → Formed kind
  unfolding find node_of kids all_kinds
  formed-out kind out side =
      ap (λ (o : Option (Parts → Fragment)). node_of (make_by o p)) (found_none kind makers refl out)
      ∙ sym
      (rw (
        out,
        none_in 34 41 (omega arith) (omega arith),
        none_in 57 58 (omega arith) (omega arith),
        none_in 42 48 (omega arith) (omega arith),
        none_in 49 54 (omega arith) (omega arith),
        ne_eqb kind 55 (λ e. not-it 55 (omega arith) (omega arith) e),
        ne_eqb kind 56 (λ e. not-it 56 (omega arith) (omega arith) e),
      ))
    where
      none_in : (low high : ℕ) → 32 ≤ low → high ≤ 58 → between low high kind ≡ false
      none_in low high l h = ⊎_elim (λ (b : kind < 32). out_below low high kind (omega arith)) (λ (a : 58 < kind). out-above low high kind (omega arith)) side

      not-it : (n : ℕ) → 32 ≤ n → n ≤ 58 → kind ≡ n → ⊥
      not-it n l h e = ⊎_elim (λ (b : kind < 32). omega arith) (λ (a : 58 < kind). omega arith) side

  formed : length (to_list (fragments p.row)) ≡ length (children_of p.held) → (kind : ℕ) → Formed kind
  formed l kind = by-test (ltb kind 32) (ltb 58 kind) refl refl
    where
      by-test : (b c : Bool) → ltb kind 32 ≡ b → ltb 58 kind ≡ c → Formed kind
      by-test true c s t = let h = ltb-true kind 32 s in formed-out kind (out_below 32 58 kind h) (inl h)
      by-test false true s t = let h = ltb-true 58 kind t in formed-out kind (out-above 32 58 kind h) (inr h)
      by-test false false s t = formed-in l kind (ltb-false kind 32 s) (ltb-false 58 kind t)

-- ---- the records of the children

unfoldable theirs : (ℕ → Node) → (j n : ℕ) → Nodes
theirs f j zero = nil
theirs f j (suc n) = f j ▸ theirs f (suc j) n

unfoldable joined : Nodes → Node → Nodes
joined nil y = y ▸ nil
joined (x ▸ xs) y = x ▸ joined xs y

theirs-last : (f : ℕ → Node) (j n : ℕ) → theirs f j (suc n) ≡ joined (theirs f j n) (f (j + n))
unfolding theirs joined
theirs-last f j zero =
    let e : j + 0 ≡ j = omega arith in
    rw e
theirs-last f j (suc n) =
    let e : j + suc n ≡ suc j + n = omega arith in
    rw e (ap (λ (xs : Nodes). f j ▸ xs) (theirs-last f (suc j) n))

module _ (p : Parts) (f : ℕ → Node) (n kind : ℕ) where
  kids-are : ((kind ≡ 56 → ⊥) → (node_of p.first ≡ f 0) × (node_of p.second ≡ f 1) × (node_of p.third ≡ f 2))
      → (kind ≡ 56 → nodes_of (fragments p.row) ≡ theirs f 0 n) → kids p kind ≡ theirs f 0 (arity kind n)
  unfolding kids theirs
  kids-are three row = by-test (between 42 48 kind) (between 49 54 kind) (eqb kind 55) (eqb kind 56) refl refl refl refl
    where
      apart : (low high : ℕ) → high < 56 → between low high kind ≡ true → kind ≡ 56 → ⊥
      apart low high h b e = true-false (sym b ∙ out-above low high kind (omega arith))

      by-test : (a b c d : Bool) → between 42 48 kind ≡ a → between 49 54 kind ≡ b → eqb kind 55 ≡ c → eqb kind 56 ≡ d
          → cond a (node_of p.first ▸ nil)
          (cond b (node_of p.first ▸ node_of p.second ▸ nil)
          (cond c (node_of p.first ▸ node_of p.second ▸ node_of p.third ▸ nil)
          (cond d (nodes_of (fragments p.row)) nil)))
          ≡ theirs f 0 (cond a 1 (cond b 2 (cond c 3 (cond d n 0))))
      by-test true b c d ea eb ec ed =
          let t = three (apart 42 48 (omega arith) ea) in
          rw t.0
      by-test false true c d ea eb ec ed =
          let t = three (apart 49 54 (omega arith) eb) in
          rw (t.0, t.1)
      by-test false false true d ea eb ec ed =
          let k : kind ≡ 55 = eqb-true kind 55 ec in
          let t = three (λ (e : kind ≡ 56). omega arith) in
          rw (t.0, t.1, t.2)
      by-test false false false true ea eb ec ed = row (eqb-true kind 56 ed)
      by-test false false false false ea eb ec ed = refl

-- ---- the trees of the nodes before one

past_end : (xs : Table) (e : ℕ) → length xs ≤ e → among xs e ≡ false'
past_end [] zero h = refl
past_end [] (suc e) h = refl
past_end (x ∷ xs) zero h = absurd (omega arith)
past_end (x ∷ xs) (suc e) h = past_end xs e (omega arith)

module _ (pol : List ℕ) {m : List ℕ} (holds : Holds m) (e : ℕ) (l : e < node_count m) where
  pub earlier : (c : ℕ) → among (first_nodes pol m e) c ≡ seen pol m (before e c)
  earlier c = by-test (ltb c e) refl
    where
      by-test : (b : Bool) → ltb c e ≡ b → among (first_nodes pol m e) c ≡ seen pol m (cond b c 0)
      by-test true t =
          let h = ltb-true c e t in
          first-at pol m c e h ∙ sym (seen_at pol m c (omega arith))
      by-test false t =
          past_end (first_nodes pol m e) c (omega (arith, first-length pol m e, ltb-false c e t)) ∙ sym (seen_false holds pol)

  abbrev child_node : ℕ → Node
  child_node j = node_of (tree_at pol m (child_at m e j))

  same_nodes : (j n : ℕ) → theirs child_node j n ≡ child_nodes pol m e j n
  unfolding theirs child_nodes
  same_nodes j zero = refl
  same_nodes j (suc n) = ap (λ (xs : Nodes). child_node j ▸ xs) (same_nodes (suc j) n)

  -- the row of a Thresh
  module _ (is : (node_at m e).kind ≡ 56) where
    row_named : (j : ℕ) → named_child m e j ≡ row_child m (node_at m e).second j
    unfolding named_child
    row_named j = rw is

    abbrev row_of : ℕ → Table
    row_of n = map (among (first_nodes pol m e)) (row_at m (node_at m e).second n)

    map_last : (ns : List ℕ) (c : ℕ) → nodes_of (fragments (map (among (first_nodes pol m e)) (ns ++ (c ∷ []))))
        ≡ joined (nodes_of (fragments (map (among (first_nodes pol m e)) ns))) (node_of (among (first_nodes pol m e) c).tree)
    unfolding node_of fragments joined
    map_last [] c = refl
    map_last (n ∷ ns) c = ap (λ (xs : Nodes). node_of (among (first_nodes pol m e) n).tree ▸ xs) (map_last ns c)

    no-nodes : nodes_of (fragments []) ≡ theirs child_node 0 0
    unfolding node_of fragments theirs
    no-nodes = refl

    row-nodes : (n : ℕ) → nodes_of (fragments (row_of n)) ≡ theirs child_node 0 n
    unfolding row_at
    row-nodes zero = no-nodes
    row-nodes (suc n) =
        let s : n ≡ 0 + n = omega arith in
        map_last (row_at m (node_at m e).second n) (row_child m (node_at m e).second n)
        ∙ ap (λ (xs : Nodes). joined xs (node_of (among (first_nodes pol m e) (row_child m (node_at m e).second n)).tree)) (row-nodes n)
        ∙ ap (λ (c : Candidate). joined (theirs child_node 0 n) (node_of c.tree)) (earlier (row_child m (node_at m e).second n))
        ∙ ap (λ (c : ℕ). joined (theirs child_node 0 n) (node_of (tree_at pol m (before e c)))) (sym (row_named n))
        ∙ ap (λ (j : ℕ). joined (theirs child_node 0 n) (child_node j)) s
        ∙ sym (theirs-last child_node 0 n)

  row-length : (n : ℕ) → length (row_at m (node_at m e).second n) ≡ n
  unfolding row_at
  row-length zero = refl
  row-length (suc n) =
      let h = row-length n in
      length-append (row_at m (node_at m e).second n) (row_child m (node_at m e).second n ∷ []) ∙ omega arith

  listed : (xs : Table) → length (to_list (fragments xs)) ≡ length xs
  unfolding to_list fragments
  listed [] = refl
  listed (x ∷ xs) = ap suc (listed xs)

  named-at : ((node_at m e).kind ≡ 56 → ⊥)
      → (named_child m e 0 ≡ (node_at m e).first) × (named_child m e 1 ≡ (node_at m e).second) × (named_child m e 2 ≡ (node_at m e).third)
  unfolding named_child
  named-at ne = (rw (ne_eqb (node_at m e).kind 56 ne), rw (ne_eqb (node_at m e).kind 56 ne), rw (ne_eqb (node_at m e).kind 56 ne))

  abbrev parts : Parts
  parts = parts_of pol m (first_nodes pol m e) (node_at m e)

  child-node : (j c : ℕ) → named_child m e j ≡ c → node_of (among (first_nodes pol m e) c).tree ≡ child_node j
  child-node j c is =
      ap (λ (x : Candidate). node_of x.tree) (earlier c) ∙ ap (λ (n : ℕ). node_of (tree_at pol m (before e n))) (sym is)

  tree_is : tree_at pol m e ≡ make_by (find (node_at m e).kind makers) parts
  unfolding seen_as tree_of
  tree_is = ap (λ (x : Candidate). x.tree) (seen_at pol m e l)

  kids-of : kids parts (node_at m e).kind ≡ child_nodes pol m e 0 (arity_at pol m e)
  unfolding arity_at held_at
  kids-of =
      kids-are parts child_node (count_at pol m e) (node_at m e).kind
      (λ ne. (
        child-node 0 (node_at m e).first (named-at ne).0,
        child-node 1 (node_at m e).second (named-at ne).1,
        child-node 2 (node_at m e).third (named-at ne).2,
      ))
      (λ is. row-nodes is (count_at pol m e))
      ∙ same_nodes 0 (arity (node_at m e).kind (count_at pol m e))

  -- the record of a node's tree
  pub shape : node_of (tree_at pol m e) ≡ node (kind_at m e) (front_at pol m e) (child_nodes pol m e 0 (arity_at pol m e))
  unfolding kind_at front_at held_at
  shape =
      ap node_of tree_is
      ∙ formed parts
      (listed (row_of' (count_at pol m e)) ∙ length-map (row_at m (node_at m e).second (count_at pol m e)) (among (first_nodes pol m e))
      ∙ row-length (count_at pol m e))
      (node_at m e).kind
      ∙ ap (λ (xs : Nodes). node (kind_at m e) (front_at pol m e) xs) kids-of
    where
      row_of' : ℕ → Table
      row_of' n = map (among (first_nodes pol m e)) (row_at m (node_at m e).second n)
