-- The record that a node of work memory writes: document 01, "Records", with keys of 64 bits (document 02, R-3), over the nodes of crate `nodes` (specs/Views.antt). Its kind, the bytes
-- of its payload before the children, and the numbers of its children. Assumes nothing.
use Rattle.std.specs.Prelude.{cond, List, [], ◌++◌, ℕ, zero, suc, ◌+◌, ◌*◌, eqb, ltb, leb, length, take}
use Rattle.words.specs.Bytes.{bytes_of}
use Rattle.records.specs.Numbers.{between}
use Rattle.trees.specs.Fragment.{Fragment}
use Rattle.records.specs.Shapes.{arity}
use Rattle.writing.specs.Writing.{Nodes, nil, ◌▸◌, in_row, k_and_n, record_of, node_of}
use Rattle.policies.specs.Policy.{Policy}
use Rattle.policies.specs.Forms.{number_of, k_of, children_of}
use Rattle.policies.specs.Array.{policy_at}
use Rattle.nodes.specs.Words.{node_at, row_child}
use Rattle.nodes.specs.Views.{seen, keys_of}

-- the tree that a node stands for
abbrev pub tree_at : (pol m : List ℕ) → ℕ → Fragment
tree_at pol m e = (seen pol m e).tree

-- the policy that a node holds
unfoldable pub held_at : (pol m : List ℕ) → ℕ → Policy
held_at pol m e = policy_at pol (node_at m e).first

-- how many children or keys there are, of a node that has a number of them
abbrev pub count_at : (pol m : List ℕ) → ℕ → ℕ
count_at pol m e = length (children_of (held_at pol m e))

-- kinds that have keys are written as those of keys of 64 bits, 50 higher
abbrev pub written_as : ℕ → ℕ
written_as kind = cond (between 34 35 kind) (kind + 50) (cond (between 57 58 kind) (kind + 50) kind)

-- a number that is no fragment's kind stands for False
abbrev pub fragment_kind : ℕ → ℕ
fragment_kind kind = cond (between 32 58 kind) (written_as kind) 32

unfoldable pub kind_at : List ℕ → ℕ → ℕ
kind_at m e = fragment_kind (node_at m e).kind

-- how many bytes the number of a key, a hash or a lock has
unfoldable pub number_width : (kind : ℕ) → ℕ
number_width kind = cond (leb kind 35) 8 4

-- the payload before the children: a number, or k and n, or k, n and the keys
abbrev pub front_of : (kind : ℕ) → Policy → List ℕ
front_of kind p =
    cond (between 34 41 kind) (bytes_of (number_width kind) (number_of p))
    (cond (eqb kind 56) (k_and_n (k_of p) (length (children_of p)))
    (cond (between 57 58 kind) (k_and_n (k_of p) (length (children_of p)) ++ in_row 8 (keys_of p))
    []))

unfoldable pub front_at : (pol m : List ℕ) → ℕ → List ℕ
front_at pol m e = front_of (node_at m e).kind (held_at pol m e)

-- how many bytes these are, where there are n children or keys
abbrev pub front_length : (kind n : ℕ) → ℕ
front_length kind n = cond (between 34 41 kind) (number_width kind) (cond (eqb kind 56) 4 (cond (between 57 58 kind) (4 + 8 * n) 0))

-- how many children a node has
unfoldable pub arity_at : (pol m : List ℕ) → ℕ → ℕ
arity_at pol m e = arity (node_at m e).kind (count_at pol m e)

-- the number that a node holds for its child j: a Thresh has a row of them
unfoldable pub named_child : List ℕ → (e j : ℕ) → ℕ
named_child m e j =
    cond (eqb (node_at m e).kind 56) (row_child m (node_at m e).second j)
    (cond (eqb j 0) (node_at m e).first (cond (eqb j 1) (node_at m e).second (node_at m e).third))

-- a node is made of those before it: any other number stands for False, which is node 0
abbrev pub before : (e c : ℕ) → ℕ
before e c = cond (ltb c e) c 0

abbrev pub child_at : List ℕ → (e j : ℕ) → ℕ
child_at m e j = before e (named_child m e j)

-- the records of n children of node e, from child j on
unfoldable pub child_nodes : (pol m : List ℕ) → (e j n : ℕ) → Nodes
child_nodes pol m e j zero = nil
child_nodes pol m e j (suc n) = node_of (tree_at pol m (child_at m e j)) ▸ child_nodes pol m e (suc j) n

-- ---- the bytes of a node's record

unfoldable pub length_at : (pol m : List ℕ) → ℕ → ℕ
length_at pol m e = 4 + (length (front_at pol m e) + 2 * arity_at pol m e)

-- the record of node e, the first numbers of a row being those of its children
unfoldable pub record_at : (pol m : List ℕ) → ℕ → List ℕ → List ℕ
record_at pol m e row = record_of (kind_at m e) (front_at pol m e ++ in_row 2 (take (arity_at pol m e) row))
