-- The bytes of a well-formed tree are bytes, and at most 136 for each record. Assumes nothing.
use mathlib.Core.List.{List, [], ◌∷◌, ◌++◌}
use mathlib.Core.Path.{◌≡◌, refl, ap, ◌∙◌}
use Prim.Native.Nat.{ℕ, zero, suc, ◌+◌, ◌*◌, ◌%◌, ◌/◌, ◌<◌, ◌≤◌}
use native.Mathlib.Omega.{arith}
use lib.ListN.{length, length-append}
use Rattle.words.specs.Bytes.{bytes_of}
use Rattle.words.proofs.Bytes.{length-bytes}
use Rattle.contexts.specs.Leaves.{After, Older, Sha256, Hash256, Ripemd160, Hash160}
use Rattle.trees.specs.Fragment.{Fragment, Fragments, end, ◌▹◌, to_list, False, True, PkK, PkH, Lock, Hash}
use Rattle.trees.specs.Fragment.{Alt, Swap, Check, DupIf, Verify, NonZero, ZeroNotEqual}
use Rattle.trees.specs.Fragment.{AndB, AndV, OrB, OrD, OrC, OrI, AndOr, Thresh, Multi, MultiA}
use Rattle.writing.specs.Writing.{Node, node, Nodes, nil, ◌▸◌, in_row, k_and_n, lock_kind, hash_kind, node_of, nodes_of, count, counts, owns, record_of, written}
use Rattle.writing.specs.Writing.{written_all, size, bytes_of_tree}
use Rattle.writing.specs.WellFormed.{AllBelow, IsThreshold, WellFormed, AllWellFormed}
use Rattle.writing.proofs.Rows.{length-row}
use Rattle.chosen.proofs.Written.{arities, arities-are, owns-long}

below-append : (xs ys : List ℕ) → AllBelow 256 xs → AllBelow 256 ys → AllBelow 256 (xs ++ ys)
unfolding AllBelow
below-append [] ys a b = b
below-append (x ∷ xs) ys a b = (a.0, below-append xs ys a.1 b)

below-bytes : (w v : ℕ) → AllBelow 256 (bytes_of w v)
unfolding AllBelow bytes_of
below-bytes zero v = tt
below-bytes (suc w) v = (omega arith, below-bytes w (v / 256))

below_row : (w : ℕ) (ns : List ℕ) → AllBelow 256 (in_row w ns)
unfolding AllBelow in_row
below_row w [] = tt
below_row w (n ∷ ns) = below-append (bytes_of w n) (in_row w ns) (below-bytes w n) (below_row w ns)

-- ---- each record

-- what stands before the children is bytes, and leaves room for them
unfoldable mutual
  Small : Node → Type 0
  Small (node kind front xs) = AllBelow 256 front × (length front + 2 * arities xs ≤ 132) × AllSmall xs

  AllSmall : Nodes → Type 0
  AllSmall nil = Unit
  AllSmall (x ▸ xs) = Small x × AllSmall xs

number_small : (w v : ℕ) → w ≤ 8 → AllBelow 256 (bytes_of w v) × (length (bytes_of w v) + 2 * 0 ≤ 132) × Unit {0}
number_small w v few = (below-bytes w v, omega (arith, length-bytes w v), tt)

keys-small : (k : ℕ) (keys : List ℕ) → IsThreshold k (length keys)
    → AllBelow 256 (k_and_n k (length keys) ++ in_row 8 keys) × (length (k_and_n k (length keys) ++ in_row 8 keys) + 2 * 0 ≤ 132) × Unit {0}
keys-small k keys fits =
    let front = k_and_n k (length keys) in (
      below-append front (in_row 8 keys) (below_row 2 (k ∷ length keys ∷ [])) (below_row 8 keys),
      omega (arith, length-append front (in_row 8 keys), length-row 2 (k ∷ length keys ∷ []), length-row 8 keys),
      tt,
    )

mutual
  unfolding node_of WellFormed Small arities AllBelow

  tree-small : (f : Fragment) → WellFormed f → Small (node_of f)
  tree-small False w = (tt, omega arith, tt)
  tree-small True w = (tt, omega arith, tt)
  tree-small (PkK key) w = number_small 8 key (omega arith)
  tree-small (PkH key) w = number_small 8 key (omega arith)
  tree-small (Lock kind n) w = number_small 4 n (omega arith)
  tree-small (Hash kind h) w = number_small 4 h (omega arith)
  tree-small (Alt x) w = (tt, omega arith, (tree-small x w, tt))
  tree-small (Swap x) w = (tt, omega arith, (tree-small x w, tt))
  tree-small (Check x) w = (tt, omega arith, (tree-small x w, tt))
  tree-small (DupIf x) w = (tt, omega arith, (tree-small x w, tt))
  tree-small (Verify x) w = (tt, omega arith, (tree-small x w, tt))
  tree-small (NonZero x) w = (tt, omega arith, (tree-small x w, tt))
  tree-small (ZeroNotEqual x) w = (tt, omega arith, (tree-small x w, tt))
  tree-small (AndB x y) w = (tt, omega arith, (tree-small x w.0, (tree-small y w.1, tt)))
  tree-small (AndV x y) w = (tt, omega arith, (tree-small x w.0, (tree-small y w.1, tt)))
  tree-small (OrB x y) w = (tt, omega arith, (tree-small x w.0, (tree-small y w.1, tt)))
  tree-small (OrD x y) w = (tt, omega arith, (tree-small x w.0, (tree-small y w.1, tt)))
  tree-small (OrC x y) w = (tt, omega arith, (tree-small x w.0, (tree-small y w.1, tt)))
  tree-small (OrI x y) w = (tt, omega arith, (tree-small x w.0, (tree-small y w.1, tt)))
  tree-small (AndOr x y z) w = (tt, omega arith, (tree-small x w.0, (tree-small y w.1, (tree-small z w.2, tt))))
  tree-small (Thresh k xs) w =
      let n = length (to_list xs) in
      (below_row 2 (k ∷ n ∷ []), omega (arith, length-row 2 (k ∷ n ∷ []), arities-are xs, w.0.2), trees-small xs w.1)
  tree-small (Multi k keys) w = keys-small k keys w.0
  tree-small (MultiA k keys) w = keys-small k keys w.0

  trees-small : (xs : Fragments) → AllWellFormed xs → AllSmall (nodes_of xs)
  trees-small end w = tt
  trees-small (x ▹ xs) w = (tree-small x w.0, trees-small xs w.1)

-- ---- all records

record-below : (kind : ℕ) (payload : List ℕ) → AllBelow 256 payload → AllBelow 256 (record_of kind payload)
record-below kind payload below =
    below-append (bytes_of 2 (4 + length payload)) (bytes_of 2 kind ++ payload) (below-bytes 2 (4 + length payload))
    (below-append (bytes_of 2 kind) payload (below-bytes 2 kind) below)

record-few : (kind : ℕ) (payload : List ℕ) → length payload ≤ 132 → length (record_of kind payload) ≤ 136
record-few kind payload few =
    omega (
      arith,
      length-append (bytes_of 2 (4 + length payload)) (bytes_of 2 kind ++ payload),
      length-append (bytes_of 2 kind) payload,
      length-bytes 2 (4 + length payload),
      length-bytes 2 kind,
    )

mutual
  unfolding Small written count AllBelow

  node-bytes : (t : Node) → Small t → (n : ℕ) → AllBelow 256 (written n t) × (length (written n t) ≤ 136 * count t)
  node-bytes (node kind front xs) small n =
      let payload = front ++ in_row 2 (owns n xs) in
      let before = nodes-bytes xs small.2 n in
      let few : length payload ≤ 132 =
      omega (arith, length-append front (in_row 2 (owns n xs)), length-row 2 (owns n xs), owns-long xs n, small.1) in (
        below-append (written_all n xs) (record_of kind payload) before.0
            (record-below kind payload (below-append front (in_row 2 (owns n xs)) small.0 (below_row 2 (owns n xs)))),
        omega (arith, length-append (written_all n xs) (record_of kind payload), record-few kind payload few, before.1),
      )

  nodes-bytes : (xs : Nodes) → AllSmall xs → (n : ℕ) → AllBelow 256 (written_all n xs) × (length (written_all n xs) ≤ 136 * counts xs)
  nodes-bytes nil small n = (tt, omega arith)
  nodes-bytes (x ▸ xs) small n =
      let first = node-bytes x small.0 n in
      let others = nodes-bytes xs small.1 (n + count x) in (
        below-append (written n x) (written_all (n + count x) xs) first.0 others.0,
        omega (arith, length-append (written n x) (written_all (n + count x) xs), first.1, others.1),
      )

pub tree-bytes : (f : Fragment) → WellFormed f → AllBelow 256 (bytes_of_tree f) × (length (bytes_of_tree f) ≤ 136 * size f)
tree-bytes f w = node-bytes (node_of f) (tree-small f w) 0
