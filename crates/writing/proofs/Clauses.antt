-- The records of a node with one, two or three children, and document 01's whole case. Assumes nothing.
use mathlib.Core.Path.{◌≡◌, refl}
use mathlib.Core.List.{List, [], ◌∷◌, ◌++◌, append_assoc, append-nil}
use Prim.Native.Nat.{ℕ, ◌+◌}
use native.Mathlib.Omega.{arith}
use Rattle.words.specs.Bytes.{bytes_of}
use Rattle.trees.specs.Fragment.{Check, PkK}
use Rattle.writing.specs.Writing.{Node, node, nil, ◌▸◌, leaf, above, in_row, node_of, count, own, owns, record_of, written, bytes_of_tree}

-- a node's own record is the last of its records
pub own-last : (n : ℕ) (t : Node) → own n t + 1 ≡ n + count t
unfolding count
own-last n (node kind front children) = omega arith

pub count-one : (kind : ℕ) (t : Node) → count (above kind (t ▸ nil)) ≡ count t + 1
unfolding count
count-one kind t = omega arith

pub count-two : (kind : ℕ) (t u : Node) → count (above kind (t ▸ u ▸ nil)) ≡ count t + count u + 1
unfolding count
count-two kind t u = omega arith

pub count-three : (kind : ℕ) (t u v : Node) → count (above kind (t ▸ u ▸ v ▸ nil)) ≡ count t + count u + count v + 1
unfolding count
count-three kind t u v = omega arith

pub written-leaf : (n kind : ℕ) (payload : List ℕ) → written n (leaf kind payload) ≡ record_of kind payload
unfolding written owns in_row
written-leaf n kind payload = rw (append-nil payload)

pub written_one : (n kind : ℕ) (t : Node) → written n (above kind (t ▸ nil)) ≡ written n t ++ record_of kind (in_row 2 (own n t ∷ []))
unfolding written owns
written_one n kind t = rw (append-nil (written n t))

pub written-two : (n kind : ℕ) (t u : Node) → written n (above kind (t ▸ u ▸ nil))
    ≡ written n t ++ (written (n + count t) u ++ record_of kind (in_row 2 (own n t ∷ own (n + count t) u ∷ [])))
unfolding written owns
written-two n kind t u = simp (append-nil, append_assoc)

pub written-three : (n kind : ℕ) (t u v : Node) → written n (above kind (t ▸ u ▸ v ▸ nil))
    ≡ written n t ++ (written (n + count t) u ++ (written (n + count t + count u) v
    ++ record_of kind (in_row 2 (own n t ∷ own (n + count t) u ∷ own (n + count t + count u) v ∷ []))))
unfolding written owns
written-three n kind t u v = simp (append-nil, append_assoc)

-- Check over PkK
whole-case : bytes_of_tree (Check (PkK 7)) ≡ 12 ∷ 0 ∷ 0x54 ∷ 0 ∷ 7 ∷ 0 ∷ 0 ∷ 0 ∷ 0 ∷ 0 ∷ 0 ∷ 0 ∷ 6 ∷ 0 ∷ 0x2C ∷ 0 ∷ 0 ∷ 0 ∷ []
unfolding node_of written count owns in_row bytes_of
whole-case = refl
