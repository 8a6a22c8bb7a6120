-- The records of a fragment tree, from document 01, "Records": post-order, children left to right, a shared node written at each occurrence.
-- Keys are written in the kinds of 64 bits: document 02, R-3.
use Rattle.std.specs.Prelude.{List, [], ◌∷◌, ◌++◌, ℕ, ◌+◌, length}
use Rattle.words.specs.Bytes.{bytes_of}
use Rattle.contexts.specs.Leaves.{LockKind, After, Older, HashKind, Sha256, Hash256, Ripemd160, Hash160}
use Rattle.trees.specs.Fragment.{Fragment, Fragments, end, ◌▹◌, to_list, False, True, PkK, PkH, Lock, Hash}
use Rattle.trees.specs.Fragment.{Alt, Swap, Check, DupIf, Verify, NonZero, ZeroNotEqual}
use Rattle.trees.specs.Fragment.{AndB, AndV, OrB, OrD, OrC, OrI, AndOr, Thresh, Multi, MultiA}

-- ---- what each fragment's record holds

infixr 50 ◌▸◌
mutual
  -- A record with those below it: its kind, the bytes of its payload before the children, and the children.
  pub data Node : Type 0 where
    node : (kind : ℕ) → (front : List ℕ) → Nodes → Node

  pub data Nodes : Type 0 where
    nil : Nodes
    ◌▸◌ : Node → Nodes → Nodes

-- a record with no children
abbrev pub leaf : (kind : ℕ) → (payload : List ℕ) → Node
leaf kind payload = node kind payload nil

-- a record whose payload is its children
abbrev pub above : (kind : ℕ) → Nodes → Node
above kind children = node kind [] children

-- numbers of so many bytes each, one after another
unfoldable pub in_row : (width : ℕ) → List ℕ → List ℕ
in_row width [] = []
in_row width (n ∷ ns) = bytes_of width n ++ in_row width ns

-- k and n, with which the payload of a threshold begins
abbrev pub k_and_n : (k n : ℕ) → List ℕ
k_and_n k n = in_row 2 (k ∷ n ∷ [])

abbrev pub lock_kind : LockKind → ℕ
lock_kind After = 36
lock_kind Older = 37

abbrev pub hash_kind : HashKind → ℕ
hash_kind Sha256 = 38
hash_kind Hash256 = 39
hash_kind Ripemd160 = 40
hash_kind Hash160 = 41

-- each fragment, in document 01's order of kinds
unfoldable mutual
  pub node_of : Fragment → Node
  node_of False = leaf 32 []
  node_of True = leaf 33 []
  node_of (PkK key) = leaf 84 (bytes_of 8 key)
  node_of (PkH key) = leaf 85 (bytes_of 8 key)
  node_of (Lock kind number) = leaf (lock_kind kind) (bytes_of 4 number)
  node_of (Hash kind h) = leaf (hash_kind kind) (bytes_of 4 h)
  node_of (Alt x) = above 42 (node_of x ▸ nil)
  node_of (Swap x) = above 43 (node_of x ▸ nil)
  node_of (Check x) = above 44 (node_of x ▸ nil)
  node_of (DupIf x) = above 45 (node_of x ▸ nil)
  node_of (Verify x) = above 46 (node_of x ▸ nil)
  node_of (NonZero x) = above 47 (node_of x ▸ nil)
  node_of (ZeroNotEqual x) = above 48 (node_of x ▸ nil)
  node_of (AndB x y) = above 49 (node_of x ▸ node_of y ▸ nil)
  node_of (AndV x y) = above 50 (node_of x ▸ node_of y ▸ nil)
  node_of (OrB x y) = above 51 (node_of x ▸ node_of y ▸ nil)
  node_of (OrD x y) = above 52 (node_of x ▸ node_of y ▸ nil)
  node_of (OrC x y) = above 53 (node_of x ▸ node_of y ▸ nil)
  node_of (OrI x y) = above 54 (node_of x ▸ node_of y ▸ nil)
  node_of (AndOr x y z) = above 55 (node_of x ▸ node_of y ▸ node_of z ▸ nil)
  node_of (Thresh k xs) = node 56 (k_and_n k (length (to_list xs))) (nodes_of xs)
  node_of (Multi k keys) = leaf 107 (k_and_n k (length keys) ++ in_row 8 keys)
  node_of (MultiA k keys) = leaf 108 (k_and_n k (length keys) ++ in_row 8 keys)

  pub nodes_of : Fragments → Nodes
  nodes_of end = nil
  nodes_of (x ▹ xs) = node_of x ▸ nodes_of xs

-- ---- the records, one after another

-- how many records there are
unfoldable mutual
  pub count : Node → ℕ
  count (node kind front children) = counts children + 1

  pub counts : Nodes → ℕ
  counts nil = 0
  counts (x ▸ xs) = count x + counts xs

-- the number of a node's own record, the last of its records, where n records stand before them
abbrev pub own : (n : ℕ) → Node → ℕ
own n (node kind front children) = n + counts children

unfoldable pub owns : (n : ℕ) → Nodes → List ℕ
owns n nil = []
owns n (x ▸ xs) = own n x ∷ owns (n + count x) xs

-- a record: its whole length, its kind, its payload
abbrev pub record_of : (kind : ℕ) → (payload : List ℕ) → List ℕ
record_of kind payload = bytes_of 2 (4 + length payload) ++ (bytes_of 2 kind ++ payload)

-- the records of a node and of those below it, where n records stand before them
unfoldable mutual
  pub written : (n : ℕ) → Node → List ℕ
  written n (node kind front children) = written_all n children ++ record_of kind (front ++ in_row 2 (owns n children))

  pub written_all : (n : ℕ) → Nodes → List ℕ
  written_all n nil = []
  written_all n (x ▸ xs) = written n x ++ written_all (n + count x) xs

-- how many records a tree has
abbrev pub size : Fragment → ℕ
size f = count (node_of f)

-- the bytes that write a tree
abbrev pub bytes_of_tree : Fragment → List ℕ
bytes_of_tree f = written 0 (node_of f)
