-- Reading what is written gives the tree back: specs/ReadBack.antt. Assumes nothing.
use mathlib.Core.Path.{◌≡◌, refl, sym, ap, ◌∙◌}
use mathlib.Core.Bool.{true, cond}
use mathlib.Core.List.{List, [], ◌∷◌, ◌++◌, append-nil}
use Rattle.std.specs.Prelude.{None, Some}
use Prim.Native.Nat.{ℕ, zero, suc, ◌+◌, ◌-◌, ◌^◌, ◌<◌, ◌≤◌}
use native.Mathlib.Omega.{arith}
use lib.ListN.{length, replicate, length-append}
use Rattle.words.specs.Bytes.{bytes_of}
use Rattle.words.proofs.Bytes.{length-bytes}
use Rattle.records.specs.Shapes.{look_up, is_long, meant, shape_of, is_fragment_kind}
use Rattle.records.specs.Payloads.{Payload, nothing, number, children, threshold, keys, children_payload, payload_of, children_of}
use Rattle.records.specs.RecordForm.{fragment_payload}
use Rattle.records.specs.declared.Shape.{Shape}
use Rattle.records.specs.declared.Shape.TheVariants as Shape
use Rattle.records.proofs.Laws.{of-fragment}
use Rattle.contexts.specs.Leaves.{LockKind, After, Older, HashKind, Sha256, Hash256, Ripemd160, Hash160}
use Rattle.trees.specs.Fragment.{Fragment, Fragments, end, ◌▹◌, to_list, False, True, PkK, PkH, Lock, Hash}
use Rattle.trees.specs.Fragment.{Alt, Swap, Check, DupIf, Verify, NonZero, ZeroNotEqual}
use Rattle.trees.specs.Fragment.{AndB, AndV, OrB, OrD, OrC, OrI, AndOr, Thresh, Multi, MultiA}
use Rattle.trees.specs.Reading.{done, root_of, read_from, read_tree}
use Rattle.trees.specs.Tree.{find, fragments, make_fragment, tree_of}
use Rattle.writing.specs.Writing.{Node, node, Nodes, nil, ◌▸◌, leaf, above, in_row, k_and_n, lock_kind, hash_kind, node_of, nodes_of}
use Rattle.writing.specs.Writing.{counts, record_of, size, bytes_of_tree}
use Rattle.writing.specs.WellFormed.{AllBelow, IsLock, IsThreshold, WellFormed, AllWellFormed}
use Rattle.writing.specs.ReadBack.{ReadBack}
use Rattle.writing.proofs.Rows.{length-row}
use Rattle.writing.proofs.OneRecord.{Wide, record-kind, number-back, lock-back, children-back, threshold-back, keys-back}
use Rattle.writing.proofs.Slots.{trace, Each, no_more, and_then}
use Rattle.writing.proofs.NodeReading.{Says, Reads, reads-node}

-- ---- what a record of each shape says

-- the number of a fragment's kind, with the shape of its payload
abbrev Known : ℕ → Shape → Type 0
Known kind shape = (is_fragment_kind (meant kind) ≡ true) × (shape_of (meant kind) ≡ Some shape) × (kind < 65536)

payload-as : (kind : ℕ) (payload : List ℕ) {shape : Shape} → Known kind shape
    → fragment_payload (record_of kind payload) ≡ payload_of shape (record_of kind payload)
payload-as kind payload {shape} known =
    let same = record-kind kind payload known.2 in
    of-fragment (record_of kind payload) (rw same known.0) (rw same known.1)

-- what the record of such a kind is made into
abbrev Makes : (kind : ℕ) → Payload → List Fragment → Fragment → Type 0
Makes kind payload xs x = make_fragment (meant kind) payload xs ≡ done x

abbrev Read : Node → Fragment → Type 0
Read = Reads make_fragment

module _ (kind : ℕ) {shape : Shape} (known : Known kind shape) where
  leaf-says : (bytes : List ℕ) (payload : Payload) {x : Fragment} → length bytes < 65532
      → payload_of shape (record_of kind bytes) ≡ Some payload → children_of payload ≡ [] → Makes kind payload [] x
      → Says make_fragment kind bytes [] x
  unfolding in_row
  leaf-says bytes payload {x} few e none-there made = record { is-u16 = known.2; few = omega arith; says = says }
    where
      says : (cs : List ℕ) → length cs ≡ 0 → AllBelow 65536 cs
          → (payload : Payload) × (fragment_payload (record_of kind (bytes ++ in_row 2 cs)) ≡ Some payload) × (children_of payload ≡ cs)
          × Makes kind payload [] x
      says [] l below = (payload, rw append-nil (payload-as kind bytes known ∙ e), none-there, made)
      says (c ∷ cs) l below = absurd (omega arith)

  -- a leaf is read
  leaf-read : (bytes : List ℕ) (payload : Payload) {x : Fragment} → length bytes < 65532
      → payload_of shape (record_of kind bytes) ≡ Some payload → children_of payload ≡ [] → Makes kind payload [] x → Read (leaf kind bytes) x
  leaf-read bytes payload few e none-there made = reads-node make_fragment kind bytes no_more (leaf-says bytes payload few e none-there made)

  -- a record over children that are read is read
  above-read : {ts : Nodes} {xs : List Fragment} {x : Fragment} → Each Read ts xs → length xs ≤ 3
      → ((s : List ℕ) → payload_of shape s ≡ children_payload (length xs) s) → ((cs : List ℕ) → Makes kind (children cs) xs x)
      → Read (above kind ts) x
  above-read {ts} {xs} {x} rs few shaped made =
      reads-node make_fragment kind [] rs (record { is-u16 = known.2; few = omega arith; says = says })
    where
      says : (cs : List ℕ) → length cs ≡ length xs → AllBelow 65536 cs
          → (payload : Payload) × (fragment_payload (record_of kind (in_row 2 cs)) ≡ Some payload) × (children_of payload ≡ cs)
          × Makes kind payload xs x
      says cs l below =
          let s = record_of kind (in_row 2 cs) in
          (children cs, payload-as kind (in_row 2 cs) known ∙ shaped s ∙ rw (← l) (children-back kind cs below), refl, made cs)

plain_back : (kind : ℕ) → payload_of Shape.Nothing (record_of kind []) ≡ Some nothing
unfolding payload_of bytes_of
plain_back kind = refl

number_read : (kind w : ℕ) → w ≤ 8 → Wide kind w → Known kind Shape.Number → (n : ℕ) {x : Fragment} → Makes kind (number n) [] x
    → n < 256 ^ w → Read (leaf kind (bytes_of w n)) x
number_read kind w few wide known n made fits =
    leaf-read kind known (bytes_of w n) (number n) (omega (arith, length-bytes w n)) (number-back kind w wide n fits) refl made

lock-read : (kind : ℕ) → Wide kind 4 → Known kind Shape.Lock → (n : ℕ) {x : Fragment} → Makes kind (number n) [] x
    → IsLock n → Read (leaf kind (bytes_of 4 n)) x
lock-read kind wide known n made fits =
    leaf-read kind known (bytes_of 4 n) (number n) (omega (arith, length-bytes 4 n)) (lock-back kind wide n fits) refl made

keys-read : (kind : ℕ) → Wide kind 8 → Known kind Shape.Keys → (k : ℕ) (ks : List ℕ) {x : Fragment} → Makes kind (keys k ks) [] x
    → IsThreshold k (length ks) × AllBelow (2 ^ 64) ks → Read (leaf kind (k_and_n k (length ks) ++ in_row 8 ks)) x
keys-read kind wide known k ks made fits =
    let front = k_and_n k (length ks) in
    let few : length (front ++ in_row 8 ks) < 65532 =
    omega (arith, length-append front (in_row 8 ks), length-row 2 (k ∷ length ks ∷ []), length-row 8 ks) in
    leaf-read kind known (front ++ in_row 8 ks) (keys k ks) few (keys-back kind 8 wide k ks fits.0 fits.1) refl made

one-read : (kind : ℕ) → Known kind Shape.OneChild → {x f : Fragment} → ((cs : List ℕ) → Makes kind (children cs) (x ∷ []) f)
    → {t : Node} → Read t x → Read (above kind (t ▸ nil)) f
unfolding payload_of
one-read kind known made r = above-read kind known (and_then r no_more) (omega arith) (λ s. refl) made

two-read : (kind : ℕ) → Known kind Shape.TwoChildren → {x y f : Fragment} → ((cs : List ℕ) → Makes kind (children cs) (x ∷ y ∷ []) f)
    → {t u : Node} → Read t x → Read u y → Read (above kind (t ▸ u ▸ nil)) f
unfolding payload_of
two-read kind known made r₁ r₂ = above-read kind known (and_then r₁ (and_then r₂ no_more)) (omega arith) (λ s. refl) made

three-read : (kind : ℕ) → Known kind Shape.ThreeChildren → {x y z f : Fragment}
    → ((cs : List ℕ) → Makes kind (children cs) (x ∷ y ∷ z ∷ []) f)
    → {t u v : Node} → Read t x → Read u y → Read v z → Read (above kind (t ▸ u ▸ v ▸ nil)) f
unfolding payload_of
three-read kind known made r₁ r₂ r₃ =
    above-read kind known (and_then r₁ (and_then r₂ (and_then r₃ no_more))) (omega arith) (λ s. refl) made

fragments-back : (xs : Fragments) → fragments (to_list xs) ≡ xs
unfolding fragments to_list
fragments-back end = refl
fragments-back (x ▹ xs) = rw (fragments-back xs)

thresh-read : (k : ℕ) (xs : Fragments) {ts : Nodes} → IsThreshold k (length (to_list xs)) → Each Read ts (to_list xs)
    → Read (node 56 (k_and_n k (length (to_list xs))) ts) (Thresh k xs)
unfolding shape_of look_up find
thresh-read k xs {ts} fits rs =
    reads-node make_fragment 56 front rs
    (record { is-u16 = omega arith; few = omega (arith, length-row 2 (k ∷ length (to_list xs) ∷ [])); says = says })
  where
    front : List ℕ
    front = k_and_n k (length (to_list xs))

    says : (cs : List ℕ) → length cs ≡ length (to_list xs) → AllBelow 65536 cs
        → (payload : Payload) × (fragment_payload (record_of 56 (front ++ in_row 2 cs)) ≡ Some payload) × (children_of payload ≡ cs)
        × Makes 56 payload (to_list xs) (Thresh k xs)
    says cs l below = (
      threshold k cs,
      payload-as 56 (front ++ in_row 2 cs) {shape = Shape.Threshold} (refl, refl, omega arith)
          ∙ rw (← l) (threshold-back 56 k cs (rw l fits) below),
      refl,
      rw (fragments-back xs),
    )

-- ---- every tree that is well formed

lock-kind : (kind : LockKind) → Known (lock_kind kind) Shape.Lock
unfolding shape_of look_up
lock-kind After = (refl, refl, omega arith)
lock-kind Older = (refl, refl, omega arith)

short-lock : (kind : LockKind) → Wide (lock_kind kind) 4
short-lock After = record { is-u16 = omega arith; is = refl }
short-lock Older = record { is-u16 = omega arith; is = refl }

lock-made : (kind : LockKind) (n : ℕ) → Makes (lock_kind kind) (number n) [] (Lock kind n)
unfolding find
lock-made After n = refl
lock-made Older n = refl

hash-kind : (kind : HashKind) → Known (hash_kind kind) Shape.Number
unfolding shape_of look_up
hash-kind Sha256 = (refl, refl, omega arith)
hash-kind Hash256 = (refl, refl, omega arith)
hash-kind Ripemd160 = (refl, refl, omega arith)
hash-kind Hash160 = (refl, refl, omega arith)

short-hash : (kind : HashKind) → Wide (hash_kind kind) 4
short-hash Sha256 = record { is-u16 = omega arith; is = refl }
short-hash Hash256 = record { is-u16 = omega arith; is = refl }
short-hash Ripemd160 = record { is-u16 = omega arith; is = refl }
short-hash Hash160 = record { is-u16 = omega arith; is = refl }

-- the kinds of keys of 64 bits
long : (kind : ℕ) → kind < 65536 → ◌≡◌ {A = ℕ} (cond (is_long kind) 8 4) 8 → Wide kind 8
long kind fits is = record { is-u16 = fits; is = is }

hash-made : (kind : HashKind) (h : ℕ) → Makes (hash_kind kind) (number h) [] (Hash kind h)
unfolding find
hash-made Sha256 h = refl
hash-made Hash256 h = refl
hash-made Ripemd160 h = refl
hash-made Hash160 h = refl

mutual
  unfolding node_of WellFormed to_list shape_of look_up find payload_of

  pub tree-read : (f : Fragment) → WellFormed f → Read (node_of f) f
  tree-read False w = leaf-read 32 (refl, refl, omega arith) [] nothing (omega arith) (plain_back 32) refl refl
  tree-read True w = leaf-read 33 (refl, refl, omega arith) [] nothing (omega arith) (plain_back 33) refl refl
  tree-read (PkK key) w = number_read 84 8 (omega arith) (long 84 (omega arith) refl) (refl, refl, omega arith) key refl w
  tree-read (PkH key) w = number_read 85 8 (omega arith) (long 85 (omega arith) refl) (refl, refl, omega arith) key refl w
  tree-read (Lock kind n) w = lock-read (lock_kind kind) (short-lock kind) (lock-kind kind) n (lock-made kind n) w
  tree-read (Hash kind h) w = number_read (hash_kind kind) 4 (omega arith) (short-hash kind) (hash-kind kind) h (hash-made kind h) w
  tree-read (Alt x) w = one-read 42 (refl, refl, omega arith) (λ cs. refl) (tree-read x w)
  tree-read (Swap x) w = one-read 43 (refl, refl, omega arith) (λ cs. refl) (tree-read x w)
  tree-read (Check x) w = one-read 44 (refl, refl, omega arith) (λ cs. refl) (tree-read x w)
  tree-read (DupIf x) w = one-read 45 (refl, refl, omega arith) (λ cs. refl) (tree-read x w)
  tree-read (Verify x) w = one-read 46 (refl, refl, omega arith) (λ cs. refl) (tree-read x w)
  tree-read (NonZero x) w = one-read 47 (refl, refl, omega arith) (λ cs. refl) (tree-read x w)
  tree-read (ZeroNotEqual x) w = one-read 48 (refl, refl, omega arith) (λ cs. refl) (tree-read x w)
  tree-read (AndB x y) w = two-read 49 (refl, refl, omega arith) (λ cs. refl) (tree-read x w.0) (tree-read y w.1)
  tree-read (AndV x y) w = two-read 50 (refl, refl, omega arith) (λ cs. refl) (tree-read x w.0) (tree-read y w.1)
  tree-read (OrB x y) w = two-read 51 (refl, refl, omega arith) (λ cs. refl) (tree-read x w.0) (tree-read y w.1)
  tree-read (OrD x y) w = two-read 52 (refl, refl, omega arith) (λ cs. refl) (tree-read x w.0) (tree-read y w.1)
  tree-read (OrC x y) w = two-read 53 (refl, refl, omega arith) (λ cs. refl) (tree-read x w.0) (tree-read y w.1)
  tree-read (OrI x y) w = two-read 54 (refl, refl, omega arith) (λ cs. refl) (tree-read x w.0) (tree-read y w.1)
  tree-read (AndOr x y z) w = three-read 55 (refl, refl, omega arith) (λ cs. refl) (tree-read x w.0) (tree-read y w.1) (tree-read z w.2)
  tree-read (Thresh k xs) w = thresh-read k xs w.0 (trees-read xs w.1)
  tree-read (Multi k ks) w = keys-read 107 (long 107 (omega arith) refl) (refl, refl, omega arith) k ks refl w
  tree-read (MultiA k ks) w = keys-read 108 (long 108 (omega arith) refl) (refl, refl, omega arith) k ks refl w

  pub trees-read : (xs : Fragments) → AllWellFormed xs → Each Read (nodes_of xs) (to_list xs)
  trees-read end w = no_more
  trees-read (x ▹ xs) w = and_then (tree-read x w.0) (trees-read xs w.1)

-- ---- the root

root-trace : (n : ℕ) (x : Fragment) → root_of (replicate n None ++ (Some x ∷ [])) ≡ Some x
unfolding root_of
root-trace zero x = refl
root-trace (suc zero) x = refl
root-trace (suc (suc n)) x = root-trace (suc n) x

root-read : (left : ℕ) (t : Node) (x : Fragment) → read_from make_fragment left (trace t x) [] ≡ done x
unfolding read_from
root-read zero (node kind front ts) x = rw (root-trace (counts ts) x)
root-read (suc left) (node kind front ts) x = rw (root-trace (counts ts) x)

pub read_back : ReadBack
unfolding tree_of read_tree
read_back f w few =
    let left = 4096 - size f in
    let fuel : 4096 ≡ size f + left = omega arith in
    ap (λ (k : ℕ). read_from make_fragment k [] (bytes_of_tree f)) fuel
    ∙ ap (λ (s : List ℕ). read_from make_fragment (size f + left) [] s) (sym (append-nil (bytes_of_tree f)))
    ∙ (tree-read f w).reads 0 left [] [] refl (omega arith)
    ∙ root-read left (node_of f) f
