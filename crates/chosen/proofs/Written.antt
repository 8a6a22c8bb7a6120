-- What is written for a well-formed tree of at most 4,096 records is in order: each record's children are the last ones that none has taken.
-- Assumes nothing.
use mathlib.Core.Bool.{Bool, true, false, cond}
use mathlib.Core.List.{List, [], ◌∷◌, ◌++◌, append_assoc, append-nil}
use Rattle.std.specs.Prelude.{Option, None, Some}
use mathlib.Core.Path.{◌≡◌, refl, sym, ap, subst, ◌∙◌}
use Prim.Native.Nat.{ℕ, zero, suc, ◌+◌, ◌*◌, ◌-◌, ◌^◌, ◌<◌, ◌≤◌}
use native.Mathlib.Omega.{arith}
use native.Mathlib.Numerals.{add-one}
use lib.Dec.{eqb}
use lib.ListN.{length, take, drop, length-append}
use lib.Seq.{take_at, drop_at}
use Rattle.words.specs.Bytes.{bytes_of}
use Rattle.words.proofs.Bytes.{length-bytes}
use Rattle.contexts.specs.Leaves.{LockKind, After, Older, HashKind, Sha256, Hash256, Ripemd160, Hash160}
use Rattle.records.specs.Numbers.{or_zero}
use Rattle.records.specs.Shapes.{look_up, is_long, meant, shape_of, is_fragment_kind}
use Rattle.records.specs.Payloads.{Payload, nothing, number, children, threshold, keys, written_kind, children_payload, payload_of, children_of}
use Rattle.records.specs.RecordForm.{fragment_payload}
use Rattle.records.specs.declared.Shape.{Shape}
use Rattle.records.specs.declared.Shape.TheVariants as Shape
use Rattle.records.proofs.Laws.{of-fragment}
use Rattle.trees.specs.Fragment.{Fragment, Fragments, end, ◌▹◌, to_list, False, True, PkK, PkH, Lock, Hash}
use Rattle.trees.specs.Fragment.{Alt, Swap, Check, DupIf, Verify, NonZero, ZeroNotEqual}
use Rattle.trees.specs.Fragment.{AndB, AndV, OrB, OrD, OrC, OrI, AndOr, Thresh, Multi, MultiA}
use Rattle.trees.specs.Reading.{max_records}
use Rattle.writing.specs.Writing.{Node, node, Nodes, nil, ◌▸◌, leaf, above, in_row, k_and_n, lock_kind, hash_kind, node_of, nodes_of, count, counts, own, owns}
use Rattle.writing.specs.Writing.{record_of, written, written_all, size, bytes_of_tree}
use Rattle.writing.specs.WellFormed.{AllBelow, IsLock, IsThreshold, WellFormed, AllWellFormed}
use Rattle.writing.proofs.Rows.{number-at, length-row}
use Rattle.writing.proofs.OneRecord.{Wide, length-record, record-whole, record-kind, number-back, lock-back, children-back, threshold-back, keys-back}
use Rattle.writing.proofs.Slots.{owns-below}
use Rattle.chosen.specs.Chosen.{is_short, taking, with_record, in_order, is_written}
use Rattle.chosen.proofs.Steps.{order-end, order-goes-on, with-fit, taking-last}

-- ---- what the record of a node tells, whatever the numbers of its n children

pub record Tells (kind : ℕ) (front : List ℕ) (n : ℕ) : Type 0 where
  pub few : length front + 2 * n < 65532
  pub tells : (cs : List ℕ) → length cs ≡ n → AllBelow 65536 cs → (roots : List ℕ) (own : ℕ)
      → with_record roots own (record_of kind (front ++ in_row 2 cs)) ≡ taking roots own cs

-- the number of a fragment's kind that is written, with the shape of its payload
abbrev Known : ℕ → Shape → Type 0
Known kind shape = (is_fragment_kind (meant kind) ≡ true) × (shape_of (meant kind) ≡ Some shape) × (kind < 65536) × (is_short kind ≡ false)

module _ (kind : ℕ) {shape : Shape} (known : Known kind shape) where
  kind-written : (payload : List ℕ) → written_kind (record_of kind payload) ≡ kind
  kind-written payload =
      ap or_zero (number-at 2 kind (bytes_of 2 (4 + length payload)) payload 2 (length-bytes 2 (4 + length payload)) known.2)

  payload-as : (payload : List ℕ) → fragment_payload (record_of kind payload) ≡ payload_of shape (record_of kind payload)
  payload-as payload =
      let same = record-kind kind payload known.2 in
      of-fragment (record_of kind payload) (rw same known.0) (rw same known.1)

  record-taken : (payload cs : List ℕ) (p : Payload) → payload_of shape (record_of kind payload) ≡ Some p → children_of p ≡ cs
      → (roots : List ℕ) (own : ℕ) → with_record roots own (record_of kind payload) ≡ taking roots own cs
  record-taken payload cs p e c roots own =
      with-fit roots own (record_of kind payload) (ap is_short (kind-written payload) ∙ known.3) (payload-as payload ∙ e)
      ∙ ap (taking roots own) c

  leaf-tells : (bytes : List ℕ) (p : Payload) → length bytes < 65532 → payload_of shape (record_of kind bytes) ≡ Some p → children_of p ≡ []
      → Tells kind bytes 0
  unfolding in_row
  leaf-tells bytes p few e c = record { few = omega arith; tells = tells }
    where
      tells : (cs : List ℕ) → length cs ≡ 0 → AllBelow 65536 cs → (roots : List ℕ) (own : ℕ)
          → with_record roots own (record_of kind (bytes ++ in_row 2 cs)) ≡ taking roots own cs
      tells [] l below roots own = rw append-nil (record-taken bytes [] p e c roots own)
      tells (x ∷ cs) l below roots own = absurd (omega arith)

  above-tells : (n : ℕ) → n ≤ 3 → ((s : List ℕ) → payload_of shape s ≡ children_payload n s) → Tells kind [] n
  above-tells n few shaped = record { few = omega arith; tells = tells }
    where
      tells : (cs : List ℕ) → length cs ≡ n → AllBelow 65536 cs → (roots : List ℕ) (own : ℕ)
          → with_record roots own (record_of kind (in_row 2 cs)) ≡ taking roots own cs
      tells cs l below roots own =
          record-taken (in_row 2 cs) cs (children cs) (shaped (record_of kind (in_row 2 cs)) ∙ rw (← l) (children-back kind cs below)) refl roots own

plain-tells : (kind : ℕ) → Known kind Shape.Nothing → Tells kind [] 0
unfolding payload_of bytes_of
plain-tells kind known = leaf-tells kind known [] nothing (omega arith) none-there refl
  where
    none-there : payload_of Shape.Nothing (record_of kind []) ≡ Some nothing
    none-there = refl

number-tells : (kind w : ℕ) → w ≤ 8 → Wide kind w → Known kind Shape.Number → (n : ℕ) → n < 256 ^ w → Tells kind (bytes_of w n) 0
number-tells kind w few wide known n fits =
    leaf-tells kind known (bytes_of w n) (number n) (omega (arith, length-bytes w n)) (number-back kind w wide n fits) refl

lock-tells : (kind : ℕ) → Wide kind 4 → Known kind Shape.Lock → (n : ℕ) → IsLock n → Tells kind (bytes_of 4 n) 0
lock-tells kind wide known n fits =
    leaf-tells kind known (bytes_of 4 n) (number n) (omega (arith, length-bytes 4 n)) (lock-back kind wide n fits) refl

keys-tells : (kind : ℕ) → Wide kind 8 → Known kind Shape.Keys → (k : ℕ) (ks : List ℕ) → IsThreshold k (length ks) × AllBelow (2 ^ 64) ks
    → Tells kind (k_and_n k (length ks) ++ in_row 8 ks) 0
keys-tells kind wide known k ks fits =
    let front = k_and_n k (length ks) in
    let few : length (front ++ in_row 8 ks) < 65532 =
    omega (arith, length-append front (in_row 8 ks), length-row 2 (k ∷ length ks ∷ []), length-row 8 ks) in
    leaf-tells kind known (front ++ in_row 8 ks) (keys k ks) few (keys-back kind 8 wide k ks fits.0 fits.1) refl

thresh-tells : (k n : ℕ) → IsThreshold k n → Tells 56 (k_and_n k n) n
unfolding shape_of look_up
thresh-tells k n fits = record { few = omega (arith, length-row 2 (k ∷ n ∷ [])); tells = tells }
  where
    known : Known 56 Shape.Threshold
    known = (refl, refl, omega arith, refl)

    tells : (cs : List ℕ) → length cs ≡ n → AllBelow 65536 cs → (roots : List ℕ) (own : ℕ)
        → with_record roots own (record_of 56 (k_and_n k n ++ in_row 2 cs)) ≡ taking roots own cs
    tells cs l below roots own =
        record-taken 56 known (k_and_n k n ++ in_row 2 cs) cs (threshold k cs) (rw (← l) (threshold-back 56 k cs (rw l fits) below)) refl roots own

-- ---- every record of a tree

unfoldable pub arities : Nodes → ℕ
arities nil = 0
arities (x ▸ xs) = suc (arities xs)

unfoldable mutual
  pub Told : Node → Type 0
  Told (node kind front xs) = Tells kind front (arities xs) × AllTold xs

  pub AllTold : Nodes → Type 0
  AllTold nil = Unit
  AllTold (x ▸ xs) = Told x × AllTold xs

lock-known : (kind : LockKind) → Known (lock_kind kind) Shape.Lock
unfolding shape_of look_up
lock-known After = (refl, refl, omega arith, refl)
lock-known Older = (refl, refl, omega arith, refl)

lock-wide : (kind : LockKind) → Wide (lock_kind kind) 4
lock-wide After = record { is-u16 = omega arith; is = refl }
lock-wide Older = record { is-u16 = omega arith; is = refl }

hash-known : (kind : HashKind) → Known (hash_kind kind) Shape.Number
unfolding shape_of look_up
hash-known Sha256 = (refl, refl, omega arith, refl)
hash-known Hash256 = (refl, refl, omega arith, refl)
hash-known Ripemd160 = (refl, refl, omega arith, refl)
hash-known Hash160 = (refl, refl, omega arith, refl)

hash-wide : (kind : HashKind) → Wide (hash_kind kind) 4
hash-wide Sha256 = record { is-u16 = omega arith; is = refl }
hash-wide Hash256 = record { is-u16 = omega arith; is = refl }
hash-wide Ripemd160 = record { is-u16 = omega arith; is = refl }
hash-wide Hash160 = record { is-u16 = omega arith; is = refl }

key-wide : (kind : ℕ) → kind < 65536 → ◌≡◌ {A = ℕ} (cond (is_long kind) 8 4) 8 → Wide kind 8
key-wide kind fits is = record { is-u16 = fits; is = is }

one : (kind : ℕ) → Known kind Shape.OneChild → Tells kind [] 1
unfolding payload_of
one kind known = above-tells kind known 1 (omega arith) (λ s. refl)

two : (kind : ℕ) → Known kind Shape.TwoChildren → Tells kind [] 2
unfolding payload_of
two kind known = above-tells kind known 2 (omega arith) (λ s. refl)

three : (kind : ℕ) → Known kind Shape.ThreeChildren → Tells kind [] 3
unfolding payload_of
three kind known = above-tells kind known 3 (omega arith) (λ s. refl)

pub arities-are : (xs : Fragments) → arities (nodes_of xs) ≡ length (to_list xs)
unfolding arities node_of to_list
arities-are end = refl
arities-are (x ▹ xs) = ap suc (arities-are xs)

mutual
  unfolding node_of WellFormed Told arities shape_of look_up

  pub tree-told : (f : Fragment) → WellFormed f → Told (node_of f)
  tree-told False w = (plain-tells 32 (refl, refl, omega arith, refl), tt)
  tree-told True w = (plain-tells 33 (refl, refl, omega arith, refl), tt)
  tree-told (PkK key) w = (number-tells 84 8 (omega arith) (key-wide 84 (omega arith) refl) (refl, refl, omega arith, refl) key w, tt)
  tree-told (PkH key) w = (number-tells 85 8 (omega arith) (key-wide 85 (omega arith) refl) (refl, refl, omega arith, refl) key w, tt)
  tree-told (Lock kind n) w = (lock-tells (lock_kind kind) (lock-wide kind) (lock-known kind) n w, tt)
  tree-told (Hash kind h) w = (number-tells (hash_kind kind) 4 (omega arith) (hash-wide kind) (hash-known kind) h w, tt)
  tree-told (Alt x) w = (one 42 (refl, refl, omega arith, refl), (tree-told x w, tt))
  tree-told (Swap x) w = (one 43 (refl, refl, omega arith, refl), (tree-told x w, tt))
  tree-told (Check x) w = (one 44 (refl, refl, omega arith, refl), (tree-told x w, tt))
  tree-told (DupIf x) w = (one 45 (refl, refl, omega arith, refl), (tree-told x w, tt))
  tree-told (Verify x) w = (one 46 (refl, refl, omega arith, refl), (tree-told x w, tt))
  tree-told (NonZero x) w = (one 47 (refl, refl, omega arith, refl), (tree-told x w, tt))
  tree-told (ZeroNotEqual x) w = (one 48 (refl, refl, omega arith, refl), (tree-told x w, tt))
  tree-told (AndB x y) w = (two 49 (refl, refl, omega arith, refl), (tree-told x w.0, (tree-told y w.1, tt)))
  tree-told (AndV x y) w = (two 50 (refl, refl, omega arith, refl), (tree-told x w.0, (tree-told y w.1, tt)))
  tree-told (OrB x y) w = (two 51 (refl, refl, omega arith, refl), (tree-told x w.0, (tree-told y w.1, tt)))
  tree-told (OrD x y) w = (two 52 (refl, refl, omega arith, refl), (tree-told x w.0, (tree-told y w.1, tt)))
  tree-told (OrC x y) w = (two 53 (refl, refl, omega arith, refl), (tree-told x w.0, (tree-told y w.1, tt)))
  tree-told (OrI x y) w = (two 54 (refl, refl, omega arith, refl), (tree-told x w.0, (tree-told y w.1, tt)))
  tree-told (AndOr x y z) w = (three 55 (refl, refl, omega arith, refl), (tree-told x w.0, (tree-told y w.1, (tree-told z w.2, tt))))
  tree-told (Thresh k xs) w =
      (subst (λ (n : ℕ). Tells 56 (k_and_n k (length (to_list xs))) n) (sym (arities-are xs)) (thresh-tells k (length (to_list xs)) w.0), trees-told xs w.1)
  tree-told (Multi k ks) w = (keys-tells 107 (key-wide 107 (omega arith) refl) (refl, refl, omega arith, refl) k ks w, tt)
  tree-told (MultiA k ks) w = (keys-tells 108 (key-wide 108 (omega arith) refl) (refl, refl, omega arith, refl) k ks w, tt)

  pub trees-told : (xs : Fragments) → AllWellFormed xs → AllTold (nodes_of xs)
  trees-told end w = tt
  trees-told (x ▹ xs) w = (tree-told x w.0, trees-told xs w.1)

-- ---- the records of a node, wherever they stand

pub owns-long : (xs : Nodes) (n : ℕ) → length (owns n xs) ≡ arities xs
unfolding owns arities
owns-long nil n = refl
owns-long (x ▸ xs) n = ap suc (owns-long xs (n + count x))

mutual
  unfolding Told written count owns

  node-in-order : (t : Node) → Told t → (n more : ℕ) (roots rest : List ℕ) → n + count t ≤ 65536
      → in_order (count t + more) n roots (written n t ++ rest) ≡ in_order more (n + count t) (roots ++ (own n t ∷ [])) rest
  node-in-order (node kind front xs) told n more roots rest fits =
      let cs = owns n xs in
      let payload = front ++ in_row 2 cs in
      let s = record_of kind payload in
      let few : length payload < 65532 =
      omega (arith, length-append front (in_row 2 cs), length-row 2 cs, owns-long xs n, told.0.few) in
      let fuel : counts xs + 1 + more ≡ counts xs + suc more = omega arith in
      let len = 4 + length payload in
      let whole = record-whole kind payload rest few in
      let front-is : take len (s ++ rest) ≡ s = take_at s rest len (length-record kind payload) in
      let rest-is : drop len (s ++ rest) ≡ rest = drop_at s rest len (length-record kind payload) in
      let takes : with_record (roots ++ cs) (n + counts xs) (take len (s ++ rest)) ≡ Some (roots ++ ((n + counts xs) ∷ [])) =
      ap (with_record (roots ++ cs) (n + counts xs)) front-is
      ∙ told.0.tells cs (owns-long xs n) (owns-below xs n (omega arith)) (roots ++ cs) (n + counts xs)
      ∙ taking-last roots cs (n + counts xs) in
      let some_left : 0 < length (s ++ rest) = omega (arith, length-append s rest, length-record kind payload) in
      let after : n + counts xs + 1 ≡ n + (counts xs + 1) = omega arith in
      rw (fuel, append_assoc (written_all n xs) s rest)
      (nodes-in-order xs told.1 n (suc more) roots (s ++ rest) (omega arith)
      ∙ order-goes-on more (n + counts xs) (roots ++ cs) (s ++ rest) (roots ++ ((n + counts xs) ∷ [])) some_left whole takes
      ∙ rw (rest-is, after))

  nodes-in-order : (xs : Nodes) → AllTold xs → (n more : ℕ) (roots rest : List ℕ) → n + counts xs ≤ 65536
      → in_order (counts xs + more) n roots (written_all n xs ++ rest) ≡ in_order more (n + counts xs) (roots ++ owns n xs) rest
  nodes-in-order nil told n more roots rest fits =
      let z : 0 + more ≡ more = omega arith in
      let y : n + 0 ≡ n = omega arith in
      rw (z, y, append-nil roots)
  nodes-in-order (x ▸ xs) told n more roots rest fits =
      let fuel : count x + counts xs + more ≡ count x + (counts xs + more) = omega arith in
      let after : n + count x + counts xs ≡ n + (count x + counts xs) = omega arith in
      rw (fuel, append_assoc (written n x) (written_all (n + count x) xs) rest)
      (node-in-order x told.0 n (counts xs + more) roots (written_all (n + count x) xs ++ rest) (omega arith)
      ∙ nodes-in-order xs told.1 (n + count x) more (roots ++ (own n x ∷ [])) rest (omega arith)
      ∙ rw (after, append_assoc roots (own n x ∷ []) (owns (n + count x) xs)))

-- ---- the whole tree

pub written-in-order : (f : Fragment) → WellFormed f → size f ≤ max_records → is_written (bytes_of_tree f) ≡ true
unfolding is_written
written-in-order f w few =
    let t = node_of f in
    let more = 4096 - count t in
    let fuel : 4096 ≡ count t + more = omega arith in
    ap (λ (k : ℕ). in_order k 0 [] (written 0 t)) fuel
    ∙ ap (λ (s : List ℕ). in_order (count t + more) 0 [] s) (sym (append-nil (written 0 t)))
    ∙ node-in-order t (tree-told f w) 0 more [] [] (omega arith)
    ∙ order-end more (0 + count t) (own 0 t ∷ []) [] refl
