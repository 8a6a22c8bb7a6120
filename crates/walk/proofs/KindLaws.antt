-- The fragment of a record by its kind, from the parts that its reader told: one lemma for each of document 01's 27 kinds. Assumes nothing.
use Prim.Native.Nat.{ℕ, suc, ◌+◌, ◌≤◌, ◌<◌}
use mathlib.Core.Bool.{Bool, true, false}
use mathlib.Core.List.{List, [], ◌∷◌, map}
use Rattle.std.specs.Prelude.{Option, Some}
use mathlib.Core.Path.{◌≡◌, refl, sym, ap, subst, ◌∙◌}
use native.Mathlib.Omega.{arith}
use borrow.Author.Tests.{leb-true, leb-false}
use lib.Dec.{leb}
use lib.ListN.{length, get_or, take, length-take, drop_of_length-le}
use lib.Seq.{drop-cons, get_or-take, length-take-le}
use Rattle.records.specs.declared.Shape.{Shape}
use Rattle.records.specs.Numbers.{u16, u16s, max_count}
use Rattle.records.specs.Shapes.{rows}
use Rattle.records.specs.Payloads.{Payload, nothing, number, children, threshold, keys, payload_of, number_of, k_of, count_of, children_of}
use Rattle.records.specs.Payloads.{number_in, k_in, count_in, first_keys, keys_in}
use Rattle.records.specs.RecordForm.{kind_of, fragment_payload}
use Rattle.records.specs.declared.Parts.{Parts}
use Rattle.records.specs.Answers.{padded}
use Rattle.records.proofs.KindRanges.{look_up_range, shapes-in}
use Rattle.records.proofs.Laws.{of-fragment, fragment-record, is-nothing, is_number, is-lock, is-one-child, is-two-children}
use Rattle.records.proofs.Laws.{is-three-children, is-threshold, is-keys, length-keys, padded-at}
use Rattle.records.proofs.Laws as Laws
use Rattle.records.proofs.Arities.{counts, padded-front}
use Rattle.contexts.specs.Leaves.{After, Older, Sha256, Hash256, Ripemd160, Hash160}
use Rattle.trees.specs.Fragment.{Fragment, end, ◌▹◌, False, True, PkK, PkH, Lock, Hash}
use Rattle.trees.specs.Fragment.{Alt, Swap, Check, DupIf, Verify, NonZero, ZeroNotEqual}
use Rattle.trees.specs.Fragment.{AndB, AndV, OrB, OrD, OrC, OrI, AndOr, Thresh, Multi, MultiA}
use Rattle.trees.specs.Tree.{find, Maker, makers, made_by, fragment_of, plain, with_number, one, two, three, fragments, of_children, of_keys}
use Rattle.walk.specs.TreeRecords.{fragment_at, children_from, Told}

-- what the maker of a kind makes of a payload that is known
made_as : (tree : List ℕ) (i kind : ℕ) (p q : Payload) (m : Maker) {f : Fragment}
    → fragment_of kind p (map (fragment_at tree) (children_of p)) ≡ Some (fragment_at tree i)
    → find kind makers ≡ Some m → p ≡ q → m q (map (fragment_at tree) (children_of q)) ≡ Some f → fragment_at tree i ≡ f
made_as tree i kind p q m {f} made k e g =
    let of-q = subst (λ (q : Payload). fragment_of kind q (map (fragment_at tree) (children_of q)) ≡ Some (fragment_at tree i)) e made in
    let by-m = subst (λ (o : Option Maker). made_by o q (map (fragment_at tree) (children_of q)) ≡ Some (fragment_at tree i)) k of-q in
    cc (by-m, g)

module _ {tree : List ℕ} {i : ℕ} {bytes : List ℕ} {kind : ℕ} {parts : Parts} (told : Told tree i bytes kind parts) where
  abbrev payload : Payload
  payload = told.row.payload

  fits : fragment_payload bytes ≡ Some payload
  fits = ap fragment_payload told.bytes-are ∙ told.row.fits

  made : fragment_of kind payload (map (fragment_at tree) (children_of payload)) ≡ Some (fragment_at tree i)
  made =
      subst (λ (k : ℕ). fragment_of k payload (map (fragment_at tree) (children_of payload)) ≡ Some (fragment_at tree i))
      (sym (told.kind-is ∙ ap kind_of told.bytes-are)) told.row.makes

  pub fragment-kind : (32 ≤ kind) × (kind ≤ 58)
  fragment-kind =
      let c = counts bytes payload fits in
      (omega (arith, c.from, told.kind-is), omega (arith, c.to, told.kind-is))

  -- the payload is of the kind's shape
  of-shape : (low high : ℕ) {shape : Shape} → look_up_range rows low high ≡ Some (Some shape) → low ≤ kind → kind ≤ high
      → payload_of shape bytes ≡ Some payload
  of-shape low high t l h =
      let is = shapes-in low high t (kind_of bytes) (omega (arith, told.kind-is)) (omega (arith, told.kind-is)) in
      sym (of-fragment bytes (fragment-record bytes fits).0 is) ∙ fits

  -- ---- the parts of a payload that is known

  number_is : (q : Payload) → payload ≡ q → parts.number ≡ number_of q
  number_is q e = ap (λ (x : Parts). x.number) told.parts_are ∙ ap number_of e

  k-is : (q : Payload) → payload ≡ q → parts.k ≡ k_of q
  k-is q e = ap (λ (x : Parts). x.k) told.parts_are ∙ ap k_of e

  count-is : (q : Payload) → payload ≡ q → parts.count ≡ count_of q
  count-is q e = ap (λ (x : Parts). x.count) told.parts_are ∙ ap count_of e

  children-are : (q : Payload) → payload ≡ q → parts.children ≡ padded (children_of q)
  children-are q e = ap (λ (x : Parts). x.children) told.parts_are ∙ ap (λ (p : Payload). padded (children_of p)) e

  -- the children come before
  before : (q : Payload) → payload ≡ q → (j : ℕ) → j < length (children_of q) → get_or parts.children j 0 < i
  before q e j h =
      let n : length (children_of payload) ≡ length (children_of q) = ap (λ (p : Payload). length (children_of p)) e in
      let is : get_or parts.children j 0 ≡ get_or (children_of payload) j 0 =
      ap (λ (x : Parts). get_or x.children j 0) told.parts_are ∙ padded-at (children_of payload) j (omega arith) in
      omega (arith, is, told.row.before j (omega arith))

  -- ---- leaves

  pub no_payload : kind ≤ 33 → payload ≡ nothing
  no_payload h = is-nothing bytes (of-shape 32 33 refl fragment-kind.0 h)

  pub number-payload : 34 ≤ kind → kind ≤ 41 → payload ≡ number (number_in bytes)
  number-payload l h = by_tests (leb kind 35) (leb kind 37) refl refl
    where
      by_tests : (s t : Bool) → leb kind 35 ≡ s → leb kind 37 ≡ t → payload ≡ number (number_in bytes)
      by_tests true t d e = is_number bytes (of-shape 34 35 refl l (leb-true kind 35 d))
      by_tests false true d e = is-lock bytes (of-shape 36 37 refl (omega (arith, leb-false kind 35 d)) (leb-true kind 37 e))
      by_tests false false d e = is_number bytes (of-shape 38 41 refl (omega (arith, leb-false kind 37 e)) h)

  plain-made : (f : Fragment) → find kind makers ≡ Some (plain f) → kind ≤ 33 → fragment_at tree i ≡ f
  plain-made f k h =
      made_as tree i kind payload nothing (plain f) made k (no_payload h) refl

  number-made : (f : ℕ → Fragment) → find kind makers ≡ Some (with_number f) → 34 ≤ kind → kind ≤ 41 → fragment_at tree i ≡ f parts.number
  number-made f k l h =
      let q = number (number_in bytes) in
      made_as tree i kind payload q (with_number f) made k (number-payload l h) refl ∙ ap f (sym (number_is q (number-payload l h)))

  pub is_false : kind ≡ 32 → fragment_at tree i ≡ False
  unfolding find
  is_false e = plain-made False (rw e) (omega arith)

  pub is_true : kind ≡ 33 → fragment_at tree i ≡ True
  unfolding find
  is_true e = plain-made True (rw e) (omega arith)

  pub is-pk-k : kind ≡ 34 → fragment_at tree i ≡ PkK parts.number
  unfolding find
  is-pk-k e = number-made PkK (rw e) (omega arith) (omega arith)

  pub is-pk-h : kind ≡ 35 → fragment_at tree i ≡ PkH parts.number
  unfolding find
  is-pk-h e = number-made PkH (rw e) (omega arith) (omega arith)

  pub is-after : kind ≡ 36 → fragment_at tree i ≡ Lock After parts.number
  unfolding find
  is-after e = number-made (Lock After) (rw e) (omega arith) (omega arith)

  pub is-older : kind ≡ 37 → fragment_at tree i ≡ Lock Older parts.number
  unfolding find
  is-older e = number-made (Lock Older) (rw e) (omega arith) (omega arith)

  pub is-sha256 : kind ≡ 38 → fragment_at tree i ≡ Hash Sha256 parts.number
  unfolding find
  is-sha256 e = number-made (Hash Sha256) (rw e) (omega arith) (omega arith)

  pub is-hash256 : kind ≡ 39 → fragment_at tree i ≡ Hash Hash256 parts.number
  unfolding find
  is-hash256 e = number-made (Hash Hash256) (rw e) (omega arith) (omega arith)

  pub is-ripemd160 : kind ≡ 40 → fragment_at tree i ≡ Hash Ripemd160 parts.number
  unfolding find
  is-ripemd160 e = number-made (Hash Ripemd160) (rw e) (omega arith) (omega arith)

  pub is-hash160 : kind ≡ 41 → fragment_at tree i ≡ Hash Hash160 parts.number
  unfolding find
  is-hash160 e = number-made (Hash Hash160) (rw e) (omega arith) (omega arith)

  pub keys-payload : 57 ≤ kind → payload ≡ keys (k_in bytes) (keys_in bytes)
  keys-payload l = is-keys bytes (of-shape 57 58 refl l fragment-kind.1)

  keys-made : (f : ℕ → List ℕ → Fragment) → find kind makers ≡ Some (of_keys f) → 57 ≤ kind
      → fragment_at tree i ≡ f parts.k (first_keys bytes parts.count)
  keys-made f k l =
      let q = keys (k_in bytes) (keys_in bytes) in
      let m = k-is q (keys-payload l) in
      let n = count-is q (keys-payload l) ∙ length-keys bytes (count_in bytes) in
      made_as tree i kind payload q (of_keys f) made k (keys-payload l) refl
      ∙ ap (λ (m : ℕ). f m (keys_in bytes)) (sym m) ∙ ap (λ (n : ℕ). f parts.k (first_keys bytes n)) (sym n)

  pub is-multi : kind ≡ 57 → fragment_at tree i ≡ Multi parts.k (first_keys bytes parts.count)
  unfolding find
  is-multi e = keys-made Multi (rw e) (omega arith)

  pub is-multi-a : kind ≡ 58 → fragment_at tree i ≡ MultiA parts.k (first_keys bytes parts.count)
  unfolding find
  is-multi-a e = keys-made MultiA (rw e) (omega arith)

  -- ---- fragments with children

  pub one-payload : 42 ≤ kind → kind ≤ 48 → payload ≡ children (u16 bytes 4 ∷ [])
  one-payload l h = is-one-child bytes (of-shape 42 48 refl l h)

  one-made : (f : Fragment → Fragment) → find kind makers ≡ Some (one f) → 42 ≤ kind → kind ≤ 48
      → fragment_at tree i ≡ f (fragment_at tree (get_or parts.children 0 0))
  one-made f k l h =
      let q = children (u16 bytes 4 ∷ []) in
      made_as tree i kind payload q (one f) made k (one-payload l h) refl
      ∙ ap (λ (cs : List ℕ). f (fragment_at tree (get_or cs 0 0))) (sym (children-are q (one-payload l h)))

  pub one-before : 42 ≤ kind → kind ≤ 48 → get_or parts.children 0 0 < i
  one-before l h = before (children (u16 bytes 4 ∷ [])) (one-payload l h) 0 (omega arith)

  pub is-alt : kind ≡ 42 → fragment_at tree i ≡ Alt (fragment_at tree (get_or parts.children 0 0))
  unfolding find
  is-alt e = one-made Alt (rw e) (omega arith) (omega arith)

  pub is-swap : kind ≡ 43 → fragment_at tree i ≡ Swap (fragment_at tree (get_or parts.children 0 0))
  unfolding find
  is-swap e = one-made Swap (rw e) (omega arith) (omega arith)

  pub is-check : kind ≡ 44 → fragment_at tree i ≡ Check (fragment_at tree (get_or parts.children 0 0))
  unfolding find
  is-check e = one-made Check (rw e) (omega arith) (omega arith)

  pub is-dup-if : kind ≡ 45 → fragment_at tree i ≡ DupIf (fragment_at tree (get_or parts.children 0 0))
  unfolding find
  is-dup-if e = one-made DupIf (rw e) (omega arith) (omega arith)

  pub is-verify : kind ≡ 46 → fragment_at tree i ≡ Verify (fragment_at tree (get_or parts.children 0 0))
  unfolding find
  is-verify e = one-made Verify (rw e) (omega arith) (omega arith)

  pub is-non-zero : kind ≡ 47 → fragment_at tree i ≡ NonZero (fragment_at tree (get_or parts.children 0 0))
  unfolding find
  is-non-zero e = one-made NonZero (rw e) (omega arith) (omega arith)

  pub is-zero-not-equal : kind ≡ 48 → fragment_at tree i ≡ ZeroNotEqual (fragment_at tree (get_or parts.children 0 0))
  unfolding find
  is-zero-not-equal e = one-made ZeroNotEqual (rw e) (omega arith) (omega arith)

  pub two-payload : 49 ≤ kind → kind ≤ 54 → payload ≡ children (u16 bytes 4 ∷ u16 bytes 6 ∷ [])
  two-payload l h = is-two-children bytes (of-shape 49 54 refl l h)

  two_made : (f : Fragment → Fragment → Fragment) → find kind makers ≡ Some (two f) → 49 ≤ kind → kind ≤ 54
      → fragment_at tree i ≡ f (fragment_at tree (get_or parts.children 0 0)) (fragment_at tree (get_or parts.children 1 0))
  two_made f k l h =
      let q = children (u16 bytes 4 ∷ u16 bytes 6 ∷ []) in
      made_as tree i kind payload q (two f) made k (two-payload l h) refl
      ∙ ap (λ (cs : List ℕ). f (fragment_at tree (get_or cs 0 0)) (fragment_at tree (get_or cs 1 0))) (sym (children-are q (two-payload l h)))

  pub two-before : 49 ≤ kind → kind ≤ 54 → (get_or parts.children 0 0 < i) × (get_or parts.children 1 0 < i)
  two-before l h =
      let q = children (u16 bytes 4 ∷ u16 bytes 6 ∷ []) in
      (before q (two-payload l h) 0 (omega arith), before q (two-payload l h) 1 (omega arith))

  pub is-and-b : kind ≡ 49 → fragment_at tree i ≡ AndB (fragment_at tree (get_or parts.children 0 0)) (fragment_at tree (get_or parts.children 1 0))
  unfolding find
  is-and-b e = two_made AndB (rw e) (omega arith) (omega arith)

  pub is-and-v : kind ≡ 50 → fragment_at tree i ≡ AndV (fragment_at tree (get_or parts.children 0 0)) (fragment_at tree (get_or parts.children 1 0))
  unfolding find
  is-and-v e = two_made AndV (rw e) (omega arith) (omega arith)

  pub is-or-b : kind ≡ 51 → fragment_at tree i ≡ OrB (fragment_at tree (get_or parts.children 0 0)) (fragment_at tree (get_or parts.children 1 0))
  unfolding find
  is-or-b e = two_made OrB (rw e) (omega arith) (omega arith)

  pub is-or-d : kind ≡ 52 → fragment_at tree i ≡ OrD (fragment_at tree (get_or parts.children 0 0)) (fragment_at tree (get_or parts.children 1 0))
  unfolding find
  is-or-d e = two_made OrD (rw e) (omega arith) (omega arith)

  pub is-or-c : kind ≡ 53 → fragment_at tree i ≡ OrC (fragment_at tree (get_or parts.children 0 0)) (fragment_at tree (get_or parts.children 1 0))
  unfolding find
  is-or-c e = two_made OrC (rw e) (omega arith) (omega arith)

  pub is-or-i : kind ≡ 54 → fragment_at tree i ≡ OrI (fragment_at tree (get_or parts.children 0 0)) (fragment_at tree (get_or parts.children 1 0))
  unfolding find
  is-or-i e = two_made OrI (rw e) (omega arith) (omega arith)

  pub three-payload : kind ≡ 55 → payload ≡ children (u16 bytes 4 ∷ u16 bytes 6 ∷ u16 bytes 8 ∷ [])
  three-payload e = is-three-children bytes (of-shape 55 55 refl (omega arith) (omega arith))

  pub three-before : kind ≡ 55 → (get_or parts.children 0 0 < i) × (get_or parts.children 1 0 < i) × (get_or parts.children 2 0 < i)
  three-before e =
      let q = children (u16 bytes 4 ∷ u16 bytes 6 ∷ u16 bytes 8 ∷ []) in
      (before q (three-payload e) 0 (omega arith), before q (three-payload e) 1 (omega arith), before q (three-payload e) 2 (omega arith))

  pub is-and-or : kind ≡ 55
      → fragment_at tree i
      ≡ AndOr (fragment_at tree (get_or parts.children 0 0)) (fragment_at tree (get_or parts.children 1 0))
      (fragment_at tree (get_or parts.children 2 0))
  unfolding find
  is-and-or e =
      let q = children (u16 bytes 4 ∷ u16 bytes 6 ∷ u16 bytes 8 ∷ []) in
      made_as tree i kind payload q (three AndOr) made (rw e) (three-payload e) refl
      ∙ ap (λ (cs : List ℕ). AndOr (fragment_at tree (get_or cs 0 0)) (fragment_at tree (get_or cs 1 0)) (fragment_at tree (get_or cs 2 0)))
      (sym (children-are q (three-payload e)))

  pub thresh-payload : kind ≡ 56 → payload ≡ threshold (k_in bytes) (u16s bytes 8 (count_in bytes))
  thresh-payload e = is-threshold bytes (of-shape 56 56 refl (omega arith) (omega arith))

  pub is-thresh : kind ≡ 56 → fragment_at tree i ≡ Thresh parts.k (children_from tree parts.children 0 parts.count)
  unfolding find children_from
  is-thresh e =
      let cs = u16s bytes 8 (count_in bytes) in
      let q = threshold (k_in bytes) cs in
      let all : take parts.count parts.children ≡ cs =
      ap (λ (n : ℕ). take n parts.children) (count-is q (thresh-payload e))
      ∙ ap (take (length cs)) (children-are q (thresh-payload e)) ∙ padded-front cs in
      made_as tree i kind payload q (of_children Thresh) made (rw e) (thresh-payload e) refl
      ∙ ap (λ (k : ℕ). Thresh k (fragments (map (fragment_at tree) cs))) (sym (k-is q (thresh-payload e)))
      ∙ ap (λ (cs : List ℕ). Thresh parts.k (fragments (map (fragment_at tree) cs))) (sym all)

  pub all-before : kind ≡ 56 → (j : ℕ) → j < parts.count → get_or parts.children j 0 < i
  all-before e j h =
      let q = threshold (k_in bytes) (u16s bytes 8 (count_in bytes)) in
      before q (thresh-payload e) j (omega (arith, count-is q (thresh-payload e)))

  -- k and n of a Thresh, a Multi or a MultiA
  pub threshold-bounds : 56 ≤ kind → (1 ≤ parts.k) × (parts.k ≤ parts.count) × (parts.count ≤ max_count)
  threshold-bounds l = by-test (leb kind 56) refl
    where
      of_parts : (q : Payload) → payload ≡ q → (1 ≤ k_of q) × (k_of q ≤ count_of q) × (count_of q ≤ max_count)
          → (1 ≤ parts.k) × (parts.k ≤ parts.count) × (parts.count ≤ max_count)
      of_parts q e h =
          let k = k-is q e in
          let n = count-is q e in
          (omega (arith, h.0), omega (arith, h.1), omega (arith, h.2))

      by-test : (t : Bool) → leb kind 56 ≡ t → (1 ≤ parts.k) × (parts.k ≤ parts.count) × (parts.count ≤ max_count)
      by-test true e =
          let is = thresh-payload (omega (arith, leb-true kind 56 e)) in
          of_parts (threshold (k_in bytes) (u16s bytes 8 (count_in bytes))) is
          (Laws.threshold-bounds bytes (of-shape 56 56 refl l (leb-true kind 56 e) ∙ ap Some is))
      by-test false e =
          let h = leb-false kind 56 e in
          let is = keys-payload h in
          of_parts (keys (k_in bytes) (keys_in bytes)) is
          (Laws.keys-bounds bytes (of-shape 57 58 refl h fragment-kind.1 ∙ ap Some is))

-- ---- the children of a Thresh, one after the other

module _ (tree children : List ℕ) (j n : ℕ) where
  pub children-next : j < n → n ≤ length children
      → children_from tree children j n ≡ fragment_at tree (get_or children j 0) ▹ children_from tree children (j + 1) n
  unfolding children_from fragments
  children-next h l =
      let m : j + 1 ≡ suc j = omega arith in
      rw (m, drop-cons (take n children) j 0 (rw (length-take-le n children l) h), get_or-take n children j 0 h)

  pub children-none : n ≤ j → children_from tree children j n ≡ end
  unfolding children_from fragments
  children-none h =
      let l : length (take n children) ≤ j = omega (arith, length-take n children) in
      rw (drop_of_length-le (take n children) l)
