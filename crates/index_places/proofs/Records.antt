-- The size of a record by those of its children, and that of a leaf. Assumes nothing.
use Prim.Native.Nat.{ℕ, zero, suc, ◌+◌, ◌*◌, ◌≤◌, ◌<◌}
use mathlib.Core.Bool.{Bool, true, false}
use mathlib.Core.List.{List, [], ◌∷◌, ◌++◌, map}
use mathlib.Core.Path.{◌≡◌, refl, sym, ap, subst, ◌∙◌}
use native.Mathlib.Omega.{arith}
use borrow.Author.Tests.{eqb-true, eqb-false}
use lib.Dec.{eqb}
use lib.ListN.{length, get_or, take, length-append, length-map, get_or-map}
use lib.Seq.{get_or-take, length-take-le, take-suc, take-length}
use Rattle.records.specs.declared.Parts.{Parts}
use Rattle.records.specs.Shapes.{arity}
use Rattle.records.specs.Payloads.{children_of}
use Rattle.records.specs.RecordForm.{kind_of, fragment_payload}
use Rattle.records.specs.Answers.{parts_of}
use Rattle.records.proofs.Arities.{arity-above}
use Rattle.contexts.specs.declared.Context.{Context}
use Rattle.trees.specs.Fragment.{Fragment, Fragments, end, ◌▹◌}
use Rattle.trees.specs.Fragment.{Alt, Swap, Check, DupIf, Verify, NonZero, ZeroNotEqual, AndB, AndV, OrB, OrD, OrC, OrI, AndOr, Thresh}
use Rattle.trees.specs.Tree.{find, fragments}
use Rattle.walk.specs.TreeRecords.{record_at, fragment_at, children_from, TreeRecord, Told}
use Rattle.walk.specs.Nodes.{node_of}
use Rattle.walk.proofs.Laws.{has-children, row_told, few, all-places, node-count, child-is}
use Rattle.walk.proofs.KindLaws.{threshold-bounds, is-alt, is-swap, is-check, is-dup-if, is-verify, is-non-zero, is-zero-not-equal}
use Rattle.walk.proofs.KindLaws.{is-and-b, is-and-v, is-or-b, is-or-d, is-or-c, is-or-i, is-and-or, is-thresh}
use Rattle.script_bytes.specs.Layout.{verify_byte}
use Rattle.script_entry.specs.Pieces.{front, after, last, child_verified, place}
use Rattle.index_places.specs.Sizes.{verify_size, number_size, size_of, sum_size, adds_size}
use Rattle.index_places.specs.Places.{kids_at, kind_at, ahead, size_at, ahead_at}
use Rattle.index_places.proofs.Parents.{kids-row}

verify-length : (v : Bool) → length (verify_byte v) ≡ verify_size v
verify-length true = refl
verify-length false = refl

-- what is ahead from sizes that agree
pub same_ahead : (v : Bool) (kind n : ℕ) (f g : Bool → ℕ → ℕ) → ((w : Bool) (j : ℕ) → j < n → f w (place kind j) ≡ g w (place kind j))
    → ahead kind v f n ≡ ahead kind v g n
unfolding ahead
same_ahead v kind zero f g e = refl
same_ahead v kind (suc n) f g e = rw (same_ahead v kind n f g (λ w j h. e w j (omega arith)), e (child_verified kind n v) n (omega arith))

module _ (c : Context) (v : Bool) where
  -- a fragment of this kind with n children has the size of its pieces
  abbrev pub InSizes : (kind k n : ℕ) → (ℕ → Fragment) → Fragment → Type 0
  InSizes kind k n child f = size_of c v f ≡ ahead kind v (λ w j. size_of c w (child j)) n + length (last kind k v)

  module _ (k : ℕ) (child : ℕ → Fragment) where
    in-alt : InSizes 42 k 1 child (Alt (child 0))
    unfolding ahead find size_of
    in-alt = omega (arith, verify-length v)

    in-swap : InSizes 43 k 1 child (Swap (child 0))
    unfolding ahead find size_of
    in-swap = omega (arith, verify-length v)

    in-check : InSizes 44 k 1 child (Check (child 0))
    unfolding ahead find size_of
    in-check = by_flag v
      where
        by_flag : (v : Bool) → size_of c v (Check (child 0)) ≡ ahead 44 v (λ w j. size_of c w (child j)) 1 + length (last 44 k v)
        by_flag true = omega arith
        by_flag false = omega arith

    in-dup_if : InSizes 45 k 1 child (DupIf (child 0))
    unfolding ahead find size_of
    in-dup_if = omega (arith, verify-length v)

    in-verify : InSizes 46 k 1 child (Verify (child 0))
    unfolding ahead find size_of
    in-verify = omega (arith, verify-length v)

    in-non_zero : InSizes 47 k 1 child (NonZero (child 0))
    unfolding ahead find size_of
    in-non_zero = omega (arith, verify-length v)

    in-zero_not_equal : InSizes 48 k 1 child (ZeroNotEqual (child 0))
    unfolding ahead find size_of
    in-zero_not_equal = omega (arith, verify-length v)

    in-and_b : InSizes 49 k 2 child (AndB (child 0) (child 1))
    unfolding ahead find size_of
    in-and_b = omega (arith, verify-length v)

    in-and_v : InSizes 50 k 2 child (AndV (child 0) (child 1))
    unfolding ahead find size_of
    in-and_v = omega (arith, verify-length v)

    in-or_b : InSizes 51 k 2 child (OrB (child 0) (child 1))
    unfolding ahead find size_of
    in-or_b = omega (arith, verify-length v)

    in-or_d : InSizes 52 k 2 child (OrD (child 0) (child 1))
    unfolding ahead find size_of
    in-or_d = omega (arith, verify-length v)

    in-or_c : InSizes 53 k 2 child (OrC (child 0) (child 1))
    unfolding ahead find size_of
    in-or_c = omega (arith, verify-length v)

    in-or_i : InSizes 54 k 2 child (OrI (child 0) (child 1))
    unfolding ahead find size_of
    in-or_i = omega (arith, verify-length v)

    in-and_or : InSizes 55 k 3 child (AndOr (child 0) (child 1) (child 2))
    unfolding ahead find size_of
    in-and_or = omega (arith, verify-length v)

  -- ---- Thresh: one child more

  adds-last : (xs : List Fragment) (y : Fragment) → adds_size c (fragments (xs ++ (y ∷ []))) ≡ adds_size c (fragments xs) + (size_of c false y + 1)
  unfolding fragments adds_size
  adds-last [] y = omega arith
  adds-last (x ∷ xs) y = omega (arith, adds-last xs y)

  module _ (d : Fragment) (xs : List Fragment) where
    abbrev its : ℕ → Fragment
    its j = get_or xs j d

    abbrev sizes : Bool → ℕ → ℕ
    sizes w j = size_of c w (its j)

    more : (j : ℕ) → j < length xs → take (suc j) xs ≡ take j xs ++ (its j ∷ [])
    more j h = take-suc xs j d h

    up-to : (n : ℕ) → n ≤ length xs → ahead 56 v sizes n ≡ sum_size c (fragments (take n xs))
    unfolding ahead find fragments sum_size adds_size
    up-to zero h = refl
    up-to (suc zero) h = rw (more 0 (omega arith)) (omega arith)
    up-to (suc (suc j)) h = go xs h (up-to (suc j) (omega arith))
      where
        go : (xs : List Fragment) → suc (suc j) ≤ length xs
            → ahead 56 v (λ w i. size_of c w (get_or xs i d)) (suc j) ≡ sum_size c (fragments (take (suc j) xs))
            → ahead 56 v (λ w i. size_of c w (get_or xs i d)) (suc (suc j)) ≡ sum_size c (fragments (take (suc (suc j)) xs))
        go [] h e = absurd (omega arith)
        go (x ∷ xs) h e =
            let last : take (suc j) xs ≡ take j xs ++ (get_or xs j d ∷ []) = take-suc xs j d (omega arith) in
            rw last (omega (arith, e, adds-last (take j xs) (get_or xs j d)))

    in-thresh : (k : ℕ) → InSizes 56 k (length xs) its (Thresh k (fragments xs))
    unfolding find size_of
    in-thresh k = by_flag v (up-to (length xs) (omega arith) ∙ ap (λ (l : List Fragment). sum_size c (fragments l)) (take-length xs))
      where
        by_flag : (w : Bool) → ahead 56 v sizes (length xs) ≡ sum_size c (fragments xs)
            → size_of c w (Thresh k (fragments xs)) ≡ ahead 56 v sizes (length xs) + length (last 56 k w)
        by_flag true e = rw (length-append) (omega (arith, e))
        by_flag false e = rw (length-append) (omega (arith, e))

-- ---- a record with children

step : (P : ℕ → Type 0) (low kind : ℕ) → low ≤ kind → P low → (suc low ≤ kind → P kind) → P kind
step P low kind l here later = by-test (eqb kind low) refl
  where
    by-test : (b : Bool) → eqb kind low ≡ b → P kind
    by-test true e = subst P (sym (eqb-true kind low e)) here
    by-test false e = later (omega (arith, eqb-false kind low e))

module _ {tree : List ℕ} {i : ℕ} (row : TreeRecord tree i) where
  abbrev its-kind : ℕ
  its-kind = kind_of (record_at tree i)

  abbrev its-parts : Parts
  its-parts = parts_of (fragment_payload (record_at tree i))

  abbrev told : Told tree i (record_at tree i) its-kind its-parts
  told = row_told row

  abbrev its-child : ℕ → Fragment
  its-child j = fragment_at tree (get_or its-parts.children j 0)

  module _ (c : Context) (v : Bool) where
    its-thresh : its-kind ≡ 56 → InSizes c v 56 its-parts.k its-parts.count its-child (fragment_at tree i)
    unfolding children_from
    its-thresh e =
        let n = its-parts.count in
        let F = fragment_at tree in
        let xs = map F (take n its-parts.children) in
        let short : n ≤ length its-parts.children = rw (all-places row) (threshold-bounds told (omega arith)).2 in
        let many : length xs ≡ n = length-map (take n its-parts.children) F ∙ length-take-le n its-parts.children short in
        let each : (w : Bool) (j : ℕ) → j < n → size_of c w (get_or xs j (F 0)) ≡ size_of c w (its-child j) =
        λ w j h. ap (size_of c w) (get_or-map F (take n its-parts.children) j 0 ∙ ap F (get_or-take n its-parts.children j 0 h)) in
        ap (size_of c v) (is-thresh told e)
        ∙ in-thresh c v (F 0) xs its-parts.k
        ∙ ap (λ (z : ℕ). z + length (last 56 its-parts.k v))
        (ap (λ (m : ℕ). ahead 56 v (λ w j. size_of c w (get_or xs j (F 0))) m) many
        ∙ same_ahead v 56 n (λ w j. size_of c w (get_or xs j (F 0))) (λ w j. size_of c w (its-child j)) each)

    abbrev SizesAt : ℕ → Type 0
    SizesAt kind = its-kind ≡ kind → 0 < arity kind its-parts.count
        → InSizes c v kind its-parts.k (arity kind its-parts.count) its-child (fragment_at tree i)

    of : {f : Fragment} {size : ℕ} → fragment_at tree i ≡ f → size_of c v f ≡ size → size_of c v (fragment_at tree i) ≡ size
    of e h = ap (size_of c v) e ∙ h

    by_kind : (kind : ℕ) → SizesAt kind
    by_kind kind e h =
        let k = its-parts.k in
        let x = its-child in
        step SizesAt 42 kind (has-children kind its-parts.count h) (λ e h. of (is-alt told e) (in-alt c v k x))
        (λ l. step SizesAt 43 kind l (λ e h. of (is-swap told e) (in-swap c v k x))
        (λ l. step SizesAt 44 kind l (λ e h. of (is-check told e) (in-check c v k x))
        (λ l. step SizesAt 45 kind l (λ e h. of (is-dup-if told e) (in-dup_if c v k x))
        (λ l. step SizesAt 46 kind l (λ e h. of (is-verify told e) (in-verify c v k x))
        (λ l. step SizesAt 47 kind l (λ e h. of (is-non-zero told e) (in-non_zero c v k x))
        (λ l. step SizesAt 48 kind l (λ e h. of (is-zero-not-equal told e) (in-zero_not_equal c v k x))
        (λ l. step SizesAt 49 kind l (λ e h. of (is-and-b told e) (in-and_b c v k x))
        (λ l. step SizesAt 50 kind l (λ e h. of (is-and-v told e) (in-and_v c v k x))
        (λ l. step SizesAt 51 kind l (λ e h. of (is-or-b told e) (in-or_b c v k x))
        (λ l. step SizesAt 52 kind l (λ e h. of (is-or-d told e) (in-or_d c v k x))
        (λ l. step SizesAt 53 kind l (λ e h. of (is-or-c told e) (in-or_c c v k x))
        (λ l. step SizesAt 54 kind l (λ e h. of (is-or-i told e) (in-or_i c v k x))
        (λ l. step SizesAt 55 kind l (λ e h. of (is-and-or told e) (in-and_or c v k x))
        (λ l. step SizesAt 56 kind l (λ e h. its-thresh e)
        (λ l e h. absurd (omega (arith, arity-above kind its-parts.count l))))))))))))))))) e h

    -- from its node, as it is read
    pub node-size : 0 < (node_of (record_at tree i)).n
        → size_at c tree v i ≡ ahead its-kind v (λ w j. size_at c tree w (get_or its-parts.children j 0)) (node_of (record_at tree i)).n + length (last its-kind its-parts.k v)
    unfolding size_at
    node-size h = by_kind its-kind refl h
