-- What a record's node says of its fragment: its children come before it, and its bytes are its pieces or those of a leaf. Assumes nothing.
use Prim.Native.Nat.{ℕ, zero, suc, ◌≤◌, ◌<◌}
use mathlib.Core.Bool.{Bool, true, false}
use mathlib.Core.List.{List, ◌++◌, map}
use mathlib.Core.Path.{◌≡◌, refl, sym, ap, subst, ◌∙◌}
use native.Mathlib.Omega.{arith}
use borrow.Author.Tests.{eqb-true, eqb-false}
use lib.Dec.{eqb}
use lib.ListN.{length, get_or, take, length-map, get_or-map}
use lib.Seq.{get_or-take, length-take-le}
use Rattle.records.specs.declared.Parts.{Parts}
use Rattle.records.specs.Shapes.{arity}
use Rattle.records.specs.Payloads.{children_of}
use Rattle.records.specs.RecordForm.{kind_of, fragment_payload}
use Rattle.records.specs.Answers.{parts_of}
use Rattle.records.proofs.Arities.{arity-above}
use Rattle.contexts.specs.declared.Context.{Context}
use Rattle.trees.specs.Fragment.{Fragment}
use Rattle.walk.specs.TreeRecords.{record_at, fragment_at, children_from, TreeRecord, Told}
use Rattle.walk.specs.Nodes.{node_of}
use Rattle.walk.proofs.Laws.{has-children, row_told, few, all-places, child-before, childless-kind}
use Rattle.walk.proofs.KindLaws.{threshold-bounds, is-alt, is-swap, is-check, is-dup-if, is-verify, is-non-zero, is-zero-not-equal}
use Rattle.walk.proofs.KindLaws.{is-and-b, is-and-v, is-or-b, is-or-d, is-or-c, is-or-i, is-and-or, is-thresh}
use Rattle.script_machine.specs.Numbers.{Bytes}
use Rattle.script_bytes.specs.Tables.{Tables}
use Rattle.script_bytes.specs.Layout.{bytes_of}
use Rattle.script_leaves.specs.Leaves.{leaf_of}
use Rattle.script_leaves.proofs.Records.{leaf-is}
use Rattle.script_entry.specs.Pieces.{front, last, place, up_to}
use Rattle.script_entry.proofs.Pieces.{InPieces, in-alt, in-swap, in-check, in-dup_if, in-verify, in-non_zero, in-zero_not_equal}
use Rattle.script_entry.proofs.Pieces.{in-and_b, in-and_v, in-or_b, in-or_d, in-or_c, in-or_i, in-and_or, in-thresh}

-- ---- numbers in a range, one by one

-- what holds of each number of a range holds of one in it
step : (P : ℕ → Type 0) (low kind : ℕ) → low ≤ kind → P low → (suc low ≤ kind → P kind) → P kind
step P low kind l here later = by-test (eqb kind low) refl
  where
    by-test : (b : Bool) → eqb kind low ≡ b → P kind
    by-test true e = subst P (sym (eqb-true kind low e)) here
    by-test false e = later (omega (arith, eqb-false kind low e))

-- ---- the number of children by kind

-- which of the children comes as number j is one of them
pub place-one : (kind count j : ℕ) → j < arity kind count → place kind j < arity kind count
place-one kind count j h = by_kind (eqb kind 55) refl
  where
    of_three : (j : ℕ) → j < 3 → place 55 j < 3
    of_three zero h = omega arith
    of_three (suc zero) h = omega arith
    of_three (suc (suc zero)) h = omega arith
    of_three (suc (suc (suc j))) h = absurd (omega arith)

    by_kind : (b : Bool) → eqb kind 55 ≡ b → place kind j < arity kind count
    by_kind true t =
        let k = eqb-true kind 55 t in
        rw k (of_three j (rw k at h))
    by_kind false t =
        let same : place kind j ≡ j = rw t in
        subst (λ (n : ℕ). n < arity kind count) (sym same) h

-- ---- the children of a record

module _ {tree : List ℕ} {i : ℕ} (row : TreeRecord tree i) where
  abbrev its-kind : ℕ
  its-kind = kind_of (record_at tree i)

  abbrev its-parts : Parts
  its-parts = parts_of (fragment_payload (record_at tree i))

  abbrev told : Told tree i (record_at tree i) its-kind its-parts
  told = row_told row

  pub place-small : (j : ℕ) → j < (node_of (record_at tree i)).n → place its-kind j < 16
  place-small j h = omega (arith, place-one its-kind its-parts.count j h, few row)

  pub placed-before : (j : ℕ) → j < (node_of (record_at tree i)).n → get_or (node_of (record_at tree i)).children (place its-kind j) 0 < i
  placed-before j h = child-before row (place its-kind j) (place-one its-kind its-parts.count j h)

  pub leaf-here : (node_of (record_at tree i)).n ≡ 0 → leaf_of (record_at tree i) ≡ fragment_at tree i
  leaf-here e =
      leaf-is (record_at tree i) row.fits (map (fragment_at tree) (children_of row.payload)) row.makes
      (childless-kind row e)

  -- ---- its pieces

  abbrev its-child : ℕ → Fragment
  its-child j = fragment_at tree (get_or its-parts.children j 0)

  module _ (c : Context) (t : Tables) (v : Bool) where
    same-up-to : (kind : ℕ) (f g : ℕ → Fragment) (n : ℕ) → ((j : ℕ) → j < n → f (place kind j) ≡ g (place kind j))
        → up_to c t kind v f n ≡ up_to c t kind v g n
    unfolding up_to
    same-up-to kind f g zero e = refl
    same-up-to kind f g (suc n) e = rw (same-up-to kind f g n (λ j h. e j (omega arith)), e n (omega arith))

    its-thresh : its-kind ≡ 56 → InPieces c t v 56 its-parts.k its-parts.count its-child (fragment_at tree i)
    unfolding children_from
    its-thresh e =
        let n = its-parts.count in
        let F = fragment_at tree in
        let xs = map F (take n its-parts.children) in
        let short : n ≤ length its-parts.children = rw (all-places row) (threshold-bounds told (omega arith)).2 in
        let many : length xs ≡ n = length-map (take n its-parts.children) F ∙ length-take-le n its-parts.children short in
        let each : (j : ℕ) → j < n → get_or xs j (F 0) ≡ its-child j =
        λ j h. get_or-map F (take n its-parts.children) j 0 ∙ ap F (get_or-take n its-parts.children j 0 h) in
        ap (bytes_of c t v) (is-thresh told e)
        ∙ in-thresh c t v (F 0) xs its-parts.k
        ∙ ap (λ (z : Bytes). front 56 ++ (z ++ last 56 its-parts.k v))
        (ap (λ (m : ℕ). up_to c t 56 v (λ j. get_or xs j (F 0)) m) many ∙ same-up-to 56 (λ j. get_or xs j (F 0)) its-child n each)

    abbrev PiecesAt : ℕ → Type 0
    PiecesAt kind = its-kind ≡ kind → 0 < arity kind its-parts.count
        → InPieces c t v kind its-parts.k (arity kind its-parts.count) its-child (fragment_at tree i)

    of : {f : Fragment} {bytes : Bytes} → fragment_at tree i ≡ f → bytes_of c t v f ≡ bytes → bytes_of c t v (fragment_at tree i) ≡ bytes
    of e h = ap (bytes_of c t v) e ∙ h

    by_kind : (kind : ℕ) → PiecesAt kind
    by_kind kind e h =
        let k = its-parts.k in
        let x = its-child in
        step PiecesAt 42 kind (has-children kind its-parts.count h) (λ e h. of (is-alt told e) (in-alt c t v k x))
        (λ l. step PiecesAt 43 kind l (λ e h. of (is-swap told e) (in-swap c t v k x))
        (λ l. step PiecesAt 44 kind l (λ e h. of (is-check told e) (in-check c t v k x))
        (λ l. step PiecesAt 45 kind l (λ e h. of (is-dup-if told e) (in-dup_if c t v k x))
        (λ l. step PiecesAt 46 kind l (λ e h. of (is-verify told e) (in-verify c t v k x))
        (λ l. step PiecesAt 47 kind l (λ e h. of (is-non-zero told e) (in-non_zero c t v k x))
        (λ l. step PiecesAt 48 kind l (λ e h. of (is-zero-not-equal told e) (in-zero_not_equal c t v k x))
        (λ l. step PiecesAt 49 kind l (λ e h. of (is-and-b told e) (in-and_b c t v k x))
        (λ l. step PiecesAt 50 kind l (λ e h. of (is-and-v told e) (in-and_v c t v k x))
        (λ l. step PiecesAt 51 kind l (λ e h. of (is-or-b told e) (in-or_b c t v k x))
        (λ l. step PiecesAt 52 kind l (λ e h. of (is-or-d told e) (in-or_d c t v k x))
        (λ l. step PiecesAt 53 kind l (λ e h. of (is-or-c told e) (in-or_c c t v k x))
        (λ l. step PiecesAt 54 kind l (λ e h. of (is-or-i told e) (in-or_i c t v k x))
        (λ l. step PiecesAt 55 kind l (λ e h. of (is-and-or told e) (in-and_or c t v k x))
        (λ l. step PiecesAt 56 kind l (λ e h. its-thresh e)
        (λ l e h. absurd (omega (arith, arity-above kind its-parts.count l))))))))))))))))) e h

    pub in_pieces : 0 < (node_of (record_at tree i)).n
        → InPieces c t v (node_of (record_at tree i)).kind (node_of (record_at tree i)).k (node_of (record_at tree i)).n its-child (fragment_at tree i)
    in_pieces h = by_kind its-kind refl h
