-- Every record of a tree that the check passed is well_typed and not too tall, and its type and height come from those of its children. Assumes nothing.
use Rattle.correctness.specs.declared.TypeError.TheVariants as TypeError
use Rattle.correctness.specs.declared.TypeError.{TypeError}
use Prim.Native.Nat.{ℕ, zero, suc, max, ◌+◌, ◌-◌, ◌≤◌, ◌<◌}
use mathlib.Core.Bool.{Bool, true, false}
use mathlib.Core.List.{List, [], ◌∷◌, map}
use Rattle.std.specs.Prelude.{Option, None, Some, Result, Ok, Err}
use mathlib.Core.Path.{◌≡◌, refl, sym, ap, subst, ◌∙◌}
use native.Mathlib.Omega.{arith}
use borrow.Author.Tests.{eqb-true, eqb-false}
use lib.Dec.{eqb}
use lib.ListN.{length, get_or, length-map, get_or-map}
use Rattle.records.specs.Payloads.{Payload, k_of, children_of}
use Rattle.records.specs.RecordForm.{kind_of}
use Rattle.types.specs.declared.«Type».{«Type»}
use Rattle.contexts.specs.declared.Context.{Context}
use Rattle.trees.specs.Fragment.{Fragment}
use Rattle.trees.specs.Typing.{type_of}
use Rattle.trees.specs.Height.{max_height, height_of}
use Rattle.trees.specs.Reading.{Answer, refused, done}
use Rattle.trees.specs.Tree.{find, Maker, makers, made_by, fragment_of}
use Rattle.trees.specs.TreeCheck.{Typed}
use Rattle.trees.specs.declared.Subtree.{Subtree}
use Rattle.trees.specs.Rules.{Rule, answered, rules, given_by, rule_of, types_of, tallest}
use Rattle.trees.proofs.Slots.{All, empty, both, Any, here, there, IfSome}
use Rattle.trees.proofs.Rules.{Good, Ill, type_made, Fits, FitsIfFound, fits}
use Rattle.trees.proofs.Heights.{tallest_tree, rises}
use Rattle.walk.specs.TreeRecords.{record_at, fragment_at, TreeRecord, TreeRecords}
use Rattle.index_places.specs.Places.{kids_at, kid}
use Rattle.index_places.specs.Typed.{type_or, subtree_of}
use Rattle.index_places.proofs.Parents.{kids-row, kids-before, has-parent}

module _ (c : Context) where
  abbrev pub WellTyped : Fragment → Type 0
  WellTyped f = type_of c f ≡ Ok (type_or (type_of c f))

  well : (f : Fragment) {t : «Type»} → type_of c f ≡ Ok t → WellTyped f
  well f {t} e = e ∙ ap Ok (sym (ap type_or e))

  any_at : (xs : List Fragment) (k : ℕ) (d : Fragment) → k < length xs → Ill c (get_or xs k d) → Any (Ill c) xs
  any_at [] k d h e = absurd (omega arith)
  any_at (x ∷ xs) zero d h e = here e
  any_at (x ∷ xs) (suc k) d h e = there (any_at xs k d (omega arith) e)

  module _ {tree : List ℕ} {i : ℕ} (row : TreeRecord tree i) where
    abbrev kind : ℕ
    kind = kind_of (record_at tree i)

    abbrev those : List Fragment
    those = map (fragment_at tree) (children_of row.payload)

    -- ---- heights

    height-over : height_of (fragment_at tree i) ≡ suc (tallest_tree those)
    height-over =
        subst (λ (o : Option Fragment). IfSome (λ f. height_of f ≡ suc (tallest_tree those)) o) row.makes (rises kind row.payload those)

    taller : (xs : List Fragment) (k : ℕ) (d : Fragment) → k < length xs → height_of (get_or xs k d) ≤ tallest_tree xs
    unfolding tallest_tree
    taller [] k d h = absurd (omega arith)
    taller (x ∷ xs) zero d h = omega arith
    taller (x ∷ xs) (suc k) d h = omega (arith, taller xs k d (omega arith))

    kid-fragment : (k : ℕ) → get_or those k (fragment_at tree 0) ≡ fragment_at tree (get_or (kids_at tree i) k 0)
    kid-fragment k =
        get_or-map (fragment_at tree) (children_of row.payload) k 0 ∙ ap (λ (js : List ℕ). fragment_at tree (get_or js k 0)) (sym (kids-row tree row))

    those-long : length those ≡ length (kids_at tree i)
    those-long = length-map (children_of row.payload) (fragment_at tree) ∙ ap length (sym (kids-row tree row))

    kid_lower : (k : ℕ) → k < length (kids_at tree i) → height_of (fragment_at tree (get_or (kids_at tree i) k 0)) < height_of (fragment_at tree i)
    kid_lower k h =
        omega (arith, height-over, taller those k (fragment_at tree 0) (omega (arith, those-long)), ap height_of (kid-fragment k))

    -- ---- types

    ill-above : (k : ℕ) → k < length (kids_at tree i) → Ill c (fragment_at tree (get_or (kids_at tree i) k 0)) → Ill c (fragment_at tree i)
    ill-above k h e = by-line (find kind makers) (find kind rules) (fits c kind) row.makes
      where
        some-ill : Any (Ill c) those
        some-ill = any_at those k (fragment_at tree 0) (omega (arith, those-long)) (ap (type_of c) (kid-fragment k) ∙ e)

        by-line : (m : Option Maker) (r : Option Rule) → FitsIfFound c m r → made_by m row.payload those ≡ Some (fragment_at tree i) → Ill c (fragment_at tree i)
        by-line (Some m) (Some r) h made = subst (IfSome (Ill c)) made (h.ill row.payload those some-ill)
        by-line (Some m) None h made = absurd h
        by-line None r h made = absurd (let z : ◌≡◌ {A = ℕ} 0 1 = cc in omega arith)

    kid-typed : WellTyped (fragment_at tree i) → (k : ℕ) → k < length (kids_at tree i) → WellTyped (fragment_at tree (get_or (kids_at tree i) k 0))
    kid-typed w k h = by-type (type_of c (fragment_at tree (get_or (kids_at tree i) k 0))) refl
      where
        by-type : (t : Result «Type» TypeError) → type_of c (fragment_at tree (get_or (kids_at tree i) k 0)) ≡ t → WellTyped (fragment_at tree (get_or (kids_at tree i) k 0))
        by-type (Ok t) e = well (fragment_at tree (get_or (kids_at tree i) k 0)) e
        by-type (Err TypeError.IllTyped) e =
            let ill = ill-above k h e in
            absurd (let z : ◌≡◌ {A = ℕ} 0 1 = cc (w, ill) in omega arith)

    -- ---- a record's own, from its children's

    abbrev value : ℕ → Subtree
    value j = subtree_of c (fragment_at tree j)

    abbrev typed : ℕ → Typed
    typed j = record { tree = fragment_at tree j; type = type_or (type_of c (fragment_at tree j)) }

    all-good : (js : List ℕ) → ((k : ℕ) → k < length js → WellTyped (fragment_at tree (get_or js k 0))) → All (Good c) (map typed js)
    all-good [] h = empty
    all-good (j ∷ js) h = both (h 0 (omega arith)) (all-good js (λ k l. h (suc k) (omega arith)))

    types_are : (js : List ℕ) → map (λ x. x.type) (map typed js) ≡ types_of (map value js)
    types_are [] = refl
    types_are (j ∷ js) = rw (types_are js)

    trees-are : (js : List ℕ) → map (λ x. x.tree) (map typed js) ≡ map (fragment_at tree) js
    trees-are [] = refl
    trees-are (j ∷ js) = rw (trees-are js)

    tallest-are : (js : List ℕ) → tallest (map value js) ≡ tallest_tree (map (fragment_at tree) js)
    unfolding tallest tallest_tree
    tallest-are [] = refl
    tallest-are (j ∷ js) = rw (tallest-are js)

    pub rule-at : ((k : ℕ) → k < length (kids_at tree i) → WellTyped (fragment_at tree (get_or (kids_at tree i) k 0)))
        → rule_of kind c (k_of row.payload) (types_of (map value (kids_at tree i))) ≡ answered (type_of c (fragment_at tree i))
    rule-at good = by-line (find kind makers) (find kind rules) (fits c kind) row.makes
      where
        js : List ℕ
        js = children_of row.payload

        their : All (Good c) (map typed (children_of row.payload))
        their = all-good (children_of row.payload) (subst (λ (l : List ℕ). (k : ℕ) → k < length l → WellTyped (fragment_at tree (get_or l k 0))) (kids-row tree row) good)

        by-line : (m : Option Maker) (r : Option Rule) → FitsIfFound c m r → made_by m row.payload those ≡ Some (fragment_at tree i)
            → given_by r c (k_of row.payload) (types_of (map value (kids_at tree i))) ≡ answered (type_of c (fragment_at tree i))
        by-line (Some m) (Some r) h made =
            ap (λ (l : List ℕ). r c (k_of row.payload) (types_of (map value l))) (kids-row tree row)
            ∙ ap (r c (k_of row.payload)) (sym (types_are (children_of row.payload)))
            ∙ h.same row.payload (map typed (children_of row.payload)) their
            ∙ ap (λ (l : List Fragment). type_made c (m row.payload l)) (trees-are (children_of row.payload))
            ∙ ap (type_made c) made
        by-line (Some m) None h made = absurd h
        by-line None r h made = absurd (let z : ◌≡◌ {A = ℕ} 0 1 = cc in omega arith)

    pub height-at : height_of (fragment_at tree i) ≡ suc (tallest (map value (kids_at tree i)))
    height-at =
        height-over ∙ ap suc (sym (tallest-are (children_of row.payload))) ∙ ap (λ (l : List ℕ). suc (tallest (map value l))) (sym (kids-row tree row))

  -- ---- every record, from the root down

  module _ {tree : List ℕ} {f : Fragment} (r : TreeRecords tree f) (ok : WellTyped f) (low : height_of f ≤ max_height) where
    abbrev Sound : ℕ → Type 0
    Sound i = WellTyped (fragment_at tree i) × (height_of (fragment_at tree i) ≤ max_height)

    sound : (n i : ℕ) → r.count ≤ i + n → i < r.count → Sound i
    sound zero i l h = absurd (omega arith)
    sound (suc n) i l h = by-test (eqb (suc i) r.count) refl (λ p k m. sound n p k m)
      where
        by-test : (b : Bool) → eqb (suc i) r.count ≡ b → ((p : ℕ) → r.count ≤ p + n → p < r.count → Sound p) → Sound i
        by-test true b rec =
            let last : r.count - 1 ≡ i = omega (arith, eqb-true (suc i) r.count b) in
            let is : f ≡ fragment_at tree i = sym r.root ∙ ap (fragment_at tree) last in
            (subst WellTyped is ok, subst (λ (f : Fragment). height_of f ≤ max_height) is low)
        by-test false b rec =
            let q = has-parent r i (omega (arith, eqb-false (suc i) r.count b)) in
            let row = r.row q.0 q.2 in
            let above = rec q.0 (omega (arith, q.4, kids-before tree row q.1 q.3)) q.2 in (
              subst (λ (j : ℕ). WellTyped (fragment_at tree j)) q.4 (kid-typed row above.0 q.1 q.3),
              subst (λ (j : ℕ). height_of (fragment_at tree j) ≤ max_height) q.4
                  (let less = kid_lower row q.1 q.3 in omega (arith, less, above.1)),
            )

    pub well_typed : (i : ℕ) → i < r.count → WellTyped (fragment_at tree i)
    well_typed i h = (sound r.count i (omega arith) h).0

    pub not-tall : (i : ℕ) → i < r.count → height_of (fragment_at tree i) ≤ max_height
    not-tall i h = (sound r.count i (omega arith) h).1
