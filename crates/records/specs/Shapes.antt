-- Which kinds there are and what payload each has: document 01, "Records", its lists of kinds and its paragraph on payloads; the kinds of
-- keys of 64 bits: document 02, R-3. Assumes nothing.
use Rattle.std.specs.Prelude.{Bool, true, false, cond, ◌||◌, List, [], ◌∷◌, ℕ, ◌-◌, eqb, Option, None, Some}
use Rattle.records.specs.Numbers.{between}
use Rattle.records.specs.declared.Shape.{Shape}

-- the kinds from the first to the last one have payloads of this shape
pub data Row : Type 0 where
  kinds : (first last : ℕ) → Shape → Row

-- in the order of document 01's paragraph
abbrev pub rows : List Row
rows =
    kinds 1 2 Shape.Nothing  -- Unsatisfiable, Trivial
    ∷ kinds 32 33 Shape.Nothing  -- False, True
    ∷ kinds 3 3 Shape.Number  -- Key
    ∷ kinds 4 5 Shape.Lock  -- After, Older
    ∷ kinds 6 9 Shape.Number  -- Sha256, Hash256, Ripemd160, Hash160
    ∷ kinds 34 35 Shape.Number  -- PkK, PkH
    ∷ kinds 36 37 Shape.Lock  -- After, Older
    ∷ kinds 38 41 Shape.Number  -- Sha256, Hash256, Ripemd160, Hash160
    ∷ kinds 11 11 Shape.Weighted  -- Or
    ∷ kinds 12 12 Shape.Threshold  -- Thresh
    ∷ kinds 56 56 Shape.Threshold  -- Thresh
    ∷ kinds 57 58 Shape.Keys  -- Multi, MultiA
    ∷ kinds 10 10 Shape.TwoChildren  -- And
    ∷ kinds 42 48 Shape.OneChild  -- Alt, Swap, Check, DupIf, Verify, NonZero, ZeroNotEqual
    ∷ kinds 49 54 Shape.TwoChildren  -- AndB, AndV, OrB, OrD, OrC, OrI
    ∷ kinds 55 55 Shape.ThreeChildren  -- AndOr
    ∷ []

abbrev pub this_or : Bool → Shape → Option Shape → Option Shape
this_or true shape others = Some shape
this_or false shape others = others

unfoldable pub look_up : List Row → ℕ → Option Shape
look_up [] kind = None
look_up (kinds first last shape ∷ others) kind = this_or (between first last kind) shape (look_up others kind)

-- the shape of a kind's payload; a number that is no kind has none
unfoldable pub shape_of : ℕ → Option Shape
shape_of kind = look_up rows kind

-- ---- kinds of keys of 64 bits: a Key, and a PkK, a PkH, a Multi and a MultiA 50 higher than those of document 01

abbrev pub is_long : ℕ → Bool
is_long kind = eqb kind 19 || (between 84 85 kind || between 107 108 kind)

-- the kind of document 01 that a number stands for: a key is a number, whatever its width
abbrev pub meant : ℕ → ℕ
meant kind = cond (eqb kind 19) 3 (cond (between 84 85 kind || between 107 108 kind) (kind - 50) kind)

-- ----

-- policies and fragment trees have kinds of their own
abbrev pub is_policy_kind : ℕ → Bool
is_policy_kind kind = between 1 12 kind

abbrev pub is_fragment_kind : ℕ → Bool
is_fragment_kind kind = between 32 58 kind

-- how many children a fragment's record of a kind has, that has so many children or keys
abbrev pub arity : (kind count : ℕ) → ℕ
arity kind count =
    cond (between 42 48 kind) 1
    (cond (between 49 54 kind) 2
    (cond (eqb kind 55) 3
    (cond (eqb kind 56) count 0)))
