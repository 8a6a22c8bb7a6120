-- What is computed over a tree: of each fragment from its own record and from what was computed of its children, so that it can be
-- computed record by record, children first.
use Rattle.std.specs.Prelude.{ℕ, zero, suc, List, [], ◌∷◌, map, ◌≡◌}
use Rattle.trees.specs.Fragment.{Fragment}
use Rattle.walk.specs.TreeRecords.{fragment_at}
use Rattle.walk.specs.Heads.{Head, head_of, children_in}

-- a value of every fragment that a step gives of the fragment's head and its children's values
abbrev pub ByChildren : {A : Type 0} → (value : Fragment → A) → (step : Head → List A → A) → Type 0
ByChildren value step = (f : Fragment) → value f ≡ step (head_of f) (map value (children_in f))

-- what holds of each fragment of a list
pub data Each (P : Fragment → Type 0) : List Fragment → Type 0 where
  none : Each P []
  both : {x : Fragment} {xs : List Fragment} → P x → Each P xs → Each P (x ∷ xs)

module _ {A : Type 0} (◌·◌ : A → A → A) (unit : A) where
  infixl 20 ◌·◌
  -- values put together: of the fragments of a list, and of the first n records, each alone
  unfoldable pub every : (value : Fragment → A) → List Fragment → A
  every value [] = unit
  every value (x ∷ xs) = value x · every value xs

  unfoldable pub over_records : (own : Fragment → A) → (tree : List ℕ) → ℕ → A
  over_records own tree zero = unit
  over_records own tree (suc n) = over_records own tree n · own (fragment_at tree n)

  -- putting together is a matter of neither order nor grouping
  pub record Gathers : Type 0 where
    pub right-unit : (x : A) → x · unit ≡ x
    pub assoc : (x y z : A) → (x · y) · z ≡ x · (y · z)
    pub comm : (x y : A) → x · y ≡ y · x

  -- a value that puts together a fragment's own and its children's
  abbrev pub OwnAndChildren : (value own : Fragment → A) → Type 0
  OwnAndChildren value own = (f : Fragment) → value f ≡ own f · every value (children_in f)
