-- The extremes of a record's fragment by its kind, from its k, the number of its children or keys, and its children's extremes: document
-- 01, "Records", and `witness_ways`, specs/Extremes.antt. proofs/ByKind.antt shows that these are the extremes of the fragment.
use Rattle.std.specs.Prelude.{ℕ, ◌<◌, cond, List, [], ◌∷◌, ◌≡◌, eqb, length, get_or, take, Option, None, Some}
use Rattle.records.specs.Numbers.{between}
use Rattle.contexts.specs.declared.Context.{Context}
use Rattle.trees.specs.Tree.{◌is◌, find}
use Rattle.witness_ways.specs.declared.Both.{Both}
use Rattle.witness_ways.specs.Extremes.{Extremes, ways, ByCount, no_child, one_more}
use Rattle.witness_ways.specs.Extremes.{false_ways, true_ways, hash_ways, pk_k_ways, pk_h_ways, multi_ways, multi_a_ways, dup_if_ways, verify_ways, non_zero_ways}
use Rattle.witness_ways.specs.Extremes.{and_b_ways, and_v_ways, or_b_ways, or_c_ways, or_d_ways, or_i_ways, and_or_ways}
use Rattle.witness_rules.specs.Bounds.{neither}

abbrev pub or_else : {A : Type 0} → A → Option A → A
or_else a (Some x) = x
or_else a None = a

-- a leaf: those that are not named are True and the locks
abbrev pub leaf_of : Context → (kind k n : ℕ) → Both
leaf_of c kind k n =
    or_else true_ways (find kind
    (32 is false_ways ∷ 34 is pk_k_ways c ∷ 35 is pk_h_ways c ∷ 38 is hash_ways ∷ 39 is hash_ways ∷ 40 is hash_ways ∷ 41 is hash_ways
    ∷ 57 is multi_ways c k n ∷ 58 is multi_a_ways c k n ∷ []))

-- a wrapper: Alt, Swap, Check and ZeroNotEqual keep what they wrap
abbrev pub cast_of : (kind : ℕ) → Both → Both
cast_of kind x = or_else x (find kind (45 is dup_if_ways x ∷ 46 is verify_ways x ∷ 47 is non_zero_ways x ∷ []))

-- two children: the last of them is OrI
abbrev pub pair_of : (kind : ℕ) → (x y : Both) → Both
pair_of kind x y =
    or_else (or_i_ways x y) (find kind
    (49 is and_b_ways x y ∷ 50 is and_v_ways x y ∷ 51 is or_b_ways x y ∷ 52 is or_d_ways x y ∷ 53 is or_c_ways x y ∷ []))

-- a threshold's children, by how many of them are satisfied
unfoldable pub counts : List Both → ByCount
counts [] = no_child
counts (x ∷ xs) = one_more x (counts xs)

abbrev pub thresh_ways : (k : ℕ) → List Both → Both
thresh_ways k xs = ways (counts xs k) (counts xs 0)

abbrev pub child : List Both → ℕ → Both
child xs j = get_or xs j neither

-- each kind; of the children that are given a threshold has the first n
abbrev pub ways_of : Context → (kind k n : ℕ) → List Both → Both
ways_of c kind k n xs =
    cond (between 42 48 kind) (cast_of kind (child xs 0))
    (cond (between 49 54 kind) (pair_of kind (child xs 0) (child xs 1))
    (cond (eqb kind 55) (and_or_ways (child xs 0) (child xs 1) (child xs 2))
    (cond (eqb kind 56) (thresh_ways k (take n xs)) (leaf_of c kind k n))))

-- ---- the extremes by count in a row of 17, for counts from 0 to 16

abbrev pub count_in : List Extremes → ByCount
count_in row j = get_or row j None

-- once one child more is counted
abbrev pub one_more_at : Both → List Extremes → ByCount
one_more_at x row = one_more x (count_in row)

pub record Counted (by : ByCount) (row : List Extremes) : Type 0 where
  pub long : length row ≡ 17
  pub each : (j : ℕ) → j < 17 → count_in row j ≡ by j
