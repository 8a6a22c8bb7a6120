-- The figures of a record's fragment by its kind, from its number, its k, how many children or keys it has, and its children's figures:
-- document 01, "Records", and `figures`, specs/Rules.antt. `tree_figures` shows that these are the figures of the fragment.
use Rattle.std.specs.Prelude.{ℕ, ◌≤◌, ◌<◌, false, cond, List, [], ◌∷◌, eqb, length, get_or, take, Option, None, Some}
use Rattle.records.specs.Numbers.{between}
use Rattle.contexts.specs.declared.Context.{Context}
use Rattle.trees.specs.Tree.{◌is◌, find}
use Rattle.figures.specs.declared.ExtData.{ExtData}
use Rattle.figures.specs.Bounds.{Entered}
use Rattle.figures.specs.Rules as ext
use Rattle.thresholds.specs.Threshold.{threshold}

abbrev pub or_else : {A : Type 0} → A → Option A → A
or_else a (Some x) = x
or_else a None = a

-- a lock or a hash: the last of them is Hash160
abbrev pub lock_or_hash : (kind number : ℕ) → ExtData
lock_or_hash kind number =
    or_else ext.hash160 (find kind
    (36 is ext.after number ∷ 37 is ext.older number ∷ 38 is ext.sha256 ∷ 39 is ext.hash256 ∷ 40 is ext.ripemd160 ∷ []))

-- a leaf
abbrev pub leaf_of : Context → (kind number k n : ℕ) → ExtData
leaf_of c kind number k n =
    or_else (lock_or_hash kind number) (find kind
    (32 is ext.false_ext ∷ 33 is ext.true_ext ∷ 34 is ext.pk_k c ∷ 35 is ext.pk_h c ∷ 57 is ext.multi k n ∷ 58 is ext.multi_a k n ∷ []))

-- a wrapper: the last of them is ZeroNotEqual
abbrev pub cast_of : (kind : ℕ) → ExtData → ExtData
cast_of kind x =
    or_else (ext.cast_zeronotequal x) (find kind
    (42 is ext.cast_alt x ∷ 43 is ext.cast_swap x ∷ 44 is ext.cast_check x ∷ 45 is ext.cast_dupif x ∷ 46 is ext.cast_verify x
    ∷ 47 is ext.cast_nonzero x ∷ []))

-- two children: the last of them is OrI
abbrev pub pair_of : (kind : ℕ) → (x y : ExtData) → ExtData
pair_of kind x y =
    or_else (ext.or_i x y) (find kind
    (49 is ext.and_b x y ∷ 50 is ext.and_v x y ∷ 51 is ext.or_b x y ∷ 52 is ext.or_d x y ∷ 53 is ext.or_c x y ∷ []))

-- what stands for a child that is not there
abbrev pub blank : ExtData
blank = ext.ext 0 false 0 (Some (ext.sat_data 0 0 0 0 0)) (Some (ext.sat_data 0 0 0 0 0)) 0

abbrev pub child : List ExtData → ℕ → ExtData
child xs j = get_or xs j blank

-- each kind; of the children that are given a threshold has the first n
abbrev pub figures_by : Context → (kind number k n : ℕ) → List ExtData → ExtData
figures_by c kind number k n xs =
    cond (between 42 48 kind) (cast_of kind (child xs 0))
    (cond (between 49 54 kind) (pair_of kind (child xs 0) (child xs 1))
    (cond (eqb kind 55) (ext.and_or (child xs 0) (child xs 1) (child xs 2))
    (cond (eqb kind 56) (threshold k (take n xs)) (leaf_of c kind number k n))))

-- what the rules ask: children whose figures have entered, at most so high, of a lock a u32, and of a threshold 1 ≤ k ≤ n ≤ 16
pub record Ready (h kind number k n : ℕ) (xs : List ExtData) : Type 0 where
  pub low : h ≤ 4096
  pub entered : (j : ℕ) → j < length xs → Entered h (child xs j)
  pub lock : 36 ≤ kind → kind ≤ 37 → number < 4294967296
  pub bounds : 56 ≤ kind → (1 ≤ k) × (k ≤ n) × (n ≤ 16)
