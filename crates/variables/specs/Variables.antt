-- The variables of a policy and of a fragment tree: document 02, R-14. Keys, hashes by kind and number, locks by kind and number; PkK and PkH of
-- one number have one variable, and a variable counts even where it decides nothing.
use Rattle.std.specs.Prelude.{ℕ, ◌≤◌, Bool, true, false, ◌&&◌, ◌||◌, List, [], ◌∷◌, ◌++◌, map, ◌≡◌, eqb, length}
use Rattle.contexts.specs.Leaves.{After, Older, Sha256, Hash256, Ripemd160, Hash160}
use Rattle.policies.specs.Policy as policy
use Rattle.policies.specs.Policy.{Policy, Policies, Unsatisfiable, Trivial, Key, And, Or}
use Rattle.trees.specs.Fragment.{Fragment, Fragments, end, ◌▹◌, False, True, PkK, PkH, Lock, Hash}
use Rattle.trees.specs.Fragment.{Alt, Swap, Check, DupIf, Verify, NonZero, ZeroNotEqual}
use Rattle.trees.specs.Fragment.{AndB, AndV, OrB, OrD, OrC, OrI, AndOr, Thresh, Multi, MultiA}
use Rattle.meaning.specs.Meaning.{Variable, key, lock, hash}

-- ---- variables

-- what a variable is besides its number: a key, After, Older, Sha256, Hash256, Ripemd160 or Hash160
abbrev pub class_of : Variable → ℕ
class_of (key n) = 0
class_of (lock After n) = 1
class_of (lock Older n) = 2
class_of (hash Sha256 n) = 3
class_of (hash Hash256 n) = 4
class_of (hash Ripemd160 n) = 5
class_of (hash Hash160 n) = 6

abbrev pub number_of : Variable → ℕ
number_of (key n) = n
number_of (lock kind n) = n
number_of (hash kind n) = n

abbrev pub same : Variable → Variable → Bool
same v w = eqb (class_of v) (class_of w) && eqb (number_of v) (number_of w)

unfoldable pub member : Variable → List Variable → Bool
member v [] = false
member v (w ∷ ws) = same v w || member v ws

-- ---- the variables of each, place by place

unfoldable mutual
  pub policy_variables : Policy → List Variable
  policy_variables Unsatisfiable = []
  policy_variables Trivial = []
  policy_variables (Key n) = key n ∷ []
  policy_variables (policy.Lock kind n) = lock kind n ∷ []
  policy_variables (policy.Hash kind n) = hash kind n ∷ []
  policy_variables (And x y) = policy_variables x ++ policy_variables y
  policy_variables (Or x y lw rw) = policy_variables x ++ policy_variables y
  policy_variables (policy.Thresh k xs) = policies_variables xs

  pub policies_variables : Policies → List Variable
  policies_variables policy.end = []
  policies_variables (policy.◌▹◌ x xs) = policy_variables x ++ policies_variables xs

unfoldable mutual
  pub tree_variables : Fragment → List Variable
  tree_variables False = []
  tree_variables True = []
  tree_variables (PkK n) = key n ∷ []
  tree_variables (PkH n) = key n ∷ []
  tree_variables (Lock kind n) = lock kind n ∷ []
  tree_variables (Hash kind n) = hash kind n ∷ []
  tree_variables (Alt x) = tree_variables x
  tree_variables (Swap x) = tree_variables x
  tree_variables (Check x) = tree_variables x
  tree_variables (DupIf x) = tree_variables x
  tree_variables (Verify x) = tree_variables x
  tree_variables (NonZero x) = tree_variables x
  tree_variables (ZeroNotEqual x) = tree_variables x
  tree_variables (AndB x y) = tree_variables x ++ tree_variables y
  tree_variables (AndV x y) = tree_variables x ++ tree_variables y
  tree_variables (OrB x y) = tree_variables x ++ tree_variables y
  tree_variables (OrD x y) = tree_variables x ++ tree_variables y
  tree_variables (OrC x y) = tree_variables x ++ tree_variables y
  tree_variables (OrI x y) = tree_variables x ++ tree_variables y
  tree_variables (AndOr x y z) = tree_variables x ++ (tree_variables y ++ tree_variables z)
  tree_variables (Thresh k xs) = trees_variables xs
  tree_variables (Multi k keys) = map key keys
  tree_variables (MultiA k keys) = map key keys

  pub trees_variables : Fragments → List Variable
  trees_variables end = []
  trees_variables (x ▹ xs) = tree_variables x ++ trees_variables xs

-- ---- at most twelve distinct ones in both together

abbrev pub max_variables : ℕ
max_variables = 12

-- all that occur are among some twelve
pub record FewVariables (p : Policy) (f : Fragment) : Type 0 where
  pub those : List Variable
  pub few : length those ≤ max_variables
  pub all : (v : Variable) → member v (policy_variables p ++ tree_variables f) ≡ true → member v those ≡ true
