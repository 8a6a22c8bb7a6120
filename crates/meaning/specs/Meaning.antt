-- What a policy and a fragment tree mean: document 02, R-14. Meaning is and, or, at least k, by kind.
use Rattle.std.specs.Prelude.{Bool, true, false, ◌&&◌, ◌||◌, List, [], ◌∷◌, map, ℕ, ◌+◌, leb}
use Rattle.contexts.specs.Leaves.{LockKind, HashKind}
use Rattle.contexts.specs.Lists.{one}
use Rattle.policies.specs.Policy as policy
use Rattle.policies.specs.Policy.{Policy, Policies, Unsatisfiable, Trivial, Key, And, Or}
use Rattle.trees.specs.Fragment.{Fragment, Fragments, end, ◌▹◌, False, True, PkK, PkH, Lock, Hash}
use Rattle.trees.specs.Fragment.{Alt, Swap, Check, DupIf, Verify, NonZero, ZeroNotEqual}
use Rattle.trees.specs.Fragment.{AndB, AndV, OrB, OrD, OrC, OrI, AndOr, Thresh, Multi, MultiA}

-- what may be given or not: a key's signature, a lock's time, a hash's preimage
pub data Variable : Type 0 where
  key : ℕ → Variable
  lock : LockKind → ℕ → Variable
  hash : HashKind → ℕ → Variable

abbrev pub Assignment : Type 0
Assignment = Variable → Bool

-- at least k of some places hold
unfoldable pub count_true : List Bool → ℕ
count_true [] = 0
count_true (b ∷ bs) = one b + count_true bs

abbrev pub at_least : ℕ → List Bool → Bool
at_least k bs = leb k (count_true bs)

module _ (a : Assignment) where
  -- keys, each at its place
  abbrev pub keys_mean : List ℕ → List Bool
  keys_mean keys = map (λ n. a (key n)) keys

  -- weights decide nothing
  unfoldable mutual
    pub policy_means : Policy → Bool
    policy_means Unsatisfiable = false
    policy_means Trivial = true
    policy_means (Key n) = a (key n)
    policy_means (policy.Lock kind n) = a (lock kind n)
    policy_means (policy.Hash kind n) = a (hash kind n)
    policy_means (And x y) = policy_means x && policy_means y
    policy_means (Or x y lw rw) = policy_means x || policy_means y
    policy_means (policy.Thresh k xs) = at_least k (policies_mean xs)

    pub policies_mean : Policies → List Bool
    policies_mean policy.end = []
    policies_mean (policy.◌▹◌ x xs) = policy_means x ∷ policies_mean xs

  -- wrappers mean what their child means
  unfoldable mutual
    pub tree_means : Fragment → Bool
    tree_means False = false
    tree_means True = true
    tree_means (PkK n) = a (key n)
    tree_means (PkH n) = a (key n)
    tree_means (Lock kind n) = a (lock kind n)
    tree_means (Hash kind n) = a (hash kind n)
    tree_means (Alt x) = tree_means x
    tree_means (Swap x) = tree_means x
    tree_means (Check x) = tree_means x
    tree_means (DupIf x) = tree_means x
    tree_means (Verify x) = tree_means x
    tree_means (NonZero x) = tree_means x
    tree_means (ZeroNotEqual x) = tree_means x
    tree_means (AndB x y) = tree_means x && tree_means y
    tree_means (AndV x y) = tree_means x && tree_means y
    tree_means (OrB x y) = tree_means x || tree_means y
    tree_means (OrD x y) = tree_means x || tree_means y
    tree_means (OrC x y) = tree_means x || tree_means y
    tree_means (OrI x y) = tree_means x || tree_means y
    tree_means (AndOr x y z) = (tree_means x && tree_means y) || tree_means z
    tree_means (Thresh k xs) = at_least k (trees_mean xs)
    tree_means (Multi k keys) = at_least k (keys_mean keys)
    tree_means (MultiA k keys) = at_least k (keys_mean keys)

    pub trees_mean : Fragments → List Bool
    trees_mean end = []
    trees_mean (x ▹ xs) = tree_means x ∷ trees_mean xs
