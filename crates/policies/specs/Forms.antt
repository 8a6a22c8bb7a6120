-- Policies by their kinds: document 01, "Records", its twelve policy kinds and what each payload says. Assumes nothing.
use Rattle.std.specs.Prelude.{cond, List, [], ◌∷◌, ℕ, eqb, get_or}
use Rattle.policies.specs.Policy.{Policy}
use Rattle.contexts.specs.Leaves.{LockKind, HashKind, After, Older, Sha256, Hash256, Ripemd160, Hash160}
use Rattle.policies.specs.Policy.{Unsatisfiable, Trivial, Key, Lock, Hash, And, Or, Thresh, to_list, from_list}

-- the numbers of the kinds with children
abbrev pub and_kind : ℕ
and_kind = 10

abbrev pub or_kind : ℕ
or_kind = 11

abbrev pub thresh_kind : ℕ
thresh_kind = 12

-- a child of a list, by its place
abbrev pub nth : List Policy → ℕ → Policy
nth cs j = get_or cs j Unsatisfiable

-- the policy of a kind, the numbers of its payload and its children
unfoldable pub made : (kind number k left_weight right_weight : ℕ) → List Policy → Policy
made kind number k left_weight right_weight cs =
    cond (eqb kind 2) Trivial
    (cond (eqb kind 3) (Key number)
    (cond (eqb kind 4) (Lock After number)
    (cond (eqb kind 5) (Lock Older number)
    (cond (eqb kind 6) (Hash Sha256 number)
    (cond (eqb kind 7) (Hash Hash256 number)
    (cond (eqb kind 8) (Hash Ripemd160 number)
    (cond (eqb kind 9) (Hash Hash160 number)
    (cond (eqb kind and_kind) (And (nth cs 0) (nth cs 1))
    (cond (eqb kind or_kind) (Or (nth cs 0) (nth cs 1) left_weight right_weight)
    (cond (eqb kind thresh_kind) (Thresh k (from_list cs))
    Unsatisfiable))))))))))

-- ---- the parts of a policy: its kind, the numbers of its payload, 0 where it has none, and its children

abbrev pub lock_kind : LockKind → ℕ
lock_kind After = 4
lock_kind Older = 5

abbrev pub hash_kind : HashKind → ℕ
hash_kind Sha256 = 6
hash_kind Hash256 = 7
hash_kind Ripemd160 = 8
hash_kind Hash160 = 9

unfoldable pub kind_of : Policy → ℕ
kind_of Unsatisfiable = 1
kind_of Trivial = 2
kind_of (Key n) = 3
kind_of (Lock kind n) = lock_kind kind
kind_of (Hash kind n) = hash_kind kind
kind_of (And l r) = and_kind
kind_of (Or l r lw rw) = or_kind
kind_of (Thresh k xs) = thresh_kind

unfoldable pub number_of : Policy → ℕ
number_of Unsatisfiable = 0
number_of Trivial = 0
number_of (Key n) = n
number_of (Lock kind n) = n
number_of (Hash kind n) = n
number_of (And l r) = 0
number_of (Or l r lw rw) = 0
number_of (Thresh k xs) = 0

unfoldable pub k_of : Policy → ℕ
k_of Unsatisfiable = 0
k_of Trivial = 0
k_of (Key n) = 0
k_of (Lock kind n) = 0
k_of (Hash kind n) = 0
k_of (And l r) = 0
k_of (Or l r lw rw) = 0
k_of (Thresh k xs) = k

unfoldable pub left_weight_of : Policy → ℕ
left_weight_of Unsatisfiable = 0
left_weight_of Trivial = 0
left_weight_of (Key n) = 0
left_weight_of (Lock kind n) = 0
left_weight_of (Hash kind n) = 0
left_weight_of (And l r) = 0
left_weight_of (Or l r lw rw) = lw
left_weight_of (Thresh k xs) = 0

unfoldable pub right_weight_of : Policy → ℕ
right_weight_of Unsatisfiable = 0
right_weight_of Trivial = 0
right_weight_of (Key n) = 0
right_weight_of (Lock kind n) = 0
right_weight_of (Hash kind n) = 0
right_weight_of (And l r) = 0
right_weight_of (Or l r lw rw) = rw
right_weight_of (Thresh k xs) = 0

unfoldable pub children_of : Policy → List Policy
children_of Unsatisfiable = []
children_of Trivial = []
children_of (Key n) = []
children_of (Lock kind n) = []
children_of (Hash kind n) = []
children_of (And l r) = l ∷ r ∷ []
children_of (Or l r lw rw) = l ∷ r ∷ []
children_of (Thresh k xs) = to_list xs
