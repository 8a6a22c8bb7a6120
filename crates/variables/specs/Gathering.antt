-- Variables as values of the code: each is a class and a number, and the distinct ones met so far stand in a row of twelve.
use Rattle.std.specs.Prelude.{ℕ, ◌+◌, ◌-◌, ◌≤◌, ◌<◌, Bool, true, false, cond, ◌&&◌, ◌||◌, List, [], ◌∷◌, ◌++◌, map, ◌≡◌, eqb, leb, length, take, set, Some}
use Rattle.records.specs.Numbers.{between}
use Rattle.records.specs.Payloads.{Payload}
use Rattle.records.specs.RecordForm.{fragment_payload}
use Rattle.policies.specs.Policy.{Policy}
use Rattle.trees.specs.Fragment.{Fragment, False, True, PkK, PkH, Lock, Hash}
use Rattle.trees.specs.Fragment.{Alt, Swap, Check, DupIf, Verify, NonZero, ZeroNotEqual}
use Rattle.trees.specs.Fragment.{AndB, AndV, OrB, OrD, OrC, OrI, AndOr, Thresh, Multi, MultiA}
use Rattle.walk.specs.Heads.{Head, head_in}
use Rattle.meaning.specs.Meaning.{Variable, key, lock, hash}
use Rattle.variables.specs.declared.Var.{Var}
use Rattle.variables.specs.declared.Vars.{Vars}
use Rattle.variables.specs.declared.Own.{Own}
use Rattle.variables.specs.Variables.{class_of, number_of, member, policy_variables, tree_variables, max_variables}

-- ---- a variable as a class and a number

abbrev pub code : (class number : ℕ) → Var
code class number = record { class = class; number = number }

abbrev pub code_of : Variable → Var
code_of v = code (class_of v) (number_of v)

abbrev pub same_code : Var → Var → Bool
same_code x y = eqb x.class y.class && eqb x.number y.number

unfoldable pub has_code : Var → List Var → Bool
has_code x [] = false
has_code x (y ∷ ys) = same_code x y || has_code x ys

-- ---- the row

abbrev pub row_of : Vars → List Var
row_of t = take t.len t.list

-- at most twelve of twelve places are taken
pub record Roomy (t : Vars) : Type 0 where
  pub few : t.len ≤ max_variables
  pub long : length t.list ≡ max_variables

abbrev pub add_code : Vars → Var → Vars
add_code t x =
    cond t.over t
    (cond (has_code x (row_of t)) t
    (cond (eqb t.len max_variables) (record { list = t.list; len = t.len; over = true })
    (record { list = set t.list t.len x; len = t.len + 1; over = false })))

-- no variable stands twice
pub data Distinct : List Variable → Type 0 where
  none : Distinct []
  more : {v : Variable} {vs : List Variable} → member v vs ≡ false → Distinct vs → Distinct (v ∷ vs)

-- the row holds the variables of a list, each once; or the list has more than twelve
pub data Gathered (t : Vars) (l : List Variable) : Type 0 where
  within : t.over ≡ false → (vs : List Variable) → row_of t ≡ map code_of vs → Distinct vs
      → ((v : Variable) → member v vs ≡ member v l) → Gathered t l
  beyond : t.over ≡ true → (vs : List Variable) → max_variables < length vs → Distinct vs
      → ((v : Variable) → member v vs ≡ true → member v l ≡ true) → Gathered t l

-- the row has the variables of a policy and of a tree
pub record Found (t : Vars) (p : Policy) (f : Fragment) : Type 0 where
  pub those : List Variable
  pub row : row_of t ≡ map code_of those
  pub all : (v : Variable) → member v those ≡ member v (policy_variables p ++ tree_variables f)

-- ---- the variables that stand in a record itself

unfoldable pub own_variables : Fragment → List Variable
own_variables False = []
own_variables True = []
own_variables (PkK n) = key n ∷ []
own_variables (PkH n) = key n ∷ []
own_variables (Lock kind n) = lock kind n ∷ []
own_variables (Hash kind n) = hash kind n ∷ []
own_variables (Alt x) = []
own_variables (Swap x) = []
own_variables (Check x) = []
own_variables (DupIf x) = []
own_variables (Verify x) = []
own_variables (NonZero x) = []
own_variables (ZeroNotEqual x) = []
own_variables (AndB x y) = []
own_variables (AndV x y) = []
own_variables (OrB x y) = []
own_variables (OrD x y) = []
own_variables (OrC x y) = []
own_variables (OrI x y) = []
own_variables (AndOr x y z) = []
own_variables (Thresh k xs) = []
own_variables (Multi k keys) = map key keys
own_variables (MultiA k keys) = map key keys

-- the class of a leaf's kind: 34 and 35 are both keys
abbrev pub class_in : (kind : ℕ) → ℕ
class_in kind = kind - 35

abbrev pub key_code : ℕ → Var
key_code n = code 0 n

abbrev pub codes_in : Head → List Var
codes_in h =
    cond (between 34 41 h.kind) (code (class_in h.kind) h.number ∷ [])
    (cond (leb 57 h.kind) (map key_code h.keys) [])

pub record OwnIs (bytes : List ℕ) (r : Own) : Type 0 where
  pub few : r.n ≤ 16
  pub long : length r.list ≡ 16
  pub are : take r.n r.list ≡ codes_in (head_in bytes)

-- a record of the form
pub record Fits (bytes : List ℕ) : Type 0 where
  pub payload : Payload
  pub fits : fragment_payload bytes ≡ Some payload
