-- What holds of moving: document 02, R-3. A policy's bytes are numbers below 256.
use Rattle.std.specs.Prelude.{Bool, false, cond, ◌||◌, List, ◌≡◌, ℕ, ◌≤◌, ltb, length}
use Rattle.writing.specs.WellFormed.{AllBelow}
use Rattle.policies.specs.Policy.{Policy, Policies, end, ◌▹◌, Unsatisfiable, Trivial, Key, Lock, Hash, And, Or, Thresh}
use Rattle.policies.specs.Reading.{Answer, refused, done, refuse_if, read_policy}
use Rattle.moving.specs.declared.Form.{Form}
use Rattle.moving.specs.declared.Form.TheVariants.{Old, New}
use Rattle.moving.specs.Moving.{moves, records_of, any, moved_policy, move, key_too_large, output_too_small}

-- ---- when a policy is refused

-- with 3, 4 and 5 as it is read, whichever way it is moved
abbrev pub RefusedAsRead : Type 0
RefusedAsRead = (form : Form) (policy : List ℕ) (room n : ℕ) → read_policy policy ≡ refused n → move form policy room ≡ refused n

-- some key exceeds 4,294,967,295
unfoldable mutual
  pub key_over : Policy → Bool
  key_over Unsatisfiable = false
  key_over Trivial = false
  key_over (Key n) = ltb 4294967295 n
  key_over (Lock kind n) = false
  key_over (Hash kind n) = false
  key_over (And l r) = key_over l || key_over r
  key_over (Or l r lw rw) = key_over l || key_over r
  key_over (Thresh k xs) = any_over xs

  pub any_over : Policies → Bool
  any_over end = false
  any_over (x ▹ xs) = key_over x || any_over xs

-- with 13 for lack of room, last
abbrev pub fitting : (room : ℕ) → List ℕ → Answer (List ℕ)
fitting room to = refuse_if output_too_small (ltb room (length to)) to

abbrev pub ToNew : Type 0
ToNew = (policy : List ℕ) (room : ℕ) (q : Policy) → read_policy policy ≡ done q → move New policy room ≡ fitting room (moved_policy New policy)

-- with 18 before that, exactly if a key is too large
abbrev pub ToOld : Type 0
ToOld = (policy : List ℕ) → AllBelow 256 policy → (room : ℕ) (q : Policy) → read_policy policy ≡ done q
    → move Old policy room ≡ cond (key_over q) (refused key_too_large) (fitting room (moved_policy Old policy))

-- ---- a policy that is moved

-- it is read as the same policy
abbrev pub SamePolicy : Type 0
SamePolicy = (form : Form) (policy : List ℕ) → AllBelow 256 policy → (room : ℕ) (to : List ℕ) → move form policy room ≡ done to
    → read_policy to ≡ read_policy policy

-- no key of the other form is left in it
abbrev pub AllMoved : Type 0
AllMoved = (form : Form) (policy : List ℕ) → AllBelow 256 policy → (room : ℕ) (to : List ℕ) → move form policy room ≡ done to
    → any (moves form) (records_of to) ≡ false

-- ---- there and back

-- an old policy, one without kind 19, comes back as the same bytes
abbrev pub OldNewOld : Type 0
OldNewOld = (policy : List ℕ) → AllBelow 256 policy → any (moves Old) (records_of policy) ≡ false
    → (room : ℕ) (to : List ℕ) → move New policy room ≡ done to → (room' : ℕ) → length policy ≤ room' → move Old to room' ≡ done policy

-- a policy of either kind comes back with every key in kind 19
abbrev pub NewOldNew : Type 0
NewOldNew = (policy : List ℕ) → AllBelow 256 policy
    → (room : ℕ) (to : List ℕ) → move Old policy room ≡ done to
    → (room' : ℕ) → length (moved_policy New policy) ≤ room' → move New to room' ≡ done (moved_policy New policy)
