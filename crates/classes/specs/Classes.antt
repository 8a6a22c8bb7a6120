-- Classes of equal policies: document 01, "Modules, leaves first", 7 (tables are remembered by policy structure), for the numbers of the
-- array that a policy is read into. Assumes nothing: these are definitions.
use Rattle.refusals.specs.declared.Refusal.{Refusal}
use Rattle.std.specs.Prelude.{Bool, true, false, cond, List, ◌≡◌, ℕ, ◌+◌, ◌*◌, ◌<◌, ltb, length, get_or, Result, Ok, Err}
use Rattle.policies.specs.Reading.{max_records}
use Rattle.policies.specs.Answers.{PolicyRead}
use Rattle.policies.specs.Array.{row_words, of_record, place, word_at, policy_at, Good, Named}

-- an answer decides a fact
pub record Decides (r : Bool) (A : Type 0) : Type 0 where
  pub yes : r ≡ true → A
  pub no : r ≡ false → A → ⊥

-- number c stands for the policy that r stands for
pub record Stands (m : List ℕ) (r c : ℕ) : Type 0 where
  pub named : Named m c
  pub same : policy_at m c ≡ policy_at m r

-- the class of a number: the least number that stands for an equal policy
pub record Least (m : List ℕ) (r c : ℕ) : Type 0 where
  pub stands : Stands m r c
  pub least : (x : ℕ) → x < c → Stands m r x → ⊥

-- ---- where classes stand in the array

-- the numbers of records, and of the Ands over a record's children
abbrev pub max_numbers : ℕ
max_numbers = 1088

-- a record's class stands behind its row's mark, and behind that the classes of its Ands
abbrev pub class_place : ℕ → ℕ
class_place r = cond (ltb r max_records) (row_words * r + 23) (row_words * of_record r + (24 + place r))

unfoldable pub class_at : List ℕ → ℕ → ℕ
class_at m r = cond (ltb r max_numbers) (get_or m (class_place r) 0) 0

-- the words of rows, but for their classes, are as they were
pub record Kept (m₀ m : List ℕ) : Type 0 where
  pub long : length m ≡ length m₀
  pub rows : (x f : ℕ) → f < 23 → word_at m x f ≡ word_at m₀ x f

-- number r has its class, if it is one, and every other the class that it had
pub record ClassPut (m₀ m : List ℕ) (r : ℕ) : Type 0 where
  pub kept : Kept m₀ m
  pub own : Named m₀ r → Least m₀ r (class_at m r)
  pub other : (x : ℕ) → (x ≡ r → ⊥) → class_at m x ≡ class_at m₀ x

-- ---- what classifying leaves: every number has its class, and stands for what it stood for

-- every number has its class
abbrev pub Classes : List ℕ → Type 0
Classes m = (r : ℕ) → Named m r → Least m r (class_at m r)

pub record Classified (m₀ m : List ℕ) : Type 0 where
  pub good : Good m
  pub kept : (r : ℕ) → policy_at m r ≡ policy_at m₀ r
  pub class : Classes m

-- ---- a policy read, every number of it with its class

abbrev pub ClassesGood : Result ℕ Refusal → List ℕ → Type 0
ClassesGood (Ok i) m = Classes m
ClassesGood (Err r) m = Unit {0}

pub record ClassesRead (bytes m₀ : List ℕ) (r : Result ℕ Refusal) (m : List ℕ) : Type 0 where
  pub read : PolicyRead bytes m₀ r m
  pub classes : ClassesGood r m
