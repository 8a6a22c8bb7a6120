-- What the entry gives: document 02, R-14. A context or work memory that is none of its own, the policy as compile refuses it, then the tree as
-- the check does; then the first of these that fails: base B (22), safe (23), not malleable (24), every fragment locally valid (25), at most
-- twelve variables in both together (21), the policy's meaning (26). 0 exactly if none fails.
use Rattle.std.specs.Prelude.{ℕ, Bool, true, false, cond, List, ◌≡◌, eqb, length, Option, None, Some}
use Rattle.words.specs.Memory.{zeroed}
use Rattle.contexts.specs.declared.Context.{Context}
use Rattle.correctness.specs.declared.Base.{Base}
use Rattle.correctness.specs.declared.Base.TheVariants.{B, K, «V», W}
use Rattle.policies.specs.Policy.{Policy}
use Rattle.policies.specs.Reading as policies
use Rattle.policies.specs.Reading.{read_policy}
use Rattle.trees.specs.Fragment.{Fragment}
use Rattle.trees.specs.Reading.{Answer, refused, done, ◌>>=◌, or_refuse, max_records}
use Rattle.trees.specs.TreeCheck.{Typed, bad_context, bad_work, context_of, check_of}
use Rattle.tree_figures.specs.LocallyValid.{all_valid}
use Rattle.variables.specs.Variables.{FewVariables}
use Rattle.truth.specs.Alike.{Alike}

-- ---- document 02's numbers

abbrev pub too_many_variables : ℕ
too_many_variables = 21

abbrev pub not_b : ℕ
not_b = 22

abbrev pub not_safe : ℕ
not_safe = 23

abbrev pub malleable : ℕ
malleable = 24

abbrev pub locally_invalid : ℕ
locally_invalid = 25

abbrev pub other_meaning : ℕ
other_meaning = 26

-- ---- what is read, and what is asked of the tree by itself

-- the one length of work memory: sixteen words for each record that a tree may have
abbrev pub work_words : ℕ
work_words = 65536

abbrev pub work_of : ℕ → Option ℕ
work_of words = cond (eqb words work_words) (Some words) None

abbrev pub policy_in : policies.Answer Policy → Answer Policy
policy_in (policies.refused n) = refused n
policy_in (policies.done p) = done p

-- a condition, or the number of its refusal
abbrev pub must : ℕ → Bool → Answer Bool
must n true = done true
must n false = refused n

abbrev pub is_b : Base → Bool
is_b B = true
is_b K = false
is_b «V» = false
is_b W = false

-- a policy and a tree, which passes by itself
pub record Pair : Type 0 where
  pub policy : Policy
  pub tree : Fragment

abbrev pub passing : Context → Policy → Typed → Answer Pair
passing c p x = do
  _ ← must not_b (is_b x.type.corr.base)
  _ ← must not_safe x.type.mall.safe
  _ ← must malleable x.type.mall.non_malleable
  _ ← must locally_invalid (all_valid c x.tree)
  done (record { policy = p; tree = x.tree })

abbrev pub tree_passing : Context → (context : ℕ) → Policy → (tree : List ℕ) → Answer Pair
tree_passing c context p tree = do
  x ← check_of context tree max_records
  passing c p x

abbrev pub read_both : Context → (context : ℕ) → (policy tree : List ℕ) → Answer Pair
read_both c context policy tree = do
  p ← policy_in (read_policy policy)
  tree_passing c context p tree

unfoldable pub pair_in : (context : ℕ) → (policy tree work : List ℕ) → Answer Pair
pair_in context policy tree work = do
  c ← or_refuse bad_context (context_of context)
  _ ← or_refuse bad_work (work_of (length work))
  read_both c context policy tree

-- ---- the promise

-- of a policy and a tree that passes by itself: too many variables, another meaning, or accepted
pub data Verdict (p : Policy) (f : Fragment) : ℕ → Type 0 where
  too_many : (FewVariables p f → ⊥) → Verdict p f too_many_variables
  differs : FewVariables p f → (Alike p f → ⊥) → Verdict p f other_meaning
  accepts : FewVariables p f → Alike p f → Verdict p f 0

pub data Results : Answer Pair → (number : ℕ) → Type 0 where
  refuses : (n : ℕ) → Results (refused n) n
  judges : {x : Pair} {n : ℕ} → Verdict x.policy x.tree n → Results (done x) n

-- The entry, given a context, a policy, a tree and work memory, leaves a number and work memory.
pub record AcceptPromise (context : ℕ) (policy tree work : List ℕ) (number : ℕ) (after : List ℕ) : Type 0 where
  pub gives : Results (pair_in context policy tree work) number
  pub clears : after ≡ zeroed work

-- Any two outcomes that the promise allows are equal.
abbrev pub AcceptDetermined : Type 0
AcceptDetermined =
    (context : ℕ) (policy tree work : List ℕ) (number number' : ℕ) (after after' : List ℕ)
    → AcceptPromise context policy tree work number after → AcceptPromise context policy tree work number' after'
    → (number ≡ number') × (after ≡ after')
