-- An assignment that is found shows a difference. Assumes nothing.
use Prim.Native.Nat.{ℕ, ◌<◌}
use mathlib.Core.List.{List}
use mathlib.Core.Path.{◌≡◌, sym, ap, subst, ◌∙◌}
use Rattle.std.specs.Prelude.{Option, Some, Ok}
use lib.ListN.{length}
use Rattle.policies.specs.Policy.{Policy}
use Rattle.policies.specs.Reading as policies
use Rattle.policies.specs.Reading.{read_policy}
use Rattle.policies.specs.Array.{policy_at}
use Rattle.policies.specs.Answers.{PolicyRead, reads, bad-array, Read}
use Rattle.trees.specs.Fragment.{Fragment}
use Rattle.walk.specs.TreeRecords.{TreeRecords}
use Rattle.meaning.specs.Meaning.{policy_means, tree_means}
use Rattle.variables.specs.declared.Var.{Var}
use Rattle.truth.specs.Words.{bit_at, assigned, block_words}
use Rattle.counterexample.specs.declared.Apart.{Apart}
use Rattle.counterexample.specs.declared.Told.{Told}
use Rattle.counterexample.specs.Example.{ApartAt, Shows, Tells}

-- a bit of a block
pub shown-in : (p : Policy) {tree : List ℕ} (row : List Var) {words : List ℕ} (block left right : ℕ) {r : Apart} → words ≡ block_words block
    → ApartAt left right (Some r)
    → ((j : ℕ) → j < 64 → bit_at left j ≡ policy_means (assigned row words j) p)
    → ((f : Fragment) → TreeRecords tree f → (j : ℕ) → j < 64 → bit_at right j ≡ tree_means (assigned row words j) f)
    → (f : Fragment) → TreeRecords tree f → Shows p f row (Some (record { block = block; bit = r.bit; holds = r.left }))
shown-in p row block left right {r} is apart policy tree f rows = (
  ap (λ (w : List ℕ). policy_means (assigned row w r.bit) p) (sym is) ∙ sym (policy r.bit apart.0) ∙ apart.1,
  ap (λ (w : List ℕ). tree_means (assigned row w r.bit) f) (sym is) ∙ sym (tree f rows r.bit apart.0) ∙ apart.2,
)

-- ---- what was read

-- the policy of the array is the one that was read
module _ (policy m₀ m : List ℕ) (long : length m₀ ≡ 2560) {root : ℕ} (read : PolicyRead policy m₀ (Ok root) m) where
  its-read : Read (read_policy policy) (Ok root) m
  its-read = of read
    where
      of : PolicyRead policy m₀ (Ok root) m → Read (read_policy policy) (Ok root) m
      of (reads l x) = x
      of (bad-array n e) = absurd (n long)

  pub shown_of : (p : Policy) → read_policy policy ≡ policies.done p → (f : Fragment) (t : Option Told) → Tells (policy_at m root) f t → Tells p f t
  shown_of p given f t tells =
      let says = its-read.says in
      let same : policy_at m root ≡ p = cc (says, given) in
      subst (λ (q : Policy). Tells q f t) same tells
