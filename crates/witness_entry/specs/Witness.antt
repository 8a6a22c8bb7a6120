-- What the entry gives: document 02, R-9. A context or work memory that is none of its own, then the tree, are refused as the tree check
-- does; else whether the tree can be satisfied, and the fewest and the most bytes of a witness that does.
use Rattle.std.specs.Prelude.{ℕ, cond, List, ◌≡◌, eqb, length, Option, None, Some}
use Rattle.words.specs.Memory.{zeroed}
use Rattle.contexts.specs.declared.Context.{Context}
use Rattle.trees.specs.Reading.{Answer, refused, done, ◌>>=◌, or_refuse, max_records}
use Rattle.trees.specs.TreeCheck.{Typed, bad_context, bad_work, context_of, check_of}
use Rattle.witness_ways.specs.Spends.{Spends}

-- the one length of work memory: two words for each record that a tree may have
abbrev pub work_words : ℕ
work_words = 8192

abbrev pub work_of : ℕ → Option ℕ
work_of words = cond (eqb words work_words) (Some words) None

-- the tree that the entry reads, or the number of its refusal
unfoldable pub tree_in : (context : ℕ) → (tree work : List ℕ) → Answer Typed
tree_in context tree work = do
  _ ← or_refuse bad_context (context_of context)
  _ ← or_refuse bad_work (work_of (length work))
  check_of context tree max_records

-- A refusal has its number and zeros; a tree has number 0 and what a spend of it costs.
pub data Results (context : ℕ) : Answer Typed → (number found smallest largest : ℕ) → Type 0 where
  refuses : (n : ℕ) → Results context (refused n) n 0 0 0
  spends : {c : Context} {x : Typed} {found smallest largest : ℕ} → context_of context ≡ Some c → Spends c x.tree found smallest largest
      → Results context (done x) 0 found smallest largest

-- The entry, given a context, a tree and work memory, leaves a number, three results and work memory.
pub record WitnessPromise (context : ℕ) (tree work : List ℕ) (number found smallest largest : ℕ) (after : List ℕ) : Type 0 where
  pub gives : Results context (tree_in context tree work) number found smallest largest
  pub clears : after ≡ zeroed work

-- Any two outcomes that the promise allows are equal.
abbrev pub WitnessDetermined : Type 0
WitnessDetermined =
    (context : ℕ) (tree work : List ℕ) (number number' found found' smallest smallest' largest largest' : ℕ) (after after' : List ℕ)
    → WitnessPromise context tree work number found smallest largest after
    → WitnessPromise context tree work number' found' smallest' largest' after'
    → (number ≡ number') × (found ≡ found') × (smallest ≡ smallest') × (largest ≡ largest') × (after ≡ after')
