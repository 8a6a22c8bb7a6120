-- The parts of the entry's answer, for the inner contracts.
use Rattle.refusals.specs.declared.Refusal.{Refusal}
use Rattle.std.specs.Prelude.{ℕ, cond, List, Result, Ok, Err}
use Rattle.contexts.specs.declared.Context.{Context}
use Rattle.types.specs.declared.«Type».{«Type»}
use Rattle.policies.specs.Policy.{Policy}
use Rattle.trees.specs.Fragment.{Fragment}
use Rattle.walk.specs.TreeRecords.{TreeRecords}
use Rattle.accept_entry.specs.Accept.{is_b, passing, Results}

-- the first demand on its type that a tree does not meet
abbrev pub demanded : «Type» → Result (Unit {0}) Refusal
demanded t =
    cond (is_b t.corr.base)
    (cond t.mall.safe (cond t.mall.non_malleable (Ok tt) (Err Refusal.Malleable)) (Err Refusal.NotSafe))
    (Err Refusal.NotB)

-- a number for a tree of a known type, the policy being read
abbrev pub TypedResults : Context → Policy → (tree : List ℕ) → «Type» → ℕ → Type 0
TypedResults c p tree t n = (f : Fragment) → TreeRecords tree f → Results (passing c p (record { tree = f; type = t })) n
