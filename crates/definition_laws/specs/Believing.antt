-- Two parts of the definition that are written for proofs and computation are what a reader takes them for: policies are compared as equality
-- has it, and a Thresh with k = n is folded as the policies are (policy/compiler.rs, `best_compilations`).
use Rattle.std.specs.Prelude.{true, ◌≡◌}
use Rattle.contexts.specs.declared.Context.{Context}
use Rattle.policies.specs.Policy.{Policy, Policies, fold_and}
use Rattle.definition.specs.SamePolicy.{same}
use Rattle.definition.specs.Search.{policy_of, fold_ands, searcher, searchers}

-- two policies are the same exactly if they are equal
abbrev pub SameIsEqual : Type 0
SameIsEqual = (q r : Policy) → (same q r ≡ true → q ≡ r) × (q ≡ r → same q r ≡ true)

-- a policy's searcher searches that policy, and the fold over the searchers of a Thresh's children that over the children
abbrev pub SearchesItsPolicy : Type 0
SearchesItsPolicy = (c : Context) (q : Policy) → policy_of (searcher c q) ≡ q

abbrev pub FoldsAsPolicies : Type 0
FoldsAsPolicies = (c : Context) (x : Policy) (xs : Policies) → policy_of (fold_ands c (searcher c x) (searchers c xs)) ≡ fold_and x xs
