-- Why specs/Believing.antt holds.
use mathlib.Core.Path.{◌≡◌, refl, sym, ap, ◌∙◌}
use Rattle.contexts.specs.declared.Context.{Context}
use Rattle.policies.specs.Policy.{Policy, Policies, end, ◌▹◌, Unsatisfiable, Trivial, Key, Lock, Hash, And, Or, Thresh, fold_and}
use Rattle.definition.specs.SamePolicy.{same}
use Rattle.definition.specs.Search.{Searcher, policy_of, and_searcher, fold_ands, searcher, searchers}
use Rattle.definition_laws.specs.Believing.{SameIsEqual, SearchesItsPolicy, FoldsAsPolicies}
use Rattle.definition_laws.proofs.SamePolicies.{same_self, same-equal}

pub same-is-equal : SameIsEqual
same-is-equal q r = (same-equal q r, λ e. ap (same q) (sym e) ∙ same_self q)

pub searches-its-policy : SearchesItsPolicy
unfolding searcher
searches-its-policy c Unsatisfiable = refl
searches-its-policy c Trivial = refl
searches-its-policy c (Key n) = refl
searches-its-policy c (Lock kind n) = refl
searches-its-policy c (Hash kind n) = refl
searches-its-policy c (And l r) = refl
searches-its-policy c (Or l r lw rw) = refl
searches-its-policy c (Thresh k xs) = refl

pub folds-as-policies : FoldsAsPolicies
unfolding fold_ands searchers fold_and
folds-as-policies c x xs = folds (searcher c x) x (searches-its-policy c x) xs
  where
    folds : (s : Searcher) (q : Policy) → policy_of s ≡ q → (xs : Policies) → policy_of (fold_ands c s (searchers c xs)) ≡ fold_and q xs
    folds s q e end = e
    folds s q e (x ▹ xs) = folds (and_searcher c s (searcher c x)) (And q x) (rw (e, searches-its-policy c x)) xs
