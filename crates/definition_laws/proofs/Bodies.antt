-- Every search is its body, remembered. Assumes nothing.
use Rattle.std.specs.Prelude.{Float, Option, None, Some}
use mathlib.Core.Path.{◌≡◌, refl, sym, ◌∙◌, ap}
use Rattle.contexts.specs.declared.Context.{Context}
use Rattle.policies.specs.Policy.{Policy, Unsatisfiable, Trivial, Key, Lock, Hash, And, Or, Thresh}
use Rattle.definition.specs.Tables.{Probs, Table}
use Rattle.definition.specs.Refusals.{M}
use Rattle.definition.specs.Search.{Again, redo, Body, without, search, searcher, searching, remembering, again_at}
use Rattle.definition_laws.specs.Bodies.{again_for, again_in, body_of, body_in}

pub search-of : (c : Context) (q : Policy) → search c q ≡ searching q (body_of c q)
unfolding searcher
search-of c Unsatisfiable = refl
search-of c Trivial = refl
search-of c (Key n) = refl
search-of c (Lock kind n) = refl
search-of c (Hash kind n) = refl
search-of c (And l r) = refl
search-of c (Or l r lw rw) = refl
search-of c (Thresh k xs) = refl

again-is : (c : Context) (q : Policy) (p : Probs) (d : Option Float) → again_at q (body_of c q) p d ≡ again_for c q p d
unfolding searching
again-is c q p None = refl
again-is c q p (Some d) = ap (λ (f : Probs → M Table). redo (f (without p))) (sym (search-of c q))

-- the search of a policy: what is remembered, or what its body makes
pub search_is : (c : Context) (q : Policy) (p : Probs) → search c q p ≡ remembering q p (body_in c q p)
unfolding searching body_in
search_is c q p =
    ap (λ (f : Probs → M Table). f p) (search-of c q) ∙ ap (λ (g : Again). remembering q p (body_of c q p g)) (again-is c q p p.dissat)
