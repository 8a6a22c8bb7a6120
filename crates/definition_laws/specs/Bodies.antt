-- A search by its body: of each policy what it makes where nothing is remembered, and what it may ask for again (definition, specs/Search.antt).
use Rattle.std.specs.Prelude.{[], ◌∷◌, Float, Option, None, Some}
use Rattle.contexts.specs.declared.Context.{Context}
use Rattle.costs.specs.Weights.{weights}
use Rattle.policies.specs.Policy.{Policy, Unsatisfiable, Trivial, Key, Lock, Hash, And, Or, Thresh}
use Rattle.definition.specs.Candidates.{false', true', pk_k, pk_h, lock, hash}
use Rattle.definition.specs.Tables.{Probs, Table}
use Rattle.definition.specs.Refusals.{M}
use Rattle.definition.specs.Search.{Again, alone, redo, Body, without, search, searcher, searchers, leaves, and_body, or_body, thresh_body}

-- where the policy may be dissatisfied, its search without dissatisfaction
abbrev pub again_for : Context → Policy → Probs → Option Float → Again
again_for c q p None = alone
again_for c q p (Some d) = redo (search c q (without p))

abbrev pub again_in : Context → Policy → Probs → Again
again_in c q p = again_for c q p p.dissat

abbrev pub body_of : Context → Policy → Body
body_of c Unsatisfiable = leaves c (false' ∷ [])
body_of c Trivial = leaves c (true' ∷ [])
body_of c (Key n) = leaves c (pk_h c n ∷ pk_k c n ∷ [])
body_of c (Lock kind n) = leaves c (lock kind n ∷ [])
body_of c (Hash kind n) = leaves c (hash kind n ∷ [])
body_of c (And l r) = and_body c (searcher c l) (searcher c r)
body_of c (Or l r lw rw) = or_body c (searcher c l) (searcher c r) (weights lw rw).lw (weights lw rw).rw
body_of c (Thresh k xs) = thresh_body c k (searchers c xs)

-- what the search of a policy makes at given probabilities
unfoldable pub body_in : Context → Policy → Probs → M Table
body_in c q p = body_of c q p (again_in c q p)
