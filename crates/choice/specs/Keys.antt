-- A Thresh all of whose children are keys, and its Multi or MultiA, from the Thresh of `best_compilations` in policy/compiler.rs, by the
-- definition (definition, specs/Search.antt: keys_of, and specs/Candidates.antt: multi). Assumes nothing.
use Rattle.std.specs.Prelude.{Bool, true, false, List, map, ◌≡◌, ℕ, ◌≤◌, length, Option, None, Some}
use Rattle.contexts.specs.declared.Context.{Context}
use Rattle.policies.specs.Policy.{Policy, Policies, to_list, Thresh}
use Rattle.policies.specs.Forms.{number_of}
use Rattle.policies.specs.Array.{policy_at}
use Rattle.definition.specs.Candidates.{multi}
use Rattle.definition.specs.Search.{keys_of, searchers}
use Rattle.candidates.specs.declared.Candidate.{Candidate}
use Rattle.nodes.specs.Views.{offered}
use Rattle.nodes.specs.Offers.{Offerable}

abbrev pub keys_if : Bool → Policies → Option (List ℕ)
keys_if true xs = Some (map number_of (to_list xs))
keys_if false xs = None

-- whether the children of a Thresh are keys
pub record AllKeys (q : Policy) (r : Bool) : Type 0 where
  pub says : (c : Context) (k : ℕ) (xs : Policies) → q ≡ Thresh k xs → keys_of (searchers c xs) ≡ keys_if r xs

-- k of the n keys of the Thresh that record r is
pub record MultiOf (c : Context) (r k n : ℕ) (x : Candidate) : Type 0 where
  pub says : (pol m : List ℕ) (xs : Policies) (keys : List ℕ) → policy_at pol r ≡ Thresh k xs → map number_of (to_list xs) ≡ keys
      → length keys ≡ n → offered pol m x ≡ multi c k keys
  pub offers : (m : List ℕ) → n ≤ 16 → Offerable m x
