-- What the functions of the search leave, by the definition (definition, specs/Search.antt) on what work memory stands for. Assumes nothing.
use Rattle.refusals.specs.Numbers.{number_of}
use Rattle.refusals.specs.declared.Refusal.{Refusal}
use Rattle.std.specs.Prelude.{Bool, true, List, [], ◌∷◌, map, ◌≡◌, ℕ, ◌<◌, Float, length, take, Option, None, Some, Ok, Result, Err}
use Rattle.contexts.specs.declared.Context.{Context}
use Rattle.costs.specs.Arithmetic.{◌⊕◌, ◌⊖◌, ◌⊗◌, 1·}
use Rattle.policies.specs.Policy.{Policy, from_list}
use Rattle.policies.specs.Forms.{kind_of, k_of, left_weight_of, right_weight_of, children_of}
use Rattle.policies.specs.Array.{policy_at, Named}
use Rattle.writing.specs.WellFormed.{AllBelow}
use Rattle.candidates.specs.declared.Candidate as node
use Rattle.candidates.specs.declared.NotMade.{NotMade}
use Rattle.definition.specs.Candidates.{Candidate, Cast}
use Rattle.definition.specs.Tables.{Probs, probs, Table}
use Rattle.definition.specs.Refusals.{M, Res, done, refused, then, ◌>>=◌}
use Rattle.definition.specs.Search.{search, searchers, Searcher, inserted_if_typed, for_each, or_none, Best, bests, chosen, cheapest}
use Rattle.definition_laws.specs.FormedPolicy.{FormedPolicy}
use Rattle.definition_laws.specs.Settled.{Settled}
use Rattle.memory.specs.Layout.{node_count, table_count}
use Rattle.nodes.specs.Views.{seen}
use Rattle.nodes.specs.Offers.{Offerable}
use Rattle.table.specs.Rows.{TableHolds}
use Rattle.table.specs.Inserted.{seen_table}
use Rattle.closure.specs.declared.Closed.{Closed}
use Rattle.search_state.specs.State.{Classed, Ready, Onward, Room, Paid, flag_of, load, state_in, slot_table}
use Rattle.stages.specs.declared.Ask.{Ask}
use Rattle.stages.specs.declared.Pairing.{Pairing}
use Rattle.stages.specs.Stages.{ask_all, False}
use Rattle.pairing.specs.Mades.{Paired}
use Rattle.choice.specs.Arranged.{bests_of}
use Rattle.choice.specs.Chosen.{suits_want}
use Rattle.choice.specs.declared.Want.{Want}
use Rattle.search.specs.declared.Bests.{Bests}

-- ---- what a policy is

pub record IsOr (q : Policy) (left_weight right_weight : ℕ) : Type 0 where
  pub is_or : kind_of q ≡ 11
  pub is_left : left_weight_of q ≡ left_weight
  pub is_right : right_weight_of q ≡ right_weight

pub record IsThresh (q : Policy) (k n : ℕ) : Type 0 where
  pub is_thresh : kind_of q ≡ 12
  pub is_k : k_of q ≡ k
  pub is_n : length (children_of q) ≡ n

abbrev pub child_searchers : Context → Policy → List Searcher
child_searchers c q = searchers c (from_list (children_of q))

-- ---- what holds where a search of number r begins, and where it works on a table

pub record Going (extra : ℕ) (pol : List ℕ) (r : ℕ) (dissat : Option Float) (m : List ℕ) : Type 0 where
  pub classed : Classed pol
  pub named : Named pol r
  pub formed : FormedPolicy (policy_at pol r)
  pub ready : Ready pol m
  pub room : Room extra (policy_at pol r) dissat m

pub record Doing (pol : List ℕ) (r : ℕ) (dissat : Option Float) (c : Closed) (m : List ℕ) : Type 0 where
  pub classed : Classed pol
  pub named : Named pol r
  pub formed : FormedPolicy (policy_at pol r)
  pub ready : Ready pol m
  pub table : TableHolds m c.table
  pub room : c.end ≡ (Ok tt) → Room 1 (policy_at pol r) dissat m

-- ---- casts

-- where it is told that the table is settled, it is: the casts of what the search without dissatisfaction found change it no more
pub record SettledIf (told : Bool) (c : Context) (pol : List ℕ) (r : ℕ) (sat : Float) (dissat : Option Float) (t : Closed) (m : List ℕ) : Type 0 where
  pub asked : told ≡ true → flag_of dissat ≡ 1
  pub settled : told ≡ true → t.end ≡ (Ok tt) → Settled c (policy_at pol r) (probs sat dissat) (state_in pol m) (seen_table pol m t.table)

-- one cast of what a search gives
abbrev pub cast_once : Context → Probs → M Table → Cast → Table → M Table
cast_once c p again f t = again >>= λ xs. for_each (λ x. inserted_if_typed c p (f x)) xs t

-- ---- searches in a row

-- what is asked for weighs less than number r at its probability of dissatisfaction
pub record Lighter (pol : List ℕ) (r : ℕ) (dissat : Option Float) (a : Ask) : Type 0 where
  pub named : Named pol a.r
  pub formed : FormedPolicy (policy_at pol a.r)
  pub falls : load (policy_at pol a.r) a.dissat < load (policy_at pol r) dissat

unfoldable pub AllLighter : (pol : List ℕ) (r : ℕ) (dissat : Option Float) → List Ask → Type 0
AllLighter pol r dissat [] = Unit {0}
AllLighter pol r dissat (a ∷ as') = Lighter pol r dissat a × AllLighter pol r dissat as'

-- a child of number r, or a child's child
pub record Under (pol : List ℕ) (r a : ℕ) : Type 0 where
  pub named : Named pol a
  pub formed : FormedPolicy (policy_at pol a)
  pub falls : load (policy_at pol a) (Some 1·) < load (policy_at pol r) None

-- the tables in the first n slots
abbrev pub asked_answer : (pol m : List ℕ) (n : ℕ) → Result (List ℕ) Refusal → Res (List Table)
asked_answer pol m n (Ok slots) = done (map (slot_table pol m) (take n slots)) (state_in pol m)
asked_answer pol m n (Err e) = refused (number_of e)

pub record AskedAll (c : Context) (pol : List ℕ) (asks : List Ask) (n : ℕ) (r : Result (List ℕ) Refusal) (m₀ m : List ℕ) : Type 0 where
  pub says : ask_all c pol (take n asks) (state_in pol m₀) ≡ asked_answer pol m n r
  pub ready : Ready pol m
  pub onward : Onward m₀ m
  pub below : (slots : List ℕ) → r ≡ Ok slots → AllBelow (table_count m) (take n slots)
  pub paid : (slots : List ℕ) → r ≡ Ok slots → Paid 0 m₀ m

-- ---- pairings in a row

-- the places of a pairing are among n tables, or False
pub record PlacesIn (n : ℕ) (a : Pairing) : Type 0 where
  pub first : (a.first ≡ False → ⊥) → a.first < n
  pub second : (a.second ≡ False → ⊥) → a.second < n
  pub third : (a.third ≡ False → ⊥) → a.third < n

unfoldable pub AllPlaced : (n : ℕ) → List Pairing → Type 0
AllPlaced n [] = Unit {0}
AllPlaced n (a ∷ as') = PlacesIn n a × AllPlaced n as'

unfoldable pub AllPaired : (m slots : List ℕ) → List Pairing → Type 0
AllPaired m slots [] = Unit {0}
AllPaired m slots (a ∷ as') = Paired m a slots × AllPaired m slots as'

pub record OffersIfMade (m : List ℕ) (x : Result node.Candidate NotMade) : Type 0 where
  pub offers : (y : node.Candidate) → x ≡ Ok y → Offerable m y

-- ---- the children of a Thresh

abbrev pub child_dissat : Option Float → (ratio sat : Float) → Option Float
child_dissat dissat ratio sat = Some (or_none dissat ⊕ (1· ⊖ ratio) ⊗ sat)

abbrev pub best_answer : (pol m : List ℕ) → Result ℕ Refusal → Res Candidate
best_answer pol m (Ok e) = done (seen pol m e) (state_in pol m)
best_answer pol m (Err e) = refused (number_of e)

abbrev pub IsNode : List ℕ → Result ℕ Refusal → Type 0
IsNode m (Ok e) = e < node_count m
IsNode m (Err e) = Unit {0}

pub record FoundBest (c : Context) (p : Probs) (pol : List ℕ) (q : Policy) (want : Want) (r : Result ℕ Refusal) (m₀ m : List ℕ) : Type 0 where
  pub says : then (search c q p (state_in pol m₀)) (λ t. chosen (cheapest p (suits_want want) t)) ≡ best_answer pol m r
  pub ready : Ready pol m
  pub onward : Onward m₀ m
  pub below : IsNode m r
  pub paid : (e : ℕ) → r ≡ Ok e → Paid 0 m₀ m

-- those of the first n children
abbrev pub bests_answer : (pol m : List ℕ) (n : ℕ) → Result Bests Refusal → Res (List Best)
bests_answer pol m n (Ok b) = done (bests_of pol m (take n b.es) (take n b.ws)) (state_in pol m)
bests_answer pol m n (Err e) = refused (number_of e)

pub record FoundBests (c : Context) (p : Probs) (pol : List ℕ) (q : Policy) (n : ℕ) (r : Result Bests Refusal) (m₀ m : List ℕ) : Type 0 where
  pub says : bests p (child_searchers c q) (state_in pol m₀) ≡ bests_answer pol m n r
  pub ready : Ready pol m
  pub onward : Onward m₀ m
  pub es : (b : Bests) → r ≡ Ok b → AllBelow (node_count m) (take n b.es)
  pub ws : (b : Bests) → r ≡ Ok b → AllBelow (node_count m) (take n b.ws)
  pub paid : (b : Bests) → r ≡ Ok b → Paid 0 m₀ m
