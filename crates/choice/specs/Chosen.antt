-- The cheapest entry of a remembered table that suits, from `best` and `best_t` in policy/compiler.rs, by the definition (definition,
-- specs/Search.antt: cheapest) on what the entries stand for. Assumes nothing.
use Rattle.std.specs.Prelude.{Bool, cond, ◌&&◌, List, ◌≡◌, ℕ, ◌<◌, Option, None, Some}
use Rattle.costs.specs.declared.Price.{Price}
use Rattle.costs.specs.Price.{at_most}
use Rattle.correctness.specs.declared.Base.{Base}
use Rattle.correctness.specs.declared.Base.TheVariants.{B, W}
use Rattle.types.specs.declared.«Type».{«Type»}
use Rattle.correctness.specs.Letters.{base_eq}
use Rattle.malleability.specs.Letters.{is_unique}
use Rattle.definition.specs.Candidates.{Candidate}
use Rattle.definition.specs.Tables.{Probs}
use Rattle.definition.specs.Search.{suits_thresh, is_base_b, cheapest}
use Rattle.candidates.specs.Candidates as code
use Rattle.memory.specs.Layout.{node_count}
use Rattle.nodes.specs.Words.{node_at}
use Rattle.nodes.specs.Views.{seen}
use Rattle.search_state.specs.State.{slot_table}
use Rattle.choice.specs.declared.Want.{Want}

-- which entries suit: of a Thresh's child as E and as W, and of the root
abbrev pub suits_want : Want → Candidate → Bool
suits_want Want.E x = suits_thresh B x
suits_want Want.W x = suits_thresh W x
suits_want Want.Root x = is_base_b x

abbrev pub chosen_seen : (pol m : List ℕ) → Option ℕ → Option Candidate
chosen_seen pol m (Some e) = Some (seen pol m e)
chosen_seen pol m None = None

-- the choice from table s at two probabilities
pub record Chooses (m : List ℕ) (s : ℕ) (p : Probs) (want : Want) (r : Option ℕ) : Type 0 where
  pub says : (pol : List ℕ) → cheapest p (suits_want want) (slot_table pol m s) ≡ chosen_seen pol m r
  pub there : (e : ℕ) → r ≡ Some e → e < node_count m

-- ---- the same of the numbers of nodes

abbrev pub suits_as : Base → «Type» → Bool
suits_as b t = base_eq t.corr.base b && (t.corr.unit && is_unique t.mall.dissat)

abbrev pub suits_type : Want → «Type» → Bool
suits_type Want.E t = suits_as B t
suits_type Want.W t = suits_as W t
suits_type Want.Root t = base_eq t.corr.base B

abbrev pub price_at : List ℕ → Probs → ℕ → Price
price_at m p e = code.cost_at (node_at m e) p.sat p.dissat

-- an entry before others of which the best is known
abbrev pub cheaper_at : List ℕ → Probs → ℕ → Option ℕ → Option ℕ
cheaper_at m p e None = Some e
cheaper_at m p e (Some y) = cond (at_most (price_at m p e) (price_at m p y)) (Some e) (Some y)

abbrev pub next_at : List ℕ → Probs → Want → ℕ → Option ℕ → Option ℕ
next_at m p want e best = cond (suits_type want (node_at m e).ty) (cheaper_at m p e best) best
