-- What compile asked of costs before never was told from dear (document 02, R-2): of f64s, by their bits and by their IEEE difference. It is
-- asked in three places and told in one; all else of compile's definition is as it was.
use Rattle.std.specs.Prelude.{Bool, true, not, cond, ◌&&◌, List, [], ◌∷◌, ◌≡◌, ℕ, suc, leb, Float, Option, None, Some}
use Rattle.std.specs.Float.Ieee.{lt}
use Rattle.contexts.specs.declared.Context.{Context}
use Rattle.words.specs.Floats.{word_of_float, is_cost}
use Rattle.costs.specs.Arithmetic.{◌⊖◌}
use Rattle.costs.specs.Price.{is_price, cost_bits, never_flag}
use Rattle.costs.specs.Cost1d.{total1d}
use Rattle.definition.specs.Candidates.{Candidate}
use Rattle.definition.specs.Tables.{Probs, Table, cost_at, key_sub}
use Rattle.definition.specs.Refusals.{M, refuse, NotACost}
use Rattle.definition.specs.Insertion.{any, filter, worthwhile, Offered, turned_away, entered, insert}
use Rattle.definition.specs.Search.{cheapest, Best, most_gaining}
use Rattle.definition_laws.specs.Laws.{All}

-- what a candidate costs, as an f64
abbrev pub float_at : Probs → Candidate → Float
float_at p x = total1d x.ext.pk_cost x.cost p.sat p.dissat

-- two costs in the order of their bits
abbrev pub cost_le : Float → Float → Bool
cost_le a b = is_cost a && (is_cost b && leb (word_of_float a) (word_of_float b))

-- ---- insertion

abbrev pub beats_before : Probs → Candidate → Candidate → Bool
beats_before p x y = key_sub x y && cost_le (float_at p x) (float_at p y)

abbrev pub insert_before : Context → Probs → Candidate → Table → M Offered
insert_before c p x t =
    cond (worthwhile c x)
    (cond (is_cost (float_at p x))
    (cond (any (λ e. beats_before p e x) t) (turned_away t) (entered x (filter (λ e. not (beats_before p x e)) t)))
    (refuse NotACost))
    (turned_away t)

-- ---- the choice of the cheapest

abbrev pub cheaper_before : Probs → Candidate → Option Candidate → Candidate
cheaper_before p x None = x
cheaper_before p x (Some y) = cond (cost_le (float_at p x) (float_at p y)) x y

unfoldable pub cheapest_before : Probs → (Candidate → Bool) → Table → Option Candidate
cheapest_before p suits [] = None
cheapest_before p suits (x ∷ xs) = cond (suits x) (Some (cheaper_before p x (cheapest_before p suits xs))) (cheapest_before p suits xs)

-- ---- a Thresh's E against W

unfoldable pub most_gaining_before : Probs → (place best : ℕ) → Float → List Best → ℕ
most_gaining_before p place best least [] = best
most_gaining_before p place best least (b ∷ bs) =
    cond (lt (float_at p b.e ⊖ float_at p b.w) least)
    (most_gaining_before p (suc place) place (float_at p b.e ⊖ float_at p b.w) bs)
    (most_gaining_before p (suc place) best least bs)

-- an E and a W whose costs are not refused
abbrev pub Priced : Probs → Best → Type 0
Priced p b = (is_price (cost_at p b.e) ≡ true) × (is_price (cost_at p b.w) ≡ true)

-- each is answered as it was, and what is told of a cost is its bits, unless it is never
pub record AsBefore : Type 0 where
  pub insertion : (c : Context) (p : Probs) (x : Candidate) (t : Table) → insert c p x t ≡ insert_before c p x t
  pub choice : (p : Probs) (suits : Candidate → Bool) (t : Table) → cheapest p suits t ≡ cheapest_before p suits t
  pub gaining : (p : Probs) (place best : ℕ) (least : Float) (bs : List Best) → All (Priced p) bs
      → most_gaining p place best least bs ≡ most_gaining_before p place best least bs
  pub told : (p : Probs) (x : Candidate) → is_price (cost_at p x) ≡ true → never_flag (cost_at p x) ≡ 0
      → cost_bits (cost_at p x) ≡ word_of_float (float_at p x)
