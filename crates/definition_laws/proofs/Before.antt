-- What compile asks of costs is answered as it was before never was told from dear. Assumes nothing.
use mathlib.Core.Bool.{Bool, true, false, not, cond, ◌&&◌}
use mathlib.Core.List.{List, [], ◌∷◌}
use Rattle.std.specs.Prelude.{Option, None, Some}
use mathlib.Core.Path.{◌≡◌, refl, sym, ap, ◌∙◌}
use Prim.Native.Nat.{ℕ, suc}
use lib.Dec.{T}
use lib.Ieee.{Float, binary64, fits, lt}
use lib.Ieee.Fits.{add-fits}
use Rattle.contexts.specs.declared.Context.{Context}
use Rattle.words.specs.Floats.{word_of_float, is_cost}
use Rattle.costs.specs.Arithmetic.{◌⊖◌}
use Rattle.costs.specs.Price.{price_of, is_price, at_most, excess, cost_bits, never_flag}
use Rattle.costs.specs.Cost1d.{total1d, cost1d}
use Rattle.costs.proofs.PriceLaws.{at-most-bits, is-price, told-bits, SameChoice, same, none as neither, excess-as-floats}
use Rattle.definition.specs.Candidates.{Candidate}
use Rattle.definition.specs.Tables.{Probs, Table, cost_at, key_sub}
use Rattle.definition.specs.Refusals.{M, refuse, NotACost}
use Rattle.definition.specs.Insertion.{any, filter, worthwhile, beats, Offered, turned_away, entered, insert}
use Rattle.definition.specs.Search.{cheaper, cheapest, Best, most_gaining}
use Rattle.definition_laws.specs.Laws.{All, nobody, ◌and◌}
use Rattle.definition_laws.specs.Before.{float_at, cost_le, beats_before, insert_before, cheaper_before, cheapest_before, most_gaining_before, Priced, AsBefore}
use Rattle.definition_laws.proofs.Steps.{priced-is}

module _ (p : Probs) where
  float_fits : (x : Candidate) → T (fits binary64 (float_at p x))
  unfolding total1d
  float_fits x = add-fits binary64 _ _

  at-most-as : (x y : Candidate) → at_most (cost_at p x) (cost_at p y) ≡ cost_le (float_at p x) (float_at p y)
  unfolding cost1d
  at-most-as x y = at-most-bits (float_at p x) (float_at p y) (float_fits x) (float_fits y)

  is-price-as : (x : Candidate) → is_price (cost_at p x) ≡ is_cost (float_at p x)
  unfolding cost1d
  is-price-as x = is-price (float_at p x)

  beats-as : (x y : Candidate) → beats p x y ≡ beats_before p x y
  beats-as x y = ap (λ (b : Bool). key_sub x y && b) (at-most-as x y)

-- ---- insertion

module _ {f g : Candidate → Bool} (h : (x : Candidate) → f x ≡ g x) where
  any-as : (t : Table) → any f t ≡ any g t
  unfolding any
  any-as [] = refl
  any-as (x ∷ xs) = ap (λ (b : Bool). cond b true (any f xs)) (h x) ∙ ap (λ (b : Bool). cond (g x) true b) (any-as xs)

  filter-as : (t : Table) → filter f t ≡ filter g t
  unfolding filter
  filter-as [] = refl
  filter-as (x ∷ xs) =
      ap (λ (b : Bool). cond b (x ∷ filter f xs) (filter f xs)) (h x)
      ∙ ap (λ (t : Table). cond (g x) (x ∷ t) t) (filter-as xs)

insert-as : (c : Context) (p : Probs) (x : Candidate) (t : Table) → insert c p x t ≡ insert_before c p x t
unfolding insert
insert-as c p x t =
    ap (λ (m : M Offered). cond (worthwhile c x) m (turned_away t))
    (priced-is (cost_at p x) _
    ∙ ap (λ (b : Bool). cond b (cond (any (λ e. beats p e x) t) (turned_away t) (entered x (filter (λ e. not (beats p x e)) t))) (refuse NotACost))
    (is-price-as p x)
    ∙ ap (λ (m : M Offered). cond (is_cost (float_at p x)) m (refuse NotACost))
    (ap (λ (b : Bool). cond b (turned_away t) (entered x (filter (λ e. not (beats p x e)) t))) (any-as (λ e. beats-as p e x) t)
    ∙ ap (λ (u : Table). cond (any (λ e. beats_before p e x) t) (turned_away t) (entered x u)) (filter-as (λ e. ap not (beats-as p x e)) t)))

-- ---- the choice of the cheapest

module _ (p : Probs) (suits : Candidate → Bool) where
  cheaper-as : (x : Candidate) (o : Option Candidate) → cheaper p x o ≡ cheaper_before p x o
  cheaper-as x None = refl
  cheaper-as x (Some y) = ap (λ (b : Bool). cond b x y) (at-most-as p x y)

  cheapest-as : (t : Table) → cheapest p suits t ≡ cheapest_before p suits t
  unfolding cheapest cheapest_before
  cheapest-as [] = refl
  cheapest-as (x ∷ xs) =
      ap (λ (y : Candidate). cond (suits x) (Some y) (cheapest p suits xs)) (cheaper-as x (cheapest p suits xs))
      ∙ ap (λ (o : Option Candidate). cond (suits x) (Some (cheaper_before p x o)) o) (cheapest-as xs)

-- ---- a Thresh's E against W

module _ (p : Probs) where
  choice-as : (b : Best) → Priced p b → SameChoice (float_at p b.e) (float_at p b.w)
  choice-as b h =
      excess-as-floats (float_at p b.e) (float_at p b.w) (sym (is-price-as p b.e) ∙ h.0) (sym (is-price-as p b.w) ∙ h.1)

  gaining-as : (place best : ℕ) (least : Float) (bs : List Best) → All (Priced p) bs
      → most_gaining p place best least bs ≡ most_gaining_before p place best least bs
  unfolding most_gaining most_gaining_before cost1d
  gaining-as place best least [] nobody = refl
  gaining-as place best least (b ∷ bs) (h and hs) =
      by-choice (gaining-as (suc place) place d bs hs) (gaining-as (suc place) best least bs hs) (choice-as b h)
    where
      d : Float
      d = float_at p b.e ⊖ float_at p b.w

      x : Float
      x = excess (cost_at p b.e) (cost_at p b.w)

      by-choice : most_gaining p (suc place) place d bs ≡ most_gaining_before p (suc place) place d bs
          → most_gaining p (suc place) best least bs ≡ most_gaining_before p (suc place) best least bs
          → SameChoice (float_at p b.e) (float_at p b.w)
          → cond (lt x least) (most_gaining p (suc place) place x bs) (most_gaining p (suc place) best least bs)
          ≡ cond (lt d least) (most_gaining_before p (suc place) place d bs) (most_gaining_before p (suc place) best least bs)
      by-choice picked other (same e) =
          ap (λ (y : Float). cond (lt y least) (most_gaining p (suc place) place y bs) (most_gaining p (suc place) best least bs)) e
          ∙ ap (λ (n : ℕ). cond (lt d least) n (most_gaining p (suc place) best least bs)) picked
          ∙ ap (λ (n : ℕ). cond (lt d least) (most_gaining_before p (suc place) place d bs) n) other
      by-choice picked other (neither f g) =
          ap (λ (t : Bool). cond t (most_gaining p (suc place) place x bs) (most_gaining p (suc place) best least bs)) (f least)
          ∙ other
          ∙ ap (λ (t : Bool). cond t (most_gaining_before p (suc place) place d bs) (most_gaining_before p (suc place) best least bs)) (sym (g least))

told-as : (p : Probs) (x : Candidate) → is_price (cost_at p x) ≡ true → never_flag (cost_at p x) ≡ 0 → cost_bits (cost_at p x) ≡ word_of_float (float_at p x)
unfolding cost1d
told-as p x h k = told-bits (float_at p x) (sym (is-price-as p x) ∙ h) k

pub as_before : AsBefore
as_before = record { insertion = insert-as; choice = cheapest-as; gaining = gaining-as; told = told-as }
