-- Exchanging two trees exchanges the columns of their differences. Assumes nothing.
use Prim.Native.Nat.{ℕ}
use mathlib.Core.Bool.{Bool, true, false, ◌&&◌, cond}
use mathlib.Core.List.{List, [], ◌∷◌, ◌++◌, map}
use mathlib.Core.Path.{◌≡◌, refl, sym, ap, ◌∙◌}
use borrow.Author.Tests.{eqb-true, eqb-false, eq-eqb, ne_eqb}
use lib.Dec.{eqb}
use Rattle.walk.specs.Heads.{Head}
use Rattle.differ.specs.Numbered.{NumberedList, node, end, ◌▹◌}
use Rattle.differ.specs.Differences.{Difference, same_keys, same_head, same_count, differences, differences_in}
use Rattle.differ.specs.Laws.{exchange, Exchanges}

turn : (i j : ℕ) → eqb i j ≡ eqb j i
turn i j = by-test (eqb j i) refl
  where
    by-test : (b : Bool) → eqb j i ≡ b → eqb i j ≡ b
    by-test true e = eq-eqb i j (sym (eqb-true j i e))
    by-test false e = ne_eqb i j (λ s. eqb-false j i e (sym s))

keys-turn : (is js : List ℕ) → same_keys is js ≡ same_keys js is
unfolding same_keys
keys-turn [] [] = refl
keys-turn [] (j ∷ js) = refl
keys-turn (i ∷ is) [] = refl
keys-turn (i ∷ is) (j ∷ js) = rw (turn i j, keys-turn is js)

head-turn : (h g : Head) → same_head h g ≡ same_head g h
head-turn h g =
    rw (turn h.kind g.kind, turn h.number g.number, turn h.k g.k, keys-turn h.keys g.keys)

count_turn : (xs ys : NumberedList) → same_count xs ys ≡ same_count ys xs
unfolding same_count
count_turn end end = refl
count_turn end (y ▹ ys) = refl
count_turn (x ▹ xs) end = refl
count_turn (x ▹ xs) (y ▹ ys) = count_turn xs ys

map-append : (ds es : List Difference) → map exchange (ds ++ es) ≡ map exchange ds ++ map exchange es
map-append [] es = refl
map-append (d ∷ ds) es = ap (λ (l : List Difference). exchange d ∷ l) (map-append ds es)

exchange-if : (b : Bool) (ds es : List Difference) (d : Difference) → es ≡ map exchange ds
    → cond b es (exchange d ∷ []) ≡ map exchange (cond b ds (d ∷ []))
exchange-if true ds es d e = e
exchange-if false ds es d e = refl

mutual
  unfolding differences differences_in

  pub exchanges : Exchanges
  exchanges (node i h xs) (node j g ys) =
      rw (head-turn g h, count_turn ys xs)
      (exchange-if (same_head h g && same_count xs ys) (differences_in xs ys) (differences_in ys xs) (record { left = i; right = j }) (exchanges-in xs ys))

  exchanges-in : (xs ys : NumberedList) → differences_in ys xs ≡ map exchange (differences_in xs ys)
  exchanges-in end end = refl
  exchanges-in end (y ▹ ys) = refl
  exchanges-in (x ▹ xs) end = refl
  exchanges-in (x ▹ xs) (y ▹ ys) =
      ap (λ (l : List Difference). l ++ differences_in ys xs) (exchanges x y)
      ∙ ap (λ (l : List Difference). map exchange (differences x y) ++ l) (exchanges-in xs ys)
      ∙ sym (map-append (differences x y) (differences_in xs ys))
