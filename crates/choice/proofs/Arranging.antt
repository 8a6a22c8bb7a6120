-- The child that gains most, and the children in their row. Assumes nothing.
use mathlib.Core.Path.{◌≡◌, refl, sym, ◌∙◌, ap}
use mathlib.Core.Bool.{Bool, true, false, cond}
use mathlib.Core.List.{List, [], ◌∷◌}
use Prim.Native.Nat.{ℕ, zero, suc, ◌+◌, ◌<◌, ◌≤◌}
use native.Mathlib.Omega.{arith}
use native.Mathlib.Numerals.{add-one}
use borrow.Author.Tests.{ne_eqb, eq-eqb}
use lib.Ieee.{Float, inf, lt, binary64, div, of_bits}
use lib.ListN.{length, get_or, take, drop, set, drop_of_length-le}
use lib.Seq.{length-take-le, drop-cons, get_or-take, take-set-lt}
use Rattle.writing.specs.WellFormed.{AllBelow}
use Rattle.costs.specs.declared.Price.{Price}
use Rattle.costs.specs.Price.{excess}
use Rattle.definition.specs.Candidates.{Candidate}
use Rattle.definition.specs.Tables.{Probs, Table, cost_at}
use Rattle.definition.specs.Search.{Best, most_gaining, nth, others_as_w, arranged}
use Rattle.definition_laws.proofs.Steps.{most_gaining-gains, most_gaining-other}
use Rattle.memory.specs.Layout.{work_words, node_count}
use Rattle.nodes.specs.Views.{seen, seen_all}
use Rattle.choice.specs.Chosen.{price_at}
use Rattle.choice.specs.Arranged.{bests_of, gain_at, Gains, Arranges}
use Rattle.choice.proofs.Below.{below_at, below_set, seen-price}

pub infinite : div binary64 (of_bits binary64 0x3ff0_0000_0000_0000) (of_bits binary64 0) ≡ inf false
unfolding div of_bits
infinite = refl

-- ---- the child that gains most: of those from i on it is still to be found

pub record Gaining (m : List ℕ) (p : Probs) (es ws : List ℕ) (n best : ℕ) (least : Float) (i : ℕ) : Type 0 where
  pub es-long : length es ≡ 16
  pub ws-long : length ws ≡ 16
  pub room : n ≤ 16
  pub es-below : AllBelow (node_count m) (take n es)
  pub ws-below : AllBelow (node_count m) (take n ws)
  pub few : i ≤ n
  pub there : 1 ≤ n → best < n
  pub says : (pol : List ℕ) →
      most_gaining p i best least (bests_of pol m (drop i (take n es)) (drop i (take n ws)))
      ≡ most_gaining p 0 0 (inf false) (bests_of pol m (take n es) (take n ws))

module _ (m : List ℕ) (p : Probs) (es ws : List ℕ) (n : ℕ) where
  pub gaining-starts : length es ≡ 16 → length ws ≡ 16
      → (length m ≡ work_words) × ((n ≤ 16) × (AllBelow (node_count m) (take n es) × AllBelow (node_count m) (take n ws)))
      → (least : Float) → least ≡ inf false → Gaining m p es ws n 0 least 0
  gaining-starts es-long ws-long pre least is =
      record {
        es-long = es-long;
        ws-long = ws-long;
        room = pre.1.0;
        es-below = pre.1.1.0;
        ws-below = pre.1.1.1;
        few = omega arith;
        there = λ l. l;
        says = λ pol. rw is;
      }

module _ {m : List ℕ} {p : Probs} {es ws : List ℕ} {n best : ℕ} {least : Float} {i : ℕ} (h : Gaining m p es ws n best least i) where
  es-count : length (take n es) ≡ n
  es-count = length-take-le n es (omega (arith, h.es-long, h.room))

  ws-count : length (take n ws) ≡ n
  ws-count = length-take-le n ws (omega (arith, h.ws-long, h.room))

  module _ (l : i < n) where
    first : List ℕ → Best
    first pol = record { e = seen pol m (get_or es i 0); w = seen pol m (get_or ws i 0) }

    others : List ℕ → List Best
    others pol = bests_of pol m (drop (suc i) (take n es)) (drop (suc i) (take n ws))

    bests-from : (pol : List ℕ) → bests_of pol m (drop i (take n es)) (drop i (take n ws)) ≡ first pol ∷ others pol
    unfolding bests_of first others
    bests-from pol =
        rw (
          drop-cons (take n es) i 0 (omega (arith, es-count)),
          drop-cons (take n ws) i 0 (omega (arith, ws-count)),
          get_or-take n es i 0 l,
          get_or-take n ws i 0 l,
        )

    es-at : get_or es i 0 < node_count m
    es-at = rw (get_or-take n es i 0 l) at (below_at (node_count m) (take n es) i h.es-below (omega (arith, es-count)))

    ws-at : get_or ws i 0 < node_count m
    ws-at = rw (get_or-take n ws i 0 l) at (below_at (node_count m) (take n ws) i h.ws-below (omega (arith, ws-count)))

    module _ {d : Float} (is : d ≡ gain_at m p (get_or es i 0) (get_or ws i 0)) where
      gain-seen : (pol : List ℕ) → excess (cost_at p (first pol).e) (cost_at p (first pol).w) ≡ d
      unfolding first
      gain-seen pol =
          ap (λ (x : Price). excess x (cost_at p (seen pol m (get_or ws i 0)))) (seen-price pol m p (get_or es i 0) es-at)
          ∙ ap (λ (y : Price). excess (price_at m p (get_or es i 0)) y) (seen-price pol m p (get_or ws i 0) ws-at)
          ∙ sym is

      pub gaining-gains : lt d least ≡ true → {b : ℕ} {f : Float} → b ≡ i → f ≡ d → Gaining m p es ws n b f (i + 1)
      unfolding others
      gaining-gains t same-b same-f =
          rw (same-b, same-f, add-one i)
          (record {
            es-long = h.es-long;
            ws-long = h.ws-long;
            room = h.room;
            es-below = h.es-below;
            ws-below = h.ws-below;
            few = omega arith;
            there = λ one. l;
            says = λ pol.
                ap (λ (x : Float). most_gaining p (suc i) i x (others pol)) (sym (gain-seen pol))
                ∙ sym (most_gaining-gains p i best least (first pol) (others pol) (ap (λ (x : Float). lt x least) (gain-seen pol) ∙ t))
                ∙ ap (most_gaining p i best least) (sym (bests-from pol))
                ∙ h.says pol;
          })

      pub gaining-other : lt d least ≡ false → {b : ℕ} {f : Float} → b ≡ best → f ≡ least → Gaining m p es ws n b f (i + 1)
      unfolding others
      gaining-other t same-b same-f =
          rw (same-b, same-f, add-one i)
          (record {
            es-long = h.es-long;
            ws-long = h.ws-long;
            room = h.room;
            es-below = h.es-below;
            ws-below = h.ws-below;
            few = omega arith;
            there = h.there;
            says = λ pol.
                sym (most_gaining-other p i best least (first pol) (others pol) (ap (λ (x : Float). lt x least) (gain-seen pol) ∙ t))
                ∙ ap (most_gaining p i best least) (sym (bests-from pol))
                ∙ h.says pol;
          })

  pub gaining-ends : n ≤ i → Gains m p es ws n best
  unfolding bests_of most_gaining
  gaining-ends l =
      record {
        says = λ pol. rw (drop_of_length-le (take n es) {i = i} (omega (arith, es-count))) at (h.says pol);
        there = h.there;
      }

-- ---- the row

module _ (pol m : List ℕ) (b : Best) (w : ℕ) (is : b.w ≡ seen pol m w) where
  -- past the child that gains most, each other is its W
  others-past : (g place : ℕ) → g < place → (es ws : List ℕ) → length es ≡ length ws → others_as_w b g place (bests_of pol m es ws) ≡ seen_all pol m ws
  unfolding others_as_w bests_of
  others-past g place l [] [] long = refl
  others-past g place l [] (w₁ ∷ ws) long = absurd (omega arith)
  others-past g place l (e ∷ es) [] long = absurd (omega arith)
  others-past g place l (e ∷ es) (w₁ ∷ ws) long =
      ap (λ (t : Bool). cond t b.w (seen pol m w₁) ∷ others_as_w b g (suc place) (bests_of pol m es ws)) (ne_eqb place g (λ same. omega arith))
      ∙ ap (λ (xs : Table). seen pol m w₁ ∷ xs) (others-past g (suc place) (omega arith) es ws (omega arith))

  -- before it too, and in its place stands the first of all
  others-at : (j g place : ℕ) → g ≡ place + j → (es ws : List ℕ) → length es ≡ length ws
      → others_as_w b g place (bests_of pol m es ws) ≡ seen_all pol m (set ws j w)
  unfolding others_as_w bests_of
  others-at j g place same [] [] long = refl
  others-at j g place same [] (w₁ ∷ ws) long = absurd (omega arith)
  others-at j g place same (e ∷ es) [] long = absurd (omega arith)
  others-at zero g place same (e ∷ es) (w₁ ∷ ws) long =
      ap (λ (t : Bool). cond t b.w (seen pol m w₁) ∷ others_as_w b g (suc place) (bests_of pol m es ws)) (eq-eqb place g (omega arith))
      ∙ ap (λ (x : Candidate). x ∷ others_as_w b g (suc place) (bests_of pol m es ws)) is
      ∙ ap (λ (xs : Table). seen pol m w ∷ xs) (others-past g (suc place) (omega arith) es ws (omega arith))
  others-at (suc j) g place same (e ∷ es) (w₁ ∷ ws) long =
      ap (λ (t : Bool). cond t b.w (seen pol m w₁) ∷ others_as_w b g (suc place) (bests_of pol m es ws)) (ne_eqb place g (λ eq. omega arith))
      ∙ ap (λ (xs : Table). seen pol m w₁ ∷ xs) (others-at j g (suc place) (omega arith) es ws (omega arith))

nth_seen : (pol m : List ℕ) (b : Best) (g : ℕ) (es ws : List ℕ) → length es ≡ length ws → g < length es
    → (nth g b (bests_of pol m es ws)).e ≡ seen pol m (get_or es g 0)
unfolding bests_of
nth_seen pol m b g [] ws long l = absurd (omega arith)
nth_seen pol m b g (e ∷ es) [] long l = absurd (omega arith)
nth_seen pol m b zero (e ∷ es) (w ∷ ws) long l = refl
nth_seen pol m b (suc g) (e ∷ es) (w ∷ ws) long l = nth_seen pol m b g es ws (omega arith) (omega arith)

row_seen : (pol m : List ℕ) (g : ℕ) (es ws : List ℕ) → length es ≡ length ws → g < length es
    → seen_all pol m (set (set ws g (get_or ws 0 0)) 0 (get_or es g 0)) ≡ arranged g (bests_of pol m es ws)
unfolding bests_of arranged
row_seen pol m g [] ws long l = absurd (omega arith)
row_seen pol m g (e ∷ es) [] long l = absurd (omega arith)
row_seen pol m zero (e ∷ es) (w ∷ ws) long l =
    ap (λ (xs : Table). seen pol m e ∷ xs)
    (sym (others-past pol m (record { e = seen pol m e; w = seen pol m w }) w refl 0 1 (omega arith) es ws (omega arith)))
row_seen pol m (suc g) (e ∷ es) (w ∷ ws) long l =
    let b : Best = record { e = seen pol m e; w = seen pol m w } in
    ap (λ (x : Candidate). x ∷ seen_all pol m (set ws g w)) (sym (nth_seen pol m b g es ws (omega arith) (omega arith)))
    ∙ ap (λ (xs : Table). (nth g b (bests_of pol m es ws)).e ∷ xs) (sym (others-at pol m b w refl g (suc g) 1 (omega arith) es ws (omega arith)))

module _ (es ws : List ℕ) (n g : ℕ) (es-long : length es ≡ 16) (ws-long : length ws ≡ 16) (few : n ≤ 16) (there : g < n) where
  taken : (x y : ℕ) → take n (set (set ws g x) 0 y) ≡ set (set (take n ws) g x) 0 y
  taken x y = take-set-lt n (set ws g x) 0 y (omega arith) ∙ ap (λ (l : List ℕ). set l 0 y) (take-set-lt n ws g x there)

  firsts : set (set (take n ws) g (get_or ws 0 0)) 0 (get_or es g 0) ≡ set (set (take n ws) g (get_or (take n ws) 0 0)) 0 (get_or (take n es) g 0)
  firsts = rw (get_or-take n ws 0 0 (omega arith), get_or-take n es g 0 there)

  pub arranges : {row : List ℕ} → row ≡ set (set ws g (get_or ws 0 0)) 0 (get_or es g 0) → Arranges es ws n g row
  arranges {row} is =
      let long-es : length (take n es) ≡ n = length-take-le n es (omega arith) in
      let long-ws : length (take n ws) ≡ n = length-take-le n ws (omega arith) in
      let same : take n row ≡ set (set (take n ws) g (get_or (take n ws) 0 0)) 0 (get_or (take n es) g 0) =
      ap (take n) is ∙ taken (get_or ws 0 0) (get_or es g 0) ∙ firsts in
      record {
        says = λ pol m. ap (seen_all pol m) same ∙ row_seen pol m g (take n es) (take n ws) (omega arith) (omega arith);
        below = λ bound h k.
            rw same
            (below_set bound (set (take n ws) g (get_or (take n ws) 0 0)) 0 (get_or (take n es) g 0)
            (below_set bound (take n ws) g (get_or (take n ws) 0 0) k (below_at bound (take n ws) 0 k (omega arith)))
            (below_at bound (take n es) g h (omega arith)));
      }
