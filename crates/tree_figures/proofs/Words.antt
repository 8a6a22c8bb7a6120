-- Figures in work memory: words are read back, and each record's sixteen are its own. Assumes nothing.
use Rattle.figures.specs.declared.SatData.{SatData}
use Rattle.std.specs.Prelude.{Option, None, Some}
use Prim.Native.Nat.{ℕ, zero, suc, ◌+◌, ◌*◌, ◌-◌, ◌≤◌, ◌<◌}
use mathlib.Core.Bool.{Bool, true, false}
use mathlib.Core.List.{List, [], ◌∷◌, ◌++◌}
use mathlib.Core.Path.{◌≡◌, refl, sym, ap, ◌∙◌}
use native.Mathlib.Omega.{arith}
use lib.ListN.{length, get_or, take, drop, length-append, length-drop}
use lib.Seq.{length-take-le, take_at, drop_at, take-append-le, drop-append-le, take-take, take-nil}
use Rattle.figures.specs.declared.ExtData.{ExtData}
use Rattle.figures.specs.Rules.{num, ext}
use Rattle.tree_figures.specs.Memory.{sat_words, figure_words, figures_in, figures_at, put_figures}

-- ---- words and back

pub six : (a b : Option SatData) (w x y z : ℕ)
    → w ∷ x ∷ y ∷ z ∷ get_or (sat_words a) 0 0 ∷ get_or (sat_words a) 1 0 ∷ get_or (sat_words a) 2 0 ∷ get_or (sat_words a) 3 0 ∷ get_or (sat_words a) 4 0
    ∷ get_or (sat_words a) 5 0 ∷ get_or (sat_words b) 0 0 ∷ get_or (sat_words b) 1 0 ∷ get_or (sat_words b) 2 0 ∷ get_or (sat_words b) 3 0 ∷ get_or (sat_words b) 4 0
    ∷ get_or (sat_words b) 5 0 ∷ [] ≡ w ∷ x ∷ y ∷ z ∷ (sat_words a ++ sat_words b)
six (Some d) (Some e) w x y z = refl
six (Some d) None w x y z = refl
six None (Some e) w x y z = refl
six None None w x y z = refl

back : (cost : ℕ) (free : Bool) (ops : ℕ) (a b : Option SatData) (height : ℕ)
    → figures_in (cost ∷ num free ∷ ops ∷ height ∷ (sat_words a ++ sat_words b)) ≡ ext cost free ops a b height
back cost true ops (Some d) (Some e) height = refl
back cost true ops (Some d) None height = refl
back cost true ops None (Some e) height = refl
back cost true ops None None height = refl
back cost false ops (Some d) (Some e) height = refl
back cost false ops (Some d) None height = refl
back cost false ops None (Some e) height = refl
back cost false ops None None height = refl

pub words_back : (x : ExtData) → figures_in (figure_words x) ≡ x
words_back x = back x.pk_cost x.has_free_verify x.static_ops x.sat_data x.dissat_data x.tree_height

sat-long : (a : Option SatData) → length (sat_words a) ≡ 6
sat-long (Some d) = refl
sat-long None = refl

pub words_long : (x : ExtData) → length (figure_words x) ≡ 16
words_long x =
    let joined : length (sat_words x.sat_data ++ sat_words x.dissat_data) ≡ length (sat_words x.sat_data) + length (sat_words x.dissat_data) =
    length-append (sat_words x.sat_data) (sat_words x.dissat_data) in
    omega (arith, joined, sat-long x.sat_data, sat-long x.dissat_data)

-- ---- a record's own words

module _ (work : List ℕ) (i : ℕ) (x : ExtData) (room : 16 * i + 16 ≤ length work) where
  front : length (take (16 * i) work) ≡ 16 * i
  front = length-take-le (16 * i) work (omega arith)

  pub put-long : length (put_figures work i x) ≡ length work
  unfolding put_figures
  put-long =
      let a = length-append (take (16 * i) work) (figure_words x ++ drop (16 * i + 16) work) in
      let b = length-append (figure_words x) (drop (16 * i + 16) work) in
      omega (arith, a, b, front, words_long x, length-drop (16 * i + 16) work)

  pub put_same : figures_at (put_figures work i x) i ≡ x
  unfolding figures_at put_figures
  put_same =
      ap (λ (xs : List ℕ). figures_in (take 16 xs)) (drop_at (take (16 * i) work) (figure_words x ++ drop (16 * i + 16) work) (16 * i) front)
      ∙ ap figures_in (take_at (figure_words x) (drop (16 * i + 16) work) 16 (words_long x)) ∙ words_back x

  pub put-before : (j : ℕ) → j < i → figures_at (put_figures work i x) j ≡ figures_at work j
  unfolding figures_at put_figures
  put-before j l =
      let tail = figure_words x ++ drop (16 * i + 16) work in
      let split : drop (16 * j) (take (16 * i) work ++ tail) ≡ drop (16 * j) (take (16 * i) work) ++ tail =
      drop-append-le (16 * j) (take (16 * i) work) tail (omega (arith, front)) in
      let size : length (drop (16 * j) (take (16 * i) work)) ≡ 16 * i - 16 * j = length-drop (16 * j) (take (16 * i) work) ∙ ap (λ (n : ℕ). n - 16 * j) front in
      ap (λ (xs : List ℕ). figures_in (take 16 xs)) split
      ∙ ap figures_in (take-append-le 16 (drop (16 * j) (take (16 * i) work)) tail (omega (arith, size)))
      ∙ ap (λ (xs : List ℕ). figures_in (take 16 xs)) (drop-take (16 * j) (16 * i) work (omega arith))
      ∙ ap figures_in (take-take 16 (16 * i - 16 * j) (drop (16 * j) work) (omega arith))
    where
      drop-take : (a b : ℕ) (xs : List ℕ) → a ≤ b → drop a (take b xs) ≡ take (b - a) (drop a xs)
      drop-take zero b xs l =
          let e : b - 0 ≡ b = omega arith in
          rw e
      drop-take (suc a) zero xs l = absurd (omega arith)
      drop-take (suc a) (suc b) [] l = sym (take-nil (suc b - suc a))
      drop-take (suc a) (suc b) (x ∷ xs) l =
          let e : suc b - suc a ≡ b - a = omega arith in
          drop-take a b xs (omega arith) ∙ ap (λ (n : ℕ). take n (drop a xs)) (sym e)
