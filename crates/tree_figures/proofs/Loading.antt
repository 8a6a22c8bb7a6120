-- The figures of a record's children, one by one. Assumes nothing.
use Prim.Native.Nat.{ℕ, zero, suc, ◌+◌, ◌*◌, ◌-◌, ◌≤◌, ◌<◌}
use mathlib.Core.Bool.{Bool, true, false}
use mathlib.Core.List.{List, [], ◌∷◌, map}
use mathlib.Core.Path.{◌≡◌, refl, sym, ap, ◌∙◌}
use native.Mathlib.Omega.{arith}
use borrow.Author.Tests.{eqb-true, eqb-false, ltb-true, ltb-false}
use lib.Dec.{eqb, ltb}
use lib.ListN.{length, get_or, set, take, drop, replicate, length-set, length-map, length-drop, get_or-replicate, get_or-eq_default}
use lib.Seq.{get_or-set_same, get_or-set_other, get_or-take, ext_get_or, length-take-le}
use Rattle.figures.specs.declared.ExtData.{ExtData}
use Rattle.figure_rules.specs.ByKind.{blank, child}
use Rattle.tree_figures.specs.Memory.{figures_in, figures_at, Loaded}

pub load-start : (work numbers : List ℕ) {none : ExtData} → none ≡ blank → Loaded work numbers 0 (replicate 16 none)
load-start work numbers e =
    rw e (record { long = refl; each = λ j h. absurd (omega arith); past = λ j h. nothing j (ltb j 16) refl })
  where
    nothing : (j : ℕ) (b : Bool) → ltb j 16 ≡ b → get_or (replicate 16 blank) j blank ≡ blank
    nothing j true t = get_or-replicate 16 j blank blank (ltb-true j 16 t)
    nothing j false t = get_or-eq_default (replicate 16 blank) blank {n = j} (ltb-false j 16 t)

-- the part of work memory that a record has
pub part_at : (work : List ℕ) (i : ℕ) {x : ExtData} → x ≡ figures_in (take (16 * i + 16 - 16 * i) (drop (16 * i) work)) → x ≡ figures_at work i
unfolding figures_at
part_at work i e =
    let n : 16 * i + 16 - 16 * i ≡ 16 = omega arith in
    e ∙ ap (λ (m : ℕ). figures_in (take m (drop (16 * i) work))) n

module _ {work numbers : List ℕ} {n : ℕ} {out : List ExtData} (on : Loaded work numbers n out) where
  pub load-more : {x : ExtData} → n < 16 → x ≡ figures_at work (get_or numbers n 0) → Loaded work numbers (n + 1) (set out n x)
  load-more {x} l e =
      record {
        long = length-set out n x ∙ on.long;
        each = λ j h. by_place j (eqb j n) refl h;
        past = λ j h. get_or-set_other out n j x blank (λ e. omega arith) ∙ on.past j (omega arith);
      }
    where
      by_place : (j : ℕ) (b : Bool) → eqb j n ≡ b → j < n + 1 → get_or (set out n x) j blank ≡ figures_at work (get_or numbers j 0)
      by_place j true t h =
          let same = eqb-true j n t in
          rw same (get_or-set_same out n x blank (omega (arith, on.long)) ∙ e)
      by_place j false t h =
          get_or-set_other out n j x blank (eqb-false j n t) ∙ on.each j (omega (arith, eqb-false j n t))

  -- the loaded children are those of a list of the same numbers
  module _ (js : List ℕ) (same : take n numbers ≡ js) (many : n ≡ length js) (room : n ≤ 16) where
    pub number_is : (j : ℕ) → j < n → get_or numbers j 0 ≡ get_or js j 0
    number_is j h = sym (get_or-take n numbers j 0 h) ∙ ap (λ (l : List ℕ). get_or l j 0) same

    mapped : (js : List ℕ) (j : ℕ) → j < length js → get_or (map (figures_at work) js) j blank ≡ figures_at work (get_or js j 0)
    mapped [] j h = absurd (omega arith)
    mapped (k ∷ js) zero h = refl
    mapped (k ∷ js) (suc j) h = mapped js j (omega arith)

    pub loaded-child : (j : ℕ) → child out j ≡ child (map (figures_at work) js) j
    loaded-child j = by_place (ltb j n) refl
      where
        by_place : (b : Bool) → ltb j n ≡ b → child out j ≡ child (map (figures_at work) js) j
        by_place true t =
            let h = ltb-true j n t in
            on.each j h ∙ ap (figures_at work) (number_is j h) ∙ sym (mapped js j (omega arith))
        by_place false t =
            let h = ltb-false j n t in
            on.past j h ∙ sym (get_or-eq_default (map (figures_at work) js) blank {n = j} (omega (arith, length-map js (figures_at work))))

    pub loaded-all : take n out ≡ take n (map (figures_at work) js)
    loaded-all =
        let xs = map (figures_at work) js in
        let long-out : length (take n out) ≡ n = length-take-le n out (omega (arith, on.long)) in
        let long-xs : length (take n xs) ≡ n = length-take-le n xs (omega (arith, length-map js (figures_at work))) in
        ext_get_or blank (take n out) (take n xs) (long-out ∙ sym long-xs)
        (λ j h. get_or-take n out j blank (omega (arith, long-out)) ∙ loaded-child j ∙ sym (get_or-take n xs j blank (omega (arith, long-out))))

-- that part is sixteen words
pub part-long : (work : List ℕ) (i : ℕ) → 16 * i + 16 ≤ length work → length (take (16 * i + 16 - 16 * i) (drop (16 * i) work)) ≡ 16
part-long work i room =
    let n : 16 * i + 16 - 16 * i ≡ 16 = omega arith in
    ap (λ (m : ℕ). length (take m (drop (16 * i) work))) n ∙ length-take-le 16 (drop (16 * i) work) (omega (arith, length-drop (16 * i) work))
