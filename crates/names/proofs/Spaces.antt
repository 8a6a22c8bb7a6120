-- Closing up a row of places, a place further. Assumes nothing.
use mathlib.Core.Path.{◌≡◌, refl, sym, ◌∙◌}
use mathlib.Core.List.{List, ◌++◌, append_assoc, append-nil}
use Prim.Native.Nat.{ℕ, suc, ◌+◌, ◌<◌, ◌≤◌}
use native.Mathlib.Numerals.{add-one}
use native.Mathlib.Omega.{arith}
use borrow.Author.Tests.{eq-eqb, ne_eqb}
use lib.ListN.{length, get_or, drop, take, set, length-set}
use lib.Seq.{drop-cons, drop-length, take-suc-set, drop-set-lt}
use Rattle.names.specs.Text.{space, without_spaces}

-- n bytes are kept, and the places from i on are still to be looked at
pub record Closing (text₀ text : List ℕ) (n i : ℕ) : Type 0 where
  pub kept : n ≤ i
  pub within : i ≤ length text
  pub long : length text ≡ length text₀
  pub to-come : take n text ++ without_spaces (drop i text) ≡ without_spaces text₀

pub starts : (text : List ℕ) → Closing text text 0 0
starts text = record { kept = omega arith; within = omega arith; long = refl; to-come = refl }

module _ (text₀ text : List ℕ) (n i : ℕ) (at : Closing text₀ text n i) (inside : i < length text) where
  pub skips : get_or text i 0 ≡ space → Closing text₀ text n (i + 1)
  unfolding without_spaces
  skips e =
      record {
        kept = omega (arith, at.kept);
        within = omega arith;
        long = at.long;
        to-come = rw add-one (rw (drop-cons text i 0 inside, eq-eqb (get_or text i 0) space e) at at.to-come);
      }

  pub keeps : (get_or text i 0 ≡ space → ⊥) → Closing text₀ (set text n (get_or text i 0)) (n + 1) (i + 1)
  unfolding without_spaces
  keeps e =
      record {
        kept = omega (arith, at.kept);
        within = rw length-set (omega arith);
        long = rw length-set at.long;
        to-come =
            rw (
              add-one n,
              add-one i,
              take-suc-set text n (get_or text i 0) (omega (arith, at.kept)),
              drop-set-lt (suc i) text n (get_or text i 0) (omega (arith, at.kept)),
              append_assoc,
            )
            (rw (drop-cons text i 0 inside, ne_eqb (get_or text i 0) space e) at at.to-come);
      }

pub ends : (text₀ text : List ℕ) (n i : ℕ) → Closing text₀ text n i → length text ≤ i → take n text ≡ without_spaces text₀
unfolding without_spaces
ends text₀ text n i at m =
    let e : i ≡ length text = omega (arith, at.within) in
    sym (append-nil (take n text)) ∙ (rw (e, drop-length text) at at.to-come)

pub counted : (text₀ text : List ℕ) (n i : ℕ) → Closing text₀ text n i → n ≤ length text
counted text₀ text n i at = omega (arith, at.kept, at.within)
