-- A text line by line, and what a line says. Assumes nothing.
use mathlib.Core.Bool.{Bool, true, false, cond}
use mathlib.Core.List.{List, [], ◌∷◌}
use Rattle.std.specs.Prelude.{None, Some}
use mathlib.Core.Path.{◌≡◌, refl, sym, ap, subst, ◌∙◌}
use Prim.Native.Nat.{ℕ, suc, ◌+◌, ◌-◌, ◌<◌, ◌≤◌}
use native.Mathlib.Omega.{arith}
use borrow.Author.Tests.{eq-eqb, ne_eqb}
use lib.Dec.{eqb}
use lib.ListN.{length, get_or, take, drop, length-drop, drop_of_length-le}
use lib.Seq.{drop-cons, drop-drop}
use Rattle.numerals.specs.Numbers.{decimal}
use Rattle.witness_lines.specs.Lines.{index_of, newline, space, on_first, lines_of, part, EndsAt, input, named, with_context, line_of, Reads}

-- ---- where a byte stands first

pub index_none : (sign : ℕ) → index_of sign [] ≡ 0
unfolding index_of
index_none sign = refl

index_cons : (sign b : ℕ) (s : List ℕ) → index_of sign (b ∷ s) ≡ cond (eqb b sign) 0 (suc (index_of sign s))
unfolding index_of
index_cons sign b s = refl

-- at a place, where the byte stands there, and where it doesn't
pub index_here : (text : List ℕ) (at sign : ℕ) → at < length text → get_or text at 0 ≡ sign → index_of sign (drop at text) ≡ 0
index_here text at sign h e =
    ap (index_of sign) (drop-cons text at 0 h) ∙ index_cons sign (get_or text at 0) (drop (suc at) text) ∙ rw (eq-eqb (get_or text at 0) sign e)

pub index_later : (text : List ℕ) (at sign : ℕ) → at < length text → (get_or text at 0 ≡ sign → ⊥)
    → index_of sign (drop at text) ≡ suc (index_of sign (drop (at + 1) text))
index_later text at sign h e =
    let next : suc at ≡ at + 1 = omega arith in
    subst (λ (k : ℕ). index_of sign (drop at text) ≡ suc (index_of sign (drop k text))) next
    (ap (index_of sign) (drop-cons text at 0 h) ∙ index_cons sign (get_or text at 0) (drop (suc at) text) ∙ rw (ne_eqb (get_or text at 0) sign e))

pub index_end : (text : List ℕ) (at sign : ℕ) → length text ≤ at → index_of sign (drop at text) ≡ 0
index_end text at sign h = ap (index_of sign) (drop_of_length-le text {i = at} h) ∙ index_none sign

-- ---- the first line of a text

pub lines_none : lines_of [] ≡ []
unfolding lines_of
lines_none = refl

lines_cons : (b : ℕ) (s : List ℕ) → lines_of (b ∷ s) ≡ cond (eqb b newline) ([] ∷ lines_of s) (on_first b (lines_of s))
unfolding lines_of
lines_cons b s = refl

-- the bytes before a place, and the lines after it
abbrev cut : List ℕ → ℕ → List (List ℕ)
cut s k = take k s ∷ lines_of (drop (suc k) s)

-- a byte before what is cut
by_sign : (b : ℕ) (s : List ℕ) (t : Bool) → (t ≡ false → on_first b (lines_of s) ≡ cut (b ∷ s) (suc (index_of newline s)))
    → cond t ([] ∷ lines_of s) (on_first b (lines_of s)) ≡ cut (b ∷ s) (cond t 0 (suc (index_of newline s)))
by_sign b s true h = refl
by_sign b s false h = h refl

-- a byte that is no newline begins the line that follows it
goes_on : (b : ℕ) (s : List ℕ) → (0 < length s → lines_of s ≡ cut s (index_of newline s)) → on_first b (lines_of s) ≡ cut (b ∷ s) (suc (index_of newline s))
goes_on b [] h = rw (lines_none, index_none newline)
goes_on b (c ∷ s) h = ap (on_first b) (h (omega arith))

first_of : (s : List ℕ) → 0 < length s → lines_of s ≡ cut s (index_of newline s)
first_of [] h = absurd (omega arith)
first_of (b ∷ s) h = lines_cons b s ∙ by_sign b s (eqb b newline) (λ _. goes_on b s (first_of s)) ∙ sym (ap (cut (b ∷ s)) (index_cons newline b s))

pub line-ends : (text : List ℕ) (at end : ℕ) → at < length text → end ≡ at + index_of newline (drop at text) → end ≤ length text → EndsAt text at end
line-ends text at end h e within =
    let rest = drop at text in
    let k = index_of newline rest in
    let long : end - at ≡ k = omega arith in
    let next : at + suc k ≡ end + 1 = omega arith in
    record {
      after = omega arith;
      within = within;
      goes = first_of rest (omega (arith, length-drop at text))
          ∙ ap (λ (n : ℕ). take n rest ∷ lines_of (drop (suc k) rest)) (sym long)
          ∙ ap (λ (s : List ℕ). part text at end ∷ lines_of s) (drop-drop (suc k) at text ∙ ap (λ (n : ℕ). drop n text) next);
    }

-- ---- what a line says

module _ (l : List ℕ) (at : ℕ) (e : at ≡ 0 + index_of space (drop 0 l)) where
  place : index_of space l ≡ at
  place = sym (omega (arith, e))

  said : line_of l ≡ with_context (decimal (take at l)) (drop (at + 1) l)
  unfolding line_of
  said = ap (λ (n : ℕ). with_context (decimal (take n l)) (drop (n + 1) l)) place

  pub no-context : decimal (take at l) ≡ None → Reads l None
  no-context d = record { says = sym (said ∙ rw d); within = omega arith }

  module _ {context : ℕ} (d : decimal (take at l) ≡ Some context) where
    pub no-path : length l ≤ at + 1 → Reads l None
    no-path h =
        let ended : drop (at + 1) l ≡ [] = drop_of_length-le l {i = at + 1} h in
        record { says = sym (said ∙ rw (d, ended)); within = omega arith }

    pub an-input : at + 1 < length l → Reads l (Some (record { context = context; path = at + 1 }))
    an-input h =
        let more : 0 < length (drop (at + 1) l) = omega (arith, length-drop (at + 1) l) in
        record { says = sym (said ∙ rw d (some-path (drop (at + 1) l) more)); within = omega arith }
      where
        some-path : (p : List ℕ) → 0 < length p → named context p ≡ input context p
        some-path [] h = absurd (omega arith)
        some-path (b ∷ p) h = refl
