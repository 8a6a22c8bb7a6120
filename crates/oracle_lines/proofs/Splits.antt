-- A text that a sign parts, piece by piece. Assumes nothing.
use mathlib.Core.Bool.{Bool, true, false, cond}
use mathlib.Core.List.{List, [], ◌∷◌, ◌++◌, append_assoc, append-nil}
use mathlib.Core.Path.{◌≡◌, refl, sym, ap, ◌∙◌}
use Prim.Native.Nat.{ℕ, suc, ◌+◌, ◌-◌, ◌<◌, ◌≤◌}
use native.Mathlib.Numerals.{add-one}
use native.Mathlib.Omega.{arith}
use borrow.Author.Tests.{eq-eqb, ne_eqb}
use lib.Dec.{eqb}
use lib.ListN.{length, drop, get_or, length-drop}
use lib.Seq.{take-suc, drop-cons, drop-length, get_or-drop}
use Rattle.oracle_lines.specs.Lines.{on_first, split, space}
use Rattle.std.specs.Prelude.{None, Some}
use Rattle.oracle_lines.specs.Reads.{part, EndsAt, SixWords, six, other}

-- ---- pieces

on_first-on_first : (p q : List ℕ) (ws : List (List ℕ)) → on_first p (on_first q ws) ≡ on_first (p ++ q) ws
on_first-on_first p q [] = refl
on_first-on_first p q (w ∷ ws) = ap (λ (l : List ℕ). l ∷ ws) (sym (append_assoc p q w))

on_first-nil : (sign : ℕ) (s : List ℕ) → on_first [] (split sign s) ≡ split sign s
unfolding split
on_first-nil sign [] = refl
on_first-nil sign (b ∷ s) = go (eqb b sign)
  where
    go : (t : Bool) → on_first [] (cond t ([] ∷ split sign s) (on_first (b ∷ []) (split sign s))) ≡ cond t ([] ∷ split sign s) (on_first (b ∷ []) (split sign s))
    go true = refl
    go false = on_first-on_first [] (b ∷ []) (split sign s)

split-cons : (sign b : ℕ) (s : List ℕ) → split sign (b ∷ s) ≡ cond (eqb b sign) ([] ∷ split sign s) (on_first (b ∷ []) (split sign s))
unfolding split
split-cons sign b s = refl

split-here : (sign b : ℕ) (s : List ℕ) → b ≡ sign → split sign (b ∷ s) ≡ [] ∷ split sign s
split-here sign b s e = split-cons sign b s ∙ rw (eq-eqb b sign e)

split-not-here : (sign b : ℕ) (s : List ℕ) → (b ≡ sign → ⊥) → split sign (b ∷ s) ≡ on_first (b ∷ []) (split sign s)
split-not-here sign b s other_sign = split-cons sign b s ∙ rw (ne_eqb b sign other_sign)

split-nil : (sign : ℕ) → split sign [] ≡ [] ∷ []
unfolding split
split-nil sign = refl

some-on_first : (p : List ℕ) (ws : List (List ℕ)) → 0 < length (on_first p ws)
some-on_first p [] = omega arith
some-on_first p (w ∷ ws) = omega arith

split-some : (sign : ℕ) (s : List ℕ) → 0 < length (split sign s)
split-some sign s = rw (← on_first-nil sign s) (some-on_first [] (split sign s))

-- ---- a piece that goes on

part-grows : (s : List ℕ) (from i : ℕ) → from ≤ i → i < length s → part s from (i + 1) ≡ part s from i ++ (get_or s i 0 ∷ [])
part-grows s from i h k =
    let e : i + 1 - from ≡ suc (i - from) = omega arith in
    let here : from + (i - from) ≡ i = omega arith in
    let there : i - from < length (drop from s) = omega (arith, length-drop from s) in
    rw (e, take-suc (drop from s) (i - from) 0 there, get_or-drop from s (i - from) 0, here)

-- a place that a piece has reached
pub record Reached (sign : ℕ) (s : List ℕ) (from i : ℕ) : Type 0 where
  pub after : from ≤ i
  pub within : i ≤ length s
  pub parts : split sign (drop from s) ≡ on_first (part s from i) (split sign (drop i s))

module _ (sign : ℕ) (s : List ℕ) (from : ℕ) where
  pub reached-first : from ≤ length s → Reached sign s from from
  reached-first h =
      let e : from - from ≡ 0 = omega arith in
      record { after = omega arith; within = h; parts = rw e (sym (on_first-nil sign (drop from s))) }

  pub reached-next : (i : ℕ) → Reached sign s from i → i < length s → (get_or s i 0 ≡ sign → ⊥) → Reached sign s from (i + 1)
  reached-next i r h other_sign = record {
    after = omega (arith, r.after);
    within = omega arith;
    parts = r.parts
        ∙ ap (λ (l : List ℕ). on_first (part s from i) (split sign l)) (drop-cons s i 0 h)
        ∙ ap (on_first (part s from i)) (split-not-here sign (get_or s i 0) (drop (suc i) s) other_sign)
        ∙ on_first-on_first (part s from i) (get_or s i 0 ∷ []) (split sign (drop (suc i) s))
        ∙ ap (λ (l : List ℕ). on_first l (split sign (drop (suc i) s))) (sym (part-grows s from i r.after h))
        ∙ ap (λ (n : ℕ). on_first (part s from (i + 1)) (split sign (drop n s))) (sym (add-one i));
  }

  pub ends-at-sign : (i : ℕ) → Reached sign s from i → i < length s → get_or s i 0 ≡ sign → EndsAt sign s from i
  ends-at-sign i r h same = record {
    after = r.after;
    within = r.within;
    last = λ e. absurd (omega arith);
    inner = λ _.
        r.parts
        ∙ ap (λ (l : List ℕ). on_first (part s from i) (split sign l)) (drop-cons s i 0 h)
        ∙ ap (on_first (part s from i)) (split-here sign (get_or s i 0) (drop (suc i) s) same)
        ∙ ap (λ (l : List ℕ). l ∷ split sign (drop (suc i) s)) (append-nil (part s from i))
        ∙ ap (λ (n : ℕ). part s from i ∷ split sign (drop n s)) (sym (add-one i));
  }

  pub ends-at-end : (i : ℕ) → Reached sign s from i → (i < length s → ⊥) → EndsAt sign s from i
  ends-at-end i r ended =
      let e : i ≡ length s = omega (arith, r.within) in
      record {
        after = r.after;
        within = r.within;
        last = λ _.
            r.parts
            ∙ ap (λ (l : List ℕ). on_first (part s from i) (split sign l)) (ap (λ (n : ℕ). drop n s) e ∙ drop-length s)
            ∙ ap (on_first (part s from i)) (split-nil sign)
            ∙ ap (λ (l : List ℕ). l ∷ []) (append-nil (part s from i));
        inner = λ h. absurd (ended h);
      }

  -- ---- how many pieces there are

  pub one_more : {to : ℕ} → EndsAt sign s from to → (to ≡ length s → ⊥)
      → length (split sign (drop from s)) ≡ suc (length (split sign (drop (to + 1) s)))
  one_more {to} p here = ap length (p.inner (omega (arith, p.within, here)))

  pub one_left : {to : ℕ} → EndsAt sign s from to → to ≡ length s → length (split sign (drop from s)) ≡ 1
  one_left p e = ap length (p.last e)

-- ---- six words

module _ (s : List ℕ) where
  not-six : (length (split space (drop 0 s)) ≡ 6 → ⊥) → SixWords s None
  not-six h = other (ne_eqb (length (split space s)) 6 h)

  module _ (a : ℕ) (p : EndsAt space s 0 a) where
    pub one_word : a ≡ length s → SixWords s None
    one_word e = not-six (λ h. omega (arith, one_left space s 0 p e))

    module _ (i : (a ≡ length s → ⊥)) (b : ℕ) (q : EndsAt space s (a + 1) b) where
      pub two-words : b ≡ length s → SixWords s None
      two-words e = not-six (λ h. omega (arith, one_more space s 0 p i, one_left space s (a + 1) q e))

      module _ (j : (b ≡ length s → ⊥)) (c : ℕ) (r : EndsAt space s (b + 1) c) where
        pub three-words : c ≡ length s → SixWords s None
        three-words e =
            not-six (λ h. omega (arith, one_more space s 0 p i, one_more space s (a + 1) q j, one_left space s (b + 1) r e))

        module _ (k : (c ≡ length s → ⊥)) (d : ℕ) (t : EndsAt space s (c + 1) d) where
          pub four-words : d ≡ length s → SixWords s None
          four-words e =
              not-six
              (λ h.
              omega
              (arith, one_more space s 0 p i, one_more space s (a + 1) q j, one_more space s (b + 1) r k, one_left space s (c + 1) t e))

          module _ (l : (d ≡ length s → ⊥)) (e : ℕ) (u : EndsAt space s (d + 1) e) where
            four-more : length (split space (drop 0 s)) ≡ 4 + length (split space (drop (d + 1) s))
            four-more =
                omega
                (arith, one_more space s 0 p i, one_more space s (a + 1) q j, one_more space s (b + 1) r k, one_more space s (c + 1) t l)

            pub five-words : e ≡ length s → SixWords s None
            five-words x = not-six (λ h. omega (arith, four-more, one_left space s (d + 1) u x))

            module _ (m : (e ≡ length s → ⊥)) (f : ℕ) (v : EndsAt space s (e + 1) f) where
              pub many-words : (f ≡ length s → ⊥) → SixWords s None
              many-words x =
                  not-six
                  (λ h.
                  omega
                  (arith, four-more, one_more space s (d + 1) u m, one_more space s (e + 1) v x, split-some space (drop (f + 1) s)))

              pub six-words : f ≡ length s → SixWords s (Some (record { a = a; b = b; c = c; d = d; e = e }))
              six-words x =
                  six
                  (record {
                    ab = omega (arith, q.after);
                    bc = omega (arith, r.after);
                    cd = omega (arith, t.after);
                    de = omega (arith, u.after);
                    inside = omega (arith, u.within, m);
                  })
                  (p.inner (omega (arith, p.within, i))
                  ∙ ap (λ (ws : List (List ℕ)). part s 0 a ∷ ws)
                  (q.inner (omega (arith, q.within, j))
                  ∙ ap (λ (ws : List (List ℕ)). part s (a + 1) b ∷ ws)
                  (r.inner (omega (arith, r.within, k))
                  ∙ ap (λ (ws : List (List ℕ)). part s (b + 1) c ∷ ws)
                  (t.inner (omega (arith, t.within, l))
                  ∙ ap (λ (ws : List (List ℕ)). part s (c + 1) d ∷ ws)
                  (u.inner (omega (arith, u.within, m))
                  ∙ ap (λ (ws : List (List ℕ)). part s (d + 1) e ∷ ws)
                  (v.last x ∙ ap (λ (n : ℕ). part s (e + 1) n ∷ []) x))))))
