-- What six words say, one after the other. Assumes nothing.
use mathlib.Core.List.{List, [], ◌∷◌}
use Rattle.std.specs.Prelude.{Option, None, Some}
use mathlib.Core.Path.{◌≡◌, refl, sym, ap, subst, ◌∙◌}
use Prim.Native.Nat.{ℕ, ◌+◌, ◌≤◌}
use native.Mathlib.Omega.{arith}
use borrow.Author.Tests.{eq-eqb, ne_eqb}
use lib.ListN.{length, take, get_or}
use Rattle.oracle_lines.specs.Lines.{Line, says, records, dash, Told, finite, cost, hash, space, split, said_by, line_of}
use Rattle.numerals.specs.Numbers.{decimal, bits}
use Rattle.oracle_lines.specs.Reads.{part, Reads, reads, misses, InOrder, SixWords, six, other, said_at, Tells, passes, breaks}
use Rattle.oracle_lines.specs.declared.Ends.{Ends}
use Rattle.oracle_lines.specs.declared.Case.{Case}

-- ---- what the readers of records tell

pub told-bytes : {o : Option (List ℕ)} {room : List ℕ} {r : Option ℕ} {n : ℕ} → Reads o room r → r ≡ Some n
    → (o ≡ Some (take n room)) × (n ≤ length room)
told-bytes {o} {room} {r} {n} (reads {n = m} e h t) q =
    let same : m ≡ n = cc in
    (e ∙ ap Some (sym t ∙ ap (λ (k : ℕ). take k room) same), omega arith)
told-bytes (misses e) q = absurd (let z : ◌≡◌ {A = ℕ} 0 1 = cc in omega arith)

pub told-no-bytes : {o : Option (List ℕ)} {room : List ℕ} {r : Option ℕ} → Reads o room r → r ≡ None → o ≡ None
told-no-bytes (reads e h t) q = absurd (let z : ◌≡◌ {A = ℕ} 0 1 = cc in omega arith)
told-no-bytes (misses e) q = e

-- ---- a cost

pub never-word : (w : List ℕ) → length w ≡ 1 → get_or w 0 0 ≡ dash → Some (record { bits = 0; never = 1 }) ≡ cost w
unfolding cost
never-word [] h e = absurd (omega arith)
never-word (b ∷ []) h e = sym (rw (eq-eqb b dash e))
never-word (b ∷ l ∷ s) h e = absurd (omega arith)

pub no-cost : (w : List ℕ) → length w ≡ 1 → (get_or w 0 0 ≡ dash → ⊥) → None ≡ cost w
unfolding cost
no-cost [] h e = absurd (omega arith)
no-cost (b ∷ []) h e = sym (rw (ne_eqb b dash e))
no-cost (b ∷ l ∷ s) h e = absurd (omega arith)

pub bits-word : (w : List ℕ) → (length w ≡ 1 → ⊥) → finite (bits w) ≡ cost w
unfolding cost bits
bits-word [] h = refl
bits-word (b ∷ []) h = absurd (h refl)
bits-word (b ∷ l ∷ s) h = refl

module _ (w : List ℕ) (long : length w ≡ 1 → ⊥) where
  pub bits-told : {b : ℕ} → Some b ≡ bits w → Some (record { bits = b; never = 0 }) ≡ cost w
  bits-told e = ap finite e ∙ bits-word w long

  pub bits-missing : None ≡ bits w → None ≡ cost w
  bits-missing e = ap finite e ∙ bits-word w long

-- ---- the six words

module _ (line : List ℕ) (w : Ends) where
  module _ (policy output : List ℕ) where
    pub stops-0 : decimal (part line 0 w.a) ≡ None → Tells (said_at line w) policy output Case.Broken
    stops-0 x = breaks (rw x)

    module _ {v0 : ℕ} (x0 : decimal (part line 0 w.a) ≡ Some v0) where
      pub stops-1 : records (part line (w.a + 1) w.b) ≡ None → Tells (said_at line w) policy output Case.Broken
      stops-1 x = breaks (rw (x0, x))

      module _ {v1 : List ℕ} (x1 : records (part line (w.a + 1) w.b) ≡ Some v1) where
        pub stops-2 : decimal (part line (w.b + 1) w.c) ≡ None → Tells (said_at line w) policy output Case.Broken
        stops-2 x = breaks (rw (x0, x1, x))

        module _ {v2 : ℕ} (x2 : decimal (part line (w.b + 1) w.c) ≡ Some v2) where
          pub stops-3 : records (part line (w.c + 1) w.d) ≡ None → Tells (said_at line w) policy output Case.Broken
          stops-3 x = breaks (rw (x0, x1, x2, x))

          module _ {v3 : List ℕ} (x3 : records (part line (w.c + 1) w.d) ≡ Some v3) where
            pub stops-4 : cost (part line (w.d + 1) w.e) ≡ None → Tells (said_at line w) policy output Case.Broken
            stops-4 x = breaks (rw (x0, x1, x2, x3, x))

            module _ {v4 : Told} (x4 : cost (part line (w.d + 1) w.e) ≡ Some v4) where
              pub stops-5 : decimal (part line (w.e + 1) (length line)) ≡ None → Tells (said_at line w) policy output Case.Broken
              stops-5 x = breaks (rw (x0, x1, x2, x3, x4, x))

              pub says_all : {v5 : ℕ} → decimal (part line (w.e + 1) (length line)) ≡ Some v5 → said_at line w ≡ says v0 v1 v2 v3 v4.bits v4.never v5
              says_all x = rw (x0, x1, x2, x3, x4, x)

-- ---- the words of a line

module _ (line : List ℕ) where
  pub told-six : {w : Ends} → SixWords line (Some w) → InOrder w (length line) × (said_at line w ≡ said_by (split space line))
  told-six (six order s) = (order, rw s)

  pub told-other : {policy output : List ℕ} → SixWords line None → Tells (said_by (split space line)) policy output Case.Broken
  told-other (other f) = breaks (rw f)

pub told-as : {l l' : Line} {policy output : List ℕ} {r : Case} → l ≡ l' → Tells l policy output r → Tells l' policy output r
told-as {l} {l'} {policy} {output} {r} e h = subst (λ (x : Line). Tells x policy output r) e h

-- ---- lines that are passed over

pub blank : (line : List ℕ) {policy output : List ℕ} → length line ≡ 0 → Tells (line_of line) policy output Case.Passed
unfolding line_of
blank [] h = passes refl
blank (b ∷ s) h = absurd (omega arith)

pub heading : (line : List ℕ) {policy output : List ℕ} → (length line ≡ 0 → ⊥) → get_or line 0 0 ≡ hash → Tells (line_of line) policy output Case.Passed
unfolding line_of
heading [] h e = absurd (h refl)
heading (b ∷ s) h e = passes (rw (eq-eqb b hash e))

pub case-line : (line : List ℕ) → (length line ≡ 0 → ⊥) → (get_or line 0 0 ≡ hash → ⊥) → said_by (split space line) ≡ line_of line
unfolding line_of
case-line [] h e = absurd (h refl)
case-line (b ∷ s) h e = rw (ne_eqb b hash e)
