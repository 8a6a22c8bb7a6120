-- Bytes read pair by pair of digits. Assumes nothing.
use mathlib.Core.Bool.{cond, ◌&&◌}
use mathlib.Core.List.{List, [], ◌∷◌, ◌++◌, append_assoc, append-nil}
use Rattle.std.specs.Prelude.{Option, None, Some}
use mathlib.Core.Path.{◌≡◌, refl, sym, ap, subst, ◌∙◌}
use Prim.Native.Nat.{ℕ, suc, ◌+◌, ◌*◌, ◌<◌, ◌≤◌}
use native.Mathlib.Numerals.{add-one}
use native.Mathlib.Omega.{arith}
use borrow.Author.Tests.{lt-ltb, le-ltb, eq-eqb, ne_eqb}
use lib.Dec.{ltb}
use lib.ListN.{length, take, drop, get_or, set, length-set}
use lib.Seq.{drop-cons, drop-length, take-suc-set}
use Rattle.oracle_lines.specs.Lines.{onto, bytes, dash, records}
use Rattle.numerals.specs.Numbers.{digit}
use Rattle.oracle_lines.specs.Reads.{Reads, reads, misses}

-- bytes that stand before what is read
abbrev pub before : List ℕ → Option (List ℕ) → Option (List ℕ)
before p None = None
before p (Some s) = Some (p ++ s)

before-onto : (p : List ℕ) (b : ℕ) (o : Option (List ℕ)) → before p (onto b o) ≡ before (p ++ (b ∷ [])) o
before-onto p b None = refl
before-onto p b (Some s) = ap Some (sym (append_assoc p (b ∷ []) s))

bytes-none : bytes [] ≡ Some []
unfolding bytes
bytes-none = refl

bytes-odd : (h : ℕ) → bytes (h ∷ []) ≡ None
unfolding bytes
bytes-odd h = refl

bytes_pair : (h l : ℕ) (s : List ℕ)
    → bytes (h ∷ l ∷ s) ≡ cond (ltb (digit h) 16 && ltb (digit l) 16) (onto (digit h * 16 + digit l) (bytes s)) None
unfolding bytes
bytes_pair h l s = refl

-- the first n bytes of a word stand at the front of a room
pub record Held (w room₀ room : List ℕ) (n : ℕ) : Type 0 where
  pub long : length room ≡ length room₀
  pub within : 2 * n ≤ length w
  pub goes : bytes w ≡ before (take n room) (bytes (drop (2 * n) w))

module _ (w room₀ : List ℕ) where
  pub held_none : Held w room₀ room₀ 0
  held_none = record { long = refl; within = omega arith; goes = start (bytes w) }
    where
      start : (o : Option (List ℕ)) → o ≡ before [] o
      start None = refl
      start (Some s) = refl

  module _ (room : List ℕ) (n : ℕ) (r : Held w room₀ room n) (room_for : length w ≤ 2 * length room₀) (h : 2 * n < length w) where
    pub odd : 2 * n + 1 ≡ length w → Reads (bytes w) room None
    odd e =
        let end : suc (2 * n) ≡ length w = omega arith in
        misses
        (r.goes
        ∙ ap (λ (l : List ℕ). before (take n room) (bytes l))
        (drop-cons w (2 * n) 0 h ∙ ap (λ (l : List ℕ). get_or w (2 * n) 0 ∷ l) (ap (λ (k : ℕ). drop k w) end ∙ drop-length w))
        ∙ ap (before (take n room)) (bytes-odd (get_or w (2 * n) 0)))

    module _ (k : (2 * n + 1 ≡ length w → ⊥)) where
      two : drop (2 * n) w ≡ get_or w (2 * n) 0 ∷ get_or w (2 * n + 1) 0 ∷ drop (2 * (n + 1)) w
      two =
          let there : suc (2 * n) < length w = omega arith in
          let up : suc (suc (2 * n)) ≡ 2 * (n + 1) = omega arith in
          drop-cons w (2 * n) 0 h
          ∙ ap (λ (l : List ℕ). get_or w (2 * n) 0 ∷ l)
          (drop-cons w (suc (2 * n)) 0 there ∙ rw (up, ← add-one (2 * n)))

      next : bytes w
          ≡ before (take n room)
          (cond (ltb (digit (get_or w (2 * n) 0)) 16 && ltb (digit (get_or w (2 * n + 1) 0)) 16)
          (onto (digit (get_or w (2 * n) 0) * 16 + digit (get_or w (2 * n + 1) 0)) (bytes (drop (2 * (n + 1)) w)))
          None)
      next = r.goes ∙ ap (λ (l : List ℕ). before (take n room) (bytes l)) two ∙ ap (before (take n room)) (bytes_pair _ _ _)

      pub high-wrong : (d : ℕ) → d ≡ digit (get_or w (2 * n) 0) → 16 ≤ d → Reads (bytes w) room None
      high-wrong d e f = misses (next ∙ rw (le-ltb (digit (get_or w (2 * n) 0)) 16 (rw (← e) f)))

      pub low-wrong : (d l : ℕ) → d ≡ digit (get_or w (2 * n) 0) → d < 16 → l ≡ digit (get_or w (2 * n + 1) 0) → 16 ≤ l
          → Reads (bytes w) room None
      low-wrong d l e f e' f' =
          misses (next ∙ rw (lt-ltb (digit (get_or w (2 * n) 0)) 16 (rw (← e) f), le-ltb (digit (get_or w (2 * n + 1) 0)) 16 (rw (← e') f')))

      pub held_next : (d l : ℕ) → d ≡ digit (get_or w (2 * n) 0) → d < 16 → l ≡ digit (get_or w (2 * n + 1) 0) → l < 16
          → Held w room₀ (set room n (d * 16 + l)) (n + 1)
      held_next d l e f e' f' = record {
        long = length-set room n (d * 16 + l) ∙ r.long;
        within = omega arith;
        goes = next
            ∙ rw (lt-ltb (digit (get_or w (2 * n) 0)) 16 (rw (← e) f), lt-ltb (digit (get_or w (2 * n + 1) 0)) 16 (rw (← e') f'), ← e, ← e')
            (before-onto (take n room) (d * 16 + l) (bytes (drop (2 * (n + 1)) w)))
            ∙ ap (λ (p : List ℕ). before p (bytes (drop (2 * (n + 1)) w)))
            (sym (ap (λ (m : ℕ). take m (set room n (d * 16 + l))) (add-one n)
            ∙ take-suc-set room n (d * 16 + l) (omega (arith, r.long))));
      }

  pub held_all : (room : List ℕ) (n : ℕ) → Held w room₀ room n → length w ≤ 2 * length room₀ → (2 * n < length w → ⊥)
      → Reads (bytes w) room (Some n)
  held_all room n r room_for ended =
      let e : 2 * n ≡ length w = omega (arith, r.within) in
      let fits : n ≤ length room = omega (arith, r.long) in
      reads
      (r.goes
      ∙ ap (λ (l : List ℕ). before (take n room) (bytes l)) (ap (λ (k : ℕ). drop k w) e ∙ drop-length w)
      ∙ ap (before (take n room)) bytes-none)
      fits
      (sym (append-nil (take n room)))

-- ---- a word that is records

pub no_word : (w room : List ℕ) → length w ≡ 0 → Reads (records w) room None
unfolding records
no_word [] room h = misses refl
no_word (b ∷ s) room h = absurd (omega arith)

pub no-records : (w room : List ℕ) → length w ≡ 1 → get_or w 0 0 ≡ dash → Reads (records w) room (Some 0)
unfolding records
no-records [] room h e = absurd (omega arith)
no-records (b ∷ []) room h e = reads {n = 0} {s = []} (rw (eq-eqb b dash e)) (omega arith) refl
no-records (b ∷ l ∷ s) room h e = absurd (omega arith)

pub lone-sign : (w room : List ℕ) → length w ≡ 1 → (get_or w 0 0 ≡ dash → ⊥) → Reads (records w) room None
unfolding records
lone-sign [] room h e = absurd (omega arith)
lone-sign (b ∷ []) room h e = misses (rw (ne_eqb b dash e))
lone-sign (b ∷ l ∷ s) room h e = absurd (omega arith)

pub records-are-bytes : (w : List ℕ) → (length w ≡ 0 → ⊥) → (length w ≡ 1 → ⊥) → bytes w ≡ records w
unfolding records
records-are-bytes [] h k = absurd (h refl)
records-are-bytes (b ∷ []) h k = absurd (k refl)
records-are-bytes (b ∷ l ∷ s) h k = refl

pub read_as : {o o' : Option (List ℕ)} {room : List ℕ} {r : Option ℕ} → o ≡ o' → Reads o room r → Reads o' room r
read_as {o} {o'} {room} {r} e h = subst (λ (x : Option (List ℕ)). Reads x room r) e h
