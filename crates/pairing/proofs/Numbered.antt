-- The candidates that a pairing makes, by number: how many there are, and which is the i-th. Assumes nothing.
use mathlib.Core.Path.{◌≡◌, refl, sym, ap, ◌∙◌, subst, subst₂}
use mathlib.Core.List.{List, [], ◌∷◌, ◌++◌, map}
use Prim.Native.Nat.{ℕ, zero, suc, ◌+◌, ◌*◌, ◌/◌, ◌%◌, ◌<◌}
use native.Mathlib.Omega.{arith}
use native.Mathlib.Nat.{zero-mul, mul-zero, suc-mul, add-mul, mod-lt, div-add-mod', div-lt_iff_lt-mul, eq-zero-or-pos}
use mathlib.Core.Logic.{⊎_elim}
use lib.Arith.{digits_lt}
use lib.ListN.{length, get_or, length-append, length-map, get_or-append, get_or-map}
use lib.Seq.{get_or-append-add}
use Rattle.definition.specs.Candidates.{Candidate, Made}
use Rattle.definition.specs.Tables.{Table}
use Rattle.pairing.specs.Mades.{pairs_of, triples_of}

pub map_at : {A B : Type 0} (f : A → B) (xs : List A) (i : ℕ) (d : A) (e : B) → i < length xs → get_or (map f xs) i e ≡ f (get_or xs i d)
map_at f [] i d e h = absurd (omega arith)
map_at f (x ∷ xs) zero d e h = refl
map_at f (x ∷ xs) (suc i) d e h = map_at f xs i d e (omega arith)

-- ---- pairs

module _ (f : Candidate → Candidate → Made) (ys : Table) where
  pub pairs-count : (xs : Table) → length (pairs_of f xs ys) ≡ length xs * length ys
  unfolding pairs_of
  pairs-count [] = sym (zero-mul (length ys))
  pairs-count (x ∷ xs) =
      let both = length-append (map (f x) ys) (pairs_of f xs ys) in
      let one = length-map ys (f x) in
      let rest = pairs-count xs in
      let all = suc-mul (length xs) (length ys) in
      omega arith

  pairs-placed : (xs : Table) (a b : ℕ) (d : Candidate) (e : Made) → a < length xs → b < length ys →
      get_or (pairs_of f xs ys) (a * length ys + b) e ≡ f (get_or xs a d) (get_or ys b d)
  unfolding pairs_of
  pairs-placed [] a b d e h k = absurd (omega arith)
  pairs-placed (x ∷ xs) zero b d e h k =
      let one = length-map ys (f x) in
      let at : zero * length ys + b ≡ b = omega arith in
      ap (λ (i : ℕ). get_or (map (f x) ys ++ pairs_of f xs ys) i e) at
      ∙ get_or-append (map (f x) ys) (pairs_of f xs ys) e b (omega arith)
      ∙ map_at (f x) ys b d e k
  pairs-placed (x ∷ xs) (suc a) b d e h k =
      let one = length-map ys (f x) in
      let all = suc-mul a (length ys) in
      let at : suc a * length ys + b ≡ length (map (f x) ys) + (a * length ys + b) = omega arith in
      ap (λ (i : ℕ). get_or (map (f x) ys ++ pairs_of f xs ys) i e) at
      ∙ get_or-append-add (map (f x) ys) (pairs_of f xs ys) (a * length ys + b) e
      ∙ pairs-placed xs a b d e (omega arith) k

-- ---- triples

module _ (f : Candidate → Candidate → Candidate → Made) (ys zs : Table) where
  pub triples-count : (xs : Table) → length (triples_of f xs ys zs) ≡ length xs * length ys * length zs
  unfolding triples_of
  triples-count [] = sym (ap (λ (n : ℕ). n * length zs) (zero-mul (length ys)) ∙ zero-mul (length zs))
  triples-count (x ∷ xs) =
      let both = length-append (pairs_of (f x) ys zs) (triples_of f xs ys zs) in
      let one = pairs-count (f x) zs ys in
      let rest = triples-count xs in
      let all = ap (λ (n : ℕ). n * length zs) (suc-mul (length xs) (length ys)) ∙ add-mul (length xs * length ys) (length ys) (length zs) in
      omega arith

  triples-placed : (xs : Table) (a b c : ℕ) (d : Candidate) (e : Made) → a < length xs → b < length ys → c < length zs →
      get_or (triples_of f xs ys zs) ((a * length ys + b) * length zs + c) e ≡ f (get_or xs a d) (get_or ys b d) (get_or zs c d)
  unfolding triples_of
  triples-placed [] a b c d e h k l = absurd (omega arith)
  triples-placed (x ∷ xs) zero b c d e h k l =
      let one = pairs-count (f x) zs ys in
      let at : (zero * length ys + b) * length zs + c ≡ b * length zs + c = ap (λ (n : ℕ). n * length zs + c) (omega arith) in
      let below : b * length zs + c < length ys * length zs = digits_lt k l in
      ap (λ (i : ℕ). get_or (pairs_of (f x) ys zs ++ triples_of f xs ys zs) i e) at
      ∙ get_or-append (pairs_of (f x) ys zs) (triples_of f xs ys zs) e (b * length zs + c) (omega arith)
      ∙ pairs-placed (f x) zs ys b c d e k l
  triples-placed (x ∷ xs) (suc a) b c d e h k l =
      let one = pairs-count (f x) zs ys in
      let sum : suc a * length ys + b ≡ length ys + (a * length ys + b) = omega (arith, suc-mul a (length ys)) in
      let all = ap (λ (n : ℕ). n * length zs) sum ∙ add-mul (length ys) (a * length ys + b) (length zs) in
      let at : (suc a * length ys + b) * length zs + c ≡ length (pairs_of (f x) ys zs) + ((a * length ys + b) * length zs + c) = omega arith in
      ap (λ (i : ℕ). get_or (pairs_of (f x) ys zs ++ triples_of f xs ys zs) i e) at
      ∙ get_or-append-add (pairs_of (f x) ys zs) (triples_of f xs ys zs) ((a * length ys + b) * length zs + c) e
      ∙ triples-placed xs a b c d e (omega arith) k l

-- ---- a number by its digits

pub some-there : (a n i : ℕ) → i < a * n → 0 < n
some-there a n i h = ⊎_elim (λ (is : n ≡ 0). none is) (λ (p : 0 < n). p) (eq-zero-or-pos n)
  where
    none : n ≡ 0 → 0 < n
    none is = let z : a * n ≡ 0 = ap (λ (n : ℕ). a * n) is ∙ mul-zero a in absurd (omega arith)

pub high-below : (a n i : ℕ) → i < a * n → i / n < a
high-below a n i h = (div-lt_iff_lt-mul (some-there a n i h)).1 h

pub low_below : (a n i : ℕ) → i < a * n → i % n < n
low_below a n i h = mod-lt i (some-there a n i h)

module _ (xs ys : Table) (i : ℕ) (d : Candidate) (e : Made) where
  pub pairs-at : (f : Candidate → Candidate → Made) → i < length xs * length ys →
      get_or (pairs_of f xs ys) i e ≡ f (get_or xs (i / length ys) d) (get_or ys (i % length ys) d)
  pairs-at f h =
      ap (λ (i : ℕ). get_or (pairs_of f xs ys) i e) (sym (div-add-mod' i (length ys)))
      ∙ pairs-placed f ys xs (i / length ys) (i % length ys) d e (high-below (length xs) (length ys) i h) (low_below (length xs) (length ys) i h)

  pub triples-at : (f : Candidate → Candidate → Candidate → Made) (zs : Table) → i < length xs * length ys * length zs →
      get_or (triples_of f xs ys zs) i e
      ≡ f (get_or xs (i / length zs / length ys) d) (get_or ys (i / length zs % length ys) d) (get_or zs (i % length zs) d)
  triples-at f zs h =
      ap (λ (i : ℕ). get_or (triples_of f xs ys zs) i e)
      (sym (div-add-mod' i (length zs)) ∙ ap (λ (q : ℕ). q * length zs + i % length zs) (sym (div-add-mod' (i / length zs) (length ys))))
      ∙ triples-placed f ys zs xs (i / length zs / length ys) (i / length zs % length ys) (i % length zs) d e
      (high-below (length xs) (length ys) (i / length zs) pair) (low_below (length xs) (length ys) (i / length zs) pair)
      (low_below (length xs * length ys) (length zs) i h)
    where
      pair : i / length zs < length xs * length ys
      pair = high-below (length xs * length ys) (length zs) i h

-- ---- of tables that are given by the numbers of their entries

module _ (s : ℕ → Candidate) (es fs : List ℕ) (i : ℕ) (e : Made) where
  pub pairs-numbered : (f : Candidate → Candidate → Made) → i < length es * length fs →
      get_or (pairs_of f (map s es) (map s fs)) i e ≡ f (s (get_or es (i / length fs) 0)) (s (get_or fs (i % length fs) 0))
  pairs-numbered f h =
      pairs-at (map s es) (map s fs) i (s 0) e f (subst₂ (λ (a b : ℕ). i < a * b) (sym (length-map es s)) (sym (length-map fs s)) h)
      ∙ rw (length-map fs s, get_or-map s es (i / length fs) 0, get_or-map s fs (i % length fs) 0)

  pub triples-numbered : (f : Candidate → Candidate → Candidate → Made) (gs : List ℕ) → i < length es * length fs * length gs →
      get_or (triples_of f (map s es) (map s fs) (map s gs)) i e
      ≡ f (s (get_or es (i / length gs / length fs) 0)) (s (get_or fs (i / length gs % length fs) 0)) (s (get_or gs (i % length gs) 0))
  triples-numbered f gs h =
      triples-at (map s es) (map s fs) i (s 0) e f (map s gs)
      (subst (λ (c : ℕ). i < length (map s es) * length (map s fs) * c) (sym (length-map gs s))
      (subst₂ (λ (a b : ℕ). i < a * b * length gs) (sym (length-map es s)) (sym (length-map fs s)) h))
      ∙ rw (
        length-map gs s,
        length-map fs s,
        get_or-map s es (i / length gs / length fs) 0,
        get_or-map s fs (i / length gs % length fs) 0,
        get_or-map s gs (i % length gs) 0,
      )
