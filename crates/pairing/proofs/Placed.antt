-- The entries at a pairing's places, and the candidate that is made of those at a number's digits. Assumes nothing.
use mathlib.Core.Path.{◌≡◌, sym, ap, ◌∙◌, subst}
use mathlib.Core.Bool.{Bool, true, false, cond}
use mathlib.Core.List.{List, [], ◌∷◌}
use Prim.Native.Nat.{ℕ, zero, suc, ◌*◌, ◌/◌, ◌%◌, ◌<◌, ◌≤◌}
use native.Mathlib.Omega.{arith}
use native.Mathlib.Nat.{mul-le-mul}
use borrow.Author.Tests.{eq-eqb, ne_eqb}
use lib.Arith.{lt_of_le-ne}
use lib.Dec.{eqb}
use lib.ListN.{length, get_or, length-map}
use Rattle.figures.specs.Bounds.{Small}
use Rattle.writing.specs.WellFormed.{AllBelow}
use Rattle.definition.specs.Candidates.{passed_over, pair_no}
use Rattle.definition.specs.Candidates as definition
use Rattle.candidates.specs.declared.Candidate as node
use Rattle.candidates.specs.declared.NotMade.{NotMade}
use Rattle.std.specs.Prelude.{Result}
use Rattle.candidates.specs.Pairs.{pair_of, and_or}
use Rattle.memory.specs.Layout.{node_count}
use Rattle.nodes.specs.Words.{node_at}
use Rattle.nodes.specs.Views.{seen}
use Rattle.nodes.proofs.Grown.{small_at}
use Rattle.nodes.proofs.Pairs.{pair-seen, and-or-seen, pair-fresh, and-or-fresh}
use Rattle.memory.specs.Layout.{table_count}
use Rattle.cache.specs.Slots.{slot_at}
use Rattle.cache.proofs.Tables.{entries-few}
use Rattle.stages.specs.declared.Pairing.{Pairing}
use Rattle.pairing.specs.Mades.{pairs_of, triples_of, entries_at, table_at, mades_of, length_at, count_of}
use Rattle.nodes.specs.Offers.{made_seen}
use Rattle.pairing.specs.Mades.{PlaceHolds, Paired, Counted, MadeAt}
use Rattle.pairing.proofs.Numbered.{pairs-count, triples-count, some-there, high-below, low_below, pairs-numbered, triples-numbered}

-- ---- the entries at a place

pub below_at : (n : ℕ) (es : List ℕ) → AllBelow n es → (j : ℕ) → j < length es → get_or es j 0 < n
unfolding AllBelow
below_at n [] h j l = absurd (omega arith)
below_at n (e ∷ es) h zero l = h.0
below_at n (e ∷ es) h (suc j) l = below_at n es h.1 j (omega arith)

module _ (m slots : List ℕ) (place : ℕ) where
  pub entries-false : place ≡ 8 → entries_at m slots place ≡ 0 ∷ []
  entries-false is = rw (eq-eqb place 8 is)

  pub entries-slot : (place ≡ 8 → ⊥) → entries_at m slots place ≡ (slot_at m (get_or slots place 0)).entries
  entries-slot other = rw (ne_eqb place 8 other)

  pub length-false : place ≡ 8 → (1 ≡ length_at m slots place) × (1 ≤ 128)
  length-false is = (sym (ap length (entries-false is)), omega arith)

  pub length-slot : (place ≡ 8 → ⊥) → {n : ℕ} → n ≡ length (slot_at m (get_or slots place 0)).entries → (n ≡ length_at m slots place) × (n ≤ 128)
  length-slot other is =
      (is ∙ ap length (sym (entries-slot other)), omega (arith, entries-few m (get_or slots place 0)))

module _ {m slots : List ℕ} {place : ℕ} (h : PlaceHolds m slots place) where
  pub slot-there : (place ≡ 8 → ⊥) → get_or slots place 0 < table_count m
  slot-there other = h.there (lt_of_le-ne h.within other)

  pub entry-slot-there : (place ≡ 8 → ⊥) → (j : ℕ) → j < length_at m slots place → j < length (slot_at m (get_or slots place 0)).entries
  entry-slot-there other j l = subst (λ (es : List ℕ). j < length es) (entries-slot m slots place other) l

  pub entry-false : place ≡ 8 → (j : ℕ) → j < length_at m slots place → (0 ≡ get_or (entries_at m slots place) j 0) × (0 < node_count m)
  entry-false is j l =
      let first : j ≡ 0 = omega (arith, (length-false m slots place is).0) in
      let zero-at : 0 ≡ get_or (entries_at m slots place) j 0 = rw (entries-false m slots place is, first) in
      (zero-at, subst (λ (e : ℕ). e < node_count m) (sym zero-at) (below_at (node_count m) (entries_at m slots place) h.below j l))

  pub entry-slot : (place ≡ 8 → ⊥) → (j : ℕ) → j < length_at m slots place → {e : ℕ} → e ≡ get_or (slot_at m (get_or slots place 0)).entries j 0 →
      (e ≡ get_or (entries_at m slots place) j 0) × (e < node_count m)
  entry-slot other j l is =
      let at = is ∙ ap (λ (es : List ℕ). get_or es j 0) (sym (entries-slot m slots place other)) in
      (at, subst (λ (e : ℕ). e < node_count m) (sym at) (below_at (node_count m) (entries_at m slots place) h.below j l))

-- ---- how many there are

pub product_small : {a b : ℕ} → a ≤ 128 → b ≤ 128 → a * b ≤ 16384
product_small h k = mul-le-mul h k

pub triple-product-small : {a b c : ℕ} → a ≤ 128 → b ≤ 128 → c ≤ 128 → a * b * c ≤ 2097152
triple-product-small h k l = mul-le-mul (mul-le-mul h k) l

-- ---- the digits of a number below the count

module _ (m slots : List ℕ) (a : Pairing) (i : ℕ) where
  pair-range : eqb a.kind 55 ≡ false → i < count_of m a slots → i < length_at m slots a.first * length_at m slots a.second
  pair-range k l =
      subst
      (λ (b : Bool).
      i < cond b (length_at m slots a.first * length_at m slots a.second * length_at m slots a.third)
      (length_at m slots a.first * length_at m slots a.second))
      k l

  triple-range : eqb a.kind 55 ≡ true → i < count_of m a slots
      → i < length_at m slots a.first * length_at m slots a.second * length_at m slots a.third
  triple-range k l =
      subst
      (λ (b : Bool).
      i < cond b (length_at m slots a.first * length_at m slots a.second * length_at m slots a.third)
      (length_at m slots a.first * length_at m slots a.second))
      k l

  module _ {n : ℕ} (k : eqb a.kind 55 ≡ false) (l : i < count_of m a slots) (is : n ≡ length_at m slots a.second) where
    pub pair-some : 0 < n
    pair-some = rw is (some-there (length_at m slots a.first) (length_at m slots a.second) i (pair-range k l))

    pub pair-first : i / n < length_at m slots a.first
    pair-first = rw is (high-below (length_at m slots a.first) (length_at m slots a.second) i (pair-range k l))

    pub pair-second : i % n < length_at m slots a.second
    pair-second = rw is (low_below (length_at m slots a.first) (length_at m slots a.second) i (pair-range k l))

  module _ {nb nc : ℕ} (k : eqb a.kind 55 ≡ true) (l : i < count_of m a slots) (b : nb ≡ length_at m slots a.second)
      (c : nc ≡ length_at m slots a.third) where
    pair-below : i / nc < length_at m slots a.first * length_at m slots a.second
    pair-below =
        rw c (high-below (length_at m slots a.first * length_at m slots a.second) (length_at m slots a.third) i (triple-range k l))

    pub triple-some : 0 < nc
    triple-some = rw c (some-there (length_at m slots a.first * length_at m slots a.second) (length_at m slots a.third) i (triple-range k l))

    pub triple-pairs : 0 < nb
    triple-pairs = rw b (some-there (length_at m slots a.first) (length_at m slots a.second) (i / nc) pair-below)

    pub triple-first : i / nc / nb < length_at m slots a.first
    triple-first = rw b (high-below (length_at m slots a.first) (length_at m slots a.second) (i / nc) pair-below)

    pub triple-second : i / nc % nb < length_at m slots a.second
    triple-second = rw b (low_below (length_at m slots a.first) (length_at m slots a.second) (i / nc) pair-below)

    pub triple-third : i % nc < length_at m slots a.third
    triple-third = rw c (low_below (length_at m slots a.first * length_at m slots a.second) (length_at m slots a.third) i (triple-range k l))

-- ---- how many there are

module _ (m slots : List ℕ) (a : Pairing) where
  seen-length : (pol : List ℕ) (place : ℕ) → length (table_at pol m slots place) ≡ length_at m slots place
  seen-length pol place = length-map (entries_at m slots place) (seen pol m)

  seen-lengths : (pol : List ℕ) (b : Bool) →
      length
      (cond b
      (triples_of (definition.and_or a.lw a.rw) (table_at pol m slots a.first) (table_at pol m slots a.second)
      (table_at pol m slots a.third))
      (pairs_of (pair_no a.kind a.lw a.rw) (table_at pol m slots a.first) (table_at pol m slots a.second)))
      ≡ cond b (length_at m slots a.first * length_at m slots a.second * length_at m slots a.third)
      (length_at m slots a.first * length_at m slots a.second)
  seen-lengths pol true =
      triples-count (definition.and_or a.lw a.rw) (table_at pol m slots a.second) (table_at pol m slots a.third)
      (table_at pol m slots a.first)
      ∙ rw (seen-length pol a.first, seen-length pol a.second, seen-length pol a.third)
  seen-lengths pol false =
      pairs-count (pair_no a.kind a.lw a.rw) (table_at pol m slots a.second) (table_at pol m slots a.first)
      ∙ rw (seen-length pol a.first, seen-length pol a.second)

  pub mades-count : (pol : List ℕ) → length (mades_of pol m a slots) ≡ count_of m a slots
  mades-count pol = seen-lengths pol (eqb a.kind 55)

  counted : {n : ℕ} → n ≡ count_of m a slots → Counted m a slots n
  counted is = record { is = is; mades = λ pol. is ∙ sym (mades-count pol) }

  pub triples-counted : a.kind ≡ 55 → {x y z : ℕ} → x ≡ length_at m slots a.first → y ≡ length_at m slots a.second
      → z ≡ length_at m slots a.third → Counted m a slots (x * y * z)
  triples-counted kind p q r = counted (rw (eq-eqb a.kind 55 kind, p, q, r))

  pub pairs-counted : (a.kind ≡ 55 → ⊥) → {x y : ℕ} → x ≡ length_at m slots a.first → y ≡ length_at m slots a.second
      → Counted m a slots (x * y)
  pairs-counted other p q = counted (rw (ne_eqb a.kind 55 other, p, q))

pub small-node : (m : List ℕ) (e : ℕ) {x : node.Candidate} → x ≡ node_at m e → Small x.ext
small-node m e is = rw is (small_at m e)

-- ---- which is the i-th

module _ {m slots : List ℕ} {a : Pairing} {i : ℕ} (h : Paired m a slots) where
  pair-sees : (pol : List ℕ) (l r n : ℕ) → eqb a.kind 55 ≡ false → i < count_of m a slots → n ≡ length_at m slots a.second
      → l ≡ get_or (entries_at m slots a.first) (i / n) 0 → r ≡ get_or (entries_at m slots a.second) (i % n) 0
      → pair_no a.kind a.lw a.rw (seen pol m l) (seen pol m r) ≡ get_or (mades_of pol m a slots) i passed_over
  pair-sees pol l r n k below is first second =
      rw (first, second, is, k)
      (sym
      (pairs-numbered (seen pol m) (entries_at m slots a.first) (entries_at m slots a.second) i passed_over (pair_no a.kind a.lw a.rw)
      (pair-range m slots a i k below)))

  pub pair_made : {l r n : ℕ} {x y : node.Candidate} {z : Result node.Candidate NotMade} → eqb a.kind 55 ≡ false → i < count_of m a slots
      → n ≡ length_at m slots a.second
      → (l ≡ get_or (entries_at m slots a.first) (i / n) 0) × (l < node_count m)
      → (r ≡ get_or (entries_at m slots a.second) (i % n) 0) × (r < node_count m)
      → x ≡ node_at m l → y ≡ node_at m r → z ≡ pair_of a.kind x l y r a.lw a.rw → MadeAt m a slots i z
  pair_made {l} {r} {n} {z} k below is first second p q made =
      record {
        sees =
            λ pol. ap (made_seen pol m) whole
            ∙ pair-seen pol m l r first.1 second.1 a.lw a.rw a.kind
            ∙ pair-sees pol l r n k below is first.0 second.0;
        fresh = λ y e. pair-fresh h.nodes first.1 second.1 a.lw a.rw a.kind (sym whole ∙ e);
      }
    where
      whole : z ≡ pair_of a.kind (node_at m l) l (node_at m r) r a.lw a.rw
      whole = made ∙ rw (p, q)

  triple-sees : (pol : List ℕ) (x y z nb nc : ℕ) → eqb a.kind 55 ≡ true → i < count_of m a slots
      → nb ≡ length_at m slots a.second → nc ≡ length_at m slots a.third
      → x ≡ get_or (entries_at m slots a.first) (i / nc / nb) 0 → y ≡ get_or (entries_at m slots a.second) (i / nc % nb) 0
      → z ≡ get_or (entries_at m slots a.third) (i % nc) 0
      → definition.and_or a.lw a.rw (seen pol m x) (seen pol m y) (seen pol m z) ≡ get_or (mades_of pol m a slots) i passed_over
  triple-sees pol x y z nb nc k below is_b is_c first second third =
      rw (first, second, third, is_b, is_c, k)
      (sym
      (triples-numbered (seen pol m) (entries_at m slots a.first) (entries_at m slots a.second) i passed_over (definition.and_or a.lw a.rw)
      (entries_at m slots a.third) (triple-range m slots a i k below)))

  pub triple-made : {x y z nb nc : ℕ} {u v w : node.Candidate} {r : Result node.Candidate NotMade} → eqb a.kind 55 ≡ true → i < count_of m a slots
      → nb ≡ length_at m slots a.second → nc ≡ length_at m slots a.third
      → (x ≡ get_or (entries_at m slots a.first) (i / nc / nb) 0) × (x < node_count m)
      → (y ≡ get_or (entries_at m slots a.second) (i / nc % nb) 0) × (y < node_count m)
      → (z ≡ get_or (entries_at m slots a.third) (i % nc) 0) × (z < node_count m)
      → u ≡ node_at m x → v ≡ node_at m y → w ≡ node_at m z → r ≡ and_or u x v y w z a.lw a.rw → MadeAt m a slots i r
  triple-made {x} {y} {z} {nb} {nc} {r} k below is_b is_c first second third p q s made =
      record {
        sees =
            λ pol. ap (made_seen pol m) whole
            ∙ and-or-seen pol m x y z first.1 second.1 third.1 a.lw a.rw
            ∙ triple-sees pol x y z nb nc k below is_b is_c first.0 second.0 third.0;
        fresh = λ y e. and-or-fresh h.nodes first.1 second.1 third.1 a.lw a.rw (sym whole ∙ e);
      }
    where
      whole : r ≡ and_or (node_at m x) x (node_at m y) y (node_at m z) z a.lw a.rw
      whole = made ∙ rw (p, q, s)
