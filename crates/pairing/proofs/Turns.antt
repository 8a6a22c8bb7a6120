-- What a pairing does is done in one loop over the candidates that it makes, and they stay the same while nodes and tables are added.
-- Assumes nothing.
use mathlib.Core.Path.{◌≡◌, refl, sym, ap, ◌∙◌, subst}
use mathlib.Core.Bool.{Bool, true, false, cond, ◌&&◌}
use mathlib.Core.List.{List, [], ◌∷◌, ◌++◌, map}
use Prim.Native.Nat.{ℕ, zero, suc, ◌+◌, ◌<◌, ◌≤◌}
use native.Mathlib.Omega.{arith}
use borrow.Author.Tests.{eqb-true, eqb-false, ltb-true}
use lib.Arith.{lt_of_le-ne}
use lib.Dec.{eqb, ltb}
use lib.ListN.{length, get_or, drop, take, set}
use lib.Seq.{drop-length, get_or-take, length-take-le, take-suc-set}
use lib.Ieee.{Float}
use Rattle.contexts.specs.declared.Context.{Context}
use Rattle.writing.specs.WellFormed.{AllBelow}
use Rattle.definition.specs.Candidates.{Candidate, Made, Pair, passed_over, and_or, pair_no}
use Rattle.definition.specs.Tables.{Probs, Table}
use Rattle.definition.specs.Refusals.{M, State, Res, done, then}
use Rattle.definition.specs.Search.{Again, for_each, wrapped_if_made, binary, ternary}
use Rattle.definition_laws.proofs.Steps.{then-then}
use Rattle.memory.specs.Layout.{node_count}
use Rattle.nodes.specs.Views.{seen, seen_all}
use Rattle.nodes.specs.Answers.{Holds}
use Rattle.nodes.proofs.Seen.{seen_false}
use Rattle.nodes.proofs.Grown.{seen-kept}
use Rattle.memory.specs.Layout.{table_count}
use Rattle.cache.specs.Slots.{Slot, slot_at, Kept}
use Rattle.search_state.specs.State.{slot_table, Ready, Onward}
use Rattle.stages.specs.declared.Pairing.{Pairing}
use Rattle.stages.specs.Stages.{False, table_no, paired, and_pairings, and_or_pairings, or_pairings}
use Rattle.pairing.specs.Mades.{pairs_of, triples_of, for_mades, entries_at, table_at, mades_of, count_of, PlaceHolds, Paired}
use Rattle.stages.proofs.Stages.{then_same, drop-next}
use Rattle.pairing.proofs.Numbered.{map_at}
use Rattle.pairing.proofs.Placed.{below_at}

-- ---- in turn

module _ (f : Made → Table → M Table) where
  pub for-none : (t : Table) (s : State) → for_mades f [] t s ≡ done t s
  unfolding for_mades
  for-none t s = refl

  pub for-first : (x : Made) (xs : List Made) (t : Table) (s : State) → for_mades f (x ∷ xs) t s ≡ then (f x t s) (λ t. for_mades f xs t)
  unfolding for_mades
  for-first x xs t s = refl

  pub for-end : (xs : List Made) (i : ℕ) (t : Table) (s : State) → i ≡ length xs → for_mades f (drop i xs) t s ≡ done t s
  for-end xs i t s is =
      ap (λ (l : List Made). for_mades f l t s) (ap (λ (i : ℕ). drop i xs) is ∙ drop-length xs) ∙ for-none t s

  pub for-next : (xs : List Made) (i : ℕ) (t : Table) (s : State) → i < length xs →
      for_mades f (drop i xs) t s ≡ then (f (get_or xs i passed_over) t s) (λ t. for_mades f (drop (i + 1) xs) t)
  for-next xs i t s l =
      ap (λ (l : List Made). for_mades f l t s) (drop-next xs i passed_over l)
      ∙ for-first (get_or xs i passed_over) (drop (i + 1) xs) t s

  for-append : (xs ys : List Made) (t : Table) (s : State) → for_mades f (xs ++ ys) t s ≡ then (for_mades f xs t s) (λ t. for_mades f ys t)
  unfolding for_mades then
  for-append [] ys t s = refl
  for-append (x ∷ xs) ys t s =
      then_same (f x t s) (λ t. for_mades f (xs ++ ys) t) (λ t s. then (for_mades f xs t s) (λ t. for_mades f ys t)) (λ t s. for-append xs ys t s)
      ∙ sym (then-then (f x t s) (λ t. for_mades f xs t) (λ t. for_mades f ys t))

  -- one with each, and each with each
  for-map : (g : Candidate → Made) (xs t : Table) (s : State) → for_each (λ x. f (g x)) xs t s ≡ for_mades f (map g xs) t s
  unfolding for_each for_mades
  for-map g [] t s = refl
  for-map g (x ∷ xs) t s =
      then_same (f (g x) t s) (λ t. for_each (λ x. f (g x)) xs t) (λ t. for_mades f (map g xs) t) (λ t s. for-map g xs t s)

  for-pairs : (g : Candidate → Candidate → Made) (xs ys t : Table) (s : State) →
      for_each (λ x. for_each (λ y. f (g x y)) ys) xs t s ≡ for_mades f (pairs_of g xs ys) t s
  unfolding for_each for_mades pairs_of
  for-pairs g [] ys t s = refl
  for-pairs g (x ∷ xs) ys t s =
      ap (λ (r : Res Table). then r (λ t. for_each (λ x. for_each (λ y. f (g x y)) ys) xs t)) (for-map (g x) ys t s)
      ∙ then_same (for_mades f (map (g x) ys) t s) (λ t. for_each (λ x. for_each (λ y. f (g x y)) ys) xs t) (λ t. for_mades f (pairs_of g xs ys) t)
      (λ t s. for-pairs g xs ys t s)
      ∙ sym (for-append (map (g x) ys) (pairs_of g xs ys) t s)

  for-triples : (g : Candidate → Candidate → Candidate → Made) (xs ys zs t : Table) (s : State) →
      for_each (λ x. for_each (λ y. for_each (λ z. f (g x y z)) zs) ys) xs t s ≡ for_mades f (triples_of g xs ys zs) t s
  unfolding for_each for_mades triples_of
  for-triples g [] ys zs t s = refl
  for-triples g (x ∷ xs) ys zs t s =
      ap (λ (r : Res Table). then r (λ t. for_each (λ x. for_each (λ y. for_each (λ z. f (g x y z)) zs) ys) xs t)) (for-pairs (g x) ys zs t s)
      ∙ then_same (for_mades f (pairs_of (g x) ys zs) t s) (λ t. for_each (λ x. for_each (λ y. for_each (λ z. f (g x y z)) zs) ys) xs t)
      (λ t. for_mades f (triples_of g xs ys zs) t) (λ t s. for-triples g xs ys zs t s)
      ∙ sym (for-append (pairs_of (g x) ys zs) (triples_of g xs ys zs) t s)

-- ---- the definition's pairings

module _ (c : Context) (p : Probs) (g : Again) (lw rw : Float) where
  pub binary-mades : (f : Pair) (ls rs t : Table) (s : State) →
      binary c p g f lw rw ls rs t s ≡ for_mades (wrapped_if_made c p g) (pairs_of (f lw rw) ls rs) t s
  binary-mades f ls rs t s = for-pairs (wrapped_if_made c p g) (f lw rw) ls rs t s

  pub ternary-mades : (xs ys zs t : Table) (s : State) →
      ternary c p g lw rw xs ys zs t s ≡ for_mades (wrapped_if_made c p g) (triples_of (and_or lw rw) xs ys zs) t s
  ternary-mades xs ys zs t s = for-triples (wrapped_if_made c p g) (and_or lw rw) xs ys zs t s

-- ---- a pairing of the first n tables

-- a place is that of False, or that of one of the first n tables
abbrev pub within : ℕ → ℕ → Bool
within n place = cond (eqb place False) true (ltb place n)

abbrev pub places_within : ℕ → Pairing → Bool
places_within n a = within n a.first && (within n a.second && within n a.third)

unfoldable pub all_within : ℕ → List Pairing → Bool
all_within n [] = true
all_within n (a ∷ as') = places_within n a && all_within n as'

and_left : (a b : Bool) → a && b ≡ true → a ≡ true
and_left true b h = refl
and_left false b h = h

and_right : (a b : Bool) → a && b ≡ true → b ≡ true
and_right true b h = h
and_right false b h = cc

pub within-at : (n : ℕ) (as' : List Pairing) → all_within n as' ≡ true → (j : ℕ) (d : Pairing) → j < length as'
    → places_within n (get_or as' j d) ≡ true
unfolding all_within
within-at n [] h j d l = absurd (omega arith)
within-at n (a ∷ as') h zero d l = and_left (places_within n a) (all_within n as') h
within-at n (a ∷ as') h (suc j) d l = within-at n as' (and_right (places_within n a) (all_within n as') h) j d (omega arith)

module _ {m : List ℕ} (holds : Holds m) (pol slots : List ℕ) (n : ℕ) (few : n ≤ length slots) where
  -- the table at a place
  pub table-at : (place : ℕ) → within n place ≡ true → table_no (map (slot_table pol m) (take n slots)) place ≡ table_at pol m slots place
  table-at place h = by-test (eqb place False) refl
    where
      by-test : (b : Bool) → eqb place False ≡ b → table_no (map (slot_table pol m) (take n slots)) place ≡ table_at pol m slots place
      by-test true e = rw e (ap (λ (x : Candidate). x ∷ []) (sym (seen_false holds pol)))
      by-test false e =
          let low : place < n = ltb-true place n (subst (λ (b : Bool). cond b true (ltb place n) ≡ true) e h) in
          rw e
          (map_at (slot_table pol m) (take n slots) place 0 [] (omega (arith, length-take-le n slots few))
          ∙ ap (slot_table pol m) (get_or-take n slots place 0 low))

  module _ (c : Context) (p : Probs) (g : Again) (a : Pairing) (places : places_within n a ≡ true) where
    tables : List Table
    tables = map (slot_table pol m) (take n slots)

    first-is : table_no tables a.first ≡ table_at pol m slots a.first
    unfolding tables
    first-is = table-at a.first (and_left (within n a.first) (within n a.second && within n a.third) places)

    others : within n a.second && within n a.third ≡ true
    others = and_right (within n a.first) (within n a.second && within n a.third) places

    second_is : table_no tables a.second ≡ table_at pol m slots a.second
    unfolding tables
    second_is = table-at a.second (and_left (within n a.second) (within n a.third) others)

    third-is : table_no tables a.third ≡ table_at pol m slots a.third
    unfolding tables
    third-is = table-at a.third (and_right (within n a.second) (within n a.third) others)

    by_kind : (b : Bool) (t : Table) (s : State) →
        cond b (ternary c p g a.lw a.rw (table_no tables a.first) (table_no tables a.second) (table_no tables a.third) t)
        (binary c p g (pair_no a.kind) a.lw a.rw (table_no tables a.first) (table_no tables a.second) t) s
        ≡ for_mades (wrapped_if_made c p g)
        (cond b
        (triples_of (and_or a.lw a.rw) (table_at pol m slots a.first) (table_at pol m slots a.second) (table_at pol m slots a.third))
        (pairs_of (pair_no a.kind a.lw a.rw) (table_at pol m slots a.first) (table_at pol m slots a.second))) t s
    by_kind true t s =
        rw (first-is, second_is, third-is)
        (ternary-mades c p g a.lw a.rw (table_at pol m slots a.first) (table_at pol m slots a.second) (table_at pol m slots a.third) t s)
    by_kind false t s =
        rw (first-is, second_is)
        (binary-mades c p g a.lw a.rw (pair_no a.kind) (table_at pol m slots a.first) (table_at pol m slots a.second) t s)

    pub paired-mades : (t : Table) (s : State) →
        paired c p g (map (slot_table pol m) (take n slots)) a t s ≡ for_mades (wrapped_if_made c p g) (mades_of pol m a slots) t s
    unfolding tables
    paired-mades t s = by_kind (eqb a.kind 55) t s

-- the pairings of And and of Or pair the tables that they asked for
pub and-within : all_within 4 and_pairings ≡ true
unfolding all_within
and-within = refl

pub and-or-within : (w v : Float) → all_within 5 (and_or_pairings w v) ≡ true
unfolding all_within
and-or-within w v = refl

pub or-within : (lw rw : Float) → all_within 8 (or_pairings lw rw) ≡ true
unfolding all_within
or-within lw rw = refl

-- ---- while nodes and tables are added

module _ {m₀ m : List ℕ} (holds : Holds m₀) (onward : Onward m₀ m) (pol : List ℕ) where
  seen-all-kept : (es : List ℕ) → AllBelow (node_count m₀) es → seen_all pol m es ≡ seen_all pol m₀ es
  unfolding AllBelow
  seen-all-kept [] h = refl
  seen-all-kept (e ∷ es) h =
      ap (λ (x : Candidate). x ∷ seen_all pol m es) (seen-kept holds onward.grows pol e h.0)
      ∙ ap (λ (xs : Table). seen pol m₀ e ∷ xs) (seen-all-kept es h.1)

module _ {m₀ m slots : List ℕ} {place : ℕ} (h : PlaceHolds m₀ slots place) (onward : Onward m₀ m) where
  entries-kept : entries_at m slots place ≡ entries_at m₀ slots place
  entries-kept = by-test (eqb place False) refl
    where
      by-test : (b : Bool) → eqb place False ≡ b → entries_at m slots place ≡ entries_at m₀ slots place
      by-test true e = rw e
      by-test false e =
          rw e
          (ap (λ (t : Slot). t.entries) (onward.slots (get_or slots place 0) (h.there (lt_of_le-ne h.within (eqb-false place False e)))))

  table_kept : Holds m₀ → (pol : List ℕ) → table_at pol m slots place ≡ table_at pol m₀ slots place
  table_kept holds pol =
      ap (seen_all pol m) entries-kept ∙ seen-all-kept holds onward pol (entries_at m₀ slots place) h.below

  below-kept : (es : List ℕ) → AllBelow (node_count m₀) es → AllBelow (node_count m) es
  unfolding AllBelow
  below-kept [] b = tt
  below-kept (e ∷ es) b = (omega (arith, b.0, onward.grows.more), below-kept es b.1)

  place_kept : PlaceHolds m slots place
  place_kept =
      record {
        within = h.within;
        there = λ l. omega (arith, h.there l, onward.more);
        below = subst (λ (es : List ℕ). AllBelow (node_count m) es) (sym entries-kept) (below-kept (entries_at m₀ slots place) h.below);
      }

module _ {m₀ m slots : List ℕ} {a : Pairing} (h : Paired m₀ a slots) (onward : Onward m₀ m) where
  pub paired-kept : Holds m → Kept m → Paired m a slots
  paired-kept holds kept =
      record {
        nodes = holds;
        tables = kept;
        first = place_kept h.first onward;
        second = place_kept h.second onward;
        third = place_kept h.third onward;
      }

  pub mades-kept : (pol : List ℕ) → mades_of pol m a slots ≡ mades_of pol m₀ a slots
  mades-kept pol =
      rw (table_kept h.first onward h.nodes pol, table_kept h.second onward h.nodes pol, table_kept h.third onward h.nodes pol)

  pub count_kept : count_of m a slots ≡ count_of m₀ a slots
  count_kept = rw (entries-kept h.first onward, entries-kept h.second onward, entries-kept h.third onward)

-- ---- of work memory that is ready

module _ {pol m : List ℕ} (ready : Ready pol m) where
  -- the tables of slots are the same later on
  pub tables-kept : {m' : List ℕ} → Onward m m' → (ss : List ℕ) → AllBelow (table_count m) ss
      → map (slot_table pol m') ss ≡ map (slot_table pol m) ss
  unfolding AllBelow
  tables-kept onward [] b = refl
  tables-kept {m'} onward (s ∷ ss) b =
      ap (λ (t : Table). t ∷ map (slot_table pol m') ss)
      (ap (λ (t : Slot). seen_all pol m' t.entries) (onward.slots s b.0)
      ∙ seen-all-kept ready.nodes onward pol (slot_at m s).entries (ready.slots s b.0).below)
      ∙ ap (λ (ts : List Table). slot_table pol m s ∷ ts) (tables-kept onward ss b.1)

  module _ (slots : List ℕ) (n : ℕ) (few : n ≤ length slots) (most : n ≤ 8) (below : AllBelow (table_count m) (take n slots)) where
    place-ready : (place : ℕ) → within n place ≡ true → PlaceHolds m slots place
    unfolding AllBelow
    place-ready place h = by-test (eqb place False) refl
      where
        by-test : (b : Bool) → eqb place False ≡ b → PlaceHolds m slots place
        by-test true e =
            let is : place ≡ 8 = eqb-true place False e in
            record { within = omega arith; there = λ l. absurd (omega arith); below = rw e (omega (arith, ready.nodes.two), tt) }
        by-test false e =
            let low : place < n = ltb-true place n (subst (λ (b : Bool). cond b true (ltb place n) ≡ true) e h) in
            let there : get_or slots place 0 < table_count m =
            subst (λ (s : ℕ). s < table_count m) (get_or-take n slots place 0 low)
            (below_at (table_count m) (take n slots) below place (omega (arith, length-take-le n slots few))) in
            record { within = omega arith; there = λ l. there; below = rw e (ready.slots (get_or slots place 0) there).below }

    pub ready-paired : (a : Pairing) → places_within n a ≡ true → Paired m a slots
    ready-paired a h =
        let others = and_right (within n a.first) (within n a.second && within n a.third) h in
        record {
          nodes = ready.nodes;
          tables = ready.tables;
          first = place-ready a.first (and_left (within n a.first) (within n a.second && within n a.third) h);
          second = place-ready a.second (and_left (within n a.second) (within n a.third) others);
          third = place-ready a.third (and_right (within n a.second) (within n a.third) others);
        }

-- ---- one slot more

below_more : (k n : ℕ) → k ≤ n → (ss : List ℕ) → AllBelow k ss → AllBelow n ss
unfolding AllBelow
below_more k n le [] b = tt
below_more k n le (s ∷ ss) b = (omega (arith, b.0), below_more k n le ss b.1)

below-snoc : (n : ℕ) (ss : List ℕ) → AllBelow n ss → (s : ℕ) → s < n → AllBelow n (ss ++ (s ∷ []))
unfolding AllBelow
below-snoc n [] b s l = (l, tt)
below-snoc n (r ∷ ss) b s l = (b.0, below-snoc n ss b.1 s l)

map_snoc : {A B : Type 0} (f : A → B) (xs : List A) (x : A) → map f (xs ++ (x ∷ [])) ≡ map f xs ++ (f x ∷ [])
map_snoc f [] x = refl
map_snoc f (y ∷ xs) x = ap (λ l. f y ∷ l) (map_snoc f xs x)

module _ (slots : List ℕ) (n s : ℕ) (room : n < length slots) where
  taken_next : take (n + 1) (set slots n s) ≡ take n slots ++ (s ∷ [])
  taken_next =
      let one : n + 1 ≡ suc n = omega arith in
      ap (λ (k : ℕ). take k (set slots n s)) one ∙ take-suc-set slots n s room

  pub slots_next : {k m : ℕ} → k ≤ m → AllBelow k (take n slots) → s < m → AllBelow m (take (n + 1) (set slots n s))
  slots_next {k} {m} le b l =
      subst (λ (ss : List ℕ). AllBelow m ss) (sym taken_next) (below-snoc m (take n slots) (below_more k m le (take n slots) b) s l)

  pub tables-next : {B : Type 0} (f : ℕ → B) → map f (take (n + 1) (set slots n s)) ≡ map f (take n slots) ++ (f s ∷ [])
  tables-next f = ap (map f) taken_next ∙ map_snoc f (take n slots) s
