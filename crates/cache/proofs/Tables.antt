-- Laws on the tables that work memory remembers. Crates above cite `slots_same`, `slot-at`, `slots-count`, `entries-count`, `entries-few`,
-- `entry_of`, `found_at` and `found_none`. Assumes nothing.
use mathlib.Core.Bool.{Bool, true, false, cond}
use mathlib.Core.List.{List, [], ◌∷◌, ◌++◌}
use Rattle.std.specs.Prelude.{None, Some, Option}
use mathlib.Core.Path.{◌≡◌, refl, sym, ◌∙◌, ap}
use Prim.Native.Nat.{ℕ, zero, suc, ◌+◌, ◌*◌, ◌/◌, ◌-◌, ◌<◌, ◌≤◌}
use native.Mathlib.Omega.{arith}
use borrow.Author.Tests.{ltb-true, ltb-false}
use lib.Dec.{ltb}
use lib.Ieee.{Float}
use lib.ListN.{length, get_or, take, length-append, get_or-append}
use lib.Seq.{get_or_at, take-suc}
use Rattle.memory.specs.Layout.{work_words, keys_from, entries_from, max_entries, word_at, table_count}
use Rattle.cache.specs.Slots.{Slot, length_in, entry_at, entries_up_to, slot_at, slots_up_to, slots, Kept}
use Rattle.cache.specs.Lookup.{same_key, newest, find_up_to, find_in}

-- ---- the entries of a table

pub length-up-to : (m : List ℕ) (s n : ℕ) → length (entries_up_to m s n) ≡ n
unfolding entries_up_to
length-up-to m s zero = refl
length-up-to m s (suc n) = rw (length-append (entries_up_to m s n) (entry_at m s n ∷ []), length-up-to m s n) (omega arith)

pub entries-count : (m : List ℕ) (s : ℕ) → length (slot_at m s).entries ≡ length_in (word_at m (keys_from + 3 * s))
entries-count m s = length-up-to m s (length_in (word_at m (keys_from + 3 * s)))

pub entries-few : (m : List ℕ) (s : ℕ) → length (slot_at m s).entries ≤ max_entries
entries-few m s = rw (entries-count m s) (omega arith)

at-up-to : (m : List ℕ) (s n j : ℕ) → j < n → get_or (entries_up_to m s n) j 0 ≡ entry_at m s j
unfolding entries_up_to
at-up-to m s zero j h = absurd (omega arith)
at-up-to m s (suc n) j h = by_place (λ b. at-up-to m s n j b) (ltb j n) refl
  where
    by_place : (j < n → get_or (entries_up_to m s n) j 0 ≡ entry_at m s j)
        → (t : Bool) → ltb j n ≡ t → get_or (entries_up_to m s n ++ (entry_at m s n ∷ [])) j 0 ≡ entry_at m s j
    by_place before true e =
        let b : j < n = ltb-true j n e in
        get_or-append (entries_up_to m s n) (entry_at m s n ∷ []) 0 j (rw (length-up-to m s n) b) ∙ before b
    by_place before false e =
        let b : n ≤ j = ltb-false j n e in
        let i : j ≡ n = omega arith in
        rw i (get_or_at (entries_up_to m s n) (entry_at m s n) [] 0 n (length-up-to m s n))

pub entry_of : (m : List ℕ) (s j : ℕ) → j < length (slot_at m s).entries → get_or (slot_at m s).entries j 0 ≡ entry_at m s j
entry_of m s j h = at-up-to m s (length_in (word_at m (keys_from + 3 * s))) j (omega (arith, entries-count m s))

-- the entries are those of a list, one by one
pub up-to-are : (m es : List ℕ) (s n : ℕ) → n ≤ length es → ((j : ℕ) → j < n → entry_at m s j ≡ get_or es j 0) → entries_up_to m s n ≡ take n es
unfolding entries_up_to
up-to-are m es s zero h are = refl
up-to-are m es s (suc n) h are =
    rw (take-suc es n 0 (omega arith), up-to-are m es s n (omega arith) (λ j l. are j (omega arith)), are n (omega arith))

-- ---- tables in two memories

module _ (m₀ m : List ℕ) where
  up-to-same : (s n : ℕ) → n ≤ 128
      → ((at : ℕ) → entries_from + 32 * s ≤ at → at < entries_from + 32 * s + 32 → word_at m at ≡ word_at m₀ at)
      → entries_up_to m s n ≡ entries_up_to m₀ s n
  unfolding entries_up_to
  up-to-same s zero h same = refl
  up-to-same s (suc n) h same =
      rw (up-to-same s n (omega arith) same, same (entries_from + 32 * s + n / 4) (omega arith) (omega arith))

  pub slot_same : (s : ℕ)
      → ((at : ℕ) → keys_from + 3 * s ≤ at → at < keys_from + 3 * s + 3 → word_at m at ≡ word_at m₀ at)
      → ((at : ℕ) → entries_from + 32 * s ≤ at → at < entries_from + 32 * s + 32 → word_at m at ≡ word_at m₀ at)
      → slot_at m s ≡ slot_at m₀ s
  slot_same s keys entries =
      rw (
        keys (keys_from + 3 * s) (omega arith) (omega arith),
        keys (keys_from + 3 * s + 1) (omega arith) (omega arith),
        keys (keys_from + 3 * s + 2) (omega arith) (omega arith),
        up-to-same s (length_in (word_at m₀ (keys_from + 3 * s))) (omega arith) entries,
      )

  pub first-same : (n : ℕ)
      → ((at : ℕ) → keys_from ≤ at → at < keys_from + 3 * n → word_at m at ≡ word_at m₀ at)
      → ((at : ℕ) → entries_from ≤ at → at < entries_from + 32 * n → word_at m at ≡ word_at m₀ at)
      → slots_up_to m n ≡ slots_up_to m₀ n
  unfolding slots_up_to
  first-same zero keys entries = refl
  first-same (suc n) keys entries =
      rw (
        slot_same n (λ at l u. keys at (omega arith) (omega arith)) (λ at l u. entries at (omega arith) (omega arith)),
        first-same n (λ at l u. keys at (omega arith) (omega arith)) (λ at l u. entries at (omega arith) (omega arith)),
      )

  -- the tables are as they were where their words are
  pub slots_same : Kept m₀ → ((at : ℕ) → keys_from ≤ at → at < work_words → word_at m at ≡ word_at m₀ at)
      → table_count m ≡ table_count m₀ → slots m ≡ slots m₀
  slots_same kept same count =
      let few = kept.few in
      rw count
      (first-same (table_count m₀) (λ at l u. same at (omega arith) (omega arith)) (λ at l u. same at (omega arith) (omega arith)))

-- ---- a table by its number

pub count-up-to : (m : List ℕ) (n : ℕ) → length (slots_up_to m n) ≡ n
unfolding slots_up_to
count-up-to m zero = refl
count-up-to m (suc n) = ap suc (count-up-to m n)

pub slots-count : (m : List ℕ) → length (slots m) ≡ table_count m
slots-count m = count-up-to m (table_count m)

at-number : (m : List ℕ) (n s : ℕ) (d : Slot) → s < n → get_or (slots_up_to m n) (n - 1 - s) d ≡ slot_at m s
unfolding slots_up_to
at-number m zero s d h = absurd (omega arith)
at-number m (suc n) s d h = by_place (λ b. at-number m n s d b) (ltb s n) refl
  where
    by_place : (s < n → get_or (slots_up_to m n) (n - 1 - s) d ≡ slot_at m s)
        → (t : Bool) → ltb s n ≡ t → get_or (slot_at m n ∷ slots_up_to m n) (suc n - 1 - s) d ≡ slot_at m s
    by_place older true e =
        let b : s < n = ltb-true s n e in
        let i : suc n - 1 - s ≡ suc (n - 1 - s) = omega arith in
        rw i (older b)
    by_place older false e =
        let b : n ≤ s = ltb-false s n e in
        let q : s ≡ n = omega arith in
        let i : suc n - 1 - s ≡ 0 = omega arith in
        rw (i, q)

-- table s stands as many places from the newest as were stored after it
pub slot-at : (m : List ℕ) (s : ℕ) (d : Slot) → s < table_count m → get_or (slots m) (table_count m - 1 - s) d ≡ slot_at m s
slot-at m s d h = at-number m (table_count m) s d h

-- ---- the table that is found

pub record FoundAt (m : List ℕ) (n s number : ℕ) (sat : Float) (dissat : Option Float) : Type 0 where
  pub there : s < n
  pub same : same_key number sat dissat (slot_at m s) ≡ true
  pub newest : newest number sat dissat (slots_up_to m n) ≡ Some (slot_at m s)

module _ (m : List ℕ) (number : ℕ) (sat : Float) (dissat : Option Float) where
  find-here : (n : ℕ) → same_key number sat dissat (slot_at m n) ≡ true → find_up_to m (suc n) number sat dissat ≡ Some n
  unfolding find_up_to
  find-here n e = rw e

  find-older : (n : ℕ) → same_key number sat dissat (slot_at m n) ≡ false
      → find_up_to m (suc n) number sat dissat ≡ find_up_to m n number sat dissat
  unfolding find_up_to
  find-older n e = rw e

  pub find_none : find_up_to m 0 number sat dissat ≡ None
  unfolding find_up_to
  find_none = refl

  -- the turns of a search from the newest on
  pub here-below : (n : ℕ) {r : Bool} → 0 < n → r ≡ same_key number sat dissat (slot_at m (n - 1)) → r ≡ true
      → Some (n - 1) ≡ find_up_to m n number sat dissat
  here-below n h k e =
      let i : n ≡ suc (n - 1) = omega arith in
      sym (ap (λ (k : ℕ). find_up_to m k number sat dissat) i ∙ find-here (n - 1) (sym k ∙ e))

  pub older-below : (n : ℕ) {r : Bool} → 0 < n → r ≡ same_key number sat dissat (slot_at m (n - 1)) → r ≡ false
      → find_up_to m (n - 1) number sat dissat ≡ find_up_to m n number sat dissat
  older-below n h k e =
      let i : n ≡ suc (n - 1) = omega arith in
      sym (ap (λ (k : ℕ). find_up_to m k number sat dissat) i ∙ find-older (n - 1) (sym k ∙ e))

  found-up-to : (n s : ℕ) → find_up_to m n number sat dissat ≡ Some s → FoundAt m n s number sat dissat
  unfolding find_up_to newest slots_up_to
  found-up-to zero s e = absurd (let z : ◌≡◌ {A = ℕ} 0 1 = cc in omega arith)
  found-up-to (suc n) s e = by_key (λ e. found-up-to n s e) (same_key number sat dissat (slot_at m n)) refl e
    where
      by_key : (find_up_to m n number sat dissat ≡ Some s → FoundAt m n s number sat dissat) → (t : Bool) → same_key number sat dissat (slot_at m n) ≡ t → cond t (Some n) (find_up_to m n number sat dissat) ≡ Some s
          → FoundAt m (suc n) s number sat dissat
      by_key before true k e =
          let q : n ≡ s = cc in
          record { there = omega arith; same = rw q at k; newest = rw (k, q) }
      by_key before false k e =
          let older = before e in
          record { there = omega (arith, older.there); same = older.same; newest = rw k older.newest }

  missing-up-to : (n : ℕ) → find_up_to m n number sat dissat ≡ None → newest number sat dissat (slots_up_to m n) ≡ None
  unfolding find_up_to newest slots_up_to
  missing-up-to zero e = refl
  missing-up-to (suc n) e = by_key (λ e. missing-up-to n e) (same_key number sat dissat (slot_at m n)) refl e
    where
      by_key : (find_up_to m n number sat dissat ≡ None → newest number sat dissat (slots_up_to m n) ≡ None) → (t : Bool) → same_key number sat dissat (slot_at m n) ≡ t → cond t (Some n) (find_up_to m n number sat dissat) ≡ None
          → newest number sat dissat (slot_at m n ∷ slots_up_to m n) ≡ None
      by_key before true k e = absurd (let z : ◌≡◌ {A = ℕ} 0 1 = cc in omega arith)
      by_key before false k e = rw k (before e)

  -- what the answers of `find` tell
  pub found_at : (s : ℕ) → find_in m number sat dissat ≡ Some s → FoundAt m (table_count m) s number sat dissat
  found_at s e = found-up-to (table_count m) s e

  pub found_none : find_in m number sat dissat ≡ None → newest number sat dissat (slots m) ≡ None
  found_none e = missing-up-to (table_count m) e
