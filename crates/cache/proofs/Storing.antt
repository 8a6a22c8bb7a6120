-- A table written: the tables of work memory are those of before and the new one. Assumes nothing.
use Rattle.std.specs.Prelude.{Option, Some}
use mathlib.Core.List.{List, ◌++◌, append_assoc}
use mathlib.Core.Path.{◌≡◌, refl, sym, ◌∙◌}
use Prim.Native.Nat.{ℕ, suc, ◌+◌, ◌*◌, ◌/◌, ◌%◌, ◌<◌, ◌≤◌}
use native.Mathlib.Numerals.{add-one}
use native.Mathlib.Omega.{arith}
use lib.Ieee.{Float}
use lib.ListN.{length, get_or, set, take, drop, length-set, length-drop}
use lib.Seq.{sets, sets-eq, drop-drop, length-take-le, length-sets, get_or-set_same, get_or-set_other}
use Rattle.words.proofs.Stores.{sets_below, sets-above, sets-in}
use Rattle.words.specs.Floats.{word_of_float, float_of_word}
use Rattle.memory.specs.Layout.{work_words, keys_from, entries_from, max_tables, word_at, table_count}
use Rattle.cache.specs.Slots.{slot, dissat_in, entry_in, entry_at, slot_at, slots_up_to, Kept}
use Rattle.cache.specs.Words.{flag_of, dissat_word, key_start, key_words, KeyPut, RowPut}
use Rattle.cache.specs.Answers.{OneMore, Stores}
use Rattle.cache.specs.Answers as answers
use Rattle.cache.proofs.Keys.{number-again, flag-again, length-again}
use Rattle.cache.proofs.Tables.{up-to-are, first-same}

-- a part that was lent and came back is a run of stores
pub lent_back : (m row : List ℕ) (a k : ℕ) → length row ≡ k → a + k ≤ length m → take a m ++ (row ++ drop k (drop a m)) ≡ sets m a row
lent_back m row a k l h = rw (drop-drop k a m, ← l) (sym (append_assoc (take a m) row (drop (a + length row) m)) ∙ sym (sets-eq row m a (omega arith)))

-- work memory after a table was written: a row of entries, the three words of its key, and the count
abbrev written : (m₀ row keys : List ℕ) → ℕ → List ℕ
written m₀ row keys s = set (sets (sets m₀ (entries_from + 32 * s) row) (keys_from + 3 * s) keys) 1 (s + 1)

module _ (m₀ row keys : List ℕ) (s : ℕ) (long : length m₀ ≡ work_words) (few : s < max_tables) (wide : length row ≡ 32) (three : length keys ≡ 3) where
  l₁ : length (sets m₀ (entries_from + 32 * s) row) ≡ work_words
  l₁ = length-sets m₀ (entries_from + 32 * s) row ∙ long

  l₂ : length (sets (sets m₀ (entries_from + 32 * s) row) (keys_from + 3 * s) keys) ≡ work_words
  l₂ = length-sets (sets m₀ (entries_from + 32 * s) row) (keys_from + 3 * s) keys ∙ l₁

  length-written : length (written m₀ row keys s) ≡ work_words
  length-written = length-set (sets (sets m₀ (entries_from + 32 * s) row) (keys_from + 3 * s) keys) 1 (s + 1) ∙ l₂

  count-written : word_at (written m₀ row keys s) 1 ≡ s + 1
  count-written = get_or-set_same (sets (sets m₀ (entries_from + 32 * s) row) (keys_from + 3 * s) keys) 1 (s + 1) 0 (omega (arith, l₂))

  past-count : (at : ℕ) → (at ≡ 1 → ⊥)
      → word_at (written m₀ row keys s) at ≡ word_at (sets (sets m₀ (entries_from + 32 * s) row) (keys_from + 3 * s) keys) at
  past-count at ne = get_or-set_other (sets (sets m₀ (entries_from + 32 * s) row) (keys_from + 3 * s) keys) 1 at (s + 1) 0 ne

  in-keys : (k : ℕ) → k < 3 → word_at (written m₀ row keys s) (keys_from + 3 * s + k) ≡ get_or keys k 0
  in-keys k h =
      past-count (keys_from + 3 * s + k) (λ e. omega arith)
      ∙ sets-in keys (sets m₀ (entries_from + 32 * s) row) (keys_from + 3 * s) k 0 (omega arith) (omega (arith, l₁))

  in-row : (k : ℕ) → k < 32 → word_at (written m₀ row keys s) (entries_from + 32 * s + k) ≡ get_or row k 0
  in-row k h =
      past-count (entries_from + 32 * s + k) (λ e. omega arith)
      ∙ sets-above keys (sets m₀ (entries_from + 32 * s) row) (keys_from + 3 * s) (entries_from + 32 * s + k) 0 (omega arith)
      ∙ sets-in row m₀ (entries_from + 32 * s) k 0 (omega arith) (omega arith)

  below-keys : (at : ℕ) → at < keys_from + 3 * s → (at ≡ 1 → ⊥) → word_at (written m₀ row keys s) at ≡ word_at m₀ at
  below-keys at h ne =
      past-count at ne
      ∙ sets_below keys (sets m₀ (entries_from + 32 * s) row) (keys_from + 3 * s) at 0 h
      ∙ sets_below row m₀ (entries_from + 32 * s) at 0 (omega arith)

  below_row : (at : ℕ) → entries_from ≤ at → at < entries_from + 32 * s → word_at (written m₀ row keys s) at ≡ word_at m₀ at
  below_row at l h =
      past-count at (λ e. omega arith)
      ∙ sets-above keys (sets m₀ (entries_from + 32 * s) row) (keys_from + 3 * s) at 0 (omega arith)
      ∙ sets_below row m₀ (entries_from + 32 * s) at 0 h

  older : slots_up_to (written m₀ row keys s) s ≡ slots_up_to m₀ s
  older = first-same m₀ (written m₀ row keys s) s (λ at l u. below-keys at u (λ e. omega arith)) (λ at l u. below_row at l u)

-- ---- the table that was written

module _ (m : List ℕ) (s number : ℕ) (sat : Float) (dissat : Option Float) (es : List ℕ) (len : ℕ) where
  new-slot : number < 0x1_0000 → len ≤ 128 → length es ≡ 128
      → float_of_word (word_of_float sat) ≡ sat → dissat_in (flag_of dissat) (dissat_word dissat) ≡ dissat
      → ((k : ℕ) → k < 3 → word_at m (keys_from + 3 * s + k) ≡ get_or (key_words number sat dissat len) k 0)
      → ((j : ℕ) → j < len → entry_at m s j ≡ get_or es j 0)
      → slot_at m s ≡ slot number sat dissat (take len es)
  new-slot small fits all sat_again dissat_again keys entries =
      let z : keys_from + 3 * s + 0 ≡ keys_from + 3 * s = omega arith in
      let first : word_at m (keys_from + 3 * s) ≡ key_start number dissat + len * 0x2_0000 = rw z at (keys 0 (omega arith)) in
      rw (
        first,
        keys 1 (omega arith),
        keys 2 (omega arith),
        number-again number dissat len small,
        flag-again number dissat len small,
        length-again number dissat len small fits,
        sat_again,
        dissat_again,
        up-to-are m es s len (omega arith) entries,
      )

module _ (m₀ row es : List ℕ) (number : ℕ) (sat : Float) (dissat : Option Float) (len : ℕ) where
  one_more : length m₀ ≡ work_words → table_count m₀ < max_tables → length row ≡ 32 → number < 0x1_0000 → len ≤ 128 → length es ≡ 128
      → float_of_word (word_of_float sat) ≡ sat → dissat_in (flag_of dissat) (dissat_word dissat) ≡ dissat
      → ((j : ℕ) → j < len → entry_in (get_or row (j / 4) 0) (j % 4) ≡ get_or es j 0)
      → OneMore m₀ (written m₀ row (key_words number sat dissat len) (table_count m₀)) (slot number sat dissat (take len es))
  unfolding slots_up_to
  one_more long few wide small fits all sat_again dissat_again holds =
      let s = table_count m₀ in
      let keys = key_words number sat dissat len in
      let m = written m₀ row keys s in
      let count : table_count m ≡ suc s = count-written m₀ row keys s long few wide refl ∙ add-one s in
      let entries : (j : ℕ) → j < len → entry_at m s j ≡ get_or es j 0 =
      λ j h. rw (in-row m₀ row keys s long few wide refl (j / 4) (omega arith)) (holds j h) in
      let new : slot_at m s ≡ slot number sat dissat (take len es) =
      new-slot m s number sat dissat es len small fits all sat_again dissat_again (in-keys m₀ row keys s long few wide refl) entries in
      record {
        kept = record { long = length-written m₀ row keys s long few wide refl; few = rw count (omega arith) };
        count = count;
        tables = rw (count, new, older m₀ row keys s long few wide refl);
        nodes =
            record {
              long = length-written m₀ row keys s long few wide refl ∙ sym long;
              words = λ at h ne. below-keys m₀ row keys s long few wide refl at (omega arith) ne;
            };
      }

  -- what the three writers leave
  pub stored : (k : ℕ) (m : List ℕ) → Kept m₀ → table_count m₀ < max_tables → len ≤ 128 → length es ≡ 128 → k ≡ 32
      → RowPut (take k (drop (entries_from + 32 * table_count m₀) m₀)) row es len
      → KeyPut (take (entries_from + 32 * table_count m₀) m₀ ++ (row ++ drop k (drop (entries_from + 32 * table_count m₀) m₀))) m
      (table_count m₀) number sat dissat len
      → Stores m₀ (set m 1 (table_count m₀ + 1)) (slot number sat dissat (take len es)) (Some (table_count m₀))
  stored k m kept few fits all is row_put key_put =
      let long = kept.long in
      let a = entries_from + 32 * table_count m₀ in
      let lent : length (take k (drop a m₀)) ≡ k = length-take-le k (drop a m₀) (rw (length-drop a m₀) (omega arith)) in
      let wide : length row ≡ k = row_put.long ∙ lent in
      let e : m ≡ sets (sets m₀ a row) (keys_from + 3 * table_count m₀) (key_words number sat dissat len) =
      key_put.is ∙ rw (lent_back m₀ row a k wide (omega arith)) in
      answers.at refl few
      (rw e
      (one_more long few (wide ∙ is) key_put.small fits all key_put.sat_again key_put.dissat_again row_put.holds))
