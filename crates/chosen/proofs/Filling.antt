-- A memory is filled word by word, and then holds the bytes; and what its tests tell. Assumes nothing.
use mathlib.Core.Bool.{true, false}
use mathlib.Core.List.{List, [], ◌∷◌, ◌++◌, append_assoc}
use Rattle.std.specs.Prelude.{None}
use mathlib.Core.Path.{◌≡◌, refl, sym, ap, ◌∙◌}
use Prim.Native.Nat.{ℕ, suc, ◌+◌, ◌*◌, ◌-◌, ◌<◌, ◌≤◌}
use native.Mathlib.Numerals.{add-one}
use native.Mathlib.Omega.{arith}
use borrow.Author.Tests.{le-leb, lt-leb, eq-eqb, ne_eqb}
use lib.ListN.{length, set, take, drop, replicate, length-set, length-replicate, take-append-drop}
use lib.Seq.{set_at, length-take-le}
use Rattle.memory.specs.Layout.{work_words, word_at}
use Rattle.words.specs.Bytes.{little}
use Rattle.words.specs.Memory.{zeroed}
use Rattle.words.proofs.Bytes.{found}
use Rattle.records.specs.Numbers.{or_zero, u64}
use Rattle.chosen.specs.Form.{tree_words, tree_bytes, in_words, holding, room_in, held_in}
use Rattle.chosen.specs.Chosen.{is_written, all_zero, holds_tree, chosen_of}
use Rattle.chosen.proofs.Zeros.{zeros-are}
use Rattle.chosen.proofs.Holding.{words-many, word_more, zeros-behind, words-of-zeros}

module _ (bytes : List ℕ) (n : ℕ) where
  -- i words are filled, and the others are zero
  abbrev pub Filled : List ℕ → ℕ → Type 0
  Filled work i = work ≡ n ∷ (in_words i bytes ++ replicate (length work - 1 - i) 0)

  pub fill-starts : (m cleared : List ℕ) → cleared ≡ zeroed m → length m ≡ work_words → Filled (set cleared 0 n) 0
  unfolding in_words
  fill-starts m cleared e long =
      let k = length m - 1 in
      let more : length m ≡ suc k = omega arith in
      let same : length (set cleared 0 n) ≡ suc k = length-set cleared 0 n ∙ ap length e ∙ length-replicate (length m) 0 ∙ more in
      let left : length (set cleared 0 n) - 1 - 0 ≡ k = omega arith in
      ap (λ (l : List ℕ). set l 0 n) (e ∙ ap (λ (j : ℕ). replicate j 0) more)
      ∙ ap (λ (j : ℕ). n ∷ replicate j 0) (sym left)

  pub cleared-long : (m cleared : List ℕ) → cleared ≡ zeroed m → length m ≡ work_words → length cleared ≡ work_words
  cleared-long m cleared e long = ap length e ∙ length-replicate (length m) 0 ∙ long

  pub start-long : (m cleared : List ℕ) → cleared ≡ zeroed m → length m ≡ work_words → length (set cleared 0 n) ≡ work_words
  start-long m cleared e long = length-set cleared 0 n ∙ cleared-long m cleared e long

  pub fill_more : (work : List ℕ) (i : ℕ) → Filled work i → i < length work - 1 → 8 * i + 8 ≤ length bytes → (v : ℕ) → v ≡ u64 bytes (8 * i)
      → Filled (set work (1 + i) v) (i + 1)
  fill_more work i inv h room v is =
      let k = length work - 1 - (i + 1) in
      let more : length work - 1 - i ≡ suc k = omega arith in
      let same : length (set work (1 + i) v) - 1 - (i + 1) ≡ k = omega (arith, length-set work (1 + i) v) in
      let front = n ∷ in_words i bytes in
      let far : length front ≡ 1 + i = omega (arith, words-many i bytes) in
      let word : v ≡ little (take 8 (drop (8 * i) bytes)) =
      is ∙ ap or_zero (found 8 bytes (8 * i) (le-leb (8 * i + 8) (length bytes) room)) in
      ap (λ (l : List ℕ). set l (1 + i) v) (inv ∙ ap (λ (j : ℕ). n ∷ (in_words i bytes ++ replicate j 0)) more)
      ∙ set_at front 0 (replicate k 0) v (1 + i) far
      ∙ ap (λ (l : List ℕ). n ∷ l) (
      sym (append_assoc (in_words i bytes) (v ∷ []) (replicate k 0))
      ∙ ap (λ (w : ℕ). (in_words i bytes ++ (w ∷ [])) ++ replicate k 0) word
      ∙ ap (λ (l : List ℕ). l ++ replicate k 0) (sym (word_more i bytes))
      ∙ ap (λ (j : ℕ). in_words j bytes ++ replicate k 0) (sym (add-one i))
      ∙ ap (λ (j : ℕ). in_words (i + 1) bytes ++ replicate j 0) (sym same))

  pub fill-ends : (work : List ℕ) (i : ℕ) → Filled work i → length work ≡ work_words → n ≤ 8 * i → i ≤ tree_words → n ≤ length bytes
      → all_zero (drop n bytes) ≡ true → work ≡ holding (take n bytes)
  unfolding holding
  fill-ends work i inv long done few there zero =
      let k = length (drop n bytes) in
      let split : bytes ≡ take n bytes ++ replicate k 0 =
      sym (take-append-drop n bytes) ∙ ap (λ (l : List ℕ). take n bytes ++ l) (zeros-are (drop n bytes) zero) in
      let words : in_words i bytes ≡ in_words i (take n bytes) = ap (in_words i) split ∙ words-of-zeros i k (take n bytes) in
      let count : length (take n bytes) ≡ n = length-take-le n bytes there in
      let rest = length work - 1 - i in
      let all : i + rest ≡ tree_words = omega arith in
      inv
      ∙ ap (λ (l : List ℕ). n ∷ (l ++ replicate rest 0)) words
      ∙ ap (λ (l : List ℕ). n ∷ l) (sym (zeros-behind i rest (take n bytes) (omega arith)))
      ∙ ap (λ (j : ℕ). n ∷ in_words j (take n bytes)) all
      ∙ ap (λ (j : ℕ). j ∷ in_words tree_words (take n bytes)) (sym count)

-- ---- a memory that holds no tree

module _ (m : List ℕ) where
  pub no_length : (length m ≡ work_words → ⊥) → chosen_of m ≡ None
  unfolding chosen_of holds_tree
  no_length f = rw (ne_eqb (length m) work_words f)

  module _ (long : length m ≡ work_words) where
    pub no-count : tree_bytes < word_at m 0 → chosen_of m ≡ None
    unfolding chosen_of holds_tree
    no-count h = rw (eq-eqb (length m) work_words long, lt-leb (word_at m 0) tree_bytes h)

    module _ (few : word_at m 0 ≤ tree_bytes) where
      pub no-zeros : all_zero (drop (word_at m 0) (room_in m)) ≡ false → chosen_of m ≡ None
      unfolding chosen_of holds_tree
      no-zeros z = rw (eq-eqb (length m) work_words long, le-leb (word_at m 0) tree_bytes few, z)

      pub no-tree : all_zero (drop (word_at m 0) (room_in m)) ≡ true → is_written (held_in m) ≡ false → chosen_of m ≡ None
      unfolding chosen_of holds_tree
      no-tree z w = rw (eq-eqb (length m) work_words long, le-leb (word_at m 0) tree_bytes few, z, w)
