-- A memory that holds the bytes of a tree is read again as these bytes, and no other memory holds them. Assumes nothing.
use mathlib.Core.Bool.{Bool, true, false, ◌&&◌}
use mathlib.Core.List.{List, [], ◌∷◌, ◌++◌, append_assoc, append-nil}
use Rattle.std.specs.Prelude.{Option, None, Some}
use mathlib.Core.Path.{◌≡◌, refl, sym, ap, subst, ◌∙◌}
use Prim.Native.Nat.{ℕ, zero, suc, ◌+◌, ◌*◌, ◌-◌, ◌/◌, ◌%◌, ◌^◌, ◌<◌, ◌≤◌}
use native.Mathlib.Nat.{zero-add}
use native.Mathlib.Numerals.{add-one}
use native.Mathlib.Omega.{arith}
use borrow.Author.Tests.{le-leb, lt-leb, leb-true, leb-false, eq-eqb, eqb-true}
use lib.Dec.{leb, eqb}
use lib.ListN.{length, get_or, set, take, drop, replicate, length-append, length-drop, length-set, length-replicate, take-append-drop, replicate-append-replicate}
use lib.Seq.{drop-drop, take_at, drop_at, take-append_seam, drop-append_seam, set_at, length-take-le}
use Rattle.memory.specs.Layout.{work_words, word_at}
use Rattle.words.specs.Bytes.{little, bytes_of, le_at}
use Rattle.words.specs.Memory.{zeroed}
use Rattle.words.proofs.Bytes.{length-bytes, found}
use Rattle.records.specs.Numbers.{or_zero, u64}
use Rattle.records.proofs.Forms.{and_left, and_right}
use Rattle.writing.specs.WellFormed.{AllBelow}
use Rattle.chosen.specs.Form.{tree_words, tree_bytes, in_words, holding, bytes_in, room_in, held_in}
use Rattle.chosen.specs.Chosen.{if_so, is_written, all_zero, holds_tree, chosen_of}
use Rattle.chosen.proofs.Words.{room-long, little-bytes}
use Rattle.chosen.proofs.Zeros.{zeros-are, zeros-zero}

-- ---- bytes in words

pub words-many : (w : ℕ) (b : List ℕ) → length (in_words w b) ≡ w
unfolding in_words
words-many zero b = refl
words-many (suc w) b = ap suc (words-many w (drop 8 b))

pub word_more : (i : ℕ) (b : List ℕ) → in_words (suc i) b ≡ in_words i b ++ (little (take 8 (drop (8 * i) b)) ∷ [])
unfolding in_words
word_more zero b = refl
word_more (suc i) b =
    let e : 8 + 8 * i ≡ 8 * suc i = omega arith in
    ap (λ (l : List ℕ). little (take 8 b) ∷ l)
    (word_more i (drop 8 b) ∙ rw (drop-drop (8 * i) 8 b, e))

no_bytes : (w : ℕ) → in_words w [] ≡ replicate w 0
unfolding in_words little
no_bytes zero = refl
no_bytes (suc w) = ap (λ (l : List ℕ). 0 ∷ l) (no_bytes w)

empty : (b : List ℕ) → length b ≤ 0 → b ≡ []
empty [] h = refl
empty (x ∷ b) h = absurd (omega arith)

pub zeros-behind : (i k : ℕ) (b : List ℕ) → length b ≤ 8 * i → in_words (i + k) b ≡ in_words i b ++ replicate k 0
unfolding in_words
zeros-behind zero k b h = rw (zero-add k, empty b (omega arith)) (no_bytes k)
zeros-behind (suc i) k b h =
    let e : suc i + k ≡ suc (i + k) = omega arith in
    rw e (ap (λ (l : List ℕ). little (take 8 b) ∷ l) (zeros-behind i k (drop 8 b) (omega (arith, length-drop 8 b))))

-- zeros behind some bytes change no word

little-zeros : (j k : ℕ) → little (take j (replicate k 0)) ≡ 0
unfolding little
little-zeros zero k = refl
little-zeros (suc j) zero = refl
little-zeros (suc j) (suc k) = rw (little-zeros j k)

take-zeros : (j k : ℕ) (b : List ℕ) → little (take j (b ++ replicate k 0)) ≡ little (take j b)
unfolding little
take-zeros zero k b = refl
take-zeros (suc j) k [] = little-zeros (suc j) k
take-zeros (suc j) k (x ∷ b) = rw (take-zeros j k b)

drop-none : (n : ℕ) → drop {A = ℕ} n [] ≡ []
drop-none zero = refl
drop-none (suc n) = refl

drop-zeros : (j k : ℕ) (b : List ℕ) → (k' : ℕ) × (drop j (b ++ replicate k 0) ≡ drop j b ++ replicate k' 0)
drop-zeros zero k b = (k, refl)
drop-zeros (suc j) zero [] = (0, refl)
drop-zeros (suc j) (suc k) [] =
    let more = drop-zeros j k [] in
    (more.0, more.1 ∙ ap (λ (l : List ℕ). l ++ replicate more.0 0) (drop-none j))
drop-zeros (suc j) k (x ∷ b) = drop-zeros j k b

pub words-of-zeros : (w k : ℕ) (b : List ℕ) → in_words w (b ++ replicate k 0) ≡ in_words w b
unfolding in_words
words-of-zeros zero k b = refl
words-of-zeros (suc w) k b =
    let more = drop-zeros 8 k b in
    rw (take-zeros 8 k b, more.1) (ap (λ (l : List ℕ). little (take 8 b) ∷ l) (words-of-zeros w more.0 (drop 8 b)))

-- ---- the bytes of words that were made of bytes

zero-bytes-are : (k : ℕ) → bytes_of k 0 ≡ replicate k 0
unfolding bytes_of
zero-bytes-are zero = refl
zero-bytes-are (suc k) = ap (λ (l : List ℕ). 0 ∷ l) (zero-bytes-are k)

bytes_back : (k j : ℕ) (b : List ℕ) → AllBelow 256 b → length b + j ≡ k → bytes_of k (little b) ≡ b ++ replicate j 0
unfolding bytes_of little AllBelow
bytes_back zero j [] below e =
    let z : j ≡ 0 = omega arith in
    rw z
bytes_back (suc k) j [] below e =
    let z : suc k ≡ j = omega arith in
    zero-bytes-are (suc k) ∙ ap (λ (n : ℕ). replicate n 0) z
bytes_back zero j (x ∷ b) below e = absurd (omega arith)
bytes_back (suc k) j (x ∷ b) below e =
    let first : (x + little b * 256) % 256 ≡ x = omega (arith, below.0) in
    let others : (x + little b * 256) / 256 ≡ little b = omega (arith, below.0) in
    rw (first, others) (ap (λ (l : List ℕ). x ∷ l) (bytes_back k j b below.1 (omega arith)))

below-take : (n : ℕ) (b : List ℕ) → AllBelow 256 b → AllBelow 256 (take n b)
unfolding AllBelow
below-take zero b below = tt
below-take (suc n) [] below = tt
below-take (suc n) (x ∷ b) below = (below.0, below-take n b below.1)

below-drop : (n : ℕ) (b : List ℕ) → AllBelow 256 b → AllBelow 256 (drop n b)
unfolding AllBelow
below-drop zero b below = below
below-drop (suc n) [] below = tt
below-drop (suc n) (x ∷ b) below = below-drop n b below.1

all-taken : (n : ℕ) (b : List ℕ) → length b ≤ n → (take n b ≡ b) × (drop n b ≡ [])
all-taken zero [] h = (refl, refl)
all-taken zero (x ∷ b) h = absurd (omega arith)
all-taken (suc n) [] h = (refl, refl)
all-taken (suc n) (x ∷ b) h =
    let more = all-taken n b (omega arith) in
    (ap (λ (l : List ℕ). x ∷ l) more.0, more.1)

bytes-in-words : (w : ℕ) (b : List ℕ) → AllBelow 256 b → length b ≤ 8 * w → (k : ℕ) × (bytes_in (in_words w b) ≡ b ++ replicate k 0)
unfolding in_words bytes_in
bytes-in-words zero b below h = (0, sym (rw (empty b (omega arith))))
bytes-in-words (suc w) b below h =
    let more = bytes-in-words w (drop 8 b) (below-drop 8 b below) (omega (arith, length-drop 8 b)) in
    by_size more.0 more.1 (leb 8 (length b)) refl
  where
    by_size : (k : ℕ) → bytes_in (in_words w (drop 8 b)) ≡ drop 8 b ++ replicate k 0 → (t : Bool) → leb 8 (length b) ≡ t
        → (k : ℕ) × (bytes_of 8 (little (take 8 b)) ++ bytes_in (in_words w (drop 8 b)) ≡ b ++ replicate k 0)
    by_size k e true l =
        let long = length-take-le 8 b (leb-true 8 (length b) l) in
        let first : bytes_of 8 (little (take 8 b)) ≡ take 8 b = bytes_back 8 0 (take 8 b) (below-take 8 b below) (omega arith) ∙ append-nil (take 8 b) in
        (k, rw (first, e, ← append_assoc (take 8 b) (drop 8 b) (replicate k 0), take-append-drop 8 b))
    by_size k e false l =
        let all = all-taken 8 b (omega (arith, leb-false 8 (length b) l)) in
        let j = 8 - length b in
        let first : bytes_of 8 (little (take 8 b)) ≡ b ++ replicate j 0 =
        ap (λ (s : List ℕ). bytes_of 8 (little s)) all.0 ∙ bytes_back 8 j b below (omega (arith, leb-false 8 (length b) l)) in
        let others : bytes_in (in_words w (drop 8 b)) ≡ replicate k 0 = e ∙ ap (λ (s : List ℕ). s ++ replicate k 0) all.1 in
        (j + k, rw (first, others, append_assoc b (replicate j 0) (replicate k 0), replicate-append-replicate {A = ℕ} j k 0))

-- ---- a memory that holds bytes

pub holds : (m : List ℕ) → length m ≡ work_words → word_at m 0 ≤ tree_bytes → all_zero (drop (word_at m 0) (room_in m)) ≡ true → is_written (held_in m) ≡ true
    → chosen_of m ≡ Some (held_in m)
unfolding chosen_of holds_tree
holds m long few blank writes = rw (eq-eqb (length m) work_words long, le-leb (word_at m 0) tree_bytes few, blank, writes)

pub holding-long : (b : List ℕ) → length (holding b) ≡ work_words
unfolding holding
holding-long b = ap suc (words-many tree_words b)

module _ (b : List ℕ) (below : AllBelow 256 b) (fits : length b ≤ tree_bytes) where
  room_of : (k : ℕ) × (room_in (holding b) ≡ b ++ replicate k 0)
  unfolding room_in holding
  room_of = bytes-in-words tree_words b below (omega arith)

  held-again : held_in (holding b) ≡ b
  unfolding holding
  held-again = ap (take (length b)) room_of.1 ∙ take-append_seam b (replicate room_of.0 0)

  nothing-else : all_zero (drop (word_at (holding b) 0) (room_in (holding b))) ≡ true
  unfolding holding
  nothing-else =
      ap all_zero (ap (drop (length b)) room_of.1 ∙ drop-append_seam b (replicate room_of.0 0)) ∙ zeros-zero room_of.0

  first : word_at (holding b) 0 ≡ length b
  unfolding holding
  first = refl

  -- what a memory holds is read again
  pub chosen-again : is_written b ≡ true → chosen_of (holding b) ≡ Some b
  chosen-again writes =
      holds (holding b) (holding-long b) (omega (arith, first)) nothing-else (ap is_written held-again ∙ writes) ∙ ap Some held-again
