-- A memory that holds bytes is the one that holds them, and bytes write one tree: specs/Laws.antt. Assumes nothing.
use mathlib.Core.Bool.{Bool, true, false, ◌&&◌}
use mathlib.Core.List.{List, [], ◌∷◌, ◌++◌}
use Rattle.std.specs.Prelude.{Some}
use mathlib.Core.Path.{◌≡◌, refl, sym, ap, ◌∙◌}
use Prim.Native.Nat.{ℕ, ◌≤◌}
use native.Mathlib.Omega.{arith}
use borrow.Author.Tests.{eqb-true, leb-true}
use lib.Dec.{eqb, leb}
use lib.ListN.{length, take, drop, replicate, take-append-drop}
use lib.Seq.{take_at, drop_at, length-take-le}
use Rattle.memory.specs.Layout.{work_words, word_at}
use Rattle.words.specs.Bytes.{little, bytes_of}
use Rattle.words.proofs.Bytes.{length-bytes}
use Rattle.records.proofs.Forms.{and_left, and_right}
use Rattle.trees.specs.Reading.{done}
use Rattle.trees.specs.Tree.{tree_of}
use Rattle.writing.specs.WellFormed.{AllBelow}
use Rattle.writing.proofs.ReadBack.{read_back}
use Rattle.chosen.specs.Form.{tree_words, tree_bytes, in_words, holding, bytes_in, room_in, held_in}
use Rattle.chosen.specs.Chosen.{if_so, is_written, all_zero, holds_tree, chosen_of}
use Rattle.chosen.proofs.Words.{length-in, little-bytes}
use Rattle.chosen.proofs.Zeros.{zeros-are}
use Rattle.chosen.proofs.Holding.{words-of-zeros}
use Rattle.choose_laws.specs.Laws.{OneMemory, OneTree}

words_back : (words : List ℕ) → AllBelow 18446744073709551616 words → in_words (length words) (bytes_in words) ≡ words
unfolding AllBelow in_words bytes_in
words_back [] below = refl
words_back (w ∷ words) below =
    let long = length-bytes 8 w in
    let first : little (take 8 (bytes_of 8 w ++ bytes_in words)) ≡ w =
    ap little (take_at (bytes_of 8 w) (bytes_in words) 8 long) ∙ little-bytes 8 w below.0 in
    let others : in_words (length words) (drop 8 (bytes_of 8 w ++ bytes_in words)) ≡ words =
    ap (in_words (length words)) (drop_at (bytes_of 8 w) (bytes_in words) 8 long) ∙ words_back words below.1 in
    rw (first, others)

-- what a memory that holds bytes is like
record Held (m b : List ℕ) : Type 0 where
  is : held_in m ≡ b
  long : length m ≡ work_words
  few : word_at m 0 ≤ tree_bytes
  blank : all_zero (drop (word_at m 0) (room_in m)) ≡ true

held : (m b : List ℕ) → chosen_of m ≡ Some b → Held m b
unfolding chosen_of holds_tree
held m b e = by-test (eqb (length m) work_words && leb (word_at m 0) tree_bytes && all_zero (drop (word_at m 0) (room_in m)) && is_written (held_in m)) refl e
  where
    one : Bool
    one = eqb (length m) work_words

    two : Bool
    two = leb (word_at m 0) tree_bytes

    three : Bool
    three = all_zero (drop (word_at m 0) (room_in m))

    by-test : (t : Bool) → (one && two && three && is_written (held_in m)) ≡ t → if_so t (held_in m) ≡ Some b → Held m b
    by-test true h e =
        let all = and_left (one && two && three) (is_written (held_in m)) h in
        let both = and_left (one && two) three all in
        record {
          is = cc;
          long = eqb-true (length m) work_words (and_left one two both);
          few = leb-true (word_at m 0) tree_bytes (and_right one two both);
          blank = and_right (one && two) three all;
        }
    by-test false h e = absurd (let z : ◌≡◌ {A = ℕ} 0 1 = cc in omega arith)

pub one-memory : OneMemory
unfolding AllBelow holding room_in
one-memory [] b below e = absurd (omega (arith, (held [] b e).long))
one-memory (w ∷ words) b below e =
    let h = held (w ∷ words) b e in
    let long : length words ≡ tree_words = omega (arith, h.long) in
    let count : length b ≡ w = ap length (sym h.is) ∙ length-take-le w (bytes_in words) (omega (arith, length-in words, h.few)) in
    let k = length (drop w (bytes_in words)) in
    let split : bytes_in words ≡ b ++ replicate k 0 =
    sym (take-append-drop w (bytes_in words)) ∙ ap (λ (l : List ℕ). l ++ drop w (bytes_in words)) h.is
    ∙ ap (λ (l : List ℕ). b ++ l) (zeros-are (drop w (bytes_in words)) h.blank) in
    let same : words ≡ in_words tree_words b =
    sym (words_back words below.1) ∙ ap (λ (n : ℕ). in_words n (bytes_in words)) long ∙ ap (in_words tree_words) split
    ∙ words-of-zeros tree_words k b in
    ap (λ (n : ℕ). n ∷ words) (sym count) ∙ ap (λ (l : List ℕ). length b ∷ l) same

pub one-tree : OneTree
one-tree b f g wf wg sf sg ef eg =
    let rf : tree_of b ≡ done f = ap tree_of ef ∙ read_back f wf sf in
    let rg : tree_of b ≡ done g = ap tree_of eg ∙ read_back g wg sg in
    cc
