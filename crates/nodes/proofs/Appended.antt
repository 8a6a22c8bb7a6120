-- What adding a node or a row leaves, and what work memory with False and True alone holds. Assumes nothing.
use Rattle.std.specs.Prelude.{Some}
use mathlib.Core.Path.{◌≡◌, refl, sym, ap, ◌∙◌, subst}
use mathlib.Core.List.{List}
use mathlib.Core.Logic.{◌⊎◌, inl, inr}
use Prim.Native.Nat.{ℕ, zero, suc, ◌+◌, ◌*◌, ◌/◌, ◌%◌, ◌^◌, ◌<◌, ◌≤◌}
use native.Mathlib.Numerals.{add-one}
use native.Mathlib.Omega.{arith}
use lib.ListN.{length, get_or, set, length-set}
use lib.Seq.{sets, length-sets, get_or-set_same, get_or-set_other}
use Rattle.words.proofs.Stores.{sets_below, sets-in}
use Rattle.figures.specs.Bounds.{Entered}
use Rattle.figures.proofs.Entering.{false-entered, true-entered}
use Rattle.candidates.specs.declared.Candidate.{Candidate}
use Rattle.candidates.specs.Leaves.{false_candidate, true_candidate}
use Rattle.definition.specs.Tables.{Table}
use Rattle.memory.specs.Layout.{work_words, max_nodes, max_rows, rows_from, word_at, node_count, table_count, row_count}
use Rattle.nodes.specs.Words.{node_at, row_child}
use Rattle.nodes.specs.Views.{seen_as, first_nodes, seen, offered}
use Rattle.nodes.specs.Answers.{thresh_kind, max_figure, NodeHolds, Holds, Fresh, OneMore, Adds, at, OneRow, Begun}
use Rattle.nodes.specs.Stored.{FitExt, WordsAre, RowWordsAre}
use Rattle.nodes.proofs.Packed.{entered-fits}
use Rattle.nodes.proofs.Stored.{node-same, node-is, row_same, row-same-in, row-again, child-is, Put, put-leaves}
use Rattle.nodes.proofs.Seen.{seen_at}
use Rattle.nodes.proofs.Grown.{below_or, first-same, as_same}

node-as : (m : List ℕ) (i : ℕ) (y : Candidate) → node_at m i ≡ y → Entered max_figure y.ext → (y.kind ≡ thresh_kind → y.second < row_count m)
    → NodeHolds m i
node-as m i y e a b =
    record {
      entered = subst (λ (z : Candidate). Entered max_figure z.ext) (sym e) a;
      rowed = subst (λ (z : Candidate). z.kind ≡ thresh_kind → z.second < row_count m) (sym e) b;
    }

-- ---- a node

module _ {m₀ m : List ℕ} {x : Candidate} {ws : List ℕ} (holds : Holds m₀) (fresh : Fresh m₀ x) (room : node_count m₀ < max_nodes)
    (words : WordsAre x ws) (put : Put m₀ m 0 (suc (node_count m₀)) (8 * node_count m₀ + 8) ws) where
  eight : length ws ≡ 8
  eight = ap length words.is

  old : (i : ℕ) → i < node_count m₀ → node_at m i ≡ node_at m₀ i
  old i l = node-same m m₀ i (λ at a b. put.below at (λ e. omega arith) (omega arith))

  new : node_at m (node_count m₀) ≡ x
  new = node-is m (node_count m₀) x ws words (λ k l. put.inside k (omega (arith, eight)))

  rows-old : (row j : ℕ) → row_child m row j ≡ row_child m₀ row j
  rows-old row j = row_same m m₀ row j (put.above (rows_from + 4 * row + j / 4) (λ e. omega arith) (omega (arith, eight)))

  rows_same : row_count m ≡ row_count m₀
  rows_same = put.below 2 (λ e. omega arith) (omega arith)

  node-holds : (i : ℕ) → (i < node_count m₀) ⊎ (i ≡ node_count m₀) → NodeHolds m i
  node-holds i (inl l) =
      node-as m i (node_at m₀ i) (old i l) (holds.nodes i l).entered (λ k. omega (arith, rows_same, (holds.nodes i l).rowed k))
  node-holds i (inr e) =
      subst (λ (k : ℕ). NodeHolds m k) (sym e)
      (node-as m (node_count m₀) x new fresh.entered (λ k. omega (arith, rows_same, fresh.rowed k)))

  sees : (pol : List ℕ) → seen pol m (node_count m₀) ≡ offered pol m₀ x
  sees pol =
      seen_at pol m (node_count m₀) (omega (arith, put.counted))
      ∙ ap (λ (xs : Table). seen_as pol m xs (node_at m (node_count m₀)))
      (first-same pol m m₀ (node_count m₀) old (λ i l k j. rows-old (node_at m₀ i).second j))
      ∙ ap (seen_as pol m (first_nodes pol m₀ (node_count m₀))) new
      ∙ as_same pol m m₀ (first_nodes pol m₀ (node_count m₀)) x (λ k j. rows-old x.second j)

  one_more : OneMore m₀ m x
  one_more =
      record {
        holds =
            record {
              long = put.long ∙ holds.long;
              two = omega (arith, put.counted, holds.two);
              few = omega (arith, put.counted);
              rows = omega (arith, rows_same, holds.rows);
              false_first = old 0 (omega (arith, holds.two)) ∙ holds.false_first;
              true_next = old 1 (omega (arith, holds.two)) ∙ holds.true_next;
              nodes = λ i l. node-holds i (below_or i (node_count m₀) (omega (arith, put.counted)));
            };
        grows =
            record {
              more = omega (arith, put.counted);
              more_rows = omega (arith, rows_same);
              nodes = old;
              rows = λ row j l. rows-old row j;
            };
        tables =
            record {
              count = put.below 1 (λ e. omega arith) (omega arith);
              words = λ at a b. put.above at (λ e. omega arith) (omega (arith, eight));
            };
        count = put.counted;
        rows = rows_same;
        is = new;
        sees = sees;
      }

-- what a candidate that may become a node asks of its words
pub fresh-fits : {m : List ℕ} {x : Candidate} → Fresh m x → (x.kind < 0x40) × FitExt x.ext
fresh-fits {x} fresh = (fresh.kind, entered-fits max_figure x.ext (omega arith) fresh.entered)

pub added : {m₀ m₁ m : List ℕ} {x : Candidate} {ws : List ℕ} → Holds m₀ → Fresh m₀ x → (node_count m₀ ≡ max_nodes → ⊥) → WordsAre x ws
    → m₁ ≡ sets m₀ (8 * node_count m₀ + 8) ws → m ≡ set m₁ 0 (node_count m₀ + 1) → Adds m₀ m x (Some (node_count m₀))
added {m₀} {m₁} {m} {x} {ws} holds fresh left words e₁ e =
    let room : node_count m₀ < max_nodes = omega (arith, holds.few, left) in
    at refl room
    (one_more holds fresh room words
    (put-leaves m₀ m₁ m 0 (suc (node_count m₀)) (8 * node_count m₀ + 8) ws e₁ (e ∙ ap (λ (v : ℕ). set m₁ 0 v) (add-one (node_count m₀)))
    (omega arith) (omega (arith, eight-words words, holds.long))))
  where
    eight-words : WordsAre x ws → length ws ≡ 8
    eight-words w = ap length w.is

-- ---- a row

module _ {m₀ m row ws : List ℕ} (holds : Holds m₀) (room : row_count m₀ < max_rows) (words : RowWordsAre row ws)
    (put : Put m₀ m 2 (suc (row_count m₀)) (rows_from + 4 * row_count m₀) ws) where
  four : length ws ≡ 4
  four = ap length words.is

  all_old : (i : ℕ) → i < node_count m₀ → node_at m i ≡ node_at m₀ i
  all_old i l = node-same m m₀ i (λ at a b. put.below at (λ e. omega arith) (omega (arith, holds.few)))

  count_same : node_count m ≡ node_count m₀
  count_same = put.below 0 (λ e. omega arith) (omega arith)

  row_old : (r j : ℕ) → r < row_count m₀ → row_child m r j ≡ row_child m₀ r j
  row_old r j l = row-same-in m m₀ r j (λ s. put.below (rows_from + 4 * r + j / 4) (λ e. omega arith) (omega arith))

  row_new : (j : ℕ) → j < 16 → row_child m (row_count m₀) j ≡ get_or row j 0
  row_new j l =
      sym (child-is m (row_count m₀) j l refl)
      ∙ ap (λ (w : ℕ). w / (0x1_0000 ^ (j % 4)) % 0x1_0000) (put.inside (j / 4) (omega (arith, four)))
      ∙ row-again row ws words j l

  row_more : OneRow m₀ m row (row_count m₀)
  row_more =
      record {
        holds =
            record {
              long = put.long ∙ holds.long;
              two = omega (arith, count_same, holds.two);
              few = omega (arith, count_same, holds.few);
              rows = omega (arith, put.counted);
              false_first = all_old 0 (omega (arith, holds.two)) ∙ holds.false_first;
              true_next = all_old 1 (omega (arith, holds.two)) ∙ holds.true_next;
              nodes = λ i l. each i (omega (arith, count_same));
            };
        grows =
            record {
              more = omega (arith, count_same);
              more_rows = omega (arith, put.counted);
              nodes = all_old;
              rows = row_old;
            };
        tables =
            record {
              count = put.below 1 (λ e. omega arith) (omega arith);
              words = λ at a b. put.above at (λ e. omega arith) (omega (arith, four));
            };
        count = count_same;
        rows = put.counted;
        is = refl;
        children = row_new;
      }
    where
      each : (i : ℕ) → i < node_count m₀ → NodeHolds m i
      each i l =
          node-as m i (node_at m₀ i) (all_old i l) (holds.nodes i l).entered
          (λ k. omega (arith, put.counted, (holds.nodes i l).rowed k))

pub rowed : {m₀ m₁ m row ws : List ℕ} → Holds m₀ → row_count m₀ < max_rows → RowWordsAre row ws
    → m₁ ≡ sets m₀ (rows_from + 4 * row_count m₀) ws → m ≡ set m₁ 2 (row_count m₀ + 1) → OneRow m₀ m row (row_count m₀)
rowed {m₀} {m₁} {m} {row} {ws} holds room words e₁ e =
    row_more holds room words
    (put-leaves m₀ m₁ m 2 (suc (row_count m₀)) (rows_from + 4 * row_count m₀) ws e₁ (e ∙ ap (λ (v : ℕ). set m₁ 2 v) (add-one (row_count m₀)))
    (omega arith) (omega (arith, four-words words, holds.long)))
  where
    four-words : RowWordsAre row ws → length ws ≡ 4
    four-words w = ap length w.is

-- ---- False and True alone

pub false-fits : {x : Candidate} → x ≡ false_candidate → (x.kind < 0x40) × FitExt x.ext
false-fits e = rw e (omega arith, entered-fits 0 false_candidate.ext (omega arith) (false-entered 0))

pub true-fits : {x : Candidate} → x ≡ true_candidate → (x.kind < 0x40) × FitExt x.ext
true-fits e = rw e (omega arith, entered-fits 0 true_candidate.ext (omega arith) (true-entered 0))

pub words-as : {x y : Candidate} {ws : List ℕ} → x ≡ y → WordsAre x ws → WordsAre y ws
words-as {x} {y} {ws} e w = subst (λ (z : Candidate). WordsAre z ws) e w

module _ (m₀ no yes : List ℕ) (long : length m₀ ≡ work_words) (false_words : WordsAre false_candidate no) (true_words : WordsAre true_candidate yes) where
  start : List ℕ
  start = set (set (set m₀ 0 2) 1 0) 2 0

  both : List ℕ
  both = sets (sets start 8 no) 16 yes

  no-long : length no ≡ 8
  no-long = ap length false_words.is

  yes-long : length yes ≡ 8
  yes-long = ap length true_words.is

  start-long : length start ≡ work_words
  unfolding start
  start-long = length-set (set (set m₀ 0 2) 1 0) 2 0 ∙ length-set (set m₀ 0 2) 1 0 ∙ length-set m₀ 0 2 ∙ long

  one-long : length (sets start 8 no) ≡ work_words
  one-long = length-sets start 8 no ∙ start-long

  early : (p : ℕ) → p < 8 → word_at both p ≡ word_at start p
  unfolding both
  early p l = sets_below yes (sets start 8 no) 16 p 0 (omega arith) ∙ sets_below no start 8 p 0 l

  two-nodes : node_count both ≡ 2
  unfolding start
  two-nodes =
      early 0 (omega arith) ∙ get_or-set_other (set (set m₀ 0 2) 1 0) 2 0 0 0 (λ e. omega arith)
      ∙ get_or-set_other (set m₀ 0 2) 1 0 0 0 (λ e. omega arith) ∙ get_or-set_same m₀ 0 2 0 (omega arith)

  no-tables : table_count both ≡ 0
  unfolding start
  no-tables =
      early 1 (omega arith) ∙ get_or-set_other (set (set m₀ 0 2) 1 0) 2 1 0 0 (λ e. omega arith)
      ∙ get_or-set_same (set m₀ 0 2) 1 0 0 (omega (arith, length-set m₀ 0 2))

  no_rows : row_count both ≡ 0
  unfolding start
  no_rows =
      early 2 (omega arith)
      ∙ get_or-set_same (set (set m₀ 0 2) 1 0) 2 0 0 (omega (arith, length-set (set m₀ 0 2) 1 0, length-set m₀ 0 2))

  node-0 : node_at both 0 ≡ false_candidate
  unfolding both
  node-0 =
      node-is both 0 false_candidate no false_words
      (λ k l. sets_below yes (sets start 8 no) 16 (8 + k) 0 (omega arith)
      ∙ sets-in no start 8 k 0 (omega (arith, no-long)) (omega (arith, no-long, start-long)))

  node-1 : node_at both 1 ≡ true_candidate
  unfolding both
  node-1 =
      node-is both 1 true_candidate yes true_words
      (λ k l. sets-in yes (sets start 8 no) 16 k 0 (omega (arith, yes-long)) (omega (arith, yes-long, one-long)))

  each-of-two : (i : ℕ) → i < 2 → NodeHolds both i
  each-of-two zero l = node-as both 0 false_candidate node-0 (false-entered max_figure) (λ k. absurd (omega arith))
  each-of-two (suc zero) l = node-as both 1 true_candidate node-1 (true-entered max_figure) (λ k. absurd (omega arith))
  each-of-two (suc (suc i)) l = absurd (omega arith)

  begun-both : Begun both
  unfolding both
  begun-both =
      record {
        holds =
            record {
              long = length-sets (sets start 8 no) 16 yes ∙ one-long;
              two = omega (arith, two-nodes);
              few = omega (arith, two-nodes);
              rows = omega (arith, no_rows);
              false_first = node-0;
              true_next = node-1;
              nodes = λ i l. each-of-two i (omega (arith, two-nodes));
            };
        count = two-nodes;
        tables = no-tables;
        rows = no_rows;
      }

  pub begun : {m₁ m : List ℕ} → m₁ ≡ sets (set (set (set m₀ 0 2) 1 0) 2 0) 8 no → m ≡ sets m₁ 16 yes → Begun m
  unfolding both start
  begun {m₁} {m} e₁ e = subst (λ (l : List ℕ). Begun l) (sym (e ∙ ap (λ (l : List ℕ). sets l 16 yes) e₁)) begun-both

-- ---- room for both

module _ (m₀ : List ℕ) (long : length m₀ ≡ work_words) where
  counts-long : length (set (set (set m₀ 0 2) 1 0) 2 0) ≡ length m₀
  counts-long = length-set (set (set m₀ 0 2) 1 0) 2 0 ∙ length-set (set m₀ 0 2) 1 0 ∙ length-set m₀ 0 2

  pub first-room : {x : Candidate} {ws : List ℕ} → WordsAre x ws → 8 + length ws ≤ length (set (set (set m₀ 0 2) 1 0) 2 0)
  first-room {x} {ws} w =
      let e : length ws ≡ 8 = ap length w.is in
      omega (arith, counts-long)

  first-long : {x : Candidate} {m₁ ws : List ℕ} → WordsAre x ws → m₁ ≡ sets (set (set (set m₀ 0 2) 1 0) 2 0) 8 ws → length m₁ ≡ length m₀
  first-long {x} {m₁} {ws} w e = ap length e ∙ length-sets (set (set (set m₀ 0 2) 1 0) 2 0) 8 ws ∙ counts-long

  module _ {x y : Candidate} {m₁ ws vs : List ℕ} (w : WordsAre x ws) (v : WordsAre y vs)
      (e₁ : m₁ ≡ sets (set (set (set m₀ 0 2) 1 0) 2 0) 8 ws) where
    pub second-room : 16 + length vs ≤ length m₁
    second-room =
        let l : length vs ≡ 8 = ap length v.is in
        omega (arith, first-long w e₁)

    pub both_long : {m : List ℕ} → m ≡ sets m₁ 16 vs → length m ≡ length m₀
    both_long {m} e = ap length e ∙ length-sets m₁ 16 vs ∙ first-long w e₁
