-- What the stores of this crate leave: the parts of a word, the words of a node and of a row, and the memory around them. Assumes nothing.
use Rattle.std.specs.Prelude.{Option, None, Some}
use mathlib.Core.Path.{◌≡◌, refl, sym, ap, ◌∙◌, subst}
use mathlib.Core.Bool.{Bool, true, false, cond}
use mathlib.Core.List.{List, [], ◌∷◌, ◌++◌, append_assoc}
use Prim.Native.Nat.{ℕ, zero, suc, ◌+◌, ◌*◌, ◌/◌, ◌%◌, ◌^◌, ◌<◌, ◌≤◌}
use native.Mathlib.Omega.{arith}
use native.Mathlib.Nat.{div-one, div-add-mod}
use borrow.Author.Tests.{lt-ltb, le-ltb, ltb-true, ltb-false}
use lib.Dec.{ltb}
use lib.Ieee.{Float}
use lib.ListN.{length, get_or, set, take, drop, length-set}
use lib.Seq.{sets, sets-eq, drop-drop, length-sets, get_or-set_same, get_or-set_other}
use Rattle.words.proofs.Stores.{sets_below, sets-above, sets-in}
use Rattle.types.specs.declared.«Type».{«Type»}
use Rattle.types.specs.TypeOrder.{pack}
use Rattle.types.proofs.PackLaws.{pack-lt}
use Rattle.figures.specs.declared.SatData.{SatData}
use Rattle.candidates.specs.declared.Candidate.{Candidate}
use Rattle.memory.specs.Layout.{rows_from, word_at}
use Rattle.nodes.specs.Words.{script_word, witness_word, stack_word, candidate_in, node_words, node_at, row_child}
use Rattle.nodes.specs.Stored.{FitData, FitSat, FitExt, Fit, ShapeIs, FloatIs, DissatIs, WordsAre}
use Rattle.nodes.specs.Stored.{four_word, FourFit, row_word, RowFit, RowWordIs, RowWordsAre}
use Rattle.nodes.proofs.Packed.{middle, words-again}

-- ---- parts

pub some_fits : {s : Option SatData} {d : SatData} → s ≡ Some d → FitSat s → FitData d
some_fits e f = subst (λ (s : Option SatData). FitSat s) e f

pub packed_lt : (n : ℕ) (t : «Type») → n ≡ pack t → n < 960
packed_lt n t e = omega (arith, pack-lt t)

pub dissat-some : {x : Option Float} {d : Float} {w : ℕ} → x ≡ Some d → FloatIs d w → DissatIs x w
dissat-some e f = rw e (record { is = f.is; fit = f.fit })

pub dissat-none : {x : Option Float} → x ≡ None → DissatIs x 0
dissat-none e = rw e (record { is = refl; fit = tt })

pub words_are : (x : Candidate) {a b c d e f g h : ℕ} → x.kind < 0x40 → FitExt x.ext → ShapeIs x a → b ≡ script_word x
    → c ≡ witness_word x.ext.sat_data → d ≡ stack_word x.ext.sat_data → e ≡ witness_word x.ext.dissat_data
    → f ≡ stack_word x.ext.dissat_data → FloatIs x.cost.sat_cost g → DissatIs x.cost.dissat_cost h
    → WordsAre x (a ∷ b ∷ c ∷ d ∷ e ∷ f ∷ g ∷ h ∷ [])
words_are x k t s script witness stack witness₀ stack₀ sat dissat =
    record {
      is = rw (s.is, script, witness, stack, witness₀, stack₀, sat.is, dissat.is);
      fit =
          record {
            kind = k;
            first = s.first;
            second = s.second;
            third = s.third;
            ext = t;
            sat = sat.fit;
            dissat = dissat.fit;
          };
    }

-- ---- places of a row

place-0 : (w : ℕ) → w / (0x1_0000 ^ 0) % 0x1_0000 ≡ w % 0x1_0000
place-0 w = ap (λ (v : ℕ). v % 0x1_0000) (div-one w)

pub at_place : (w place k : ℕ) {r : ℕ} → place ≡ k → r ≡ w / (0x1_0000 ^ k) % 0x1_0000 → r ≡ w / (0x1_0000 ^ place) % 0x1_0000
at_place w place k e h = h ∙ ap (λ (p : ℕ). w / (0x1_0000 ^ p) % 0x1_0000) (sym e)

pub at-place-0 : (w place : ℕ) → place ≡ 0 → w % 0x1_0000 ≡ w / (0x1_0000 ^ place) % 0x1_0000
at-place-0 w place e = at_place w place 0 e (sym (place-0 w))

pub last : (place : ℕ) → place < 4 → (place ≡ 0 → ⊥) → (place ≡ 1 → ⊥) → (place ≡ 2 → ⊥) → place ≡ 3
last place l a b c = omega arith

pub child-is : (m : List ℕ) (row j : ℕ) {r : ℕ} → j < 16 → r ≡ word_at m (rows_from + 4 * row + j / 4) / (0x1_0000 ^ (j % 4)) % 0x1_0000
    → r ≡ row_child m row j
child-is m row j l e = rw (lt-ltb j 16 l) e

pub no-child : (m : List ℕ) (row j : ℕ) → 16 ≤ j → 0 ≡ row_child m row j
no-child m row j l = rw (le-ltb j 16 l)

pub rows_are : (row : List ℕ) {a b c d : ℕ} → RowWordIs row 0 a → RowWordIs row 1 b → RowWordIs row 2 c → RowWordIs row 3 d
    → RowWordsAre row (a ∷ b ∷ c ∷ d ∷ [])
rows_are row {a} {b} {c} {d} p q r s = record { is = rw (p.is, q.is, r.is, s.is); fit = λ k l. fit k l }
  where
    fit : (k : ℕ) → k < 4 → RowFit row k
    fit zero l = p.fit
    fit (suc zero) l = q.fit
    fit (suc (suc zero)) l = r.fit
    fit (suc (suc (suc zero))) l = s.fit
    fit (suc (suc (suc (suc k)))) l = absurd (omega arith)

four-at : (a b c d s : ℕ) → FourFit a b c d → s < 4 → four_word a b c d / (0x1_0000 ^ s) % 0x1_0000 ≡ get_or (a ∷ b ∷ c ∷ d ∷ []) s 0
four-at a b c d zero f l =
    place-0 (four_word a b c d) ∙ ap (λ (v : ℕ). v % 0x1_0000) (sym (div-one (four_word a b c d)))
    ∙ middle 1 0x1_0000 0 a (b + c * 0x1_0000 + d * 0x1_0000_0000) (four_word a b c d) (omega arith) f.first (omega arith)
four-at a b c d (suc zero) f l =
    middle 0x1_0000 0x1_0000 a b (c + d * 0x1_0000) (four_word a b c d) f.first f.second (omega arith)
four-at a b c d (suc (suc zero)) f l =
    middle 0x1_0000_0000 0x1_0000 (a + b * 0x1_0000) c d (four_word a b c d) (omega (arith, f.first, f.second)) f.third (omega arith)
four-at a b c d (suc (suc (suc zero))) f l =
    middle 0x1_0000_0000_0000 0x1_0000 (a + b * 0x1_0000 + c * 0x1_0000_0000) d 0 (four_word a b c d)
    (omega (arith, f.first, f.second, f.third)) f.fourth (omega arith)
four-at a b c d (suc (suc (suc (suc s)))) f l = absurd (omega arith)

from-four : (row : List ℕ) (q s : ℕ) → s < 4
    → get_or (get_or row (4 * q) 0 ∷ get_or row (4 * q + 1) 0 ∷ get_or row (4 * q + 2) 0 ∷ get_or row (4 * q + 3) 0 ∷ []) s 0 ≡ get_or row (4 * q + s) 0
from-four row q zero l =
    let e : 4 * q ≡ 4 * q + 0 = omega arith in
    ap (λ (p : ℕ). get_or row p 0) e
from-four row q (suc zero) l = refl
from-four row q (suc (suc zero)) l = refl
from-four row q (suc (suc (suc zero))) l = refl
from-four row q (suc (suc (suc (suc s)))) l = absurd (omega arith)

row_word_lem : (row ws : List ℕ) → RowWordsAre row ws → (q : ℕ) → q < 4 → get_or ws q 0 ≡ row_word row q
row_word_lem row ws p q l = ap (λ (vs : List ℕ). get_or vs q 0) p.is ∙ at q l
  where
    at : (q : ℕ) → q < 4 → get_or (row_word row 0 ∷ row_word row 1 ∷ row_word row 2 ∷ row_word row 3 ∷ []) q 0 ≡ row_word row q
    at zero l = refl
    at (suc zero) l = refl
    at (suc (suc zero)) l = refl
    at (suc (suc (suc zero))) l = refl
    at (suc (suc (suc (suc q)))) l = absurd (omega arith)

-- the words of a row hold its numbers
pub row-again : (row ws : List ℕ) → RowWordsAre row ws → (j : ℕ) → j < 16 → get_or ws (j / 4) 0 / (0x1_0000 ^ (j % 4)) % 0x1_0000 ≡ get_or row j 0
row-again row ws p j l =
    let q = j / 4 in
    let s = j % 4 in
    let lq : q < 4 = omega arith in
    let ls : s < 4 = omega arith in
    ap (λ (w : ℕ). w / (0x1_0000 ^ s) % 0x1_0000) (row_word_lem row ws p q lq)
    ∙ four-at (get_or row (4 * q) 0) (get_or row (4 * q + 1) 0) (get_or row (4 * q + 2) 0) (get_or row (4 * q + 3) 0) s (p.fit q lq) ls
    ∙ from-four row q s ls
    ∙ ap (λ (k : ℕ). get_or row k 0) (div-add-mod j 4)

-- ---- memory

-- words copied over a part of it
pub copied-over : (m vs part : List ℕ) (at k : ℕ) → part ≡ vs → k ≡ length vs → at + length vs ≤ length m
    → take at m ++ (part ++ drop k (drop at m)) ≡ sets m at vs
copied-over m vs part at k is n h =
    rw (is, n, drop-drop (length vs) at m) (sym (append_assoc (take at m) vs (drop (at + length vs) m)) ∙ sym (sets-eq vs m at h))

same-words : {a b c d e f g h a' b' c' d' e' f' g' h' : ℕ} → a ≡ a' → b ≡ b' → c ≡ c' → d ≡ d' → e ≡ e' → f ≡ f' → g ≡ g' → h ≡ h'
    → candidate_in a b c d e f g h ≡ candidate_in a' b' c' d' e' f' g' h'
same-words {a} {b} {c} {d} {e} {f} {g} {h} {a'} {b'} {c'} {d'} {e'} {f'} {g'} {h'} p q r s t u v w =
    ap (λ (x : ℕ). candidate_in x b c d e f g h) p
    ∙ ap (λ (x : ℕ). candidate_in a' x c d e f g h) q
    ∙ ap (λ (x : ℕ). candidate_in a' b' x d e f g h) r
    ∙ ap (λ (x : ℕ). candidate_in a' b' c' x e f g h) s
    ∙ ap (λ (x : ℕ). candidate_in a' b' c' d' x f g h) t
    ∙ ap (λ (x : ℕ). candidate_in a' b' c' d' e' x g h) u
    ∙ ap (λ (x : ℕ). candidate_in a' b' c' d' e' f' x h) v
    ∙ ap (λ (x : ℕ). candidate_in a' b' c' d' e' f' g' x) w

-- a node whose words are the same is the same
pub node-same : (m m' : List ℕ) (i : ℕ) → ((at : ℕ) → 8 * i + 8 ≤ at → at < 8 * i + 16 → word_at m at ≡ word_at m' at) → node_at m i ≡ node_at m' i
node-same m m' i h =
    same-words (h (8 * i + 8) (omega arith) (omega arith)) (h (8 * i + 9) (omega arith) (omega arith))
    (h (8 * i + 10) (omega arith) (omega arith)) (h (8 * i + 11) (omega arith) (omega arith))
    (h (8 * i + 12) (omega arith) (omega arith)) (h (8 * i + 13) (omega arith) (omega arith))
    (h (8 * i + 14) (omega arith) (omega arith)) (h (8 * i + 15) (omega arith) (omega arith))

-- a node whose words are those of a candidate is that candidate
pub node-is : (m : List ℕ) (i : ℕ) (x : Candidate) (ws : List ℕ) → WordsAre x ws
    → ((k : ℕ) → k < 8 → word_at m (8 * i + 8 + k) ≡ get_or ws k 0) → node_at m i ≡ x
node-is m i x ws p h =
    same-words (word 0 (8 * i + 8) (omega arith) (omega arith)) (word 1 (8 * i + 9) (omega arith) (omega arith))
    (word 2 (8 * i + 10) (omega arith) (omega arith)) (word 3 (8 * i + 11) (omega arith) (omega arith))
    (word 4 (8 * i + 12) (omega arith) (omega arith)) (word 5 (8 * i + 13) (omega arith) (omega arith))
    (word 6 (8 * i + 14) (omega arith) (omega arith)) (word 7 (8 * i + 15) (omega arith) (omega arith))
    ∙ words-again x p.fit
  where
    word : (k at : ℕ) → k < 8 → at ≡ 8 * i + 8 + k → word_at m at ≡ get_or (node_words x) k 0
    word k at l e = ap (λ (v : ℕ). word_at m v) e ∙ h k l ∙ ap (λ (vs : List ℕ). get_or vs k 0) p.is

pub row_same : (m m' : List ℕ) (row j : ℕ) → word_at m (rows_from + 4 * row + j / 4) ≡ word_at m' (rows_from + 4 * row + j / 4)
    → row_child m row j ≡ row_child m' row j
row_same m m' row j e = ap (λ (w : ℕ). cond (ltb j 16) (w / (0x1_0000 ^ (j % 4)) % 0x1_0000) 0) e

-- a row of which the words that are there are the same is the same
pub row-same-in : (m m' : List ℕ) (row j : ℕ) → (j < 16 → word_at m (rows_from + 4 * row + j / 4) ≡ word_at m' (rows_from + 4 * row + j / 4))
    → row_child m row j ≡ row_child m' row j
row-same-in m m' row j h = by-test (ltb j 16) refl
  where
    by-test : (b : Bool) → ltb j 16 ≡ b → row_child m row j ≡ row_child m' row j
    by-test true e = row_same m m' row j (h (ltb-true j 16 e))
    by-test false e = sym (no-child m row j (ltb-false j 16 e)) ∙ no-child m' row j (ltb-false j 16 e)

-- ---- a node put

module _ (m : List ℕ) (i : ℕ) (x : Candidate) where
  -- what is put is read back
  pub put-again : Fit x → 8 * i + 16 ≤ length m → node_at (sets m (8 * i + 8) (node_words x)) i ≡ x
  put-again f l =
      node-is (sets m (8 * i + 8) (node_words x)) i x (node_words x) (record { is = refl; fit = f })
      (λ k h. sets-in (node_words x) m (8 * i + 8) k 0 h (omega arith))

  -- every other node is as it was
  pub put_other : (j : ℕ) → (j ≡ i → ⊥) → node_at (sets m (8 * i + 8) (node_words x)) j ≡ node_at m j
  put_other j ne = by-test (ltb j i) refl
    where
      by-test : (b : Bool) → ltb j i ≡ b → node_at (sets m (8 * i + 8) (node_words x)) j ≡ node_at m j
      by-test true e =
          let l : j < i = ltb-true j i e in
          node-same (sets m (8 * i + 8) (node_words x)) m j (λ at a b. sets_below (node_words x) m (8 * i + 8) at 0 (omega arith))
      by-test false e =
          let l : i < j = omega (arith, ltb-false j i e, ne) in
          node-same (sets m (8 * i + 8) (node_words x)) m j (λ at a b. sets-above (node_words x) m (8 * i + 8) at 0 (omega arith))

-- ---- words put, and one that counts them

-- one word counts on, and words are put above it
pub record Put (m₀ m : List ℕ) (place value at : ℕ) (vs : List ℕ) : Type 0 where
  pub long : length m ≡ length m₀
  pub counted : word_at m place ≡ value
  pub inside : (k : ℕ) → k < length vs → word_at m (at + k) ≡ get_or vs k 0
  pub below : (p : ℕ) → (p ≡ place → ⊥) → p < at → word_at m p ≡ word_at m₀ p
  pub above : (p : ℕ) → (p ≡ place → ⊥) → at + length vs ≤ p → word_at m p ≡ word_at m₀ p

pub put-leaves : (m₀ m₁ m : List ℕ) (place value at : ℕ) (vs : List ℕ) → m₁ ≡ sets m₀ at vs → m ≡ set m₁ place value → place < at
    → at + length vs ≤ length m₀ → Put m₀ m place value at vs
put-leaves m₀ m₁ m place value at vs e₁ e l f =
    rw (e, e₁)
    (record {
      long = length-set s place value ∙ ls;
      counted = get_or-set_same s place value 0 (omega (arith, ls));
      inside = λ k h. get_or-set_other s place (at + k) value 0 (λ x. omega arith) ∙ sets-in vs m₀ at k 0 h f;
      below = λ p ne h. get_or-set_other s place p value 0 ne ∙ sets_below vs m₀ at p 0 h;
      above = λ p ne h. get_or-set_other s place p value 0 ne ∙ sets-above vs m₀ at p 0 h;
    })
  where
    s : List ℕ
    s = sets m₀ at vs

    ls : length s ≡ length m₀
    ls = length-sets m₀ at vs
