-- A row written: its words, and what stands elsewhere. Assumes nothing.
use mathlib.Core.Path.{◌≡◌, refl, ◌∙◌}
use mathlib.Core.Bool.{Bool, true, false}
use mathlib.Core.List.{List, [], ◌∷◌, ◌++◌}
use Prim.Native.Nat.{ℕ, ◌+◌, ◌*◌, ◌<◌, ◌≤◌}
use native.Mathlib.Numerals.{add-one}
use native.Mathlib.Omega.{arith}
use borrow.Author.Tests.{ltb-true, ltb-false}
use lib.Dec.{ltb}
use lib.ListN.{length, get_or, set, take, length-set}
use lib.Seq.{sets, take-suc, take_all, length-take-le, length-sets, get_or-set_same, get_or-set_other}
use Rattle.words.proofs.Stores.{sets-append, sets_below, sets-above, sets-in}
use Rattle.policies.specs.Array.{word_at, put_head, put_children}

-- ---- stores one by one

pub store-next : (m₀ m cs : List ℕ) (at j : ℕ) → m ≡ sets m₀ at (take j cs) → j < length cs
    → set m (at + j) (get_or cs j 0) ≡ sets m₀ at (take (j + 1) cs)
store-next m₀ m cs at j e h =
    let l : length (take j cs) ≡ j = length-take-le j cs (omega arith) in
    let more : sets m₀ at (take j cs ++ (get_or cs j 0 ∷ [])) ≡ set (sets m₀ at (take j cs)) (at + length (take j cs)) (get_or cs j 0) =
    sets-append (take j cs) (get_or cs j 0 ∷ []) m₀ at in
    rw (add-one j, take-suc cs j 0 h, more, l, e)

pub store-all : (m₀ m cs : List ℕ) (i j : ℕ) → m ≡ sets m₀ (40 * i + 6) (take j cs) → length cs ≤ j → m ≡ put_children m₀ i cs
unfolding put_children
store-all m₀ m cs i j e h = e ∙ rw (take_all j cs h)

-- ---- the words of a row

-- row i has these words and is not taken, and every other row is as it was
pub record RowPut (m m' : List ℕ) (i kind number k n left right : ℕ) (children : List ℕ) : Type 0 where
  pub long : length m' ≡ length m
  pub head : (f : ℕ) → f < 6 → word_at m' i f ≡ get_or (kind ∷ number ∷ k ∷ n ∷ left ∷ right ∷ []) f 0
  pub child : (j : ℕ) → j < 16 → word_at m' i (6 + j) ≡ get_or children j 0
  pub untaken : word_at m' i 22 ≡ 0
  pub other : (x f : ℕ) → (x ≡ i → ⊥) → f < 40 → word_at m' x f ≡ word_at m x f

module _ (m : List ℕ) (i kind number k n left right : ℕ) (children : List ℕ) where
  pub row_put : length m ≡ 2560 → i < 64 → length children ≡ 16
      → RowPut m (put_children (put_head m i kind number k n left right) i children) i kind number k n left right children
  unfolding put_head put_children
  row_put long top sixteen =
      record {
        long = length-sets h (40 * i + 6) children ∙ lh;
        head = λ f l. below-children (40 * i + f) (omega arith) ∙ head-word f l;
        child = λ j l. child-word j l;
        untaken = above-children (40 * i + 22) (omega arith) ∙ get_or-set_same m₁ (40 * i + 22) 0 0 (omega (arith, l₁));
        other = λ x f ne l. elsewhere x f ne l (ltb x i) refl;
      }
    where
      six : List ℕ
      six = kind ∷ number ∷ k ∷ n ∷ left ∷ right ∷ []

      m₁ : List ℕ
      m₁ = sets m (40 * i) six

      l₁ : length m₁ ≡ length m
      l₁ = length-sets m (40 * i) six

      h : List ℕ
      h = set m₁ (40 * i + 22) 0

      lh : length h ≡ length m
      lh = length-set m₁ (40 * i + 22) 0 ∙ l₁

      below-children : (a : ℕ) → a < 40 * i + 6 → get_or (sets h (40 * i + 6) children) a 0 ≡ get_or h a 0
      below-children a l = sets_below children h (40 * i + 6) a 0 l

      above-children : (a : ℕ) → 40 * i + 22 ≤ a → get_or (sets h (40 * i + 6) children) a 0 ≡ get_or h a 0
      above-children a l = sets-above children h (40 * i + 6) a 0 (omega arith)

      head-word : (f : ℕ) → f < 6 → get_or h (40 * i + f) 0 ≡ get_or six f 0
      head-word f l =
          get_or-set_other m₁ (40 * i + 22) (40 * i + f) 0 0 (λ e. omega arith) ∙ sets-in six m (40 * i) f 0 l (omega arith)

      child-word : (j : ℕ) → j < 16 → get_or (sets h (40 * i + 6) children) (40 * i + (6 + j)) 0 ≡ get_or children j 0
      child-word j l =
          let e : 40 * i + (6 + j) ≡ 40 * i + 6 + j = omega arith in
          rw e (sets-in children h (40 * i + 6) j 0 (omega arith) (omega (arith, lh)))

      elsewhere : (x f : ℕ) → (x ≡ i → ⊥) → f < 40 → (t : Bool) → ltb x i ≡ t
          → get_or (sets h (40 * i + 6) children) (40 * x + f) 0 ≡ get_or m (40 * x + f) 0
      elsewhere x f ne l true e =
          let b : x < i = ltb-true x i e in
          below-children (40 * x + f) (omega arith)
          ∙ get_or-set_other m₁ (40 * i + 22) (40 * x + f) 0 0 (λ e. omega arith)
          ∙ sets_below six m (40 * i) (40 * x + f) 0 (omega arith)
      elsewhere x f ne l false e =
          let b : i ≤ x = ltb-false x i e in
          let a : i < x = omega (arith, ne) in
          above-children (40 * x + f) (omega arith)
          ∙ get_or-set_other m₁ (40 * i + 22) (40 * x + f) 0 0 (λ e. omega arith)
          ∙ sets-above six m (40 * i) (40 * x + f) 0 (omega arith)
