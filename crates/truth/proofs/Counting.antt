-- Places are counted one by one: variables, children, and the third child of an AndOr again. Assumes nothing.
use Prim.Native.Nat.{ℕ, zero, suc, ◌+◌, ◌≤◌, ◌<◌}
use mathlib.Core.Bool.{Bool, true, false, cond}
use mathlib.Core.List.{List, [], ◌∷◌, map}
use mathlib.Core.Path.{◌≡◌, refl, sym, ap, subst, ◌∙◌}
use native.Mathlib.Omega.{arith}
use native.Mathlib.Numerals.{add-one}
use borrow.Author.Tests.{eq-eqb, ne_eqb}
use lib.Dec.{eqb}
use lib.ListN.{length, get_or, take, drop, drop_of_length-le}
use lib.Seq.{drop-cons, get_or-take, length-take-le}
use Rattle.contexts.specs.Lists.{one}
use Rattle.meaning.specs.Meaning.{count_true}
use Rattle.variables.specs.declared.Var.{Var}
use Rattle.variables.specs.Gathering.{code, same_code}
use Rattle.truth.specs.Words.{bit_at, word_for, Planes, OneMore}
use Rattle.truth.specs.Gates.{bits_at, own_bits}
use Rattle.truth.proofs.PlaneLaws.{planes-more, planes-same}

-- ---- one more place of a list

pub count-snoc : {A : Type 0} (f : A → Bool) (d : A) (l : List A) (i : ℕ) → i < length l
    → count_true (map f (take (suc i) l)) ≡ one (f (get_or l i d)) + count_true (map f (take i l))
unfolding count_true
count-snoc f d [] i h = absurd (omega arith)
count-snoc f d (x ∷ xs) zero h = refl
count-snoc f d (x ∷ xs) (suc i) h =
    let rest = count-snoc f d xs i (omega arith) in
    ap (λ (n : ℕ). one (f x) + n) rest ∙ omega arith

-- ---- the word of a variable

pub record WordOn (list : List Var) (n : ℕ) (words : List ℕ) (x : Var) (i : ℕ) : Type 0 where
  pub upto : i ≤ n
  pub still : word_for (drop i (take n list)) (drop i words) x ≡ word_for (take n list) words x

pub word-begin : (list : List Var) (n : ℕ) (words : List ℕ) (x : Var) → WordOn list n words x 0
word-begin list n words x = record { upto = omega arith; still = refl }

module _ {list : List Var} {n : ℕ} {words : List ℕ} {x : Var} {i : ℕ} (on : WordOn list n words x i) (few : n ≤ length list)
    (enough : n ≤ length words) where
  size : length (take n list) ≡ n
  size = length-take-le n list few

  split : i < n → word_for (drop i (take n list)) (drop i words) x
      ≡ cond (same_code x (get_or list i (code 0 0))) (get_or words i 0) (word_for (drop (suc i) (take n list)) (drop (suc i) words) x)
  unfolding word_for
  split l =
      let a : drop i (take n list) ≡ get_or list i (code 0 0) ∷ drop (suc i) (take n list) =
      drop-cons (take n list) i (code 0 0) (omega (arith, size))
      ∙ ap (λ (y : Var). y ∷ drop (suc i) (take n list)) (get_or-take n list i (code 0 0) l) in
      let b : drop i words ≡ get_or words i 0 ∷ drop (suc i) words = drop-cons words i 0 (omega arith) in
      ap (λ (xs : List Var). word_for xs (drop i words) x) a ∙ ap (λ (ws : List ℕ). word_for (get_or list i (code 0 0) ∷ drop (suc i) (take n list)) ws x) b

  pub word-hit : i < n → {b : Bool} → b ≡ same_code x (get_or list i (code 0 0)) → b ≡ true → get_or words i 0 ≡ word_for (take n list) words x
  word-hit l e t =
      let same : same_code x (get_or list i (code 0 0)) ≡ true = sym e ∙ t in
      sym (split l ∙ ap (λ (b : Bool). cond b (get_or words i 0) (word_for (drop (suc i) (take n list)) (drop (suc i) words) x)) same) ∙ on.still

  pub word_more : i < n → {b : Bool} → b ≡ same_code x (get_or list i (code 0 0)) → b ≡ false → WordOn list n words x (i + 1)
  word_more l e t =
      let other : same_code x (get_or list i (code 0 0)) ≡ false = sym e ∙ t in
      record {
        upto = omega arith;
        still = ap (λ (m : ℕ). word_for (drop m (take n list)) (drop m words) x) (add-one i)
            ∙ sym (split l ∙ ap (λ (b : Bool). cond b (get_or words i 0) (word_for (drop (suc i) (take n list)) (drop (suc i) words) x)) other) ∙ on.still;
      }

  pub word_none : n ≤ i → 0 ≡ word_for (take n list) words x
  unfolding word_for
  word_none l =
      let empty : drop i (take n list) ≡ [] = drop_of_length-le (take n list) {i = i} (omega (arith, size)) in
      sym (ap (λ (xs : List Var). word_for xs (drop i words) x) empty) ∙ on.still

-- ---- the variables of a record

pub record OwnOn (planes : List ℕ) (own : List Var) (row : List Var) (words : List ℕ) (n i : ℕ) (all : List ℕ) : Type 0 where
  pub upto : i ≤ n
  pub long : length all ≡ 17
  pub so_far : (c : ℕ → ℕ) → Planes planes c → Planes all (λ j. count_true (own_bits row words j (take i own)) + c j)

zero-plus : (n : ℕ) → n ≡ 0 + n
zero-plus n = omega arith

pub own-begin : (planes : List ℕ) (own row : List Var) (words : List ℕ) (n : ℕ) → length planes ≡ 17 → OwnOn planes own row words n 0 planes
unfolding count_true
own-begin planes own row words n l = record { upto = omega arith; long = l; so_far = λ c p. planes-same p (λ j h. zero-plus (c j)) }

pub own-more : {planes : List ℕ} {own row : List Var} {words : List ℕ} {n i : ℕ} {all : List ℕ} → OwnOn planes own row words n i all
    → n ≤ length own → i < n → {w : ℕ} → w ≡ word_for row words (get_or own i (code 0 0)) → {next : List ℕ} → OneMore all w next
    → OwnOn planes own row words n (i + 1) next
own-more {planes} {own} {row} {words} {n} {i} {all} on few l {w} e {next} o =
    record { upto = omega arith; long = o.long; so_far = λ c p. planes-same (planes-more (on.so_far c p) o) (λ j h. same c j) }
  where
    same : (c : ℕ → ℕ) (j : ℕ) → one (bit_at w j) + (count_true (own_bits row words j (take i own)) + c j) ≡ count_true (own_bits row words j (take (i + 1) own)) + c j
    same c j =
        let grown : count_true (own_bits row words j (take (i + 1) own)) ≡ one (bit_at w j) + count_true (own_bits row words j (take i own)) =
        ap (λ (m : ℕ). count_true (own_bits row words j (take m own))) (add-one i)
        ∙ count-snoc (λ x. bit_at (word_for row words x) j) (code 0 0) own i (omega arith)
        ∙ ap (λ (m : ℕ). one (bit_at m j) + count_true (own_bits row words j (take i own))) (sym e) in
        omega (arith, grown)

pub own-done : {planes : List ℕ} {own row : List Var} {words : List ℕ} {n i : ℕ} {all : List ℕ} → OwnOn planes own row words n i all → n ≤ i
    → (c : ℕ → ℕ) → Planes planes c → Planes all (λ j. count_true (own_bits row words j (take n own)) + c j)
own-done {planes} {own} {row} {words} {n} {i} {all} on l c p =
    let last : i ≡ n = omega (arith, on.upto) in
    subst (λ (m : ℕ). Planes all (λ j. count_true (own_bits row words j (take m own)) + c j)) last (on.so_far c p)

-- ---- the children of a record

pub record ChildrenOn (planes work numbers : List ℕ) (n i : ℕ) (all : List ℕ) : Type 0 where
  pub upto : i ≤ n
  pub long : length all ≡ 17
  pub so_far : (c : ℕ → ℕ) → Planes planes c → Planes all (λ j. count_true (bits_at work j (take i numbers)) + c j)

pub children-begin : (planes work numbers : List ℕ) (n : ℕ) → length planes ≡ 17 → ChildrenOn planes work numbers n 0 planes
unfolding count_true
children-begin planes work numbers n l = record { upto = omega arith; long = l; so_far = λ c p. planes-same p (λ j h. zero-plus (c j)) }

pub children-more : {planes work numbers : List ℕ} {n i : ℕ} {all : List ℕ} → ChildrenOn planes work numbers n i all
    → n ≤ length numbers → i < n → {w : ℕ} → w ≡ get_or work (get_or numbers i 0) 0 → {next : List ℕ} → OneMore all w next
    → ChildrenOn planes work numbers n (i + 1) next
children-more {planes} {work} {numbers} {n} {i} {all} on few l {w} e {next} o =
    record { upto = omega arith; long = o.long; so_far = λ c p. planes-same (planes-more (on.so_far c p) o) (λ j h. same c j) }
  where
    same : (c : ℕ → ℕ) (j : ℕ)
        → one (bit_at w j) + (count_true (bits_at work j (take i numbers)) + c j) ≡ count_true (bits_at work j (take (i + 1) numbers)) + c j
    same c j =
        let grown : count_true (bits_at work j (take (i + 1) numbers)) ≡ one (bit_at w j) + count_true (bits_at work j (take i numbers)) =
        ap (λ (m : ℕ). count_true (bits_at work j (take m numbers))) (add-one i) ∙ count-snoc (λ m. bit_at (get_or work m 0) j) 0 numbers i (omega arith)
        ∙ ap (λ (m : ℕ). one (bit_at m j) + count_true (bits_at work j (take i numbers))) (sym e) in
        omega (arith, grown)

pub children-done : {planes work numbers : List ℕ} {n i : ℕ} {all : List ℕ} → ChildrenOn planes work numbers n i all → n ≤ i
    → (c : ℕ → ℕ) → Planes planes c → Planes all (λ j. count_true (bits_at work j (take n numbers)) + c j)
children-done {planes} {work} {numbers} {n} {i} {all} on l c p =
    let last : i ≡ n = omega (arith, on.upto) in
    subst (λ (m : ℕ). Planes all (λ j. count_true (bits_at work j (take m numbers)) + c j)) last (on.so_far c p)

-- ---- the third child again

pub again-counted : {planes next : List ℕ} {w v kind : ℕ} → kind ≡ 55 → w ≡ v → OneMore planes w next → (c : ℕ → ℕ) → Planes planes c
    → Planes next (λ j. cond (eqb kind 55) (one (bit_at v j)) 0 + c j)
again-counted {planes} {next} {w} {v} {kind} e s o c p =
    planes-same (planes-more p o) (λ j h. ap (λ (x : ℕ). one (bit_at x j) + c j) s ∙ sym (ap (λ (b : Bool). cond b (one (bit_at v j)) 0 + c j) (eq-eqb kind 55 e)))

pub again-not : {planes : List ℕ} (w : ℕ → ℕ) {kind : ℕ} → (kind ≡ 55 → ⊥) → (c : ℕ → ℕ) → Planes planes c
    → Planes planes (λ j. cond (eqb kind 55) (w j) 0 + c j)
again-not {planes} w {kind} e c p =
    planes-same p (λ j h. zero-plus (c j) ∙ sym (ap (λ (b : Bool). cond b (w j) 0 + c j) (ne_eqb kind 55 e)))
