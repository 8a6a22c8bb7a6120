-- The policies that the array's numbers stand for. Crates above cite `stored_is`, `and_is`, `child-is`, `child-falls`, `fold_is`,
-- `fold-falls`, `thresh-some`, `and-of` and `or-of`. Assumes nothing.
use mathlib.Core.Path.{◌≡◌, refl, sym, ◌∙◌, ap, subst}
use mathlib.Core.Bool.{Bool, true, false}
use mathlib.Core.List.{List, [], ◌∷◌, ◌++◌, map}
use Prim.Native.Nat.{ℕ, zero, suc, ◌+◌, ◌*◌, ◌-◌, ◌<◌, ◌≤◌}
use native.Mathlib.Omega.{arith}
use borrow.Author.Tests.{lt-ltb, le-ltb, ne_eqb, eqb-true, eqb-false}
use lib.Dec.{eqb}
use lib.ListN.{length, get_or, length-append, get_or-append, length-map}
use lib.Seq.{get_or_at}
use Rattle.policies.specs.Policy.{Policy, Policies, Unsatisfiable, And, Thresh, to_list, from_list, weight, fold_and, folded, Or}
use Rattle.policies.specs.Forms.{made, nth, kind_of, number_of, k_of, left_weight_of, right_weight_of, children_of}
use Rattle.policies.specs.Heads.{head_of, pair_head}
use Rattle.policies.specs.declared.Head.{Head}
use Rattle.policies.specs.Array.{word_at, kind_at, child_at, arity, count_at, words_from, children_at, row_policy, policies, record_policy, and_policy}
use Rattle.policies.specs.Array.{and_number, of_record, place, policy_at, Good, Named, stored, folds, row_child, child_number, fold_number}
use Rattle.policies.proofs.Forms.{is-and, is-or, two-and, two-or, from-to, children-made, thresh-made}
use Rattle.policies.proofs.Weights.{child-weight, folded-lighter}

-- ---- words in a row

pub length-words : (m : List ℕ) (at n : ℕ) → length (words_from m at n) ≡ n
unfolding words_from
length-words m at zero = refl
length-words m at (suc n) = ap suc (length-words m (suc at) n)

module _ {A : Type 0} where
  pub map_same : (f g : ℕ → A) (m : List ℕ) (at n : ℕ) → ((j : ℕ) → j < n → f (get_or m (at + j) 0) ≡ g (get_or m (at + j) 0))
      → map f (words_from m at n) ≡ map g (words_from m at n)
  unfolding words_from
  map_same f g m at zero h = refl
  map_same f g m at (suc n) h =
      let e : at + 0 ≡ at = omega arith in
      let first : f (get_or m at 0) ≡ g (get_or m at 0) = rw e at (h 0 (omega arith)) in
      let others : map f (words_from m (suc at) n) ≡ map g (words_from m (suc at) n) =
      map_same f g m (suc at) n (λ j l. shifted j (h (suc j) (omega arith))) in
      cc
    where
      shifted : (j : ℕ) → f (get_or m (at + suc j) 0) ≡ g (get_or m (at + suc j) 0) → f (get_or m (suc at + j) 0) ≡ g (get_or m (suc at + j) 0)
      shifted j h =
          let e : at + suc j ≡ suc at + j = omega arith in
          rw e at h

  pub map_at : (f : ℕ → A) (d : A) (m : List ℕ) (at n j : ℕ) → j < n → get_or (map f (words_from m at n)) j d ≡ f (get_or m (at + j) 0)
  unfolding words_from
  map_at f d m at zero j h = absurd (omega arith)
  map_at f d m at (suc n) zero h =
      let e : at + 0 ≡ at = omega arith in
      rw e
  map_at f d m at (suc n) (suc j) h =
      let e : at + suc j ≡ suc at + j = omega arith in
      rw e (map_at f d m (suc at) n j (omega arith))

pub words_same : (m m' : List ℕ) (at n : ℕ) → ((j : ℕ) → j < n → get_or m (at + j) 0 ≡ get_or m' (at + j) 0) → words_from m at n ≡ words_from m' at n
unfolding words_from
words_same m m' at zero h = refl
words_same m m' at (suc n) h =
    let e : at + 0 ≡ at = omega arith in
    let first : get_or m at 0 ≡ get_or m' at 0 = rw e at (h 0 (omega arith)) in
    let others : words_from m (suc at) n ≡ words_from m' (suc at) n = words_same m m' (suc at) n (λ j l. shifted j (h (suc j) (omega arith))) in
    cc
  where
    shifted : (j : ℕ) → get_or m (at + suc j) 0 ≡ get_or m' (at + suc j) 0 → get_or m (suc at + j) 0 ≡ get_or m' (suc at + j) 0
    shifted j h =
        let e : at + suc j ≡ suc at + j = omega arith in
        rw e at h

pub words-list : (m : List ℕ) (at : ℕ) (cs : List ℕ) → ((j : ℕ) → j < length cs → get_or m (at + j) 0 ≡ get_or cs j 0) → words_from m at (length cs) ≡ cs
unfolding words_from
words-list m at [] h = refl
words-list m at (x ∷ cs) h =
    let e : at + 0 ≡ at = omega arith in
    let first : get_or m at 0 ≡ x = rw e at (h 0 (omega arith)) in
    let others : words_from m (suc at) (length cs) ≡ cs = words-list m (suc at) cs (λ j l. shifted j (h (suc j) (omega arith))) in
    cc
  where
    shifted : (j : ℕ) → get_or m (at + suc j) 0 ≡ get_or cs j 0 → get_or m (suc at + j) 0 ≡ get_or cs j 0
    shifted j h =
        let e : at + suc j ≡ suc at + j = omega arith in
        rw e at h

-- ---- the policies of rows

pub length-policies : (m : List ℕ) (n : ℕ) → length (policies m n) ≡ n
unfolding policies
length-policies m zero = refl
length-policies m (suc n) =
    let h : length (policies m n) ≡ n = length-policies m n in
    length-append (policies m n) (row_policy m n (policies m n) ∷ []) ∙ omega arith

policies-row : (m : List ℕ) (i n : ℕ) → i < n → nth (policies m n) i ≡ row_policy m i (policies m i)
unfolding policies
policies-row m i zero h = absurd (omega arith)
policies-row m i (suc n) h = by-test (policies-row m i n) (eqb i n) refl
  where
    by-test : (i < n → nth (policies m n) i ≡ row_policy m i (policies m i)) → (t : Bool) → eqb i n ≡ t
        → nth (policies m n ++ (row_policy m n (policies m n) ∷ [])) i ≡ row_policy m i (policies m i)
    by-test before true e =
        let same : i ≡ n = eqb-true i n e in
        rw same (get_or_at (policies m n) (row_policy m n (policies m n)) [] Unsatisfiable n (length-policies m n))
    by-test before false e =
        let ne = eqb-false i n e in
        let l : length (policies m n) ≡ n = length-policies m n in
        get_or-append (policies m n) (row_policy m n (policies m n) ∷ []) Unsatisfiable i (omega arith) ∙ before (omega arith)

pub stored_row : (m : List ℕ) (i : ℕ) → i < 64 → record_policy m i ≡ row_policy m i (policies m i)
stored_row m i h = policies-row m i 64 h

pub earlier : (m : List ℕ) (c i : ℕ) → c < i → i ≤ 64 → nth (policies m i) c ≡ record_policy m c
earlier m c i h l = policies-row m c i h ∙ sym (stored_row m c (omega arith))

-- a record's policy is made of the policies of its children
pub stored-made : (m : List ℕ) (i : ℕ) → Good m → i < 64
    → record_policy m i ≡ made (kind_at m i) (word_at m i 1) (word_at m i 2) (word_at m i 4) (word_at m i 5) (map (record_policy m) (children_at m i))
unfolding row_policy
stored-made m i g h =
    stored_row m i h
    ∙ ap
    (λ (cs : List Policy). made (kind_at m i) (word_at m i 1) (word_at m i 2) (word_at m i 4) (word_at m i 5) cs)
    (map_same (λ c. nth (policies m i) c) (record_policy m) m (40 * i + 6) (count_at m i) each-child)
  where
    each-child : (j : ℕ) → j < count_at m i → nth (policies m i) (get_or m (40 * i + 6 + j) 0) ≡ record_policy m (get_or m (40 * i + 6 + j) 0)
    each-child j l =
        let e : 40 * i + (6 + j) ≡ 40 * i + 6 + j = omega arith in
        let b : get_or m (40 * i + 6 + j) 0 < i = rw e at (g.below i j h l) in
        earlier m (get_or m (40 * i + 6 + j) 0) i b (omega arith)

pub length-children : (m : List ℕ) (i : ℕ) (f : ℕ → Policy) → length (map f (children_at m i)) ≡ count_at m i
length-children m i f = length-map (children_at m i) f ∙ length-words m (40 * i + 6) (count_at m i)

pub stored-children : (m : List ℕ) (i : ℕ) → Good m → i < 64 → children_of (record_policy m i) ≡ map (record_policy m) (children_at m i)
stored-children m i g h =
    ap children_of (stored-made m i g h)
    ∙ children-made
    (kind_at m i)
    (word_at m i 1)
    (word_at m i 2)
    (word_at m i 3)
    (word_at m i 4)
    (word_at m i 5)
    (map (record_policy m) (children_at m i))
    (length-children m i (record_policy m))

-- ---- numbers

pub stored_is : (m : List ℕ) (r : ℕ) → r < 64 → policy_at m r ≡ record_policy m r
unfolding policy_at
stored_is m r h = rw (lt-ltb r 64 h)

pub and_is : (m : List ℕ) (i t : ℕ) → t < 16 → policy_at m (and_number i t) ≡ and_policy m i t
unfolding policy_at
and_is m i t h =
    let past : 64 ≤ and_number i t = omega arith in
    let d : of_record (and_number i t) ≡ i = omega arith in
    let p : place (and_number i t) ≡ t = omega arith in
    rw (le-ltb (and_number i t) 64 past, d, p)

-- ---- children

pub row-child : (m : List ℕ) (i j : ℕ) → i < 64 → j < 16 → row_child m i j ≡ child_at m i j
row-child m i j h l = rw (lt-ltb i 64 h, lt-ltb j 16 l)

pub stored-count : (m : List ℕ) (i : ℕ) → Good m → i < 64 → length (children_of (record_policy m i)) ≡ count_at m i
stored-count m i g h = ap length (stored-children m i g h) ∙ length-children m i (record_policy m)

stored-child : (m : List ℕ) (i j : ℕ) → Good m → i < 64 → j < count_at m i → record_policy m (child_at m i j) ≡ nth (children_of (record_policy m i)) j
stored-child m i j g h l =
    let e : 40 * i + 6 + j ≡ 40 * i + (6 + j) = omega arith in
    let at : nth (map (record_policy m) (children_at m i)) j ≡ record_policy m (get_or m (40 * i + 6 + j) 0) =
    map_at (record_policy m) Unsatisfiable m (40 * i + 6) (count_at m i) j l in
    rw (stored-children m i g h, at, e)

-- a number stands for child j of what another stands for
pub record Child (m : List ℕ) (r j c : ℕ) : Type 0 where
  pub is : policy_at m c ≡ nth (children_of (policy_at m r)) j
  pub named : Named m c

right-number : (m : List ℕ) (i t : ℕ) → i < 64 → suc t < 16 → child_number m (and_number i t) 1 ≡ child_at m i (suc t)
unfolding child_number
right-number m i t h l =
    let past : 64 ≤ and_number i t = omega arith in
    let d : of_record (and_number i t) ≡ i = omega arith in
    let p : place (and_number i t) + 1 ≡ suc t = omega arith in
    rw (le-ltb (and_number i t) 64 past, d, p) (row-child m i (suc t) h l)

first-number : (m : List ℕ) (i : ℕ) → i < 64 → child_number m (and_number i 0) 0 ≡ child_at m i 0
unfolding child_number
first-number m i h =
    let past : 64 ≤ and_number i 0 = omega arith in
    let d : of_record (and_number i 0) ≡ i = omega arith in
    let p : place (and_number i 0) ≡ 0 = omega arith in
    rw (le-ltb (and_number i 0) 64 past, d, p) (row-child m i 0 h (omega arith))

left-number : (m : List ℕ) (i t : ℕ) → suc t < 16 → child_number m (and_number i (suc t)) 0 ≡ and_number i t
unfolding child_number
left-number m i t l =
    let past : 64 ≤ and_number i (suc t) = omega arith in
    let p : place (and_number i (suc t)) ≡ suc t = omega arith in
    rw (le-ltb (and_number i (suc t)) 64 past, p, ne_eqb (suc t) 0 (λ e. omega arith)) (omega arith)

module _ (m : List ℕ) (g : Good m) where
  counted-child : (r j : ℕ) → r < 64 → j < length (children_of (policy_at m r)) → j < count_at m r
  counted-child r j h l = subst (λ (x : ℕ). j < x) (ap (λ (q : Policy). length (children_of q)) (stored_is m r h) ∙ stored-count m r g h) l

  stored-number : (r j : ℕ) → r < 64 → j < length (children_of (policy_at m r)) → child_number m r j ≡ child_at m r j
  unfolding child_number
  stored-number r j h l =
      let c = counted-child r j h l in
      let f : count_at m r ≤ 16 = g.rows.few r h in
      let b : j < 16 = omega arith in
      rw (lt-ltb r 64 h, lt-ltb j 16 b)

  pub stored-below : (r j : ℕ) → r < 64 → j < length (children_of (policy_at m r)) → child_number m r j < r
  stored-below r j h l = rw (stored-number r j h l) (g.below r j h (counted-child r j h l))

  of-stored : (r j : ℕ) → r < 64 → j < length (children_of (policy_at m r)) → Child m r j (child_number m r j)
  of-stored r j h l =
      let c = counted-child r j h l in
      let b : child_at m r j < r = g.below r j h c in
      rw (stored-number r j h l)
      (record {
        is =
            stored_is m (child_at m r j) (omega arith)
            ∙ stored-child m r j g h c
            ∙ ap (λ (q : Policy). nth (children_of q) j) (sym (stored_is m r h));
        named = stored (omega arith);
      })

  of_and : (i t j : ℕ) → i < 64 → suc t < count_at m i → j < length (children_of (and_policy m i t))
      → (policy_at m (child_number m (and_number i t) j) ≡ nth (children_of (and_policy m i t)) j) × Named m (child_number m (and_number i t) j)
  unfolding and_policy children_of
  of_and i zero zero h l u =
      let b : child_at m i 0 < i = g.below i 0 h (omega arith) in
      rw (first-number m i h) (stored_is m (child_at m i 0) (omega arith), stored (omega arith))
  of_and i zero (suc zero) h l u =
      let b : child_at m i 1 < i = g.below i 1 h (omega arith) in
      let f : count_at m i ≤ 16 = g.rows.few i h in
      rw (right-number m i 0 h (omega arith)) (stored_is m (child_at m i 1) (omega arith), stored (omega arith))
  of_and i zero (suc (suc j)) h l u = absurd (omega arith)
  of_and i (suc t) zero h l u =
      let f : count_at m i ≤ 16 = g.rows.few i h in
      rw (left-number m i t (omega arith)) (and_is m i t (omega arith), folds i t refl h (omega arith))
  of_and i (suc t) (suc zero) h l u =
      let b : child_at m i (suc (suc t)) < i = g.below i (suc (suc t)) h (omega arith) in
      let f : count_at m i ≤ 16 = g.rows.few i h in
      rw (right-number m i (suc t) h (omega arith)) (stored_is m (child_at m i (suc (suc t))) (omega arith), stored (omega arith))
  of_and i (suc t) (suc (suc j)) h l u = absurd (omega arith)

  pub child-is : (r j : ℕ) → Named m r → j < length (children_of (policy_at m r)) → Child m r j (child_number m r j)
  child-is r j (stored h) l = of-stored r j h l
  child-is r j (folds i t e h u) l =
      let f : count_at m i ≤ 16 = g.rows.few i h in
      let p : policy_at m r ≡ and_policy m i t = ap (policy_at m) e ∙ and_is m i t (omega arith) in
      let both = of_and i t j h u (subst (λ (q : Policy). j < length (children_of q)) p l) in
      rw e
      (record { is = both.0 ∙ ap (λ (q : Policy). nth (children_of q) j) (sym (and_is m i t (omega arith))); named = both.1 })

  -- the search falls from a policy to its children
  pub child-falls : (r j : ℕ) → Named m r → j < length (children_of (policy_at m r)) → weight (policy_at m (child_number m r j)) < weight (policy_at m r)
  child-falls r j named l = rw (child-is r j named l).is (child-weight (policy_at m r) j l)

  -- an And and an Or, by the numbers of their children
  pub and-of : (r : ℕ) → Named m r → kind_of (policy_at m r) ≡ 10 → policy_at m r ≡ And (policy_at m (child_number m r 0)) (policy_at m (child_number m r 1))
  and-of r named e =
      let two = two-and (policy_at m r) e in
      is-and (policy_at m r) e
      ∙ ap (λ (x : Policy). And x (nth (children_of (policy_at m r)) 1)) (sym (child-is r 0 named (omega arith)).is)
      ∙ ap (λ (x : Policy). And (policy_at m (child_number m r 0)) x) (sym (child-is r 1 named (omega arith)).is)

  pub or-of : (r : ℕ) → Named m r → kind_of (policy_at m r) ≡ 11
      → policy_at m r
      ≡ Or (policy_at m (child_number m r 0)) (policy_at m (child_number m r 1)) (left_weight_of (policy_at m r)) (right_weight_of (policy_at m r))
  or-of r named e =
      let two = two-or (policy_at m r) e in
      let left : ℕ = left_weight_of (policy_at m r) in
      let right : ℕ = right_weight_of (policy_at m r) in
      is-or (policy_at m r) e
      ∙ ap (λ (x : Policy). Or x (nth (children_of (policy_at m r)) 1) left right) (sym (child-is r 0 named (omega arith)).is)
      ∙ ap (λ (x : Policy). Or (policy_at m (child_number m r 0)) x left right) (sym (child-is r 1 named (omega arith)).is)

-- ---- heads

and-head-of : (m : List ℕ) (i t : ℕ) → head_of (and_policy m i t) ≡ pair_head 10 0 0
unfolding and_policy kind_of number_of k_of left_weight_of right_weight_of children_of
and-head-of m i zero = refl
and-head-of m i (suc t) = refl

-- from 64 on a number stands for an And
pub past_head : (m : List ℕ) (r : ℕ) → 64 ≤ r → pair_head 10 0 0 ≡ head_of (policy_at m r)
unfolding policy_at
past_head m r h = rw (le-ltb r 64 h) (sym (and-head-of m (of_record r) (place r)))

pub stored-head : (m : List ℕ) (r : ℕ) → r < 64 → {head : Head} (kind number k n left right : ℕ) → kind ≡ word_at m r 0 → number ≡ word_at m r 1
    → k ≡ word_at m r 2 → n ≡ word_at m r 3 → left ≡ word_at m r 4 → right ≡ word_at m r 5
    → ((cs : List Policy) → length cs ≡ arity kind n → head ≡ head_of (made kind number k left right cs)) → head ≡ head_of (policy_at m r)
unfolding row_policy
stored-head m r h {head} kind number k n left right e₀ e₁ e₂ e₃ e₄ e₅ says =
    let cs : List Policy = map (λ c. nth (policies m r) c) (children_at m r) in
    let l : length cs ≡ arity kind n = length-children m r (λ c. nth (policies m r) c) ∙ rw (e₀, e₃) in
    says cs l ∙ rw (e₀, e₁, e₂, e₄, e₅, stored_is m r h, stored_row m r h)

-- ---- folds

fold_and-snoc : (acc : Policy) (xs : List Policy) (y : Policy) → fold_and acc (from_list (xs ++ (y ∷ []))) ≡ And (fold_and acc (from_list xs)) y
unfolding fold_and from_list
fold_and-snoc acc [] y = refl
fold_and-snoc acc (x ∷ xs) y = fold_and-snoc (And acc x) xs y

map_snoc : (f : ℕ → Policy) (m : List ℕ) (at n : ℕ) → map f (words_from m at (suc n)) ≡ map f (words_from m at n) ++ (f (get_or m (at + n) 0) ∷ [])
unfolding words_from
map_snoc f m at zero =
    let e : at + 0 ≡ at = omega arith in
    rw e
map_snoc f m at (suc n) =
    let e : at + suc n ≡ suc at + n = omega arith in
    rw e (ap (λ (l : List Policy). f (get_or m at 0) ∷ l) (map_snoc f m (suc at) n))

-- the Ands over the first children of a record are the policies that the fold builds
fold-and : (m : List ℕ) (i t : ℕ) → folded (from_list (map (record_policy m) (words_from m (40 * i + 6) (suc (suc t))))) ≡ and_policy m i t
unfolding and_policy words_from folded fold_and from_list
fold-and m i zero =
    let e₀ : 40 * i + 6 ≡ 40 * i + (6 + 0) = omega arith in
    let e₁ : suc (40 * i + 6) ≡ 40 * i + (6 + 1) = omega arith in
    ap (λ (a : ℕ). And (record_policy m (get_or m (40 * i + 6) 0)) (record_policy m (get_or m a 0))) e₁
fold-and m i (suc t) =
    let at : ℕ = 40 * i + 6 in
    let e : suc at + suc t ≡ 40 * i + (6 + suc (suc t)) = omega arith in
    let more : map (record_policy m) (words_from m (suc at) (suc (suc t)))
    ≡ map (record_policy m) (words_from m (suc at) (suc t)) ++ (record_policy m (get_or m (suc at + suc t) 0) ∷ []) =
    map_snoc (record_policy m) m (suc at) (suc t) in
    ap (λ (l : List Policy). fold_and (record_policy m (get_or m at 0)) (from_list l)) more
    ∙ fold_and-snoc (record_policy m (get_or m at 0)) (map (record_policy m) (words_from m (suc at) (suc t))) (record_policy m (get_or m (suc at + suc t) 0))
    ∙ ap (λ (p : Policy). And p (record_policy m (get_or m (suc at + suc t) 0))) (fold-and m i t)
    ∙ ap (λ (a : ℕ). And (and_policy m i t) (record_policy m (get_or m a 0))) e

module _ (m : List ℕ) (g : Good m) where
  fold_at : (i n : ℕ) → i < 64 → n ≡ count_at m i → 1 ≤ n
      → (policy_at m (fold_number m i n) ≡ folded (from_list (map (record_policy m) (words_from m (40 * i + 6) n)))) × Named m (fold_number m i n)
  unfolding fold_number words_from folded from_list fold_and
  fold_at i zero h e l = absurd (omega arith)
  fold_at i (suc zero) h e l =
      let b : child_at m i 0 < i = g.below i 0 h (omega arith) in
      rw (row-child m i 0 h (omega arith)) (stored_is m (child_at m i 0) (omega arith), stored (omega arith))
  fold_at i (suc (suc t)) h e l =
      let few : count_at m i ≤ 16 = g.rows.few i h in
      let two : 2 ≤ suc (suc t) = omega arith in
      let k : suc (suc t) - 2 ≡ t = omega arith in
      rw (le-ltb (suc (suc t)) 2 two, k) (and_is m i t (omega arith) ∙ sym (fold-and m i t), folds i t refl h (omega arith))

  module _ (i k : ℕ) (xs : Policies) (h : i < 64) (p : policy_at m i ≡ Thresh k xs) where
    listed : to_list xs ≡ map (record_policy m) (children_at m i)
    unfolding children_of
    listed = ap children_of (sym p ∙ stored_is m i h) ∙ stored-children m i g h

    thresh-count : length (to_list xs) ≡ count_at m i
    thresh-count = ap length listed ∙ length-children m i (record_policy m)

    -- the number of a Thresh's fold stands for the policy that the fold builds
    pub fold_is : 1 ≤ length (to_list xs)
        → (policy_at m (fold_number m i (length (to_list xs))) ≡ folded xs) × Named m (fold_number m i (length (to_list xs)))
    fold_is l =
        let same : xs ≡ from_list (map (record_policy m) (children_at m i)) = sym (from-to xs) ∙ ap from_list listed in
        let both = fold_at i (count_at m i) h refl (omega (arith, thresh-count)) in
        rw thresh-count (both.0 ∙ ap folded (sym same), both.1)

    -- the search falls from a Thresh to what it folds to
    pub fold-falls : 1 ≤ length (to_list xs) → weight (policy_at m (fold_number m i (length (to_list xs)))) < weight (policy_at m i)
    fold-falls l = rw ((fold_is l).0, p) (folded-lighter k xs l)

    -- a Thresh has 1 ≤ k ≤ n
    pub thresh-some : (1 ≤ k) × (k ≤ length (to_list xs))
    unfolding made kind_of k_of
    thresh-some =
        let made_of = stored-made m i g h in
        let kind : kind_at m i ≡ 12 =
        thresh-made (kind_at m i) (word_at m i 1) (word_at m i 2) (word_at m i 4) (word_at m i 5) (map (record_policy m) (children_at m i))
        (ap kind_of (sym made_of ∙ sym (stored_is m i h) ∙ p)) in
        let bounds = g.some_of i h kind in
        let same : k ≡ word_at m i 2 = ap k_of (sym p ∙ stored_is m i h ∙ made_of) ∙ rw kind in
        let n : count_at m i ≡ word_at m i 3 = rw kind in
        (omega (arith, bounds.0), omega (arith, bounds.1, thresh-count))
