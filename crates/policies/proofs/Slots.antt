-- The slots of the rows read so far: what a store leaves of them, and the taking of children, one by one. Assumes nothing.
use mathlib.Core.Path.{◌≡◌, refl, sym, ◌∙◌, ap}
use mathlib.Core.Bool.{Bool, true, false}
use mathlib.Core.List.{List, [], ◌∷◌, ◌++◌}
use Rattle.std.specs.Prelude.{Option, None, Some}
use Prim.Native.Nat.{ℕ, zero, suc, ◌+◌, ◌*◌, ◌-◌, ◌<◌, ◌≤◌}
use native.Mathlib.Omega.{arith}
use borrow.Author.Tests.{eq-eqb, ne_eqb, eqb-true, eqb-false}
use lib.Dec.{eqb}
use lib.ListN.{length, get_or, set, length-append, length-set, get_or-append, get_or-eq_default}
use lib.Seq.{get_or_at, get_or-set_same, get_or-set_other, ext_get_or}
use Rattle.policies.specs.Policy.{Policy}
use Rattle.policies.specs.Reading.{Slots, slot, if_there, without}
use Rattle.policies.specs.Array.{word_at, child_at, taken_at, count_at, words_from, row_policy, policies, record_policy}
use Rattle.policies.specs.Array.{slot_at, slots_at, Rows}
use Rattle.policies.specs.Answers.{Marked, Took, all, some-missing}
use Rattle.policies.proofs.Views.{words_same, stored_row}

-- ---- arrays whose rows agree

-- the first n rows agree, but for their marks
abbrev pub Agree : (n : ℕ) (m m' : List ℕ) → Type 0
Agree n m m' = (x f : ℕ) → x < n → f < 22 → word_at m' x f ≡ word_at m x f

abbrev pub Few : (n : ℕ) (m : List ℕ) → Type 0
Few n m = (x : ℕ) → x < n → count_at m x ≤ 16

module _ (m m' : List ℕ) where
  row_same : (x : ℕ) → ((f : ℕ) → f < 22 → word_at m' x f ≡ word_at m x f) → count_at m x ≤ 16 → (ps : List Policy)
      → row_policy m' x ps ≡ row_policy m x ps
  unfolding row_policy
  row_same x h few ps =
      let cs : words_from m' (40 * x + 6) (count_at m x) ≡ words_from m (40 * x + 6) (count_at m x) =
      words_same m' m (40 * x + 6) (count_at m x) (λ j l. each j l) in
      rw (h 0 (omega arith), h 1 (omega arith), h 2 (omega arith), h 3 (omega arith), h 4 (omega arith), h 5 (omega arith), cs)
    where
      each : (j : ℕ) → j < count_at m x → get_or m' (40 * x + 6 + j) 0 ≡ get_or m (40 * x + 6 + j) 0
      each j l =
          let e : 40 * x + (6 + j) ≡ 40 * x + 6 + j = omega arith in
          rw e at (h (6 + j) (omega arith))

  policies-same : (n : ℕ) → Agree n m m' → Few n m → policies m' n ≡ policies m n
  unfolding policies
  policies-same zero h few = refl
  policies-same (suc n) h few =
      rw (policies-same n (λ x f l u. h x f (omega arith) u) (λ x l. few x (omega arith)))
      (ap
      (λ (p : Policy). policies m n ++ (p ∷ []))
      (row_same n (λ f u. h n f (omega arith) u) (few n (omega arith)) (policies m n)))

  pub record_same : (n x : ℕ) → n ≤ 64 → Agree n m m' → Few n m → x < n → record_policy m' x ≡ record_policy m x
  record_same n x top h few l =
      stored_row m' x (omega arith)
      ∙ ap (row_policy m' x) (policies-same x (λ y f k u. h y f (omega arith) u) (λ y k. few y (omega arith)))
      ∙ row_same x (λ f u. h x f l u) (few x l) (policies m x)
      ∙ sym (stored_row m x (omega arith))

  slot_same : (x : ℕ) → taken_at m' x ≡ taken_at m x → record_policy m' x ≡ record_policy m x → slot_at m' x ≡ slot_at m x
  slot_same x t p = rw (t, p)

  pub slots_same : (n : ℕ) → n ≤ 64 → Agree n m m' → Few n m → ((x : ℕ) → x < n → taken_at m' x ≡ taken_at m x) → slots_at m' n ≡ slots_at m n
  unfolding slots_at
  slots_same zero top h few t = refl
  slots_same (suc n) top h few t =
      rw (slots_same n (omega arith) (λ x f l u. h x f (omega arith) u) (λ x l. few x (omega arith)) (λ x l. t x (omega arith)))
      (ap
      (λ (s : Option Policy). slots_at m n ++ (s ∷ []))
      (slot_same n (t n (omega arith)) (record_same (suc n) n top h few (omega arith))))

-- ---- slots

pub length-slots : (m : List ℕ) (n : ℕ) → length (slots_at m n) ≡ n
unfolding slots_at
length-slots m zero = refl
length-slots m (suc n) =
    let h : length (slots_at m n) ≡ n = length-slots m n in
    length-append (slots_at m n) (slot_at m n ∷ []) ∙ omega arith

pub slot-at : (m : List ℕ) (x n : ℕ) → x < n → slot (slots_at m n) x ≡ slot_at m x
unfolding slots_at
slot-at m x zero h = absurd (omega arith)
slot-at m x (suc n) h = by-test (slot-at m x n) (eqb x n) refl
  where
    by-test : (x < n → slot (slots_at m n) x ≡ slot_at m x) → (t : Bool) → eqb x n ≡ t → slot (slots_at m n ++ (slot_at m n ∷ [])) x ≡ slot_at m x
    by-test before true e =
        let same : x ≡ n = eqb-true x n e in
        rw same (get_or_at (slots_at m n) (slot_at m n) [] None n (length-slots m n))
    by-test before false e =
        let ne = eqb-false x n e in
        let l : length (slots_at m n) ≡ n = length-slots m n in
        get_or-append (slots_at m n) (slot_at m n ∷ []) None x (omega arith) ∙ before (omega arith)

pub slot-past : (m : List ℕ) (x n : ℕ) → n ≤ x → slot (slots_at m n) x ≡ None
slot-past m x n h =
    let l : length (slots_at m n) ≡ n = length-slots m n in
    get_or-eq_default (slots_at m n) None {n = x} (omega arith)

-- ---- a mark

mark-rows : (m : List ℕ) (c x f : ℕ) → f < 22 → word_at (set m (40 * c + 22) 1) x f ≡ word_at m x f
mark-rows m c x f h = get_or-set_other m (40 * c + 22) (40 * x + f) 1 0 (λ e. omega arith)

mark-other : (m : List ℕ) (c x : ℕ) → (x ≡ c → ⊥) → taken_at (set m (40 * c + 22) 1) x ≡ taken_at m x
mark-other m c x ne = get_or-set_other m (40 * c + 22) (40 * x + 22) 1 0 (λ e. ne (omega arith))

mark-own : (m : List ℕ) (c : ℕ) → length m ≡ 2560 → c < 64 → taken_at (set m (40 * c + 22) 1) c ≡ 1
mark-own m c long h = get_or-set_same m (40 * c + 22) 1 0 (omega arith)

-- a mark takes the policy from its slot
slots-mark : (m : List ℕ) (c n : ℕ) → Rows m → c < n → n ≤ 64 → slots_at (set m (40 * c + 22) 1) n ≡ set (slots_at m n) c None
slots-mark m c n rows h top =
    let m' : List ℕ = set m (40 * c + 22) 1 in
    let l : length (slots_at m n) ≡ n = length-slots m n in
    let l' : length (slots_at m' n) ≡ n = length-slots m' n in
    ext_get_or None (slots_at m' n) (set (slots_at m n) c None) (l' ∙ sym (length-set (slots_at m n) c None ∙ l))
    (λ x u. each x (omega arith) (eqb x c) refl)
  where
    each : (x : ℕ) → x < n → (t : Bool) → eqb x c ≡ t → slot (slots_at (set m (40 * c + 22) 1) n) x ≡ slot (set (slots_at m n) c None) x
    each x u true e =
        let same : x ≡ c = eqb-true x c e in
        let l : length (slots_at m n) ≡ n = length-slots m n in
        rw (same, slot-at (set m (40 * c + 22) 1) c n h, mark-own m c rows.long (omega arith))
        (sym (get_or-set_same (slots_at m n) c None None (omega arith)))
    each x u false e =
        let ne : x ≡ c → ⊥ = eqb-false x c e in
        slot-at (set m (40 * c + 22) 1) x n u
        ∙ slot_same
        m
        (set m (40 * c + 22) 1)
        x
        (mark-other m c x ne)
        (record_same
        m
        (set m (40 * c + 22) 1)
        n
        x
        top
        (λ y f _ v. mark-rows m c y f v)
        (λ y v. rows.few y (omega arith))
        u)
        ∙ sym (slot-at m x n u)
        ∙ sym (get_or-set_other (slots_at m n) c x None None ne)

-- ---- the children of row i, one by one

pub marked-rows : (i : ℕ) (m₀ m : List ℕ) → Rows m₀ → Marked i m₀ m → Rows m
marked-rows i m₀ m rows marked =
    record {
      long = marked.long ∙ rows.long;
      few = λ x l. rw (marked.rows x 0 (omega arith), marked.rows x 3 (omega arith)) (rows.few x l);
    }

-- after j of n children: what is still to come of the taking gives what the taking of all gives
pub record TookInv (i n : ℕ) (m₀ m : List ℕ) (j : ℕ) : Type 0 where
  pub within : j ≤ n
  pub still : without (words_from m₀ (40 * i + 6 + j) (n - j)) (slots_at m i) ≡ without (words_from m₀ (40 * i + 6) n) (slots_at m₀ i)
  pub marked : Marked i m₀ m
  pub below : (x : ℕ) → x < j → child_at m₀ i x < i

pub took-starts : (i n : ℕ) (m₀ : List ℕ) → TookInv i n m₀ m₀ 0
took-starts i n m₀ =
    let e : 40 * i + 6 + 0 ≡ 40 * i + 6 = omega arith in
    let k : n - 0 ≡ n = omega arith in
    record {
      within = omega arith;
      still = rw (e, k);
      marked = record { long = refl; rows = λ x f l. refl; own = refl };
      below = λ x l. absurd (omega arith);
    }

next_word : (m : List ℕ) (i n j : ℕ) → j < n
    → words_from m (40 * i + 6 + j) (n - j) ≡ child_at m i j ∷ words_from m (40 * i + 6 + (j + 1)) (n - (j + 1))
unfolding words_from
next_word m i n j h =
    let k : n - j ≡ suc (n - (j + 1)) = omega arith in
    let e : 40 * i + 6 + j ≡ 40 * i + (6 + j) = omega arith in
    let f : suc (40 * i + 6 + j) ≡ 40 * i + 6 + (j + 1) = omega arith in
    rw k (ap (λ (a : ℕ). get_or m a 0 ∷ words_from m (suc (40 * i + 6 + j)) (n - (j + 1))) e
    ∙ ap (λ (a : ℕ). child_at m i j ∷ words_from m a (n - (j + 1))) f)

nothing_left : (slots : Slots) (m : List ℕ) (at : ℕ) → without (words_from m at 0) slots ≡ Some slots
unfolding without words_from
nothing_left slots m at = refl

module _ (i n : ℕ) (m₀ m : List ℕ) (j : ℕ) (rows : Rows m₀) (top : i < 64) (sixteen : n ≤ 16) (inv : TookInv i n m₀ m j) where
  pub took-rows : Rows m
  took-rows = marked-rows i m₀ m rows inv.marked

  module _ (l : j < n) {c : ℕ} (e : c ≡ word_at m i (6 + j)) where
    the-child : c ≡ child_at m₀ i j
    the-child = e ∙ inv.marked.rows i (6 + j) (omega arith)

    from-child : without (words_from m₀ (40 * i + 6) n) (slots_at m₀ i)
        ≡ if_there (slot (slots_at m i) c) (without (words_from m₀ (40 * i + 6 + (j + 1)) (n - (j + 1))) (set (slots_at m i) c None))
    unfolding without
    from-child = sym inv.still ∙ rw (next_word m₀ i n j l, the-child)

    -- a child whose number is not smaller
    pub took-later : i ≤ c → Took i n m₀ m false
    took-later h = some-missing (from-child ∙ rw (slot-past m c i h))

    -- a child that is taken already
    pub took-twice : c < i → (taken_at m c ≡ 0 → ⊥) → Took i n m₀ m false
    took-twice h ne = some-missing (from-child ∙ rw (slot-at m c i h, ne_eqb (taken_at m c) 0 ne))

    pub took_more : c < i → taken_at m c ≡ 0 → TookInv i n m₀ (set m (40 * c + 22) 1) (j + 1)
    took_more h z =
        record {
          within = omega arith;
          still = rw (slots-mark m c i took-rows h (omega arith)) (sym (from-child ∙ rw (slot-at m c i h, eq-eqb (taken_at m c) 0 z)));
          marked =
              record {
                long = length-set m (40 * c + 22) 1 ∙ inv.marked.long;
                rows = λ x f u. mark-rows m c x f u ∙ inv.marked.rows x f u;
                own = mark-other m c i (λ same. omega arith) ∙ inv.marked.own;
              };
          below = λ x u. below_next x u (eqb x j) refl;
        }
      where
        below_next : (x : ℕ) → x < j + 1 → (t : Bool) → eqb x j ≡ t → child_at m₀ i x < i
        below_next x u true q =
            let same : x ≡ j = eqb-true x j q in
            let child = the-child in
            rw same (omega arith)
        below_next x u false q =
            let ne = eqb-false x j q in
            inv.below x (omega arith)

  pub took-all : n ≤ j → Took i n m₀ m true
  took-all h = all last inv.marked (λ x u. inv.below x (omega arith))
    where
      last : without (words_from m₀ (40 * i + 6) n) (slots_at m₀ i) ≡ Some (slots_at m i)
      last =
          let k : n - j ≡ 0 = omega arith in
          sym inv.still ∙ rw k (nothing_left (slots_at m i) m₀ (40 * i + 6 + j))
