-- One whole record: the row written, its children taken, and the slots with its own added. Assumes nothing.
use Rattle.refusals.specs.declared.Refusal.TheVariants as Refusal
use mathlib.Core.Path.{◌≡◌, refl, sym, ◌∙◌, ap}
use mathlib.Core.Bool.{Bool, true, false, cond, ◌&&◌, ◌||◌}
use mathlib.Core.List.{List, [], ◌∷◌, ◌++◌, map}
use Rattle.std.specs.Prelude.{Option, None, Some, Ok, Err}
use Prim.Native.Nat.{ℕ, zero, suc, ◌+◌, ◌*◌, ◌<◌, ◌≤◌}
use native.Mathlib.Omega.{arith}
use borrow.Author.Tests.{eqb-true, eqb-false}
use lib.Dec.{eqb}
use lib.ListN.{length, get_or, set}
use Rattle.records.specs.Payloads as payload
use Rattle.records.specs.Payloads.{Payload}
use Rattle.records.specs.RecordForm.{kind_of, policy_payload}
use Rattle.records.specs.Answers.{padded, parts_of}
use Rattle.records.specs.declared.Parts.{Parts}
use Rattle.records.proofs.Laws.{fits-some, unfit-none, padded-at, length-padded}
use Rattle.policies.specs.Policy.{Policy}
use Rattle.policies.specs.Forms.{nth}
use Rattle.policies.specs.Reading.{Slots, slot, if_there, without, the_policy, those, weighs_nothing, written, read_whole}
use Rattle.policies.specs.Array.{word_at, kind_at, child_at, taken_at, count_at, words_from, children_at, row_policy, policies, record_policy}
use Rattle.policies.specs.Array.{slot_at, slots_at, Rows, Good}
use Rattle.policies.specs.Answers.{Marked, Took, all, some-missing, Stepped, put_row}
use Rattle.policies.proofs.Views.{words-list, stored_row, earlier}
use Rattle.policies.proofs.Rows.{RowPut, row_put}
use Rattle.policies.proofs.Fits.{Fit, fit}
use Rattle.policies.proofs.Slots.{Agree, record_same, slots_same, slot-at, marked-rows}

-- ---- children that are there

still-none : (slots : Slots) (x y : ℕ) → slot slots y ≡ None → slot (set slots x None) y ≡ None
still-none [] x y h = h
still-none (s ∷ slots) zero zero h = refl
still-none (s ∷ slots) zero (suc y) h = h
still-none (s ∷ slots) (suc x) zero h = h
still-none (s ∷ slots) (suc x) (suc y) h = still-none slots x y h

-- what is taken was in its slot
present : (js : List ℕ) (slots : Slots) {left : Slots} → without js slots ≡ Some left → (j : ℕ) → j < length js → slot slots (get_or js j 0) ≡ None → ⊥
unfolding without
present [] slots e j l z = omega arith
present (x ∷ js) slots {left} e zero l z = missing (slot slots x) z e
  where
    missing : (o : Option Policy) → o ≡ None → if_there o (without js (set slots x None)) ≡ Some left → ⊥
    missing (Some q) z e = let c : ◌≡◌ {A = ℕ} 0 1 = cc in omega arith
    missing None z e = let c : ◌≡◌ {A = ℕ} 0 1 = cc in omega arith
present (x ∷ js) slots {left} e (suc j) l z =
    present js (set slots x None) (others (slot slots x) e) j (omega arith) (still-none slots x (get_or js j 0) z)
  where
    others : (o : Option Policy) → if_there o (without js (set slots x None)) ≡ Some left → without js (set slots x None) ≡ Some left
    others (Some q) e = e
    others None e = cc

-- what stands in a slot is the record's policy
the-slot : (m : List ℕ) (c : ℕ) → (slot_at m c ≡ None → ⊥) → record_policy m c ≡ the_policy (slot_at m c)
the-slot m c ne = by-test (eqb (taken_at m c) 0) ne
  where
    by-test : (t : Bool) → (cond t (Some (record_policy m c)) None ≡ None → ⊥) → record_policy m c ≡ the_policy (cond t (Some (record_policy m c)) None)
    by-test true ne = refl
    by-test false ne = absurd (ne refl)

same_map : (f g : ℕ → Policy) (cs : List ℕ) → ((j : ℕ) → j < length cs → f (get_or cs j 0) ≡ g (get_or cs j 0)) → map f cs ≡ map g cs
same_map f g [] h = refl
same_map f g (x ∷ cs) h =
    let first : f x ≡ g x = h 0 (omega arith) in
    let others : map f cs ≡ map g cs = same_map f g cs (λ j l. h (suc j) (omega arith)) in
    cc

-- ---- what taking tells

pub record TookAll (i n : ℕ) (m₀ m : List ℕ) : Type 0 where
  pub left : without (words_from m₀ (40 * i + 6) n) (slots_at m₀ i) ≡ Some (slots_at m i)
  pub marked : Marked i m₀ m
  pub below : (j : ℕ) → j < n → child_at m₀ i j < i

took_true : (i n : ℕ) (m₀ m : List ℕ) {r : Bool} → Took i n m₀ m r → r ≡ true → TookAll i n m₀ m
took_true i n m₀ m (all w k b) e = record { left = w; marked = k; below = b }
took_true i n m₀ m (some-missing w) e = absurd (let z : ◌≡◌ {A = ℕ} 0 1 = cc in omega arith)

took-false : (i n : ℕ) (m₀ m : List ℕ) {r : Bool} → Took i n m₀ m r → r ≡ false → without (words_from m₀ (40 * i + 6) n) (slots_at m₀ i) ≡ None
took-false i n m₀ m (all w k b) e = absurd (let z : ◌≡◌ {A = ℕ} 0 1 = cc in omega arith)
took-false i n m₀ m (some-missing w) e = w

-- ---- the row, written and taken

module _ (m s : List ℕ) (i : ℕ) (g : Good m) (top : i < 64) (p : Payload) (e : policy_payload s ≡ Some p) (m₁ : List ℕ)
    (e₁ : m₁ ≡ put_row m i (kind_of s) (parts_of (Some p))) where
  n : ℕ
  n = payload.count_of p

  fits : Fit (kind_of s) p
  fits = fit s p e

  put :
      RowPut m m₁ i (kind_of s) (payload.number_of p) (payload.k_of p) n (payload.left_weight_of p) (payload.right_weight_of p)
      (padded (payload.children_of p))
  unfolding n
  put =
      rw e₁
      (row_put m i (kind_of s) (payload.number_of p) (payload.k_of p) n (payload.left_weight_of p) (payload.right_weight_of p)
      (padded (payload.children_of p))
      g.rows.long top (length-padded (payload.children_of p) fits.few))

  count-put : count_at m₁ i ≡ length (payload.children_of p)
  unfolding n
  count-put = rw (put.head 0 (omega arith), put.head 3 (omega arith)) fits.count

  count-other : (x : ℕ) → (x ≡ i → ⊥) → count_at m₁ x ≡ count_at m x
  count-other x ne = rw (put.other x 0 ne (omega arith), put.other x 3 ne (omega arith))

  rows-put : Rows m₁
  rows-put = record { long = put.long ∙ g.rows.long; few = λ x l. few x l (eqb x i) refl }
    where
      few : (x : ℕ) → x < 64 → (t : Bool) → eqb x i ≡ t → count_at m₁ x ≤ 16
      few x l true q =
          let same : x ≡ i = eqb-true x i q in
          rw (same, count-put) fits.few
      few x l false q = rw (count-other x (eqb-false x i q)) (g.rows.few x l)

  agree-put : Agree i m m₁
  agree-put x f l u = put.other x f (λ q. omega arith) (omega arith)

  slots-put : slots_at m₁ i ≡ slots_at m i
  slots-put =
      slots_same m m₁ i (omega arith) agree-put (λ x l. g.rows.few x (omega arith))
      (λ x l. put.other x 22 (λ q. omega arith) (omega arith))

  words-put : words_from m₁ (40 * i + 6) n ≡ payload.children_of p
  unfolding n
  words-put = rw fits.keyless (words-list m₁ (40 * i + 6) (payload.children_of p) each_word)
    where
      each_word : (j : ℕ) → j < length (payload.children_of p) → get_or m₁ (40 * i + 6 + j) 0 ≡ get_or (payload.children_of p) j 0
      each_word j l =
          let few : length (payload.children_of p) ≤ 16 = fits.few in
          let q : 40 * i + 6 + j ≡ 40 * i + (6 + j) = omega arith in
          rw q (put.child j (omega arith) ∙ padded-at (payload.children_of p) j l)

  take-ready : Rows m₁ × ((i < 64) × (n ≤ 16))
  unfolding n
  take-ready = (rows-put, (top, rw fits.keyless fits.few))

  module _ (m₂ : List ℕ) (taken : TookAll i n m₁ m₂) where
    left_is : without (payload.children_of p) (slots_at m i) ≡ Some (slots_at m₂ i)
    left_is = rw (← words-put, ← slots-put) taken.left

    child-is : (j : ℕ) → j < length (payload.children_of p) → child_at m₁ i j ≡ get_or (payload.children_of p) j 0
    child-is j l =
        let few : length (payload.children_of p) ≤ 16 = fits.few in
        put.child j (omega arith) ∙ padded-at (payload.children_of p) j l

    smaller : (j : ℕ) → j < length (payload.children_of p) → get_or (payload.children_of p) j 0 < i
    unfolding n
    smaller j l =
        let k : n ≡ length (payload.children_of p) = fits.keyless in
        rw (← child-is j l) (taken.below j (omega arith))

    -- the records before it stand for what they stood for
    record-before : (c : ℕ) → c < i → record_policy m₂ c ≡ record_policy m c
    record-before c l =
        record_same m₁ m₂ i c (omega arith) (λ x f k u. taken.marked.rows x f u) (λ x k. rows-put.few x (omega arith)) l
        ∙ record_same m m₁ i c (omega arith) agree-put (λ x k. g.rows.few x (omega arith)) l

    word-is : (f : ℕ) → f < 6
        → word_at m₂ i f
        ≡ get_or (kind_of s ∷ payload.number_of p ∷ payload.k_of p ∷ n ∷ payload.left_weight_of p ∷ payload.right_weight_of p ∷ []) f 0
    word-is f l = taken.marked.rows i f (omega arith) ∙ put.head f l

    count-is : count_at m₂ i ≡ length (payload.children_of p)
    unfolding n
    count-is = rw (word-is 0 (omega arith), word-is 3 (omega arith)) fits.count

    children-are : children_at m₂ i ≡ payload.children_of p
    children-are = rw count-is (words-list m₂ (40 * i + 6) (payload.children_of p) each_word)
      where
        each_word : (j : ℕ) → j < length (payload.children_of p) → get_or m₂ (40 * i + 6 + j) 0 ≡ get_or (payload.children_of p) j 0
        each_word j l =
            let few : length (payload.children_of p) ≤ 16 = fits.few in
            let q : 40 * i + 6 + j ≡ 40 * i + (6 + j) = omega arith in
            rw q (taken.marked.rows i (6 + j) (omega arith) ∙ child-is j l)

    those-are : map (λ c. nth (policies m₂ i) c) (payload.children_of p) ≡ those (payload.children_of p) (slots_at m i)
    those-are =
        same_map (λ c. nth (policies m₂ i) c) (λ c. the_policy (slot (slots_at m i) c)) (payload.children_of p)
        (λ j l. one (get_or (payload.children_of p) j 0) (smaller j l) (present (payload.children_of p) (slots_at m i) left_is j l))
      where
        one : (c : ℕ) → c < i → (slot (slots_at m i) c ≡ None → ⊥) → nth (policies m₂ i) c ≡ the_policy (slot (slots_at m i) c)
        one c l there =
            let at : slot (slots_at m i) c ≡ slot_at m c = slot-at m c i l in
            earlier m₂ c i l (omega arith)
            ∙ record-before c l
            ∙ the-slot m c (λ z. there (at ∙ z))
            ∙ ap the_policy (sym at)

    policy-is : record_policy m₂ i ≡ written (kind_of s) p (slots_at m i)
    unfolding row_policy
    policy-is =
        stored_row m₂ i top
        ∙ rw (
          children-are,
          word-is 0 (omega arith),
          word-is 1 (omega arith),
          word-is 2 (omega arith),
          word-is 4 (omega arith),
          word-is 5 (omega arith),
          those-are,
        )

    slots-are : slots_at m₂ (suc i) ≡ slots_at m₂ i ++ (Some (written (kind_of s) p (slots_at m i)) ∷ [])
    unfolding slots_at
    slots-are =
        let z : taken_at m₂ i ≡ 0 = taken.marked.own ∙ put.untaken in
        rw (z, policy-is)

    good-after : Good m₂
    unfolding n
    good-after =
        record {
          rows = marked-rows i m₁ m₂ rows-put taken.marked;
          below = λ x j l u. below x j l u (eqb x i) refl;
          some_of = λ x l k. some_of x l k (eqb x i) refl;
        }
      where
        count_same : (x : ℕ) → (x ≡ i → ⊥) → count_at m₂ x ≡ count_at m x
        count_same x ne = rw (taken.marked.rows x 0 (omega arith), taken.marked.rows x 3 (omega arith)) (count-other x ne)

        word_same : (x f : ℕ) → (x ≡ i → ⊥) → f < 22 → word_at m₂ x f ≡ word_at m x f
        word_same x f ne l = taken.marked.rows x f l ∙ put.other x f ne (omega arith)

        below : (x j : ℕ) → x < 64 → j < count_at m₂ x → (t : Bool) → eqb x i ≡ t → child_at m₂ x j < x
        below x j l u true q =
            let same : x ≡ i = eqb-true x i q in
            let u' : j < count_at m₂ i = rw same at u in
            let c = count-is in
            let few : length (payload.children_of p) ≤ 16 = fits.few in
            rw (same, taken.marked.rows i (6 + j) (omega arith), child-is j (omega arith)) (smaller j (omega arith))
        below x j l u false q =
            let ne : x ≡ i → ⊥ = eqb-false x i q in
            let u' : j < count_at m x = rw (count_same x ne) at u in
            let few : count_at m x ≤ 16 = g.rows.few x l in
            rw (word_same x (6 + j) ne (omega arith)) (g.below x j l u')

        some_of : (x : ℕ) → x < 64 → kind_at m₂ x ≡ 12 → (t : Bool) → eqb x i ≡ t → (1 ≤ word_at m₂ x 2) × (word_at m₂ x 2 ≤ word_at m₂ x 3)
        some_of x l k true q =
            let same : x ≡ i = eqb-true x i q in
            let k' : kind_at m₂ i ≡ 12 = rw same at k in
            rw (same, word-is 2 (omega arith), word-is 3 (omega arith)) (fits.some_of (sym (word-is 0 (omega arith)) ∙ k'))
        some_of x l k false q =
            let ne : x ≡ i → ⊥ = eqb-false x i q in
            rw (word_same x 2 ne (omega arith), word_same x 3 ne (omega arith)) (g.some_of x l (sym (word_same x 0 ne (omega arith)) ∙ k))

-- ---- what the reader of a whole record answers

module _ (m s : List ℕ) (i len : ℕ) (g : Good m) (top : i < 64) {parts : Parts}
    (ep : parts ≡ parts_of (policy_payload s)) where
  the-payload : parts.fits ≡ true → (p : Payload) × (policy_payload s ≡ Some p)
  the-payload f = fits-some (policy_payload s) (sym (ap (λ (x : Parts). x.fits) ep) ∙ f)

  pub whole-unfit : (m₂ : List ℕ) → parts.fits ≡ false → Stepped (read_whole (slots_at m i) len s) (Err Refusal.BadPolicy) m₂ i
  unfolding read_whole
  whole-unfit m₂ f = record { says = rw (unfit-none (policy_payload s) (sym (ap (λ (x : Parts). x.fits) ep) ∙ f)); good = λ z. omega arith }

  module _ {kind : ℕ} {m₁ : List ℕ} (ek : kind ≡ kind_of s) (e₁ : m₁ ≡ put_row m i kind parts) (f : parts.fits ≡ true) where
    p : Payload
    p = (the-payload f).0

    e : policy_payload s ≡ Some p
    unfolding p
    e = (the-payload f).1

    parts_are : parts ≡ parts_of (Some p)
    parts_are = ep ∙ ap parts_of e

    row_is : m₁ ≡ put_row m i (kind_of s) (parts_of (Some p))
    row_is = e₁ ∙ ap (λ (k : ℕ). put_row m i k parts) ek ∙ ap (λ (x : Parts). put_row m i (kind_of s) x) parts_are

    counted_is : parts.count ≡ payload.count_of p
    counted_is = ap (λ (x : Parts). x.count) parts_are

    pub whole_take : Rows m₁ × ((i < 64) × (parts.count ≤ 16))
    unfolding n
    whole_take = rw counted_is (take-ready m s i g top p e m₁ row_is)

    pub whole-missing : (m₂ : List ℕ) {r : Bool} → Took i parts.count m₁ m₂ r → r ≡ false
        → Stepped (read_whole (slots_at m i) len s) (Err Refusal.BadPolicy) m₂ i
    unfolding read_whole n
    whole-missing m₂ t z =
        let w : without (words_from m₁ (40 * i + 6) (payload.count_of p)) (slots_at m₁ i) ≡ None =
        took-false i (payload.count_of p) m₁ m₂ (rw counted_is at t) z in
        let missing : without (payload.children_of p) (slots_at m i) ≡ None =
        rw (← words-put m s i g top p e m₁ row_is, ← slots-put m s i g top p e m₁ row_is) w in
        record { says = rw (e, missing); good = λ z. omega arith }

    weighs_is : {b : Bool} → b ≡ (eqb kind 11 && (eqb parts.left_weight 0 || eqb parts.right_weight 0)) → b ≡ weighs_nothing (kind_of s) p
    weighs_is w =
        w
        ∙ ap (λ (k : ℕ). eqb k 11 && (eqb parts.left_weight 0 || eqb parts.right_weight 0)) ek
        ∙ ap (λ (x : Parts). eqb (kind_of s) 11 && (eqb x.left_weight 0 || eqb x.right_weight 0)) parts_are

    module _ (m₂ : List ℕ) {r b : Bool} (t : Took i parts.count m₁ m₂ r) (y : r ≡ true)
        (w : b ≡ (eqb kind 11 && (eqb parts.left_weight 0 || eqb parts.right_weight 0))) where
      taken : TookAll i (payload.count_of p) m₁ m₂
      taken = took_true i (payload.count_of p) m₁ m₂ (rw counted_is at t) y

      pub whole-zero : b ≡ true → Stepped (read_whole (slots_at m i) len s) (Err Refusal.ZeroWeight) m₂ i
      unfolding read_whole n
      whole-zero q =
          let left = left_is m s i g top p e m₁ row_is m₂ taken in
          let z : weighs_nothing (kind_of s) p ≡ true = sym (weighs_is w) ∙ q in
          record { says = rw (e, left, z); good = λ z. omega arith }

      pub whole-next : b ≡ false → Stepped (read_whole (slots_at m i) len s) (Ok len) m₂ i
      unfolding read_whole n
      whole-next q =
          let left = left_is m s i g top p e m₁ row_is m₂ taken in
          let z : weighs_nothing (kind_of s) p ≡ false = sym (weighs_is w) ∙ q in
          record {
            says = rw (e, left, z, slots-are m s i g top p e m₁ row_is m₂ taken);
            good = good-after m s i g top p e m₁ row_is m₂ taken;
          }
