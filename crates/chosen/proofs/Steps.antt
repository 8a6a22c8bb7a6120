-- Records in order, one after another: what each step of the reading tells. Assumes nothing.
use mathlib.Core.Bool.{Bool, true, false, cond, ◌&&◌}
use mathlib.Core.List.{List, [], ◌∷◌, ◌++◌}
use Rattle.std.specs.Prelude.{Option, None, Some}
use mathlib.Core.Path.{◌≡◌, refl, sym, ap, ◌∙◌}
use Prim.Native.Nat.{ℕ, zero, suc, ◌+◌, ◌*◌, ◌-◌, ◌<◌, ◌≤◌}
use native.Mathlib.Omega.{arith}
use native.Mathlib.Numerals.{add-one}
use borrow.Author.Tests.{eqb-true, eq-eqb, ne_eqb, leb-true, le-leb, lt-leb}
use lib.Pointwise.{pointwise}
use lib.Dec.{eqb, leb}
use lib.ListN.{length, get_or, take, drop, length-drop, length-append}
use lib.Seq.{drop-cons, get_or-take, length-take-le, drop-append_seam, take-append_seam}
use Rattle.records.specs.RecordForm.{record_length}
use Rattle.records.specs.Payloads.{written_kind, children_of}
use Rattle.records.specs.RecordForm.{fragment_payload}
use Rattle.records.specs.Payloads.{Payload}
use Rattle.chosen.specs.Chosen.{if_so, is_short, same, taking, taking_all, with_record, and_then, in_order}

-- ---- the reading

pub order-end : (more own : ℕ) (roots s : List ℕ) → length s ≡ 0 → in_order more own roots s ≡ eqb (length roots) 1
unfolding in_order
order-end zero own roots [] e = refl
order-end zero own roots (b ∷ bs) e = absurd (omega arith)
order-end (suc more) own roots [] e = refl
order-end (suc more) own roots (b ∷ bs) e = absurd (omega arith)

pub order-full : (own : ℕ) (roots s : List ℕ) → 0 < length s → in_order 0 own roots s ≡ false
unfolding in_order
order-full own roots [] h = absurd (omega arith)
order-full own roots (b ∷ bs) h = refl

pub order-broken : (more own : ℕ) (roots s : List ℕ) → 0 < length s → record_length s ≡ None → in_order more own roots s ≡ false
unfolding in_order
order-broken zero own roots [] h e = absurd (omega arith)
order-broken zero own roots (b ∷ bs) h e = refl
order-broken (suc more) own roots [] h e = absurd (omega arith)
order-broken (suc more) own roots (b ∷ bs) h e = rw e

pub order-next : (more own : ℕ) (roots s : List ℕ) {len : ℕ} → 0 < length s → record_length s ≡ Some len
    → in_order (suc more) own roots s ≡ and_then (with_record roots own (take len s)) (λ after. in_order more (suc own) after (drop len s))
unfolding in_order
order-next more own roots [] h e = absurd (omega arith)
order-next more own roots (b ∷ bs) h e = rw e

pub order-stops : (more own : ℕ) (roots s : List ℕ) {len : ℕ} → 0 < length s → record_length s ≡ Some len → with_record roots own (take len s) ≡ None
    → in_order more own roots s ≡ false
order-stops zero own roots s h e w = order-full own roots s h
order-stops (suc more) own roots s {len} h e w =
    order-next more own roots s h e ∙ ap (λ (o : Option (List ℕ)). and_then o (λ after. in_order more (suc own) after (drop len s))) w

pub order-goes-on : (more own : ℕ) (roots s after : List ℕ) {len : ℕ} → 0 < length s → record_length s ≡ Some len → with_record roots own (take len s) ≡ Some after
    → in_order (suc more) own roots s ≡ in_order more (own + 1) after (drop len s)
order-goes-on more own roots s after {len} h e w =
    order-next more own roots s h e ∙ ap (λ (o : Option (List ℕ)). and_then o (λ after. in_order more (suc own) after (drop len s))) w
    ∙ ap (λ (k : ℕ). in_order more k after (drop len s)) (sym (add-one own))

-- ---- a record's own part

pub with-short : (roots : List ℕ) (own : ℕ) (s : List ℕ) → is_short (written_kind s) ≡ true → with_record roots own s ≡ None
unfolding with_record
with-short roots own s e = rw e

pub with-unfit : (roots : List ℕ) (own : ℕ) (s : List ℕ) → fragment_payload s ≡ None → with_record roots own s ≡ None
unfolding with_record
with-unfit roots own s e = rw e (either (is_short (written_kind s)))
  where
    either : (t : Bool) → cond {A = Option (List ℕ)} t None None ≡ None
    either true = refl
    either false = refl

pub with-fit : (roots : List ℕ) (own : ℕ) (s : List ℕ) {p : Payload} → is_short (written_kind s) ≡ false → fragment_payload s ≡ Some p
    → with_record roots own s ≡ taking roots own (children_of p)
unfolding with_record
with-fit roots own s k e = rw (k, e)

-- ---- the children of a record

pub same_self : (xs : List ℕ) → same xs xs ≡ true
unfolding same
same_self [] = refl
same_self (x ∷ xs) = rw (eq-eqb x x refl, same_self xs)

pub same-short : (xs ys : List ℕ) → length xs < length ys → same xs ys ≡ false
unfolding same
same-short [] [] h = absurd (omega arith)
same-short [] (y ∷ ys) h = refl
same-short (x ∷ xs) [] h = absurd (omega arith)
same-short (x ∷ xs) (y ∷ ys) h = rw (same-short xs ys (omega arith)) (either (eqb x y))
  where
    either : (t : Bool) → (t && false) ≡ false
    either true = refl
    either false = refl

module _ (xs ys : List ℕ) (i j : ℕ) (h : i < length xs) (l : j < length ys) where
  pub same_next : get_or xs i 0 ≡ get_or ys j 0 → same (drop (i + 1) xs) (drop (j + 1) ys) ≡ same (drop i xs) (drop j ys)
  unfolding same
  same_next e = rw (add-one i, add-one j, drop-cons xs i 0 h, drop-cons ys j 0 l, eq-eqb (get_or xs i 0) (get_or ys j 0) e)

  pub same_not : (get_or xs i 0 ≡ get_or ys j 0 → ⊥) → same (drop i xs) (drop j ys) ≡ false
  unfolding same
  same_not n = rw (drop-cons xs i 0 h, drop-cons ys j 0 l, ne_eqb (get_or xs i 0) (get_or ys j 0) n)

pub same-done : (xs ys : List ℕ) (i j : ℕ) → length xs ≤ i → length ys ≤ j → same (drop i xs) (drop j ys) ≡ true
unfolding same
same-done xs ys i j h l = rw (none_left xs i h, none_left ys j l) nothing
  where
    none_left : (xs : List ℕ) (i : ℕ) → length xs ≤ i → drop i xs ≡ []
    none_left [] zero h = refl
    none_left [] (suc i) h = refl
    none_left (x ∷ xs) zero h = absurd (omega arith)
    none_left (x ∷ xs) (suc i) h = none_left xs i (omega arith)

    nothing : same [] [] ≡ true
    nothing = refl

pub taking-last : (roots children : List ℕ) (own : ℕ) → taking (roots ++ children) own children ≡ Some (roots ++ (own ∷ []))
unfolding taking
taking-last roots children own =
    let e : length (roots ++ children) - length children ≡ length roots = omega (arith, length-append roots children) in
    rw (e, drop-append_seam roots children, take-append_seam roots children, same_self children)

-- ---- the last roots, one after another

module _ (roots children : List ℕ) (top n : ℕ) where
  pub last-starts : same (drop (top - n + 0) (take top roots)) (take n children) ≡ same (drop (top - n) (take top roots)) (take n children)
  last-starts =
      let e : top - n + 0 ≡ top - n = omega arith in
      rw e

  module _ (there : top ≤ length roots) (few : n ≤ 16) (wide : length children ≡ 16) where
    long : length (take top roots) ≡ top
    long = length-take-le top roots there

    these : length (take n children) ≡ n
    these = length-take-le n children (omega arith)

    pub last-too-few : top < n → same (drop (top - n) (take top roots)) (take n children) ≡ false
    last-too-few h = same-short (drop (top - n) (take top roots)) (take n children) (omega (arith, length-drop (top - n) (take top roots), long, these))

    module _ (j : ℕ) (enough : n ≤ top) (inv : same (drop (top - n + j) (take top roots)) (drop j (take n children)) ≡ same (drop (top - n) (take top roots)) (take n children)) where
      pub last-not : j < n → (get_or roots (top - n + j) 0 ≡ get_or children j 0 → ⊥) → same (drop (top - n) (take top roots)) (take n children) ≡ false
      last-not h differ =
          sym inv
          ∙ same_not (take top roots) (take n children) (top - n + j) j (omega (arith, long)) (omega (arith, these))
          (λ e. differ (sym (get_or-take top roots (top - n + j) 0 (omega arith)) ∙ e ∙ get_or-take n children j 0 h))

      pub last-next : j < n → get_or roots (top - n + j) 0 ≡ get_or children j 0
          → same (drop (top - n + (j + 1)) (take top roots)) (drop (j + 1) (take n children)) ≡ same (drop (top - n) (take top roots)) (take n children)
      last-next h e =
          let step : top - n + (j + 1) ≡ top - n + j + 1 = omega arith in
          rw step (same_next (take top roots) (take n children) (top - n + j) j (omega (arith, long)) (omega (arith, these))
          (get_or-take top roots (top - n + j) 0 (omega arith) ∙ e ∙ sym (get_or-take n children j 0 h)) ∙ inv)

      pub last-ends : n ≤ j → same (drop (top - n) (take top roots)) (take n children) ≡ true
      last-ends h = sym inv ∙ same-done (take top roots) (take n children) (top - n + j) j (omega (arith, long)) (omega (arith, these))

-- the comparison of two slices is that of their numbers
pub same-pointwise : (xs ys : List ℕ) → pointwise eqb xs ys ≡ same xs ys
unfolding same
same-pointwise [] [] = refl
same-pointwise [] (y ∷ ys) = refl
same-pointwise (x ∷ xs) [] = refl
same-pointwise (x ∷ xs) (y ∷ ys) = ap (λ (t : Bool). eqb x y && t) (same-pointwise xs ys)

-- ---- the kinds of keys of 32 bits

pub short-keys : (kind : ℕ) → 34 ≤ kind → kind ≤ 35 → true ≡ is_short kind
short-keys kind l h = simp (le-leb 34 kind l, le-leb kind 35 h)

pub short-lists : (kind : ℕ) → 57 ≤ kind → kind ≤ 58 → true ≡ is_short kind
short-lists kind l h = simp (le-leb 34 kind (omega arith), lt-leb kind 35 (omega arith), le-leb 57 kind l, le-leb kind 58 h)

pub not-short-below : (kind : ℕ) → kind < 34 → false ≡ is_short kind
not-short-below kind h = simp (lt-leb 34 kind h, lt-leb 57 kind (omega arith))

pub not-short-between : (kind : ℕ) → 35 < kind → kind < 57 → false ≡ is_short kind
not-short-between kind l h = simp (le-leb 34 kind (omega arith), lt-leb kind 35 l, lt-leb 57 kind h)

pub not-short-above : (kind : ℕ) → 58 < kind → false ≡ is_short kind
not-short-above kind h =
    simp (le-leb 34 kind (omega arith), lt-leb kind 35 (omega arith), le-leb 57 kind (omega arith), lt-leb kind 58 h)
