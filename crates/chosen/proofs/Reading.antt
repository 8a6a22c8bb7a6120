-- What one record of a memory leaves: its children taken from the roots, and the bytes that it is read from. Assumes nothing.
use mathlib.Core.Bool.{Bool, true, false}
use mathlib.Core.List.{List, [], ◌∷◌, ◌++◌}
use mathlib.Core.Logic.{◌⊎◌, inl, inr}
use Rattle.std.specs.Prelude.{Option, None, Some}
use mathlib.Core.Path.{◌≡◌, refl, sym, ap, subst, ◌∙◌}
use Prim.Native.Nat.{ℕ, zero, suc, ◌+◌, ◌*◌, ◌-◌, ◌/◌, ◌%◌, ◌<◌, ◌≤◌, min}
use native.Mathlib.Numerals.{add-one}
use native.Mathlib.Omega.{arith}
use borrow.Author.Tests.{leb-true, leb-false}
use lib.Dec.{leb}
use lib.ListN.{length, set, take, drop, length-drop, length-set}
use lib.Seq.{length-take-le, take-suc-set, drop-drop}
use Rattle.memory.specs.Layout.{work_words}
use Rattle.records.specs.Payloads.{written_kind, children_of}
use Rattle.records.specs.RecordForm.{record_length}
use Rattle.records.specs.declared.Parts.{Parts}
use Rattle.records.proofs.Arities.{Found, own-children, few-children, same-children}
use Rattle.records.proofs.Laws.{length-padded}
use Rattle.trees.specs.Reading.{max_records}
use Rattle.chosen.specs.Form.{tree_bytes, bytes_in, room_in}
use Rattle.chosen.specs.Chosen.{if_so, is_short, same, taking, with_record, in_order, all_zero}
use Rattle.chosen.specs.Answers.{Leaves, leaves, broken, Reads, reads, stops}
use Rattle.chosen.specs.declared.Next.{Next}
use Rattle.chosen.proofs.Words.{room_whole, drop-in}
use Rattle.chosen.proofs.Steps.{with-fit, same-short, order-stops}
use Rattle.chosen.proofs.Records.{take-take, take_part, front-whole, front-few, front-broken}

-- ---- the children of a record are the last roots

module _ {s : List ℕ} {parts : Parts} {kind n : ℕ} (roots : List ℕ) (top own : ℕ) (x : Found s parts kind n) (short : is_short (written_kind s) ≡ false)
    (there : top ≤ length roots) where
  long : length (take top roots) ≡ top
  long = length-take-le top roots there

  abbrev last : Bool
  last = same (drop (top - n) (take top roots)) (take n parts.children)

  with-last : with_record (take top roots) own s ≡ if_so last (take (top - n) (take top roots) ++ (own ∷ []))
  unfolding taking
  with-last =
      let count : length (children_of x.payload) ≡ n = sym (own-children x) in
      with-fit (take top roots) own s short x.fits ∙ rw (long, count, same-children x)

  pub record-taken : last ≡ true → top - n < length roots → with_record (take top roots) own s ≡ Some (take (top - n + 1) (set roots (top - n) own))
  record-taken e h =
      with-last ∙ ap (λ (t : Bool). if_so t (take (top - n) (take top roots) ++ (own ∷ []))) e
      ∙ ap Some (ap (λ (l : List ℕ). l ++ (own ∷ [])) (take-take (top - n) top roots (omega arith))
      ∙ sym (take-suc-set roots (top - n) own h)
      ∙ ap (λ (k : ℕ). take k (set roots (top - n) own)) (sym (add-one (top - n))))

  pub record-left : last ≡ true → top - n < length roots → top ≤ own → length roots ≡ max_records
      → Leaves (with_record (take top roots) own s) own (set roots (top - n) own) (Some (top - n + 1))
  record-left e h few all = leaves {top = top - n + 1} (record-taken e h) (omega arith) (length-set roots (top - n) own ∙ all)

  pub record-untaken : last ≡ false → with_record (take top roots) own s ≡ None
  record-untaken e = with-last ∙ ap (λ (t : Bool). if_so t (take (top - n) (take top roots) ++ (own ∷ []))) e

-- there are as many roots as children
pub roots-enough : (roots children : List ℕ) (top n : ℕ) → top ≤ length roots → n ≤ 16 → length children ≡ 16
    → same (drop (top - n) (take top roots)) (take n children) ≡ true → n ≤ top
roots-enough roots children top n there few wide e = by_order (leb n top) refl
  where
    by_order : (t : Bool) → leb n top ≡ t → n ≤ top
    by_order true b = leb-true n top b
    by_order false b =
        let l = leb-false n top b in
        let long = length-take-le top roots there in
        let some-are = length-take-le n children (omega arith) in
        let f = same-short (drop (top - n) (take top roots)) (take n children) (omega (arith, length-drop (top - n) (take top roots))) in
        absurd (let z : ◌≡◌ {A = Bool} true false = sym e ∙ f in let y : ◌≡◌ {A = ℕ} 0 1 = cc in omega arith)

-- the places for children are sixteen
pub children-wide : {s : List ℕ} {parts : Parts} {kind n : ℕ} → Found s parts kind n → length parts.children ≡ 16
children-wide x =
    ap (λ (y : Parts). length y.children) x.parts_are
    ∙ length-padded (children_of x.payload) (omega (arith, own-children x, few-children x))

pub left-told : {o : Option (List ℕ)} {own top : ℕ} {roots : List ℕ} {r : Option ℕ} → Leaves o own roots r → r ≡ Some top
    → (o ≡ Some (take top roots)) × (top ≤ own + 1) × (length roots ≡ max_records)
left-told {o} {own} {top} {roots} (leaves {top = t} is few l) e =
    let same-top : t ≡ top = cc in
    subst (λ (t : ℕ). (o ≡ Some (take t roots)) × (t ≤ own + 1) × (length roots ≡ max_records)) same-top (is, few, l)
left-told (broken is l) e = absurd (let z : ◌≡◌ {A = ℕ} 0 1 = cc in omega arith)

pub broken-told : {o : Option (List ℕ)} {own : ℕ} {roots : List ℕ} {r : Option ℕ} → Leaves o own roots r → r ≡ None
    → (o ≡ None) × (length roots ≡ max_records)
broken-told (leaves is few l) e = absurd (let z : ◌≡◌ {A = ℕ} 0 1 = cc in omega arith)
broken-told (broken is l) e = (is, l)

pub roots-long : {o : Option (List ℕ)} {own : ℕ} {roots : List ℕ} {r : Option ℕ} → Leaves o own roots r → length roots ≡ max_records
roots-long (leaves is few l) = l
roots-long (broken is l) = l

-- ---- the bytes of a record

abbrev pub Smaller : (k a b : ℕ) → Type 0
Smaller k a b = (k ≤ a) × ((k ≤ b) × ((b ≤ a → k ≡ b) × (a ≤ b → k ≡ a)))

pub smaller-is : {k : ℕ} (a b : ℕ) → k ≡ min a b → Smaller k a b
smaller-is a b e = (omega arith, (omega arith, ((λ h. omega arith), (λ h. omega arith))))

module _ (m bytes : List ℕ) (at n k : ℕ) (whole : length m ≡ work_words) (inside : at < n) (fits : n ≤ tree_bytes) (small : Smaller k (n - at) 136)
    (copied : take k bytes ≡ take k (drop at (room_in m))) where
  abbrev pub rest : List ℕ
  rest = drop at (take n (room_in m))

  rest-long : length rest ≡ n - at
  rest-long = length-drop at (take n (room_in m)) ∙ ap (λ (l : ℕ). l - at) (length-take-le n (room_in m) (omega (arith, room_whole m whole)))

  front : take k bytes ≡ take k rest
  front = copied ∙ sym (take_part at n k (room_in m) (omega (arith, small.0)))

  some_left : 0 < length rest
  some_left = omega (arith, rest-long)

  all-or-most : (t : Bool) → leb (n - at) 136 ≡ t → ((length rest ≤ k → ⊥) × (k ≡ 136)) ⊎ (length rest ≤ k)
  all-or-most true b = inr (omega (arith, rest-long, small.1.1.1 (leb-true (n - at) 136 b)))
  all-or-most false b =
      let l = leb-false (n - at) 136 b in
      inl ((λ h. omega (arith, rest-long, small.1.0)), small.1.1.0 (omega arith))

  pub none-begins : record_length (take k bytes) ≡ None → (own : ℕ) (roots : List ℕ) (more : ℕ) → in_order more own roots rest ≡ false
  none-begins e own roots =
      front-broken k rest own roots some_left (subst (λ (l : List ℕ). record_length l ≡ None) front e) (all-or-most (leb (n - at) 136) refl)

  module _ {len : ℕ} (e : record_length (take k bytes) ≡ Some len) where
    begins : record_length (take k rest) ≡ Some len
    begins = subst (λ (l : List ℕ). record_length l ≡ Some len) front e

    pub one-begins : record_length rest ≡ Some len
    one-begins = front-whole k rest begins

    pub within : len ≤ k
    within = front-few k rest begins

    its-bytes : take len bytes ≡ take len rest
    its-bytes =
        sym (take-take len k bytes within) ∙ ap (take len) front ∙ take-take len k rest within

    module _ (roots₀ : List ℕ) {roots : List ℕ} {own : ℕ} {r : Option ℕ} (left : Leaves (with_record roots₀ own (take len bytes)) own roots r) where
      here : {o : Option (List ℕ)} → with_record roots₀ own (take len bytes) ≡ o → with_record roots₀ own (take len rest) ≡ o
      here p = ap (with_record roots₀ own) (sym its-bytes) ∙ p

      pub record-stops : r ≡ None → Reads rest own roots₀ roots None
      record-stops t =
          let told = broken-told left t in
          stops (λ more. order-stops more own roots₀ rest some_left one-begins (here told.0)) told.1

      pub record-reads : {top : ℕ} → r ≡ Some top → Reads rest own roots₀ roots (Some (record { len = len; top = top }))
      record-reads t =
          let told = left-told left t in
          reads one-begins (here told.0) told.1 told.2

-- ---- a record that was read

pub next-told : {s before roots : List ℕ} {own : ℕ} {next : Next} {r : Option Next} → Reads s own before roots r → r ≡ Some next
    → (record_length s ≡ Some next.len) × (with_record before own (take next.len s) ≡ Some (take next.top roots)) × (next.top ≤ own + 1)
    × (length roots ≡ max_records)
next-told {s} {before} {roots} {own} {next} (reads {next = y} w x f g) e =
    let same-next : y ≡ next = cc in
    subst (λ (y : Next). (record_length s ≡ Some y.len) × (with_record before own (take y.len s) ≡ Some (take y.top roots)) × (y.top ≤ own + 1) × (length roots ≡ max_records))
    same-next (w, x, f, g)
next-told (stops f g) e = absurd (let z : ◌≡◌ {A = ℕ} 0 1 = cc in omega arith)

pub stop-told : {s before roots : List ℕ} {own : ℕ} {r : Option Next} → Reads s own before roots r → r ≡ None
    → (more : ℕ) → in_order more own before s ≡ false
stop-told (reads w x f g) e = absurd (let z : ◌≡◌ {A = ℕ} 0 1 = cc in omega arith)
stop-told (stops f g) e = f

-- ---- the words behind a byte that begins one

pub words-behind : (m : List ℕ) (i : ℕ) → i % 8 ≡ 0 → all_zero (bytes_in (drop (1 + i / 8) m)) ≡ all_zero (drop i (room_in m))
unfolding room_in
words-behind m i e =
    let q : 8 * (i / 8) ≡ i = omega arith in
    ap (λ (l : List ℕ). all_zero (bytes_in l)) (sym (drop-drop (i / 8) 1 m))
    ∙ ap all_zero (sym (drop-in (i / 8) (drop 1 m)))
    ∙ ap (λ (k : ℕ). all_zero (drop k (bytes_in (drop 1 m)))) q
