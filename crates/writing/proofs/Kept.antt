-- What holds of every fragment in the slots, and of whatever a record makes of such fragments, holds of the tree that is read.
-- Assumes nothing.
use mathlib.Core.Path.{◌≡◌, refl, ap}
use mathlib.Core.List.{List, [], ◌∷◌, ◌++◌}
use Rattle.std.specs.Prelude.{Option, None, Some}
use Prim.Native.Nat.{ℕ, zero, suc}
use native.Mathlib.Omega.{arith}
use lib.ListN.{length, get_or, set, take, drop}
use Rattle.records.specs.Payloads.{Payload, children_of}
use Rattle.records.specs.RecordForm.{record_length, kind_of, fragment_payload}
use Rattle.trees.specs.Reading.{Answer, done, refused, ◌>>=◌, or_refuse, bad_tree, Slots, Taken, and_first, take_all, root_of}
use Rattle.trees.specs.Reading.{add_made, add_payload, add_record, read_from}
use Rattle.writing.specs.WellFormed.{AllBelow}

-- ---- answers

pub no-some : {A : Type 0} {x : A} → None ≡ Some x → ⊥
no-some e = let z : ◌≡◌ {A = ℕ} 0 1 = cc in omega arith

pub not_done : {A : Type 0} {n : ℕ} {x : A} → refused n ≡ done x → ⊥
not_done e = let z : ◌≡◌ {A = ℕ} 0 1 = cc in omega arith

pub given-some : {A : Type 0} (o : Option A) {a : A} → or_refuse bad_tree o ≡ done a → o ≡ Some a
given-some (Some b) e = cc
given-some None e = cc

-- a step that is done was done on something
then-done : {A B : Type 0} (r : Answer A) (next : A → Answer B) {b : B} → (r >>= next) ≡ done b → (a : A) × (r ≡ done a) × (next a ≡ done b)
then-done (done a) next e = (a, refl, e)
then-done (refused n) next e = absurd (not_done e)

-- ---- a record that is read

module _ {A : Type 0} (make : ℕ → Payload → List A → Answer A) where
  -- what it took to add a record
  pub record Added (slots : Slots A) (s : List ℕ) (slots' : Slots A) : Type 0 where
    pub payload : Payload
    pub taken : Taken A
    pub made : A
    pub is-payload : fragment_payload s ≡ Some payload
    pub is-taken : take_all (children_of payload) slots ≡ Some taken
    pub is_made : make (kind_of s) payload taken.those ≡ done made
    pub is-added : slots' ≡ taken.left ++ (Some made ∷ [])

  added : (slots : Slots A) (s : List ℕ) {slots' : Slots A} → add_record make slots s ≡ done slots' → Added slots s slots'
  unfolding add_record
  added slots s {slots'} e =
      let read = then-done (or_refuse bad_tree (fragment_payload s)) (add_payload make slots (kind_of s)) e in
      let payload = read.0 in
      let got = then-done (or_refuse bad_tree (take_all (children_of payload) slots)) (add_made make (kind_of s) payload) read.2 in
      let taken = got.0 in
      let built = then-done (make (kind_of s) payload taken.those) (λ x. done (taken.left ++ (Some x ∷ []))) got.2 in
      record {
        payload = payload;
        taken = taken;
        made = built.0;
        is-payload = given-some (fragment_payload s) read.1;
        is-taken = given-some (take_all (children_of payload) slots) got.1;
        is_made = built.1;
        is-added = cc built.2;
      }

  -- one record was added, and the others read
  pub record Stepped (left : ℕ) (slots : Slots A) (s : List ℕ) (x : A) : Type 0 where
    pub len : ℕ
    pub next : Slots A
    pub adds : Added slots (take len s) next
    pub then-read : read_from make left next (drop len s) ≡ done x

  pub stepped : (left : ℕ) (slots : Slots A) (b : ℕ) (bs : List ℕ) {x : A} → read_from make (suc left) slots (b ∷ bs) ≡ done x
      → Stepped left slots (b ∷ bs) x
  unfolding read_from
  stepped left slots b bs e =
      let s = b ∷ bs in
      let whole = then-done (or_refuse bad_tree (record_length s))
      (λ len. add_record make slots (take len s) >>= λ slots'. read_from make left slots' (drop len s)) e in
      let len = whole.0 in
      let one = then-done (add_record make slots (take len s)) (λ slots'. read_from make left slots' (drop len s)) whole.2 in
      record { len = len; next = one.0; adds = added slots (take len s) one.1; then-read = one.2 }

-- ---- slots

module _ {A : Type 0} (P : A → Type 0) where
  abbrev Held : Option A → Type 0
  Held None = Unit
  Held (Some x) = P x

  unfoldable pub AllHeld : Slots A → Type 0
  AllHeld [] = Unit
  AllHeld (o ∷ slots) = Held o × AllHeld slots

  unfoldable pub All : List A → Type 0
  All [] = Unit
  All (x ∷ xs) = P x × All xs

  held_at : (slots : Slots A) (j : ℕ) → AllHeld slots → Held (get_or slots j None)
  unfolding AllHeld
  held_at [] j h = tt
  held_at (o ∷ slots) zero h = h.0
  held_at (o ∷ slots) (suc j) h = held_at slots j h.1

  held-without : (slots : Slots A) (j : ℕ) → AllHeld slots → AllHeld (set slots j None)
  unfolding AllHeld
  held-without [] j h = tt
  held-without (o ∷ slots) zero h = (tt, h.1)
  held-without (o ∷ slots) (suc j) h = (h.0, held-without slots j h.1)

  held_with : (slots : Slots A) (x : A) → AllHeld slots → P x → AllHeld (slots ++ (Some x ∷ []))
  unfolding AllHeld
  held_with [] x h p = (p, tt)
  held_with (o ∷ slots) x h p = (h.0, held_with slots x h.1 p)

  held-root : (slots : Slots A) {x : A} → AllHeld slots → root_of slots ≡ Some x → P x
  unfolding AllHeld root_of
  held-root [] h e = absurd (no-some e)
  held-root (Some y ∷ []) {x} h e = (let same : y ≡ x = cc in rw same at h.0)
  held-root (None ∷ []) h e = absurd (no-some e)
  held-root (None ∷ o ∷ slots) h e = held-root (o ∷ slots) h.1 e
  held-root (Some y ∷ o ∷ slots) h e = absurd (no-some e)

  -- what is taken, and what is left
  pub record Parted (js : List ℕ) (t : Taken A) : Type 0 where
    pub those-hold : All t.those
    pub left-holds : AllHeld t.left
    pub as_many : length t.those ≡ length js

  taken-held : (js : List ℕ) (slots : Slots A) {t : Taken A} → AllHeld slots → take_all js slots ≡ Some t → Parted js t
  unfolding take_all All
  taken-held [] slots {t} h e =
      let same : t ≡ record { those = []; left = slots } = cc in
      rw same (record { those-hold = tt; left-holds = h; as_many = refl })
  taken-held (j ∷ js) slots {t} h e =
      by_first (get_or slots j None) (take_all js (set slots j None)) (held_at slots j h)
      (λ u same. taken-held js (set slots j None) {t = u} (held-without slots j h) same) refl e
    where
      by_first : (o : Option A) (others : Option (Taken A)) → Held o
          → ((u : Taken A) → take_all js (set slots j None) ≡ Some u → Parted js u) → take_all js (set slots j None) ≡ others
          → and_first o others ≡ Some t → Parted (j ∷ js) t
      by_first (Some x) (Some u) p rests same e =
          let rest = rests u same in
          let is : t ≡ record { those = x ∷ u.those; left = u.left } = cc in
          rw is (record { those-hold = (p, rest.those-hold); left-holds = rest.left-holds; as_many = ap suc rest.as_many })
      by_first (Some x) None p rests same e = absurd (no-some e)
      by_first None others p rests same e = absurd (no-some e)

-- ---- reading

pub below-take : (bound n : ℕ) (s : List ℕ) → AllBelow bound s → AllBelow bound (take n s)
unfolding AllBelow
below-take bound zero s h = tt
below-take bound (suc n) [] h = tt
below-take bound (suc n) (b ∷ s) h = (h.0, below-take bound n s h.1)

pub below-drop : (bound n : ℕ) (s : List ℕ) → AllBelow bound s → AllBelow bound (drop n s)
unfolding AllBelow
below-drop bound zero s h = h
below-drop bound (suc n) [] h = tt
below-drop bound (suc n) (b ∷ s) h = below-drop bound n s h.1

module _ {A : Type 0} (make : ℕ → Payload → List A → Answer A) (P : A → Type 0) where
  -- a record makes what holds of children of which it holds
  abbrev pub Makes : Type 0
  Makes = (s : List ℕ) (payload : Payload) (xs : List A) (x : A) → AllBelow 256 s → fragment_payload s ≡ Some payload
      → length xs ≡ length (children_of payload) → make (kind_of s) payload xs ≡ done x → All P xs → P x

module _ {A : Type 0} (make : ℕ → Payload → List A → Answer A) (P : A → Type 0) (makes : Makes make P) where
  added-held : (slots : Slots A) (s : List ℕ) {slots' : Slots A} → AllBelow 256 s → AllHeld P slots → Added make slots s slots'
      → AllHeld P slots'
  added-held slots s bytes h a =
      let taken = a.taken in
      let parts = taken-held P (children_of a.payload) slots h a.is-taken in
      let holds = makes s a.payload taken.those a.made bytes a.is-payload parts.as_many a.is_made parts.those-hold in
      rw a.is-added (held_with P taken.left a.made parts.left-holds holds)

  pub read-holds : (left : ℕ) (slots : Slots A) (s : List ℕ) {x : A} → AllBelow 256 s → AllHeld P slots → read_from make left slots s ≡ done x → P x
  unfolding read_from
  read-holds zero slots [] bytes h e = held-root P slots h (given-some (root_of slots) e)
  read-holds zero slots (b ∷ bs) bytes h e = absurd (not_done e)
  read-holds (suc left) slots [] bytes h e = held-root P slots h (given-some (root_of slots) e)
  read-holds (suc left) slots (b ∷ bs) bytes h e =
      let s = b ∷ bs in
      let step = stepped make left slots b bs e in
      let len = step.len in
      read-holds left step.next (drop len s) (below-drop 256 len s bytes)
      (added-held slots (take len s) (below-take 256 len s bytes) h step.adds) step.then-read
