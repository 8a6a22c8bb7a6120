-- The slots that reading a node's records leaves, and the children taken from them. Assumes nothing.
use mathlib.Core.Path.{◌≡◌, refl, sym, ap, ◌∙◌}
use mathlib.Core.List.{List, [], ◌∷◌, ◌++◌, append_assoc}
use Rattle.std.specs.Prelude.{Option, None, Some}
use Prim.Native.Nat.{ℕ, suc, ◌+◌, ◌≤◌}
use native.Mathlib.Omega.{arith}
use lib.ListN.{length, get_or, set, replicate, length-append, length-replicate, replicate-append-replicate}
use lib.Seq.{get_or_at, set_at}
use Rattle.trees.specs.Reading.{Slots, take_all}
use Rattle.writing.specs.Writing.{Node, node, Nodes, nil, ◌▸◌, count, counts, own, owns}
use Rattle.writing.specs.WellFormed.{AllBelow}

module _ {A : Type 0} where
  -- what was made of a node stands in its own slot, the last; those below it are taken
  abbrev pub trace : Node → A → Slots A
  trace (node kind front children) x = replicate (counts children) None ++ (Some x ∷ [])

  unfoldable pub traces : Nodes → List A → Slots A
  traces nil xs = []
  traces (t ▸ ts) [] = []
  traces (t ▸ ts) (x ∷ xs) = trace t x ++ traces ts xs

  pub length-trace : (t : Node) (x : A) → length (trace t x) ≡ count t
  unfolding count
  length-trace (node kind front children) x =
      length-append (replicate (counts children) None) (Some x ∷ [])
      ∙ rw (length-replicate {A = Option A} (counts children) None)

  -- where a node's own slot stands
  module _ (slots after : Slots A) (n : ℕ) (e : length slots ≡ n) where
    before : (children : Nodes) → length (slots ++ replicate (counts children) None) ≡ n + counts children
    before children =
        omega (arith, length-append slots (replicate (counts children) None), length-replicate {A = Option A} (counts children) None)

    own-slot : (t : Node) (x : A) → get_or (slots ++ (trace t x ++ after)) (own n t) None ≡ Some x
    own-slot (node kind front children) x =
        let taken = replicate {A = Option A} (counts children) None in
        let same : slots ++ (taken ++ (Some x ∷ []) ++ after) ≡ (slots ++ taken) ++ (Some x ∷ after) = simp append_assoc in
        rw same (get_or_at (slots ++ taken) (Some x) after None (n + counts children) (before children))

    own-taken : (t : Node) (x : A) → set (slots ++ (trace t x ++ after)) (own n t) None ≡ (slots ++ replicate (count t) None) ++ after
    unfolding count
    own-taken (node kind front children) x =
        let taken = replicate {A = Option A} (counts children) None in
        let same : slots ++ (taken ++ (Some x ∷ []) ++ after) ≡ (slots ++ taken) ++ (Some x ∷ after) = simp append_assoc in
        let more : replicate (counts children + 1) None ≡ taken ++ (None ∷ []) = sym (replicate-append-replicate (counts children) 1 None) in
        let after-all : (slots ++ replicate (counts children + 1) None) ++ after ≡ (slots ++ taken) ++ (None ∷ after) =
        rw more (simp append_assoc) in
        rw (same, after-all) (set_at (slots ++ taken) (Some x) after None (n + counts children) (before children))

-- nodes and what they are made into, one by one
pub data Each {A : Type 0} (R : Node → A → Type 0) : Nodes → List A → Type 0 where
  no_more : Each R nil []
  and_then : {t : Node} {x : A} {ts : Nodes} {xs : List A} → R t x → Each R ts xs → Each R (t ▸ ts) (x ∷ xs)

pub length-owns : {A : Type 0} {R : Node → A → Type 0} {ts : Nodes} {xs : List A} → Each R ts xs → (n : ℕ) → length (owns n ts) ≡ length xs
unfolding owns
length-owns no_more n = refl
length-owns (and_then {t} r rs) n = ap suc (length-owns rs (n + count t))

-- a node's own record stands before the end of its records
pub owns-below : (ts : Nodes) (n : ℕ) {bound : ℕ} → n + counts ts ≤ bound → AllBelow bound (owns n ts)
unfolding owns counts AllBelow
owns-below nil n fits = tt
owns-below (node kind front children ▸ ts) n fits = (omega arith, owns-below ts (n + (counts children + 1)) (omega arith))

-- the numbers of some nodes take them, and nothing else, from the slots
pub take-nodes : {A : Type 0} {R : Node → A → Type 0} {ts : Nodes} {xs : List A} → Each R ts xs
    → (n : ℕ) (slots : Slots A) → length slots ≡ n
    → take_all (owns n ts) (slots ++ traces ts xs) ≡ Some (record { those = xs; left = slots ++ replicate (counts ts) None })
unfolding take_all owns traces counts
take-nodes no_more n slots e = refl
take-nodes {A} (and_then {t} {x} {ts} {xs} r rs) n slots e =
    let taken = replicate {A = Option A} (count t) None in
    let len : length (slots ++ taken) ≡ n + count t = omega (arith, length-append slots taken, length-replicate {A = Option A} (count t) None) in
    let all : (slots ++ taken) ++ replicate (counts ts) None ≡ slots ++ replicate (count t + counts ts) None =
    append_assoc slots taken (replicate (counts ts) None) ∙ rw (replicate-append-replicate {A = Option A} (count t) (counts ts) None) in
    rw (own-slot slots (traces ts xs) n e t x, own-taken slots (traces ts xs) n e t x, take-nodes rs (n + count t) (slots ++ taken) len, all)
