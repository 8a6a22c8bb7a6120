-- What is stored in work memory is read back, and other words stay. Assumes nothing.
use Prim.Native.Nat.{ℕ, ◌+◌, ◌*◌, ◌/◌, ◌%◌, ◌≤◌, ◌<◌}
use mathlib.Core.Bool.{Bool, true, false}
use mathlib.Core.List.{List, [], ◌∷◌}
use Rattle.std.specs.Prelude.{None, Option, Some}
use mathlib.Core.Path.{◌≡◌, sym, ap, ◌∙◌}
use native.Mathlib.Nat.{mod-lt, mod-eq_of_lt}
use native.Mathlib.Omega.{arith}
use lib.ListN.{length, get_or, set}
use lib.Seq.{get_or-set_same, get_or-set_other}
use Rattle.words.proofs.Packing.{digit, rest}
use Rattle.trees.specs.declared.Subtree.{Subtree}
use Rattle.trees.specs.Reading.{Slots}
use Rattle.types.specs.declared.«Type».{«Type»}
use Rattle.types.specs.TypeRules as rule
use Rattle.trees.specs.WorkMemory.{slot_of}
use Rattle.trees.proofs.InMemory.{slot_added, free-slot, taken-slot}
use Rattle.index_memory.specs.Memory.{size_digit, size_in, first_in, or_none, subtree_in, tree_word}

-- ---- words

pub alone-back : (a b : ℕ) → a < 4294967296 → size_digit false (a + b * 4294967296) ≡ a
alone-back a b h = digit 4294967296 a b h

pub before_back : (a b : ℕ) → a < 4294967296 → b < 4294967296 → size_digit true (a + b * 4294967296) ≡ b
before_back a b h l = ap (λ (n : ℕ). n % 4294967296) (rest 4294967296 a b h) ∙ mod-eq_of_lt l

pub few_bytes : (v : Bool) (w : ℕ) → size_digit v w ≤ 4294967295
few_bytes true w =
    let less = mod-lt (w / 4294967296) {m = 4294967296} (omega arith) in
    omega (arith, less)
few_bytes false w =
    let less = mod-lt w {m = 4294967296} (omega arith) in
    omega (arith, less)

pub slot-back : (x : Subtree) → or_none (slot_of (tree_word x)) ≡ x
slot-back x = ap (λ (s : Slots Subtree). or_none (get_or s 0 None)) (slot_added (0 ∷ []) 0 x (omega arith))

-- what a slot answers

pub free-is : (w : ℕ) {s : Option Subtree} {x : Subtree} → s ≡ slot_of w → s ≡ Some x → x ≡ or_none (slot_of w)
free-is w e f = sym (ap or_none (free-slot (slot_of w) e f))

pub taken_is : (w : ℕ) {s : Option Subtree} {t : «Type»} → s ≡ slot_of w → s ≡ None → t ≡ rule.FALSE
    → ◌≡◌ {A = Subtree} (record { ty = t; height = 0 }) (or_none (slot_of w))
taken_is w e f g = ap (λ (t : «Type»). record { ty = t; height = 0 }) g ∙ sym (ap or_none (taken-slot (slot_of w) e f))

-- ---- memory

module _ (work : List ℕ) (a w : ℕ) where
  pub size_same : (v : Bool) (i : ℕ) → a ≡ 4096 + i → a < length work → size_in (set work a w) v i ≡ size_digit v w
  unfolding size_in
  size_same v i e h = ap (size_digit v) (ap (λ (b : ℕ). get_or (set work a w) b 0) (sym e) ∙ get_or-set_same work a w 0 h)

  pub size-other : (v : Bool) (i : ℕ) → (4096 + i ≡ a → ⊥) → size_in (set work a w) v i ≡ size_in work v i
  unfolding size_in
  size-other v i h = ap (size_digit v) (get_or-set_other work a (4096 + i) w 0 h)

  pub first-same : (i : ℕ) → a ≡ 8192 + i → a < length work → first_in (set work a w) i ≡ w
  unfolding first_in
  first-same i e h = ap (λ (b : ℕ). get_or (set work a w) b 0) (sym e) ∙ get_or-set_same work a w 0 h

  pub first-other : (i : ℕ) → (8192 + i ≡ a → ⊥) → first_in (set work a w) i ≡ first_in work i
  unfolding first_in
  first-other i h = get_or-set_other work a (8192 + i) w 0 h

  pub subtree-same : (i : ℕ) → a ≡ 12288 + i → a < length work → subtree_in (set work a w) i ≡ or_none (slot_of w)
  unfolding subtree_in
  subtree-same i e h = ap (λ (w : ℕ). or_none (slot_of w)) (ap (λ (b : ℕ). get_or (set work a w) b 0) (sym e) ∙ get_or-set_same work a w 0 h)

  pub subtree-other : (i : ℕ) → (12288 + i ≡ a → ⊥) → subtree_in (set work a w) i ≡ subtree_in work i
  unfolding subtree_in
  subtree-other i h = ap (λ (w : ℕ). or_none (slot_of w)) (get_or-set_other work a (12288 + i) w 0 h)

-- memories that agree in a word
module _ (work work' : List ℕ) where
  pub size-kept : (v : Bool) (i : ℕ) → get_or work' (4096 + i) 0 ≡ get_or work (4096 + i) 0 → size_in work' v i ≡ size_in work v i
  unfolding size_in
  size-kept v i e = ap (size_digit v) e

  pub first-kept : (i : ℕ) → get_or work' (8192 + i) 0 ≡ get_or work (8192 + i) 0 → first_in work' i ≡ first_in work i
  unfolding first_in
  first-kept i e = e

  pub subtree-kept : (i : ℕ) → get_or work' (12288 + i) 0 ≡ get_or work (12288 + i) 0 → subtree_in work' i ≡ subtree_in work i
  unfolding subtree_in
  subtree-kept i e = ap (λ (w : ℕ). or_none (slot_of w)) e
