-- One record of a tree: what reading it gives in each case. Assumes nothing.
use Rattle.correctness.specs.declared.TypeError.{TypeError}
use Prim.Native.Nat.{ℕ, zero, suc, ◌<◌}
use mathlib.Core.List.{List, [], ◌∷◌, ◌++◌}
use Rattle.std.specs.Prelude.{None, Some, Result, Ok, Err}
use mathlib.Core.Path.{◌≡◌, refl}
use native.Mathlib.Omega.{arith}
use lib.ListN.{length, take, drop}
use Rattle.records.specs.Payloads.{Payload, k_of, children_of}
use Rattle.records.specs.RecordForm.{record_length, kind_of, fragment_payload}
use Rattle.types.specs.declared.«Type».{«Type»}
use Rattle.contexts.specs.declared.Context.{Context}
use Rattle.trees.specs.declared.Subtree.{Subtree}
use Rattle.trees.specs.Reading.{Answer, refused, done, ◌>>=◌, or_refuse, bad_tree, tree_too_large}
use Rattle.trees.specs.Reading.{Slots, Taken, take_all, root_of, add_record, read_from}
use Rattle.trees.specs.TreeCheck.{if_low}
use Rattle.trees.specs.Rules.{answered, rule_of, types_of, tallest, make_subtree}

-- ---- reading a record

module _ (c : Context) (slots : Slots Subtree) (s : List ℕ) where
  pub added-unfit : fragment_payload s ≡ None → add_record (make_subtree c) slots s ≡ refused bad_tree
  unfolding add_record
  added-unfit e = rw e

  pub added-untaken : (p : Payload) → fragment_payload s ≡ Some p → take_all (children_of p) slots ≡ None
      → add_record (make_subtree c) slots s ≡ refused bad_tree
  unfolding add_record
  added-untaken p e t = rw (e, t)

  -- a record of this type over these children has its own slot, unless it is too tall
  abbrev pub own_slot : «Type» → Taken Subtree → Answer (Slots Subtree)
  own_slot t x =
      if_low (suc (tallest x.those)) (record { ty = t; height = suc (tallest x.those) }) >>= λ y. done (x.left ++ (Some y ∷ []))

  pub added : (p : Payload) (x : Taken Subtree) (r : Result «Type» TypeError) → fragment_payload s ≡ Some p → take_all (children_of p) slots ≡ Some x
      → rule_of (kind_of s) c (k_of p) (types_of x.those) ≡ answered r → add_record (make_subtree c) slots s ≡ (answered r >>= λ t. own_slot t x)
  unfolding add_record
  added p x (Ok t) e t' f = rw (e, t', f)
  added p x (Err TypeError.IllTyped) e t' f = rw (e, t', f)

-- ---- reading records one after the other

module _ {A : Type 0} (make : ℕ → Payload → List A → Answer A) where
  pub read-end : (more : ℕ) (slots : Slots A) (bytes : List ℕ) → length bytes ≡ 0
      → read_from make more slots bytes ≡ or_refuse bad_tree (root_of slots)
  unfolding read_from
  read-end zero slots [] e = refl
  read-end (suc more) slots [] e = refl
  read-end more slots (b ∷ bs) e = absurd (omega arith)

  pub read-large : (slots : Slots A) (bytes : List ℕ) → 0 < length bytes → read_from make 0 slots bytes ≡ refused tree_too_large
  unfolding read_from
  read-large slots [] h = absurd (omega arith)
  read-large slots (b ∷ bs) h = refl

  pub read-broken : (more : ℕ) (slots : Slots A) (bytes : List ℕ) → 0 < length bytes → record_length bytes ≡ None
      → read_from make (suc more) slots bytes ≡ refused bad_tree
  unfolding read_from
  read-broken more slots [] h e = absurd (omega arith)
  read-broken more slots (b ∷ bs) h e = rw e

  pub read_next : (more : ℕ) (slots : Slots A) (bytes : List ℕ) (len : ℕ) {a : Answer (Slots A)} → 0 < length bytes
      → record_length bytes ≡ Some len → add_record make slots (take len bytes) ≡ a
      → read_from make (suc more) slots bytes ≡ (a >>= λ slots'. read_from make more slots' (drop len bytes))
  unfolding read_from
  read_next more slots [] len h e f = absurd (omega arith)
  read_next more slots (b ∷ bs) len h e f = rw (e, f)
