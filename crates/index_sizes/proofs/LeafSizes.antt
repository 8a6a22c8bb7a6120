-- The sizes of pushes and of leaves, by kind. Assumes nothing.
use Prim.Native.Nat.{ℕ, ◌+◌, ◌*◌, ◌≤◌}
use mathlib.Core.Bool.{Bool, true, false}
use mathlib.Core.List.{List, ◌∷◌}
use mathlib.Core.Path.{◌≡◌, refl, sym, ◌∙◌}
use native.Mathlib.Omega.{arith}
use borrow.Author.Tests.{ne_eqb, eqb-true, eqb-false}
use lib.Dec.{eqb}
use lib.ListN.{length}
use Rattle.words.specs.Bytes as Little
use Rattle.words.proofs.Bytes.{length-bytes}
use Rattle.records.specs.Payloads.{number_in, k_in, count_in, keys_in}
use Rattle.records.specs.RecordForm.{kind_of}
use Rattle.records.proofs.Laws.{length-keys}
use Rattle.contexts.specs.declared.Context.{Context}
use Rattle.trees.specs.Tree.{find}
use Rattle.script_bytes.specs.Layout.{number_bytes}
use Rattle.script_bytes.proofs.Pushes.{number-0, number_small}
use Rattle.script_leaves.specs.Leaves.{numbered, leaf_of}
use Rattle.index_places.specs.Sizes.{number_size, key_push, size_of}

-- ---- the push of a number

pub short-number : (n : ℕ) → n ≤ 16 → 1 ≡ number_size n
short-number n h = by-test (eqb n 0) refl
  where
    by-test : (b : Bool) → eqb n 0 ≡ b → 1 ≡ number_size n
    by-test true b =
        let z = eqb-true n 0 b in
        rw (z, number-0)
    by-test false b = rw (number_small n (omega (arith, eqb-false n 0 b)) h)

pub wide-number : (n w : ℕ) → number_bytes n ≡ w ∷ Little.bytes_of w n → 1 + w ≡ number_size n
wide-number n w e = rw e (omega (arith, length-bytes w n))

-- ---- a leaf

module _ (c : Context) (v : Bool) (bytes : List ℕ) {kind k count : ℕ} (e : kind ≡ kind_of bytes) (f : k ≡ k_in bytes) (g : count ≡ count_in bytes) where
  keys-long : length (keys_in bytes) ≡ count
  keys-long = length-keys bytes (count_in bytes) ∙ sym g

  pub size-multi : kind ≡ 57 → {a b d : ℕ} → a ≡ number_size k → b ≡ key_push c → d ≡ number_size count
      → a + b * count + (d + 1) ≡ size_of c v (leaf_of bytes)
  unfolding leaf_of find size_of
  size-multi i x y z =
      let is : kind_of bytes ≡ 57 = sym e ∙ i in
      rw (is, keys-long, ← f, x, y, z)

  pub size-multi-a : kind ≡ 58 → {a b : ℕ} → a ≡ number_size k → b ≡ key_push c → (b + 1) * count + (a + 1) ≡ size_of c v (leaf_of bytes)
  unfolding leaf_of find size_of
  size-multi-a i x y =
      let is : kind_of bytes ≡ 58 = sym e ∙ i in
      rw (is, keys-long, ← f, x, y)

  pub size-numbered : (kind ≡ 57 → ⊥) → (kind ≡ 58 → ⊥) → {n s : ℕ} → n ≡ number_in bytes → s ≡ size_of c v (numbered kind n) → s ≡ size_of c v (leaf_of bytes)
  unfolding leaf_of find
  size-numbered i j {n} {s} o p =
      let leaf : leaf_of bytes ≡ numbered (kind_of bytes) (number_in bytes) = rw (← e, ne_eqb kind 57 i, ne_eqb kind 58 j) in
      p ∙ rw (leaf, e, o)
