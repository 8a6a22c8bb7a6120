-- The fragment that a record of a leaf's kind makes is the one that is laid for it. Assumes nothing.
use Prim.Native.Nat.{ℕ, zero, suc, ◌+◌, ◌-◌, ◌<◌, ◌≤◌}
use mathlib.Core.Bool.{Bool, true, false}
use mathlib.Core.List.{List, [], ◌∷◌}
use mathlib.Core.Logic.{◌⊎◌, ⊎_elim}
use Rattle.std.specs.Prelude.{Some}
use mathlib.Core.Path.{◌≡◌, refl, sym, ◌∙◌, ap}
use native.Mathlib.Omega.{arith}
use borrow.Author.Tests.{leb-true, leb-false}
use lib.Dec.{leb}
use Rattle.contexts.specs.Leaves.{After, Older, Sha256, Hash256, Ripemd160, Hash160}
use Rattle.records.specs.Payloads.{Payload, number_of, k_of, keys_of, payload_of, number_in, k_in, keys_in}
use Rattle.records.specs.RecordForm.{kind_of, fragment_payload, payload_as}
use Rattle.records.specs.Shapes.{shape_of}
use Rattle.records.specs.declared.Shape.{Shape}
use Rattle.records.proofs.Laws.{fragment-record, is_number, is-lock, is-keys}
use Rattle.records.proofs.Forms.{and_left, and_right}
use Rattle.records.proofs.KindRanges.{shapes-in}
use Rattle.trees.specs.Fragment.{Fragment, False, True, PkK, PkH, Lock, Hash, Multi, MultiA}
use Rattle.trees.specs.Tree.{find, fragment_of, plain, with_number, of_keys}
use Rattle.script_machine.specs.Numbers.{Bytes}
use Rattle.script_leaves.specs.Leaves.{numbered, leaf_of}
use Rattle.script_leaves.proofs.Leaves.{is_true, is-pk-k, is-pk-h, is-after, is-older, is-sha256, is-hash256, is-ripemd160, is-hash160}
use Rattle.script_leaves.proofs.Leaves.{is-multi, is-multi-a, is-numbered}

-- ---- the makers of leaves

module _ (p : Payload) {f : Fragment} where
  made_plain : (g : Fragment) (xs : List Fragment) → plain g p xs ≡ Some f → g ≡ f
  made_plain g [] e = cc
  made_plain g (x ∷ xs) e = cc

  made-number : (g : ℕ → Fragment) (xs : List Fragment) → with_number g p xs ≡ Some f → g (number_of p) ≡ f
  made-number g [] e = cc
  made-number g (x ∷ xs) e = cc

  made-keys : (g : ℕ → List ℕ → Fragment) (xs : List Fragment) → of_keys g p xs ≡ Some f → g (k_of p) (keys_of p) ≡ f
  made-keys g [] e = cc
  made-keys g (x ∷ xs) e = cc

-- ---- the payload by the kind

module _ (bytes : Bytes) {p : Payload} (form : fragment_payload bytes ≡ Some p) where
  of-shape : (shape : Shape) → shape_of (kind_of bytes) ≡ Some shape → payload_of shape bytes ≡ Some p
  of-shape shape e = sym (ap (λ o. payload_as o bytes) e) ∙ (fragment-record bytes form).1

  one_number : 34 ≤ kind_of bytes → kind_of bytes ≤ 41 → number_of p ≡ number_in bytes
  one_number l h = by_tests (leb (kind_of bytes) 35) (leb (kind_of bytes) 37) refl refl
    where
      by_tests : (s t : Bool) → leb (kind_of bytes) 35 ≡ s → leb (kind_of bytes) 37 ≡ t → number_of p ≡ number_in bytes
      by_tests true t d e =
          ap number_of (is_number bytes (of-shape Shape.Number (shapes-in 34 35 refl (kind_of bytes) l (leb-true (kind_of bytes) 35 d))))
      by_tests false true d e =
          let above = leb-false (kind_of bytes) 35 d in
          ap number_of (is-lock bytes (of-shape Shape.Lock (shapes-in 36 37 refl (kind_of bytes) (omega arith) (leb-true (kind_of bytes) 37 e))))
      by_tests false false d e =
          let above = leb-false (kind_of bytes) 37 e in
          ap number_of (is_number bytes (of-shape Shape.Number (shapes-in 38 41 refl (kind_of bytes) (omega arith) h)))

  some-keys : 57 ≤ kind_of bytes → kind_of bytes ≤ 58 → (k_of p ≡ k_in bytes) × (keys_of p ≡ keys_in bytes)
  some-keys l h =
      let e = is-keys bytes (of-shape Shape.Keys (shapes-in 57 58 refl (kind_of bytes) l h)) in
      (ap k_of e, ap keys_of e)

  -- ---- a kind at a time

  module _ (xs : List Fragment) {f : Fragment} (made : fragment_of (kind_of bytes) p xs ≡ Some f) where
    made_at : (kind : ℕ) → kind_of bytes ≡ kind → fragment_of kind p xs ≡ Some f
    made_at kind e = sym (ap (λ (k : ℕ). fragment_of k p xs) e) ∙ made

    of_plain : (g : Fragment) → kind_of bytes < 57 → numbered (kind_of bytes) (number_in bytes) ≡ g → plain g p xs ≡ Some f → leaf_of bytes ≡ f
    of_plain g l s m = is-numbered bytes (λ e. omega arith) (λ e. omega arith) ∙ s ∙ made_plain p g xs m

    of_number : (g : ℕ → Fragment) → 34 ≤ kind_of bytes → kind_of bytes ≤ 41 → numbered (kind_of bytes) (number_in bytes) ≡ g (number_in bytes)
        → with_number g p xs ≡ Some f → leaf_of bytes ≡ f
    of_number g l h s m =
        is-numbered bytes (λ e. omega arith) (λ e. omega arith) ∙ s ∙ sym (ap g (one_number l h)) ∙ made-number p g xs m

    of-keys : (g : ℕ → List ℕ → Fragment) → 57 ≤ kind_of bytes → kind_of bytes ≤ 58 → leaf_of bytes ≡ g (k_in bytes) (keys_in bytes)
        → of_keys g p xs ≡ Some f → leaf_of bytes ≡ f
    of-keys g l h s m =
        let both = some-keys l h in
        s ∙ sym (ap (λ (k : ℕ). g k (keys_in bytes)) both.0) ∙ sym (ap (g (k_of p)) both.1) ∙ made-keys p g xs m

    numbered-kind : (n : ℕ) → kind_of bytes ≡ 32 + n → n < 10 → leaf_of bytes ≡ f
    unfolding numbered find
    numbered-kind zero e h = of_plain False (omega arith) (rw e) (made_at 32 e)
    numbered-kind (suc zero) e h = of_plain True (omega arith) (is_true (kind_of bytes) (number_in bytes) e) (made_at 33 e)
    numbered-kind (suc (suc zero)) e h =
        of_number PkK (omega arith) (omega arith) (is-pk-k (kind_of bytes) (number_in bytes) e) (made_at 34 e)
    numbered-kind (suc (suc (suc zero))) e h =
        of_number PkH (omega arith) (omega arith) (is-pk-h (kind_of bytes) (number_in bytes) e) (made_at 35 e)
    numbered-kind (suc (suc (suc (suc zero)))) e h =
        of_number (Lock After) (omega arith) (omega arith) (is-after (kind_of bytes) (number_in bytes) e) (made_at 36 e)
    numbered-kind (suc (suc (suc (suc (suc zero))))) e h =
        of_number (Lock Older) (omega arith) (omega arith) (is-older (kind_of bytes) (number_in bytes) e) (made_at 37 e)
    numbered-kind (suc (suc (suc (suc (suc (suc zero)))))) e h =
        of_number (Hash Sha256) (omega arith) (omega arith) (is-sha256 (kind_of bytes) (number_in bytes) e) (made_at 38 e)
    numbered-kind (suc (suc (suc (suc (suc (suc (suc zero))))))) e h =
        of_number (Hash Hash256) (omega arith) (omega arith) (is-hash256 (kind_of bytes) (number_in bytes) e) (made_at 39 e)
    numbered-kind (suc (suc (suc (suc (suc (suc (suc (suc zero)))))))) e h =
        of_number (Hash Ripemd160) (omega arith) (omega arith) (is-ripemd160 (kind_of bytes) (number_in bytes) e) (made_at 40 e)
    numbered-kind (suc (suc (suc (suc (suc (suc (suc (suc (suc zero))))))))) e h =
        of_number (Hash Hash160) (omega arith) (omega arith) (is-hash160 (kind_of bytes) (number_in bytes) e) (made_at 41 e)
    numbered-kind (suc (suc (suc (suc (suc (suc (suc (suc (suc (suc n)))))))))) e h = absurd (omega arith)

    keys-kind : (n : ℕ) → kind_of bytes ≡ 57 + n → n < 2 → leaf_of bytes ≡ f
    unfolding find
    keys-kind zero e h = of-keys Multi (omega arith) (omega arith) (is-multi bytes e) (made_at 57 e)
    keys-kind (suc zero) e h = of-keys MultiA (omega arith) (omega arith) (is-multi-a bytes e) (made_at 58 e)
    keys-kind (suc (suc n)) e h = absurd (omega arith)

    -- the leaf of a record whose kind is none of those with children
    pub leaf-is : (kind_of bytes ≤ 41) ⊎ (57 ≤ kind_of bytes) → leaf_of bytes ≡ f
    leaf-is k =
        let known = (fragment-record bytes form).0 in
        let low = leb-true 32 (kind_of bytes) (and_left (leb 32 (kind_of bytes)) (leb (kind_of bytes) 58) known) in
        let high = leb-true (kind_of bytes) 58 (and_right (leb 32 (kind_of bytes)) (leb (kind_of bytes) 58) known) in
        ⊎_elim (λ (few : kind_of bytes ≤ 41). numbered-kind (kind_of bytes - 32) (omega arith) (omega arith))
        (λ (many : 57 ≤ kind_of bytes). keys-kind (kind_of bytes - 57) (omega arith) (omega arith)) k
