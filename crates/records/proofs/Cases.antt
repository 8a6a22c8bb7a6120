-- Document 01's whole case and its limits, read by the definitions. Assumes nothing.
use mathlib.Core.Path.{◌≡◌, refl}
use mathlib.Core.List.{List, [], ◌∷◌, ◌++◌}
use Rattle.std.specs.Prelude.{None, Some}
use Prim.Native.Nat.{ℕ, ◌*◌}
use lib.ListN.{replicate}
use Rattle.words.specs.Bytes.{little, le_at}
use Rattle.records.specs.Numbers.{u16s, numbers_at}
use Rattle.records.specs.Shapes.{look_up, shape_of}
use Rattle.records.specs.Payloads.{width, number, children, weighted, keys, payload_of}
use Rattle.records.specs.RecordForm.{record_length, kind_of, policy_payload, fragment_payload}

-- Check over PkK: the first record, with the second one after it, and the second one
pk_k : List ℕ
pk_k = 8 ∷ 0 ∷ 34 ∷ 0 ∷ 7 ∷ 0 ∷ 0 ∷ 0 ∷ []

check : List ℕ
check = 6 ∷ 0 ∷ 44 ∷ 0 ∷ 0 ∷ 0 ∷ []

whole-case-length : record_length (pk_k ++ check) ≡ Some 8
unfolding pk_k check le_at little
whole-case-length = refl

whole-case-key : fragment_payload pk_k ≡ Some (number 7)
unfolding pk_k le_at little look_up shape_of kind_of width payload_of
whole-case-key = refl

whole-case-check : fragment_payload check ≡ Some (children (0 ∷ []))
unfolding check le_at little look_up shape_of kind_of width payload_of u16s
whole-case-check = refl

-- a fragment is no record of a policy
no-policy : policy_payload pk_k ≡ None
unfolding pk_k le_at little kind_of
no-policy = refl

-- ---- limits

-- a policy's After
after : List ℕ → List ℕ
after lock = 8 ∷ 0 ∷ 4 ∷ 0 ∷ lock

lock-2147483647 : policy_payload (after (255 ∷ 255 ∷ 255 ∷ 127 ∷ [])) ≡ Some (number 2147483647)
unfolding after le_at little look_up shape_of kind_of width payload_of
lock-2147483647 = refl

lock-2147483648 : policy_payload (after (0 ∷ 0 ∷ 0 ∷ 128 ∷ [])) ≡ None
unfolding after le_at little look_up shape_of kind_of width payload_of
lock-2147483648 = refl

lock-0 : policy_payload (after (0 ∷ 0 ∷ 0 ∷ 0 ∷ [])) ≡ None
unfolding after le_at little look_up shape_of kind_of width payload_of
lock-0 = refl

weight-4294967295 : policy_payload
    (16 ∷ 0 ∷ 11 ∷ 0 ∷ 0 ∷ 0 ∷ 1 ∷ 0 ∷ 255 ∷ 255 ∷ 255 ∷ 255 ∷ 1 ∷ 0 ∷ 0 ∷ 0 ∷ []) ≡ Some (weighted 0 1 4294967295 1)
unfolding le_at little look_up shape_of kind_of width payload_of
weight-4294967295 = refl

-- a MultiA of k = 2 and n keys, each of them 0; byte 0 is the length, 8 + 4 n
multi_a : (length n : ℕ) → List ℕ
multi_a length n = length ∷ 0 ∷ 58 ∷ 0 ∷ 2 ∷ 0 ∷ n ∷ 0 ∷ replicate (4 * n) 0

n-16 : fragment_payload (multi_a 72 16) ≡ Some (keys 2 (replicate 16 0))
unfolding multi_a le_at little look_up shape_of kind_of width payload_of numbers_at
n-16 = refl

n-17 : fragment_payload (multi_a 76 17) ≡ None
unfolding multi_a le_at little look_up shape_of kind_of width payload_of numbers_at
n-17 = refl

-- ---- keys of 64 bits: the largest in a policy and in a tree, a short record of such a kind and a long one of document 01's

long-key : policy_payload (12 ∷ 0 ∷ 19 ∷ 0 ∷ replicate 8 255) ≡ Some (number 18446744073709551615)
unfolding le_at little look_up shape_of kind_of width payload_of
long-key = refl

long-pk_h : fragment_payload (12 ∷ 0 ∷ 85 ∷ 0 ∷ replicate 8 255) ≡ Some (number 18446744073709551615)
unfolding le_at little look_up shape_of kind_of width payload_of
long-pk_h = refl

long-multi : fragment_payload (24 ∷ 0 ∷ 107 ∷ 0 ∷ 1 ∷ 0 ∷ 2 ∷ 0 ∷ 7 ∷ 0 ∷ 0 ∷ 0 ∷ 1 ∷ 0 ∷ 0 ∷ 0 ∷ 8 ∷ replicate 7 0)
    ≡ Some (keys 1 (4294967303 ∷ 8 ∷ []))
unfolding le_at little look_up shape_of kind_of width payload_of numbers_at
long-multi = refl

short-19 : policy_payload (8 ∷ 0 ∷ 19 ∷ 0 ∷ 7 ∷ 0 ∷ 0 ∷ 0 ∷ []) ≡ None
unfolding le_at little look_up shape_of kind_of width payload_of
short-19 = refl

long-3 : policy_payload (12 ∷ 0 ∷ 3 ∷ 0 ∷ 7 ∷ replicate 7 0) ≡ None
unfolding le_at little look_up shape_of kind_of width payload_of
long-3 = refl

-- 19 is no kind of a tree, 84 none of a policy
tree-19 : fragment_payload (12 ∷ 0 ∷ 19 ∷ 0 ∷ replicate 8 0) ≡ None
unfolding le_at little kind_of
tree-19 = refl

policy-84 : policy_payload (12 ∷ 0 ∷ 84 ∷ 0 ∷ replicate 8 0) ≡ None
unfolding le_at little kind_of
policy-84 = refl
