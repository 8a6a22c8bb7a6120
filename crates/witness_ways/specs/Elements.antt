-- The elements of a witness, from BIP 379's satisfaction table, and their bytes, from document 02, R-9.
use Rattle.std.specs.Prelude.{ℕ, List}
use Rattle.contexts.specs.declared.Context.{Context}
use Rattle.contexts.specs.declared.Context.TheVariants.{Segwitv0, Tap}
use Rattle.contexts.specs.Leaves.{HashKind}
use Rattle.contexts.specs.Lists.{sum}

-- A key's signature, the key itself, a hash's preimage, the empty element (the table's `0`) and the byte 1 (its `1`).
pub data Element : Type 0 where
  signature key : (number : ℕ) → Element
  preimage : HashKind → (number : ℕ) → Element
  empty one : Element

-- The last element is on top.
abbrev pub Witness : Type 0
Witness = List Element

-- an ECDSA signature or a Schnorr signature; a key of 33 or of 32 bytes and its length
abbrev pub signature_bytes : Context → ℕ
signature_bytes Segwitv0 = 73
signature_bytes Tap = 66

abbrev pub key_bytes : Context → ℕ
key_bytes Segwitv0 = 34
key_bytes Tap = 33

abbrev pub element_bytes : Context → Element → ℕ
element_bytes c (signature n) = signature_bytes c
element_bytes c (key n) = key_bytes c
element_bytes c (preimage kind n) = 33
element_bytes c empty = 1
element_bytes c one = 2

-- the bytes of a witness
abbrev pub bytes_of : Context → Witness → ℕ
bytes_of c w = sum (element_bytes c) w
