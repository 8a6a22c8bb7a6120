-- A fragment with children in bytes, piece by piece and by its kind's number: what stands before the first child, each child in the script's
-- order with what follows it, and what stands last. proofs/Pieces.antt shows that these are the bytes of script_bytes.
use Rattle.std.specs.Prelude.{ℕ, zero, suc, Bool, true, false, ◌&&◌, cond, [], ◌∷◌, ◌++◌, eqb, Option, None, Some}
use Rattle.contexts.specs.declared.Context.{Context}
use Rattle.trees.specs.Fragment.{Fragment}
use Rattle.trees.specs.Tree.{◌is◌, find}
use Rattle.script_machine.specs.Numbers.{Bytes}
use Rattle.script_bytes.specs.Tables.{Tables}
use Rattle.script_bytes.specs.Layout.{verify_byte, test_byte, number_bytes, bytes_of}

abbrev pub or_else : {A : Type 0} → A → Option A → A
or_else a (Some x) = x
or_else a None = a

-- before the first child: TOALTSTACK, SWAP, DUP IF, SIZE 0NOTEQUAL IF, IF
abbrev pub front : (kind : ℕ) → Bytes
front kind =
    or_else [] (find kind
    (42 is (0x6b ∷ []) ∷ 43 is (0x7c ∷ []) ∷ 45 is (0x76 ∷ 0x63 ∷ []) ∷ 47 is (0x82 ∷ 0x92 ∷ 0x63 ∷ []) ∷ 54 is (0x63 ∷ []) ∷ []))

-- after the first child: IFDUP NOTIF, NOTIF, ELSE, NOTIF; after the second child of an AndOr: ELSE; after each child of a Thresh but the first: ADD
abbrev pub after_first : (kind : ℕ) → Bytes
after_first kind = or_else [] (find kind (52 is (0x73 ∷ 0x64 ∷ []) ∷ 53 is (0x64 ∷ []) ∷ 54 is (0x67 ∷ []) ∷ 55 is (0x64 ∷ []) ∷ []))

abbrev pub after_later : (kind j : ℕ) → Bytes
after_later kind j = cond (eqb kind 56) (0x93 ∷ []) (cond (eqb kind 55 && eqb j 1) (0x67 ∷ []) [])

-- child number j and what follows it: the first is number 0
abbrev pub after : (kind j : ℕ) → Bytes
after kind zero = after_first kind
after kind (suc j) = after_later kind (suc j)

-- the opcode at the end of most: FROMALTSTACK, 0NOTEQUAL, BOOLAND, BOOLOR, else ENDIF
abbrev pub closing : (kind : ℕ) → ℕ
closing kind = or_else 0x68 (find kind (42 is 0x6c ∷ 48 is 0x92 ∷ 49 is 0x9a ∷ 51 is 0x9b ∷ []))

-- at the end: nothing for Swap and AndV, CHECKSIG, a VERIFY that is not merged, k EQUAL
abbrev pub last : (kind k : ℕ) (verified : Bool) → Bytes
last kind k verified =
    or_else (closing kind ∷ verify_byte verified) (find kind
    (43 is [] ∷ 44 is test_byte 0xac verified ∷ 46 is verify_byte verified ∷ 50 is [] ∷ 56 is (number_bytes k ++ test_byte 0x87 verified) ∷ []))

-- whether a VERIFY follows child number j: Swap and the second of an AndV hand it on, Verify adds it
abbrev pub child_verified : (kind j : ℕ) (verified : Bool) → Bool
child_verified kind j verified = or_else false (find kind (43 is verified ∷ 46 is true ∷ 50 is (eqb j 1 && verified) ∷ []))

-- which child comes as number j: an AndOr of x, y and z has z before y
abbrev pub place : (kind j : ℕ) → ℕ
place kind j = cond (eqb kind 55) (cond (eqb j 1) 2 (cond (eqb j 2) 1 j)) j

module _ (c : Context) (t : Tables) (kind : ℕ) (verified : Bool) (child : ℕ → Fragment) where
  -- so many of the children, each with what follows it
  unfoldable pub up_to : (n : ℕ) → Bytes
  up_to zero = []
  up_to (suc j) = up_to j ++ (bytes_of c t (child_verified kind j verified) (child (place kind j)) ++ after kind j)
