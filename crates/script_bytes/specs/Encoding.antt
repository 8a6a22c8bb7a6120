-- Script bytes, from document 02, R-1, and Bitcoin's Script: minimal pushes, opcodes of one byte, and the combined VERIFY opcodes where
-- BIP 379 merges them.
use Rattle.std.specs.Prelude.{ℕ, ◌+◌, ◌&&◌, cond, List, [], ◌∷◌, ◌++◌, leb, eqb, length}
use Rattle.contexts.specs.declared.Context.{Context}
use Rattle.trees.specs.Fragment.{Fragment}
use Rattle.script_machine.specs.Numbers.{Bytes}
use Rattle.script_machine.specs.Words.{Word}
use Rattle.script_machine.specs.Merged.{merged}
use Rattle.script_bytes.specs.Tables.{Tables}
use Rattle.script_bytes.specs.Opcodes.{Token, push, op, token}

-- The shortest push of one byte: OP_1 to OP_16 and OP_1NEGATE have their own opcodes.
abbrev pub push_byte : ℕ → Bytes
push_byte b = cond (leb 1 b && leb b 16) ((0x50 + b) ∷ []) (cond (eqb b 0x81) (0x4f ∷ []) (1 ∷ b ∷ []))

-- The shortest push of a byte string of at most 75 bytes: OP_0, a push of one byte, or the length and then the bytes.
unfoldable pub push_bytes : Bytes → Bytes
push_bytes [] = 0x00 ∷ []
push_bytes (b ∷ []) = push_byte b
push_bytes (b ∷ c ∷ bs) = length (b ∷ c ∷ bs) ∷ b ∷ c ∷ bs

abbrev pub token_bytes : Token → Bytes
token_bytes (push x) = push_bytes x
token_bytes (op n) = n ∷ []

-- The bytes of words, one after another.
unfoldable pub encode : Context → Tables → List Word → Bytes
encode c t [] = []
encode c t (w ∷ ws) = token_bytes (token c t w) ++ encode c t ws

-- The script of a tree in bytes.
unfoldable pub script_bytes : Context → Tables → Fragment → Bytes
script_bytes c t f = encode c t (merged f)
