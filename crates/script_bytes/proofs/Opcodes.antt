-- No two words have one opcode. Assumes nothing.
use Prim.Native.Nat.{ℕ}
use mathlib.Core.List.{List, [], ◌∷◌}
use Rattle.std.specs.Prelude.{Some}
use mathlib.Core.Path.{◌≡◌, ap}
use Rattle.contexts.specs.declared.Context.{Context}
use Rattle.contexts.specs.Leaves.{Sha256, Hash256, Ripemd160, Hash160}
use Rattle.trees.specs.Tree.{Line, ◌is◌, find}
use Rattle.script_machine.specs.Words.{Word, <n>, <key>, <keyhash>, <h>, DUP, IFDUP, SWAP, SIZE, TOALTSTACK, FROMALTSTACK, VERIFY, HASH}
use Rattle.script_machine.specs.Words.{CHECKLOCKTIMEVERIFY, CHECKSEQUENCEVERIFY, 0NOTEQUAL, BOOLAND, BOOLOR, ADD, IF, NOTIF, ELSE, ENDIF}
use Rattle.script_machine.specs.Words.{EQUAL, NUMEQUAL, CHECKSIG, CHECKMULTISIG, CHECKSIGADD}
use Rattle.script_machine.specs.Words.{EQUALVERIFY, NUMEQUALVERIFY, CHECKSIGVERIFY, CHECKMULTISIGVERIFY}
use Rattle.script_bytes.specs.Tables.{Tables}
use Rattle.script_bytes.specs.Opcodes.{Token, push, op, token}
use Rattle.script_bytes.specs.Decoding.{OpcodesDiffer}

abbrev words : List (Line Word)
words =
    0x63 is IF ∷ 0x64 is NOTIF ∷ 0x67 is ELSE ∷ 0x68 is ENDIF ∷ 0x69 is VERIFY ∷ 0x6b is TOALTSTACK ∷ 0x6c is FROMALTSTACK
    ∷ 0x73 is IFDUP ∷ 0x76 is DUP ∷ 0x7c is SWAP ∷ 0x82 is SIZE ∷ 0x87 is EQUAL ∷ 0x88 is EQUALVERIFY ∷ 0x92 is 0NOTEQUAL
    ∷ 0x93 is ADD ∷ 0x9a is BOOLAND ∷ 0x9b is BOOLOR ∷ 0x9c is NUMEQUAL ∷ 0x9d is NUMEQUALVERIFY
    ∷ 0xa6 is HASH Ripemd160 ∷ 0xa8 is HASH Sha256 ∷ 0xa9 is HASH Hash160 ∷ 0xaa is HASH Hash256
    ∷ 0xac is CHECKSIG ∷ 0xad is CHECKSIGVERIFY ∷ 0xae is CHECKMULTISIG ∷ 0xaf is CHECKMULTISIGVERIFY
    ∷ 0xb1 is CHECKLOCKTIMEVERIFY ∷ 0xb2 is CHECKSEQUENCEVERIFY ∷ 0xba is CHECKSIGADD ∷ []

abbrev number : Token → ℕ
number (push x) = 0
number (op n) = n

module _ (c : Context) (t : Tables) where
  -- the word of an opcode is found by its number
  named : (w : Word) {n : ℕ} → token c t w ≡ op n → find n words ≡ Some w
  unfolding find
  named (<n> n) e = cc
  named (<key> n) e = cc
  named (<keyhash> n) e = cc
  named (<h> kind n) e = cc
  named DUP e = rw (← (ap number e))
  named IFDUP e = rw (← (ap number e))
  named SWAP e = rw (← (ap number e))
  named SIZE e = rw (← (ap number e))
  named TOALTSTACK e = rw (← (ap number e))
  named FROMALTSTACK e = rw (← (ap number e))
  named VERIFY e = rw (← (ap number e))
  named (HASH Sha256) e = rw (← (ap number e))
  named (HASH Hash256) e = rw (← (ap number e))
  named (HASH Ripemd160) e = rw (← (ap number e))
  named (HASH Hash160) e = rw (← (ap number e))
  named CHECKLOCKTIMEVERIFY e = rw (← (ap number e))
  named CHECKSEQUENCEVERIFY e = rw (← (ap number e))
  named 0NOTEQUAL e = rw (← (ap number e))
  named BOOLAND e = rw (← (ap number e))
  named BOOLOR e = rw (← (ap number e))
  named ADD e = rw (← (ap number e))
  named EQUAL e = rw (← (ap number e))
  named NUMEQUAL e = rw (← (ap number e))
  named CHECKSIG e = rw (← (ap number e))
  named CHECKMULTISIG e = rw (← (ap number e))
  named EQUALVERIFY e = rw (← (ap number e))
  named NUMEQUALVERIFY e = rw (← (ap number e))
  named CHECKSIGVERIFY e = rw (← (ap number e))
  named CHECKMULTISIGVERIFY e = rw (← (ap number e))
  named CHECKSIGADD e = rw (← (ap number e))
  named IF e = rw (← (ap number e))
  named NOTIF e = rw (← (ap number e))
  named ELSE e = rw (← (ap number e))
  named ENDIF e = rw (← (ap number e))

pub opcodes-differ : OpcodesDiffer
opcodes-differ c t v w n e d =
    let a = named c t v e in
    let b = named c t w d in
    cc
