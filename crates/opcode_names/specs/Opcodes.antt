-- The names of opcodes under their numbers: Bitcoin's script.h, of the words of `crates/script_machine/specs/Words.antt` and the push of no bytes.
-- Assumes nothing.
use Rattle.std.specs.Prelude.{List, [], ◌∷◌}
use Rattle.names.specs.Names.{Row, ◌named◌}

abbrev pub opcodes : List Row
opcodes =
    0x00 named "OP_0"
    ∷ 0x63 named "OP_IF"
    ∷ 0x64 named "OP_NOTIF"
    ∷ 0x67 named "OP_ELSE"
    ∷ 0x68 named "OP_ENDIF"
    ∷ 0x69 named "OP_VERIFY"
    ∷ 0x6b named "OP_TOALTSTACK"
    ∷ 0x6c named "OP_FROMALTSTACK"
    ∷ 0x73 named "OP_IFDUP"
    ∷ 0x76 named "OP_DUP"
    ∷ 0x7c named "OP_SWAP"
    ∷ 0x82 named "OP_SIZE"
    ∷ 0x87 named "OP_EQUAL"
    ∷ 0x88 named "OP_EQUALVERIFY"
    ∷ 0x92 named "OP_0NOTEQUAL"
    ∷ 0x93 named "OP_ADD"
    ∷ 0x9a named "OP_BOOLAND"
    ∷ 0x9b named "OP_BOOLOR"
    ∷ 0x9c named "OP_NUMEQUAL"
    ∷ 0x9d named "OP_NUMEQUALVERIFY"
    ∷ 0xa6 named "OP_RIPEMD160"
    ∷ 0xa8 named "OP_SHA256"
    ∷ 0xa9 named "OP_HASH160"
    ∷ 0xaa named "OP_HASH256"
    ∷ 0xac named "OP_CHECKSIG"
    ∷ 0xad named "OP_CHECKSIGVERIFY"
    ∷ 0xae named "OP_CHECKMULTISIG"
    ∷ 0xaf named "OP_CHECKMULTISIGVERIFY"
    ∷ 0xb1 named "OP_CHECKLOCKTIMEVERIFY"
    ∷ 0xb2 named "OP_CHECKSEQUENCEVERIFY"
    ∷ 0xba named "OP_CHECKSIGADD"
    ∷ []
