-- What each word is in a script: a push of a byte string, or an opcode by Bitcoin's number.
use Rattle.std.specs.Prelude.{ℕ, List, map, pos}
use Rattle.contexts.specs.declared.Context.{Context}
use Rattle.contexts.specs.Leaves.{Sha256, Hash256, Ripemd160, Hash160}
use Rattle.script_machine.specs.Numbers.{Bytes, write}
use Rattle.script_machine.specs.Words.{Word, <n>, <key>, <keyhash>, <h>, DUP, IFDUP, SWAP, SIZE, TOALTSTACK, FROMALTSTACK, VERIFY, HASH}
use Rattle.script_machine.specs.Words.{CHECKLOCKTIMEVERIFY, CHECKSEQUENCEVERIFY, 0NOTEQUAL, BOOLAND, BOOLOR, ADD, IF, NOTIF, ELSE, ENDIF}
use Rattle.script_machine.specs.Words.{EQUAL, NUMEQUAL, CHECKSIG, CHECKMULTISIG, CHECKSIGADD}
use Rattle.script_machine.specs.Words.{EQUALVERIFY, NUMEQUALVERIFY, CHECKSIGVERIFY, CHECKMULTISIGVERIFY}
use Rattle.script_bytes.specs.Tables.{Tables, key, key_hash, hash}

pub data Token : Type 0 where
  push : Bytes → Token
  op : ℕ → Token

module _ (c : Context) (t : Tables) where
  -- numbers are pushed in Script's form, keys and hashes as the tables have them
  abbrev pub token : Word → Token
  token (<n> n) = push (write (pos n))
  token (<key> i) = push (key c t i)
  token (<keyhash> i) = push (key_hash t i)
  token (<h> kind i) = push (hash t kind i)
  token IF = op 0x63
  token NOTIF = op 0x64
  token ELSE = op 0x67
  token ENDIF = op 0x68
  token VERIFY = op 0x69
  token TOALTSTACK = op 0x6b
  token FROMALTSTACK = op 0x6c
  token IFDUP = op 0x73
  token DUP = op 0x76
  token SWAP = op 0x7c
  token SIZE = op 0x82
  token EQUAL = op 0x87
  token EQUALVERIFY = op 0x88
  token 0NOTEQUAL = op 0x92
  token ADD = op 0x93
  token BOOLAND = op 0x9a
  token BOOLOR = op 0x9b
  token NUMEQUAL = op 0x9c
  token NUMEQUALVERIFY = op 0x9d
  token (HASH Ripemd160) = op 0xa6
  token (HASH Sha256) = op 0xa8
  token (HASH Hash160) = op 0xa9
  token (HASH Hash256) = op 0xaa
  token CHECKSIG = op 0xac
  token CHECKSIGVERIFY = op 0xad
  token CHECKMULTISIG = op 0xae
  token CHECKMULTISIGVERIFY = op 0xaf
  token CHECKLOCKTIMEVERIFY = op 0xb1
  token CHECKSEQUENCEVERIFY = op 0xb2
  token CHECKSIGADD = op 0xba

  abbrev pub tokens : List Word → List Token
  tokens ws = map token ws
