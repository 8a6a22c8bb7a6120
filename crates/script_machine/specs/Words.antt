-- The words of Script that fragments use, under Bitcoin's names.
use Rattle.std.specs.Prelude.{ℕ}
use Rattle.contexts.specs.Leaves.{HashKind}

pub data Word : Type 0 where
  -- pushes: a number, a key, the hash of a key, and the hash that a hash fragment names
  <n> <key> <keyhash> : ℕ → Word
  <h> : HashKind → ℕ → Word
  -- both stacks
  DUP IFDUP SWAP SIZE TOALTSTACK FROMALTSTACK VERIFY : Word
  -- hashes, each under its fragment's name, and the two time checks
  HASH : HashKind → Word
  CHECKLOCKTIMEVERIFY CHECKSEQUENCEVERIFY : Word
  -- numbers
  0NOTEQUAL BOOLAND BOOLOR ADD : Word
  -- the four words that have a VERIFY form, their VERIFY forms, and Tapscript's CHECKSIGADD
  EQUAL NUMEQUAL CHECKSIG CHECKMULTISIG : Word
  EQUALVERIFY NUMEQUALVERIFY CHECKSIGVERIFY CHECKMULTISIGVERIFY : Word
  CHECKSIGADD : Word
  -- conditions
  IF NOTIF ELSE ENDIF : Word
