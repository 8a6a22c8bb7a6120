-- The bytes of a fragment, and of one that a VERIFY follows: proofs/Merging.antt gives them by those of its children.
use Rattle.std.specs.Prelude.{ℕ, suc, Bool, true, false, List, [], ◌∷◌, ◌++◌, pos}
use Rattle.contexts.specs.declared.Context.{Context}
use Rattle.contexts.specs.Leaves.{LockKind, After, Older, HashKind, Sha256, Hash256, Ripemd160, Hash160}
use Rattle.trees.specs.Fragment.{Fragment, Fragments}
use Rattle.script_machine.specs.Numbers.{Bytes, write}
use Rattle.script_machine.specs.Words.{Word}
use Rattle.script_machine.specs.Translation.{sum, adds}
use Rattle.script_machine.specs.Merged.{merged, merge_verify}
use Rattle.script_bytes.specs.Tables.{Tables, key}
use Rattle.script_bytes.specs.Encoding.{push_bytes, encode}

-- words; the flag says that a VERIFY follows, which is merged where it can be
abbrev pub laid : Bool → List Word → List Word
laid false ws = ws
laid true ws = merge_verify ws

-- what a VERIFY adds to an opcode that has no VERIFY form
abbrev pub verify_byte : Bool → Bytes
verify_byte true = 0x69 ∷ []
verify_byte false = []

-- one of the four tests by its opcode: the VERIFY form has the next number
abbrev pub test_byte : ℕ → Bool → Bytes
test_byte n true = suc n ∷ []
test_byte n false = n ∷ []

abbrev pub lock_opcode : LockKind → ℕ
lock_opcode After = 0xb1
lock_opcode Older = 0xb2

abbrev pub hash_opcode : HashKind → ℕ
hash_opcode Ripemd160 = 0xa6
hash_opcode Sha256 = 0xa8
hash_opcode Hash160 = 0xa9
hash_opcode Hash256 = 0xaa

abbrev pub number_bytes : ℕ → Bytes
number_bytes n = push_bytes (write (pos n))

module _ (c : Context) (t : Tables) where
  -- a fragment
  unfoldable pub bytes_of : (verified : Bool) → Fragment → Bytes
  bytes_of verified f = encode c t (laid verified (merged f))

  -- the children of a Thresh: the first alone, each other with ADD
  unfoldable pub sum_bytes : Fragments → Bytes
  sum_bytes xs = encode c t (sum merge_verify xs)

  unfoldable pub adds_bytes : Fragments → Bytes
  adds_bytes xs = encode c t (adds merge_verify xs)

  -- the keys of a Multi; those of a MultiA after the first
  unfoldable pub keys_bytes : List ℕ → Bytes
  keys_bytes [] = []
  keys_bytes (i ∷ is) = push_bytes (key c t i) ++ keys_bytes is

  unfoldable pub sig_adds_bytes : List ℕ → Bytes
  sig_adds_bytes [] = []
  sig_adds_bytes (i ∷ is) = push_bytes (key c t i) ++ 0xba ∷ sig_adds_bytes is

  -- all the keys of a MultiA
  unfoldable pub sig_sum_bytes : List ℕ → Bytes
  sig_sum_bytes [] = []
  sig_sum_bytes (i ∷ is) = push_bytes (key c t i) ++ 0xac ∷ sig_adds_bytes is
