-- The tables that a caller lends, from document 02, R-1: keys of 33 bytes (context 0) or 32 (context 1), the keys' HASH160 values, and
-- hashes of 32 and of 20 bytes, entry i at i times its size.
use Rattle.std.specs.Prelude.{ℕ, suc, ◌*◌, Bool, leb, length, take, drop}
use Rattle.contexts.specs.declared.Context.{Context}
use Rattle.contexts.specs.declared.Context.TheVariants.{Segwitv0, Tap}
use Rattle.contexts.specs.Leaves.{HashKind, Sha256, Hash256, Ripemd160, Hash160}
use Rattle.script_machine.specs.Numbers.{Bytes}

pub record Tables : Type 0 where
  pub keys : Bytes
  pub key_hashes : Bytes
  pub hashes32 : Bytes
  pub hashes20 : Bytes

abbrev pub tables : (keys key_hashes hashes32 hashes20 : Bytes) → Tables
tables keys key_hashes hashes32 hashes20 =
    record { keys = keys; key_hashes = key_hashes; hashes32 = hashes32; hashes20 = hashes20 }

-- entry i of a table whose entries have so many bytes, and whether all of it is there
abbrev pub entry : (size : ℕ) → Bytes → ℕ → Bytes
entry size table i = take size (drop (i * size) table)

abbrev pub whole : (size : ℕ) → Bytes → ℕ → Bool
whole size table i = leb (suc i * size) (length table)

-- the sizes, and which table has the hashes of a kind
abbrev pub key_size : Context → ℕ
key_size Segwitv0 = 33
key_size Tap = 32

abbrev pub key_hash_size : ℕ
key_hash_size = 20

abbrev pub hash_size : HashKind → ℕ
hash_size Sha256 = 32
hash_size Hash256 = 32
hash_size Ripemd160 = 20
hash_size Hash160 = 20

abbrev pub hash_table : HashKind → Tables → Bytes
hash_table Sha256 t = t.hashes32
hash_table Hash256 t = t.hashes32
hash_table Ripemd160 t = t.hashes20
hash_table Hash160 t = t.hashes20

-- key i, the hash of key i and hash i of a kind, and whether each is there
abbrev pub key : Context → Tables → ℕ → Bytes
key c t i = entry (key_size c) t.keys i

abbrev pub key_hash : Tables → ℕ → Bytes
key_hash t i = entry key_hash_size t.key_hashes i

abbrev pub hash : Tables → HashKind → ℕ → Bytes
hash t kind i = entry (hash_size kind) (hash_table kind t) i

abbrev pub has_key : Context → Tables → ℕ → Bool
has_key c t i = whole (key_size c) t.keys i

abbrev pub has_key_hash : Tables → ℕ → Bool
has_key_hash t i = whole key_hash_size t.key_hashes i

abbrev pub has_hash : Tables → HashKind → ℕ → Bool
has_hash t kind i = whole (hash_size kind) (hash_table kind t) i
