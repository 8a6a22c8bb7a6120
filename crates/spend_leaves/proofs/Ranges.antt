-- An entry of a table of the log's head is a range of the log. Assumes nothing.
use Prim.Native.Nat.{ℕ, zero, suc, ◌+◌, ◌*◌, ◌-◌, ◌≤◌, ◌<◌}
use native.Mathlib.Omega.{arith}
use native.Mathlib.Nat.{suc-mul}
use mathlib.Core.Bool.{true}
use mathlib.Core.List.{List, [], ◌∷◌}
use mathlib.Core.Path.{◌≡◌, refl, sym, ap, ◌∙◌}
use borrow.Author.Tests.{leb-true}
use lib.ListN.{length, take, drop, length-take, length-drop}
use lib.Seq.{take-take, drop-drop}
use Rattle.contexts.specs.declared.Context.{Context}
use Rattle.contexts.specs.declared.Context.TheVariants.{Segwitv0, Tap}
use Rattle.contexts.specs.Leaves.{HashKind, Sha256, Hash256, Ripemd160, Hash160}
use Rattle.script_machine.specs.Numbers.{Bytes}
use Rattle.script_bytes.specs.Tables.{entry, whole, key_size, hash_size, key, key_hash, hash, has_key, has_key_hash, has_hash}
use Rattle.spend_log.specs.declared.Offsets.{Offsets}
use Rattle.spend_log.specs.Places.{part_in, tables_in}
use Rattle.spend_elements.specs.Elements.{bytes_in}
use Rattle.spend_elements.proofs.Ranges.{in-range}
use Rattle.spend_leaves.specs.Acting.{entry_at, Reaches}

-- bytes from the middle of the front of a list
take-mid : (n a b : ℕ) (l : List ℕ) → a + n ≤ b → take n (drop a (take b l)) ≡ take n (drop a l)
take-mid n zero b l h = take-take n b l (omega arith)
take-mid n (suc a) zero l h = absurd (omega arith)
take-mid n (suc a) (suc b) [] h = refl
take-mid n (suc a) (suc b) (x ∷ l) h = take-mid n a b l (omega arith)

module _ (log : Bytes) (from to size i : ℕ) (some : 0 < size) (small : size ≤ 33) (all : whole size (part_in log from to) i ≡ true) where
  room : i * size + size ≤ length (take (to - from) (drop from log))
  room = rw (← suc-mul i size) (leb-true (suc i * size) (length (part_in log from to)) all)

  pub entry-reaches : Reaches log from size i
  entry-reaches =
      record { within = omega (arith, room, length-take (to - from) (drop from log), length-drop from log, some); small = small }

  pub entry_in : bytes_in log (entry_at from size i) ≡ entry size (part_in log from to) i
  entry_in =
      in-range log (entry_at from size i) (omega arith)
      ∙ ap (take size) (sym (drop-drop (i * size) from log))
      ∙ sym (take-mid size (i * size) (to - from) (drop from log) (omega (arith, room, length-take (to - from) (drop from log))))

-- a key, the hash of a key, and a hash of each kind
key-small : (c : Context) → (0 < key_size c) × (key_size c ≤ 33)
key-small Segwitv0 = (omega arith, omega arith)
key-small Tap = (omega arith, omega arith)

module _ (c : Context) (log : Bytes) (h : Offsets) (i : ℕ) (all : has_key c (tables_in log h) i ≡ true) where
  pub key-reaches : {size : ℕ} → size ≡ key_size c → Reaches log h.keys size i
  key-reaches e = rw e (entry-reaches log h.keys h.key_hashes (key_size c) i (key-small c).0 (key-small c).1 all)

  pub key_in : bytes_in log (entry_at h.keys (key_size c) i) ≡ key c (tables_in log h) i
  key_in = entry_in log h.keys h.key_hashes (key_size c) i (key-small c).0 (key-small c).1 all

module _ (log : Bytes) (h : Offsets) (i : ℕ) (all : has_key_hash (tables_in log h) i ≡ true) where
  pub key-hash-reaches : Reaches log h.key_hashes 20 i
  key-hash-reaches = entry-reaches log h.key_hashes h.hashes32 20 i (omega arith) (omega arith) all

  pub key-hash-in : bytes_in log (entry_at h.key_hashes 20 i) ≡ key_hash (tables_in log h) i
  key-hash-in = entry_in log h.key_hashes h.hashes32 20 i (omega arith) (omega arith) all

-- where the table of a kind's hashes begins, and where it ends
abbrev hashes_from : HashKind → Offsets → ℕ
hashes_from Sha256 h = h.hashes32
hashes_from Hash256 h = h.hashes32
hashes_from Ripemd160 h = h.hashes20
hashes_from Hash160 h = h.hashes20

module _ (log : Bytes) (h : Offsets) (i : ℕ) where
  pub hash-reaches : (kind : HashKind) → has_hash (tables_in log h) kind i ≡ true → Reaches log (hashes_from kind h) (hash_size kind) i
  hash-reaches Sha256 all = entry-reaches log h.hashes32 h.hashes20 32 i (omega arith) (omega arith) all
  hash-reaches Hash256 all = entry-reaches log h.hashes32 h.hashes20 32 i (omega arith) (omega arith) all
  hash-reaches Ripemd160 all = entry-reaches log h.hashes20 h.entries 20 i (omega arith) (omega arith) all
  hash-reaches Hash160 all = entry-reaches log h.hashes20 h.entries 20 i (omega arith) (omega arith) all

  pub hash-in : (kind : HashKind) → has_hash (tables_in log h) kind i ≡ true
      → bytes_in log (entry_at (hashes_from kind h) (hash_size kind) i) ≡ hash (tables_in log h) kind i
  hash-in Sha256 all = entry_in log h.hashes32 h.hashes20 32 i (omega arith) (omega arith) all
  hash-in Hash256 all = entry_in log h.hashes32 h.hashes20 32 i (omega arith) (omega arith) all
  hash-in Ripemd160 all = entry_in log h.hashes20 h.entries 20 i (omega arith) (omega arith) all
  hash-in Hash160 all = entry_in log h.hashes20 h.entries 20 i (omega arith) (omega arith) all
