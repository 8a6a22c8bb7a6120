-- Keys of 64 bits, worked: document 02, R-3. A key number without a whole entry is 17 whatever its size, also where the end of its entry, the size
-- times one more than the number, is too large for 64 bits.
use Rattle.std.specs.Prelude.{ℕ, [], ◌∷◌, ◌++◌, ◌≡◌}
use Rattle.words.specs.Bytes.{bytes_of}
use Rattle.trees.specs.Reading.{refused, done}
use Rattle.script_machine.specs.Numbers.{Bytes}
use Rattle.script_bytes.specs.ScriptOf.{script_of}
use Rattle.script_bytes.specs.WorkedScripts.{G, in0, in1, room, words}

-- Check over a PkK or a PkH, kinds 84 and 85; a MultiA of key 0 and another, 1 of 2, kind 108
abbrev pub checked : (kind key : ℕ) → Bytes
checked kind key = 12 ∷ 0 ∷ kind ∷ 0 ∷ bytes_of 8 key ++ 6 ∷ 0 ∷ 44 ∷ 0 ∷ 0 ∷ 0 ∷ []

abbrev pub multi_a : (key : ℕ) → Bytes
multi_a key = 24 ∷ 0 ∷ 108 ∷ 0 ∷ 1 ∷ 0 ∷ 2 ∷ 0 ∷ bytes_of 8 0 ++ bytes_of 8 key

-- the largest key number, and the one whose entry of 32 bytes ends at 2^64
abbrev pub largest : ℕ
largest = 18446744073709551615

abbrev pub ends-at-2^64 : ℕ
ends-at-2^64 = 576460752303423487

pub record LongKeys : Type 0 where
  pub written : script_of 0 (checked 84 0) in0 (room 35) (words 4096) ≡ done (0x21 ∷ G ++ 0xac ∷ [])
  pub no_key : script_of 0 (checked 84 largest) in0 (room 35) (words 4096) ≡ refused 17
  pub no-key-hash : script_of 0 (checked 85 largest) in0 (room 35) (words 4096) ≡ refused 17
  pub no-key-in-1 : script_of 1 (checked 84 ends-at-2^64) in1 (room 35) (words 4096) ≡ refused 17
  pub no-key-of-two : script_of 1 (multi_a largest) in1 (room 100) (words 4096) ≡ refused 17
