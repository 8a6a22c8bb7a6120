-- The opcodes and pushes of a script one after another: Bitcoin's Script, as `crates/script_bytes/specs/Decoding.antt` reads it. Assumes nothing.
use Rattle.std.specs.Prelude.{ℕ, ◌+◌, cond, List, ltb, length, get_or}
use Rattle.records.specs.Numbers.{between}

-- how many bytes follow an opcode as what it pushes: an opcode from 1 to 75 is their number
abbrev pub pushed : ℕ → ℕ
pushed opcode = cond (between 1 75 opcode) opcode 0

-- where the opcode or push that begins at a byte ends: behind what it pushes, or with the script
abbrev pub word_end : (script : List ℕ) (at : ℕ) → ℕ
word_end script at =
    cond (ltb (at + pushed (get_or script at 0)) (length script)) (at + 1 + pushed (get_or script at 0)) (length script)
