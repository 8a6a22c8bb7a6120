-- The bytes of an element of the replay's stacks, which is a range of the log or a few bytes held in place of one.
use Rattle.std.specs.Prelude.{ℕ, ◌-◌, Bool, true, false, not, cond, List, [], ◌∷◌, leb, ltb, eqb, take, drop}
use Rattle.words.specs.Bytes.{bytes_of}
use Rattle.script_machine.specs.Numbers.{Bytes, same}
use Rattle.spend_elements.specs.declared.Element.{Element}

-- from here on a length says that the bytes are held in place
abbrev pub held : ℕ
held = 4294967296

-- how many they are: Script's numbers have 5 at most
abbrev pub small_length : ℕ → ℕ
small_length len = cond (leb (len - held) 5) (len - held) 5

-- how many bytes of a range lie within a log of n bytes
abbrev pub range_length : (n at len : ℕ) → ℕ
range_length n at len = cond (ltb at n) (cond (ltb len (n - at)) len (n - at)) 0

-- the bytes of an element
unfoldable pub bytes_in : Bytes → Element → Bytes
bytes_in log e = cond (ltb e.len held) (take e.len (drop e.at log)) (bytes_of (small_length e.len) e.at)

-- whether a byte makes its element true: not 0, nor 0x80 where it is the last
abbrev pub tells : ℕ → (last : Bool) → Bool
tells b last = cond (eqb b 0) false (cond (eqb b 0x80) (not last) true)

-- the byte 1 alone
abbrev pub is_one : Bytes → Bool
is_one x = same x (1 ∷ [])
