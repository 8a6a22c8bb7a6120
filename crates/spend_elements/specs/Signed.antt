-- Script's numbers by sign and size: document 01, "What a fragment's script does" (number operands have at most 4 bytes).
use Rattle.std.specs.Prelude.{ℕ, zero, suc, ◌+◌, ◌*◌, ◌<◌, Bool, true, false, cond, List, ◌≡◌, leb, ℤ, pos, neg_ℤ, length, get_or, Option, None, Some}
use Rattle.script_machine.specs.Numbers.{Bytes, read}
use Rattle.spend_elements.specs.declared.Number.{Number}

-- the integer of a sign and a size
abbrev pub int_of : (negative : Bool) → ℕ → ℤ
int_of true size = neg_ℤ (pos size)
int_of false size = pos size

abbrev pub value_in : Number → ℤ
value_in n = int_of n.negative n.size

-- what the sign bit counts in a number of at most 4 bytes; no number of 0 bytes reaches 1
abbrev pub sign_bit : ℕ → ℕ
sign_bit zero = 1
sign_bit (suc zero) = 128
sign_bit (suc (suc zero)) = 32768
sign_bit (suc (suc (suc zero))) = 8388608
sign_bit (suc (suc (suc (suc n)))) = 2147483648

-- what a sign bit adds
abbrev pub signed : Bool → ℕ → ℕ
signed true bit = bit
signed false bit = 0

-- what the first four bytes write, and that they are bytes
pub record Valued (x : Bytes) (v : ℕ) : Type 0 where
  pub is : v ≡ get_or x 0 0 + get_or x 1 0 * 256 + get_or x 2 0 * 65536 + get_or x 3 0 * 16777216
  pub byte0 : get_or x 0 0 < 256
  pub byte1 : get_or x 1 0 < 256
  pub byte2 : get_or x 2 0 < 256
  pub byte3 : get_or x 3 0 < 256

-- bytes are read as a number, if they are at most 4
pub record IsRead (x : Bytes) (n : Number) : Type 0 where
  pub short : leb (length x) 4 ≡ true
  pub small : n.size < 2147483648
  pub is : value_in n ≡ read x

abbrev pub ReadAs : Bytes → Option Number → Type 0
ReadAs x (Some n) = IsRead x n
ReadAs x None = leb (length x) 4 ≡ false
