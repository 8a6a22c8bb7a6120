-- How much of a room was filled, for the programs that load. Assumes nothing.
use Rattle.std.specs.Prelude.{Option, Some}
use mathlib.Core.List.{List}
use mathlib.Core.Path.{◌≡◌, sym, subst}
use Prim.Native.Nat.{ℕ, suc, ◌<◌, ◌≤◌}
use native.Mathlib.Omega.{arith}
use lib.ListN.{length, take}
use lib.Seq.{length-take-le}
use Rattle.files.specs.Rooms.{Held}

-- the front of a room has its length
pub front_length : (room : List ℕ) (n : ℕ) → n ≤ length room → n ≡ length (take n room)
front_length room n within = sym (length-take-le n room within)

-- what was loaded lies in the room
module _ (room : List ℕ) {r : Option ℕ} {n : ℕ} (held : Held (length room) r) (told : r ≡ Some n) where
  pub loaded-less : n < length room
  loaded-less = subst (Held (length room)) told held

  pub loaded-within : n ≤ length room
  loaded-within = omega (arith, loaded-less)

  pub loaded-length : n ≡ length (take n room)
  loaded-length = front_length room n loaded-within

  pub loaded-few : (most : ℕ) → length room ≡ suc most → length (take n room) ≤ most
  loaded-few most long = omega (arith, loaded-less, loaded-length, long)
