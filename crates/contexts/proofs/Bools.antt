-- Laws of bools: what follows from both and from one that implies another, and a bool as a digit. Assumes nothing.
use mathlib.Core.Path.{◌≡◌, refl, ap}
use mathlib.Core.Bool.{Bool, true, false, cond, ◌&&◌}
use Prim.Native.Nat.{◌<◌}
use native.Mathlib.Omega.{arith}
use Rattle.contexts.specs.Bools.{implies, bool_rank, bool_of}

pub and_l : (a b : Bool) → a && b ≡ true → a ≡ true
and_l true b h = refl
and_l false b h = h

pub and_r : (a b : Bool) → a && b ≡ true → b ≡ true
and_r true b h = h
and_r false b h = ap (λ (x : Bool). cond x true b) h

pub and_i : (a b : Bool) → a ≡ true → b ≡ true → a && b ≡ true
and_i a b h k = rw (h, k)

pub modus : (a b : Bool) → implies a b ≡ true → a ≡ true → b ≡ true
modus true b h k = h
modus false b h k = ap (λ (x : Bool). cond x true b) k

pub bool_lt : (b : Bool) → bool_rank b < 2
bool_lt false = omega arith
bool_lt true = omega arith

pub bool-of : (b : Bool) → bool_of (bool_rank b) ≡ b
bool-of false = refl
bool-of true = refl
