-- The digits of a packed word: the lowest one, and the rest. Assumes nothing.
use mathlib.Core.Path.{◌≡◌, ◌∙◌}
use Prim.Native.Nat.{ℕ, ◌+◌, ◌*◌, ◌/◌, ◌%◌, ◌<◌}
use native.Mathlib.Omega.{arith}
use native.Mathlib.Nat.{add-mul-mod_self_right, mod-eq_of_lt, add-mul-div_right, div-eq_of_lt}

pub digit : (k x y : ℕ) → x < k → (x + y * k) % k ≡ x
digit k x y h = add-mul-mod_self_right x y k ∙ mod-eq_of_lt h

pub rest : (k x y : ℕ) → x < k → (x + y * k) / k ≡ y
rest k x y h =
    let e : (x + y * k) / k ≡ x / k + y = add-mul-div_right x y (omega arith) in
    let z : x / k ≡ 0 = div-eq_of_lt h in
    omega arith
