-- What a candidate costs, in three cases: a finite cost, never, or not a cost. From document 02, R-2, and document 01, "Numbers the console shows"
-- (NotACost) and "Modules, leaves first", 5 (costs order as their bits do). Assumes nothing.
use Rattle.std.specs.Prelude.{ℕ, Bool, true, false, cond, nat_le, Float}
use Rattle.std.specs.Float.{nan, inf, fin}
use Rattle.words.specs.Floats.{word_of_float}
use Rattle.costs.specs.Names.{Price, Finite, Never, NotACost}
use Rattle.costs.specs.Arithmetic.{◌⊖◌}

-- what a float says: infinity is never; a NaN, or what has its sign bit set, is not a cost
abbrev pub price_of : Float → Price
price_of nan = NotACost
price_of (inf sign) = cond sign NotACost Never
price_of (fin sign mantissa exponent) = cond sign NotACost (Finite (fin sign mantissa exponent))

-- a cost that is not refused
abbrev pub is_price : Price → Bool
is_price (Finite x) = true
is_price Never = true
is_price NotACost = false

-- the same cost or a lower one: finite costs as their bits order, each of them below never, and never beside never
abbrev pub at_most : Price → Price → Bool
at_most (Finite a) (Finite b) = nat_le (word_of_float a) (word_of_float b)
at_most (Finite a) Never = true
at_most (Finite a) NotACost = false
at_most Never (Finite b) = false
at_most Never Never = true
at_most Never NotACost = false
at_most NotACost b = false

-- by how much a cost exceeds another, where the least excess is sought: a finite one falls short of never without bound, and never exceeds whatever
-- stands beside it by infinity, which is less than nothing; so never against never is not sought either
abbrev pub excess : Price → Price → Float
excess (Finite a) (Finite b) = a ⊖ b
excess (Finite a) Never = inf true
excess (Finite a) NotACost = inf false
excess Never b = inf false
excess NotACost b = inf false

-- what is told of a cost: its bits, and whether it is never, in which case the bits are 0

abbrev pub cost_bits : Price → ℕ
cost_bits (Finite x) = word_of_float x
cost_bits Never = 0
cost_bits NotACost = 0

abbrev pub never_flag : Price → ℕ
never_flag (Finite x) = 0
never_flag Never = 1
never_flag NotACost = 0
