-- When two probabilities of dissatisfaction are one: both are asked for and equal as IEEE 754 compares them, or neither is. From the key of
-- `PolicyCache` in policy/compiler.rs. Assumes nothing.
use Rattle.std.specs.Prelude.{Bool, true, false, Float, Option, None, Some}
use Rattle.std.specs.Float.Ieee.{eq}

abbrev pub same_prob : Option Float → Option Float → Bool
same_prob (Some p) (Some q) = eq p q
same_prob (Some p) None = false
same_prob None (Some q) = false
same_prob None None = true
