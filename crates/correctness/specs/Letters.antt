-- Tests that the rules share, from `matches!`, `constfn_eq` and `>=` in types/correctness.rs.
use Rattle.std.specs.Prelude.{Bool, true, false}
use Rattle.correctness.specs.Names.{Base, B, K, «V», W, Input, Zero, One, Any, OneNonZero, AnyNonZero}

abbrev pub is_b : Base → Bool
is_b B = true
is_b K = false
is_b «V» = false
is_b W = false

abbrev pub is_k : Base → Bool
is_k B = false
is_k K = true
is_k «V» = false
is_k W = false

abbrev pub is_v : Base → Bool
is_v B = false
is_v K = false
is_v «V» = true
is_v W = false

abbrev pub is_w : Base → Bool
is_w B = false
is_w K = false
is_w «V» = false
is_w W = true

abbrev pub base_eq : Base → Base → Bool
base_eq a B = is_b a
base_eq a K = is_k a
base_eq a «V» = is_v a
base_eq a W = is_w a

-- z: takes nothing
abbrev pub is_zero : Input → Bool
is_zero Zero = true
is_zero One = false
is_zero Any = false
is_zero OneNonZero = false
is_zero AnyNonZero = false

-- o: takes exactly one element
abbrev pub is_one : Input → Bool
is_one Zero = false
is_one One = true
is_one Any = false
is_one OneNonZero = true
is_one AnyNonZero = false

-- n: takes an element that a satisfaction has nonzero
abbrev pub is_non_zero : Input → Bool
is_non_zero Zero = false
is_non_zero One = false
is_non_zero Any = false
is_non_zero OneNonZero = true
is_non_zero AnyNonZero = true

-- none of z, o and n
abbrev pub is_any : Input → Bool
is_any Zero = false
is_any One = false
is_any Any = true
is_any OneNonZero = false
is_any AnyNonZero = false
