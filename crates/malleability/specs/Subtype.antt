-- When one malleability is a subtype of another, from `is_subtype` in types/malleability.rs.
use Rattle.std.specs.Prelude.{Bool, true, ◌&&◌}
use Rattle.contexts.specs.Bools.{implies}
use Rattle.malleability.specs.Names.{Dissat, None, Unique, Unknown, Malleability}
use Rattle.malleability.specs.Letters.{is_none, is_unique}

-- every dissat is a subtype of itself and of Unknown
abbrev pub dissat_sub : Dissat → Dissat → Bool
dissat_sub a None = is_none a
dissat_sub a Unique = is_unique a
dissat_sub a Unknown = true

abbrev pub mall_sub : Malleability → Malleability → Bool
mall_sub x y = dissat_sub x.dissat y.dissat && (implies y.safe x.safe && implies y.non_malleable x.non_malleable)
