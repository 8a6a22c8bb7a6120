-- When one type is a subtype of another, from `is_subtype` in types/mod.rs.
use Rattle.std.specs.Prelude.{Bool, ◌&&◌}
use Rattle.correctness.specs.Subtype.{corr_sub}
use Rattle.malleability.specs.Subtype.{mall_sub}
use Rattle.types.specs.Names.{«Type»}

abbrev pub type_sub : «Type» → «Type» → Bool
type_sub x y = corr_sub x.corr y.corr && mall_sub x.mall y.mall
