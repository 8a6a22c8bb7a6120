-- The derived order of types, from the order of fields and variants in types/correctness.rs, malleability.rs and mod.rs, and the packed number.
use Rattle.std.specs.Prelude.{cond, ℕ, ◌+◌, ◌*◌, ◌/◌, ◌%◌, ltb, Option, None, Some}
use Rattle.contexts.specs.Bools.{bool_rank}
use Rattle.correctness.specs.Digits.{base_rank, input_rank, pack_corr, unpack_corr}
use Rattle.malleability.specs.Digits.{dissat_rank, unpack_mall}
use Rattle.types.specs.Names.{Correctness, Malleability, «Type», Ordering, Less, Equal, Greater}

-- the order: field by field, the first that differs decides

abbrev pub cmp_rank : ℕ → ℕ → Ordering
cmp_rank a b = cond (ltb a b) Less (cond (ltb b a) Greater Equal)

abbrev pub and_then : Ordering → Ordering → Ordering
and_then Less o = Less
and_then Equal o = o
and_then Greater o = Greater

abbrev pub cmp_corr : Correctness → Correctness → Ordering
cmp_corr x y =
    and_then (cmp_rank (base_rank x.base) (base_rank y.base))
    (and_then (cmp_rank (input_rank x.input) (input_rank y.input))
    (and_then (cmp_rank (bool_rank x.dissatisfiable) (bool_rank y.dissatisfiable))
    (cmp_rank (bool_rank x.unit) (bool_rank y.unit))))

abbrev pub cmp_mall : Malleability → Malleability → Ordering
cmp_mall x y =
    and_then (cmp_rank (dissat_rank x.dissat) (dissat_rank y.dissat))
    (and_then (cmp_rank (bool_rank x.safe) (bool_rank y.safe))
    (cmp_rank (bool_rank x.non_malleable) (bool_rank y.non_malleable)))

abbrev pub cmp_type : «Type» → «Type» → Ordering
cmp_type x y = and_then (cmp_corr x.corr y.corr) (cmp_mall x.mall y.mall)

-- the packed number: the ranks as digits of bases 4, 5, 2, 2, 3, 2, 2

abbrev pub pack : «Type» → ℕ
pack t =
    ((pack_corr t.corr * 3 + dissat_rank t.mall.dissat) * 2 + bool_rank t.mall.safe) * 2 + bool_rank t.mall.non_malleable

abbrev pub unpack : ℕ → Option «Type»
unpack n = cond (ltb n 960) (Some (record { corr = unpack_corr (n / 12); mall = unpack_mall (n % 12) })) None
