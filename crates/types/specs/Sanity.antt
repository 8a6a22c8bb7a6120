-- The checks that every type of a fragment passes, from `sanity_checks` in types/correctness.rs and types/mod.rs.
use Rattle.correctness.specs.declared.TypeError.{TypeError}
use Rattle.std.specs.Prelude.{Bool, true, not, ◌&&◌, Result, Ok, Err}
use Rattle.types.specs.Names.{Correctness, «Type»}
use Rattle.correctness.specs.Letters.{is_k, is_v, is_w, is_zero, is_non_zero, is_any}
use Rattle.malleability.specs.Letters.{is_none, is_unique}
use Rattle.contexts.specs.Bools.{implies}

abbrev pub sane_corr : Correctness → Bool
sane_corr c =
    implies (is_k c.base) c.unit
    && (implies (is_v c.base) (not c.unit && not c.dissatisfiable)
    && implies (is_w c.base) (not (is_non_zero c.input)))

abbrev pub sane : «Type» → Bool
sane t =
    sane_corr t.corr
    && (implies t.corr.dissatisfiable (not (is_none t.mall.dissat))
    && (implies (is_v t.corr.base) (is_none t.mall.dissat)
    && (implies (is_k t.corr.base) t.mall.safe
    && implies (is_zero t.corr.input) t.mall.non_malleable)))

-- What the rules keep. The checks alone are not kept: an or_d of two dissatisfiable z that are not safe would be z and malleable.
-- Such a z is a 0: its dissatisfaction is unique and it is safe. Besides, a K takes its signature, and a W is always Any.
abbrev pub arises : «Type» → Bool
arises t =
    sane t
    && (implies (is_zero t.corr.input && t.corr.dissatisfiable) (is_unique t.mall.dissat && t.mall.safe)
    && (implies (is_k t.corr.base) (not (is_zero t.corr.input))
    && implies (is_w t.corr.base) (is_any t.corr.input)))

abbrev pub arises_if_typed : Result «Type» TypeError → Bool
arises_if_typed (Ok t) = arises t
arises_if_typed (Err e) = true
