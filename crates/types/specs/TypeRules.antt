-- The type rules, from types/mod.rs, in its order and under its names: a fragment is well-typed where its correctness rule answers.
use Rattle.correctness.specs.declared.Correctness.{Correctness}
use Rattle.correctness.specs.declared.TypeError.{TypeError}
use Rattle.std.specs.Prelude.{Bool, true, false, ◌&&◌, List, map, ℕ, leb, length, take, Result, Err, Ok}
use Rattle.contexts.specs.declared.Context.{Context}
use Rattle.types.specs.Names.{Malleability, «Type»}
use Rattle.correctness.specs.CorrectnessRules as corr
use Rattle.malleability.specs.MalleabilityRules as mall

abbrev pub typed : Result Correctness TypeError → Malleability → Result «Type» TypeError
typed (Ok c) m = Ok (record { corr = c; mall = m })
typed (Err e) m = Err e

-- constructors

abbrev pub TRUE : «Type»
TRUE = record { corr = corr.TRUE; mall = mall.TRUE }

abbrev pub FALSE : «Type»
FALSE = record { corr = corr.FALSE; mall = mall.FALSE }

abbrev pub pk_k : «Type»
pk_k = record { corr = corr.pk_k; mall = mall.pk_k }

abbrev pub pk_h : «Type»
pk_h = record { corr = corr.pk_h; mall = mall.pk_h }

abbrev pub multi : «Type»
multi = record { corr = corr.multi; mall = mall.multi }

abbrev pub multi_a : «Type»
multi_a = record { corr = corr.multi_a; mall = mall.multi_a }

abbrev pub hash : «Type»
hash = record { corr = corr.hash; mall = mall.hash }

abbrev pub time : «Type»
time = record { corr = corr.time; mall = mall.time }

-- casts

abbrev pub cast_alt : «Type» → Result «Type» TypeError
cast_alt t = typed (corr.cast_alt t.corr) (mall.cast_alt t.mall)

abbrev pub cast_swap : «Type» → Result «Type» TypeError
cast_swap t = typed (corr.cast_swap t.corr) (mall.cast_swap t.mall)

abbrev pub cast_check : «Type» → Result «Type» TypeError
cast_check t = typed (corr.cast_check t.corr) (mall.cast_check t.mall)

abbrev pub cast_dupif : Context → «Type» → Result «Type» TypeError
cast_dupif context t = typed (corr.cast_dupif context t.corr) (mall.cast_dupif t.mall)

abbrev pub cast_verify : «Type» → Result «Type» TypeError
cast_verify t = typed (corr.cast_verify t.corr) (mall.cast_verify t.mall)

abbrev pub cast_nonzero : «Type» → Result «Type» TypeError
cast_nonzero t = typed (corr.cast_nonzero t.corr) (mall.cast_nonzero t.mall)

abbrev pub cast_zeronotequal : «Type» → Result «Type» TypeError
cast_zeronotequal t = typed (corr.cast_zeronotequal t.corr) (mall.cast_zeronotequal t.mall)

abbrev pub cast_true : «Type» → Result «Type» TypeError
cast_true t = typed (corr.cast_true t.corr) (mall.cast_true t.mall)

abbrev pub cast_unlikely : «Type» → Result «Type» TypeError
cast_unlikely t = typed (corr.cast_or_i_false t.corr) (mall.cast_or_i_false t.mall)

abbrev pub cast_likely : «Type» → Result «Type» TypeError
cast_likely t = typed (corr.cast_or_i_false t.corr) (mall.cast_or_i_false t.mall)

-- pairs and triples

abbrev pub and_b : «Type» → «Type» → Result «Type» TypeError
and_b x y = typed (corr.and_b x.corr y.corr) (mall.and_b x.mall y.mall)

abbrev pub and_v : «Type» → «Type» → Result «Type» TypeError
and_v x y = typed (corr.and_v x.corr y.corr) (mall.and_v x.mall y.mall)

abbrev pub or_b : «Type» → «Type» → Result «Type» TypeError
or_b x y = typed (corr.or_b x.corr y.corr) (mall.or_b x.mall y.mall)

abbrev pub or_d : «Type» → «Type» → Result «Type» TypeError
or_d x y = typed (corr.or_d x.corr y.corr) (mall.or_d x.mall y.mall)

abbrev pub or_c : «Type» → «Type» → Result «Type» TypeError
or_c x y = typed (corr.or_c x.corr y.corr) (mall.or_c x.mall y.mall)

abbrev pub or_i : «Type» → «Type» → Result «Type» TypeError
or_i x y = typed (corr.or_i x.corr y.corr) (mall.or_i x.mall y.mall)

abbrev pub and_or : «Type» → «Type» → «Type» → Result «Type» TypeError
and_or x y z = typed (corr.and_or x.corr y.corr z.corr) (mall.and_or x.mall y.mall z.mall)

-- any number of children: well-typed only where 1 ≤ k ≤ n ≤ 16, n the number of children

abbrev pub typed_if : Bool → Result «Type» TypeError → Result «Type» TypeError
typed_if true r = r
typed_if false r = Err TypeError.IllTyped

abbrev pub k_of_n : ℕ → ℕ → Bool
k_of_n k n = leb 1 k && (leb k n && leb n 16)

abbrev pub threshold : ℕ → List «Type» → Result «Type» TypeError
threshold k ts = typed_if (k_of_n k (length ts)) (typed (corr.threshold (map (λ t. t.corr) ts)) (mall.threshold k (map (λ t. t.mall) ts)))

-- the same of the first n types of an array
abbrev pub threshold_of : ℕ → ℕ → List «Type» → Result «Type» TypeError
threshold_of k n ts = typed_if (leb n 16) (threshold k (take n ts))
