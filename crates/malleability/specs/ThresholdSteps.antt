-- The steps of the loop of `threshold` in types/malleability.rs, one child after another. MalleabilityRules says what a threshold's
-- malleability is; the crate types shows that the two agree.
use Rattle.std.specs.Prelude.{Bool, cond, ◌&&◌, ℕ, ◌+◌, ltb, leb, eqb}
use Rattle.contexts.specs.Lists.{one}
use Rattle.malleability.specs.Names.{Malleability}
use Rattle.malleability.specs.declared.MalleabilitySoFar.{MalleabilitySoFar}
use Rattle.malleability.specs.Letters.{is_unique}
use Rattle.malleability.specs.MalleabilityRules.{malleability, unique_if}

abbrev pub mall_first : Malleability → MalleabilitySoFar
mall_first m = record { safe_count = one m.safe; all_unique = is_unique m.dissat; all_non_malleable = m.non_malleable }

-- one more, if s, of at most 16
abbrev pub counted : ℕ → Bool → ℕ
counted n s = cond s (cond (ltb n 16) (n + 1) n) n

abbrev pub mall_next : MalleabilitySoFar → Malleability → MalleabilitySoFar
mall_next s m =
    record {
      safe_count = counted s.safe_count m.safe;
      all_unique = s.all_unique && is_unique m.dissat;
      all_non_malleable = s.all_non_malleable && m.non_malleable;
    }

-- of n children, all but `others` are to be satisfied
abbrev pub mall_result : MalleabilitySoFar → ℕ → ℕ → Malleability
mall_result s n others =
    malleability (unique_if (s.all_unique && eqb s.safe_count n))
    (ltb others s.safe_count)
    ((s.all_non_malleable && leb others s.safe_count) && s.all_unique)
