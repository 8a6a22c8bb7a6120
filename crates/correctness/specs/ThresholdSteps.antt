-- The steps of the loop of `threshold` in types/correctness.rs, one child after another. CorrectnessRules says what a threshold's
-- correctness is; the crate types shows that the two agree.
use Rattle.correctness.specs.declared.TypeError.{TypeError}
use Rattle.std.specs.Prelude.{true, ◌&&◌, Result}
use Rattle.correctness.specs.Names.{B, Zero, Correctness}
use Rattle.correctness.specs.declared.CorrectnessSoFar.{CorrectnessSoFar}
use Rattle.correctness.specs.Letters.{is_b, is_w}
use Rattle.correctness.specs.CorrectnessRules.{correctness, ok_if, or_b_input}

-- the elements that two children take are counted as for or_b
abbrev pub corr_first : Correctness → CorrectnessSoFar
corr_first c = record { fits = is_b c.base && (c.unit && c.dissatisfiable); input = or_b_input Zero c.input }

abbrev pub corr_next : CorrectnessSoFar → Correctness → CorrectnessSoFar
corr_next s c = record { fits = s.fits && (is_w c.base && (c.unit && c.dissatisfiable)); input = or_b_input s.input c.input }

abbrev pub corr_result : CorrectnessSoFar → Result Correctness TypeError
corr_result s = ok_if s.fits (correctness B s.input true true)
