-- `trees::cast_type` meets its contract: a kind at a time. Assumes nothing.
use mathlib.Core.Path.{◌≡◌}
use native.Mathlib.Omega.{arith}
use Rattle.trees.specs.Tree.{find}
use Rattle.records.proofs.Arities.{past}
use Rattle.trees.proofs.cast_type.Goals as goal

pub returns-in-42 : goal.returns-in-42
unfolding find
returns-in-42 c = λ k. simp (c.in-42.is, c.cast_alt.ensures)

pub returns-in-43 : goal.returns-in-43
unfolding find
returns-in-43 c = λ k. simp (c.in-43.is, c.cast_swap.ensures)

pub returns-in-44 : goal.returns-in-44
unfolding find
returns-in-44 c = λ k. simp (c.in-44.is, c.cast_check.ensures)

pub returns-in-45 : goal.returns-in-45
unfolding find
returns-in-45 c = λ k. simp (c.in-45.is, c.cast_dupif.ensures)

pub returns-in-46 : goal.returns-in-46
unfolding find
returns-in-46 c = λ k. simp (c.in-46.is, c.cast_verify.ensures)

pub returns-in-47 : goal.returns-in-47
unfolding find
returns-in-47 c = λ k. simp (c.in-47.is, c.cast_nonzero.ensures)

pub returns-in_default : goal.returns-in_default
unfolding find
returns-in_default c = let l = past (past (past (past (past (past c.requires.0 c.in_default.in_default-own.rest.0.0.0.0.0.1) c.in_default.in_default-own.rest.0.0.0.0.1) c.in_default.in_default-own.rest.0.0.0.1) c.in_default.in_default-own.rest.0.0.1)
    c.in_default.in_default-own.rest.0.1) c.in_default.in_default-own.rest.1 in
    let e : c.args.kind ≡ 48 = omega (arith, l) in
    λ k. simp (e, c.cast_zeronotequal.ensures)
