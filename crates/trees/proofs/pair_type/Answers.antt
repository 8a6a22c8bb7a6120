-- `trees::pair_type` meets its contract: a kind at a time. Assumes nothing.
use mathlib.Core.Path.{◌≡◌}
use native.Mathlib.Omega.{arith}
use Rattle.trees.specs.Tree.{find}
use Rattle.records.proofs.Arities.{past}
use Rattle.trees.proofs.pair_type.Goals as goal

pub returns-in-49 : goal.returns-in-49
unfolding find
returns-in-49 c = λ context k. simp (c.in-49.is, c.and_b.ensures)

pub returns-in-50 : goal.returns-in-50
unfolding find
returns-in-50 c = λ context k. simp (c.in-50.is, c.and_v.ensures)

pub returns-in-51 : goal.returns-in-51
unfolding find
returns-in-51 c = λ context k. simp (c.in-51.is, c.or_b.ensures)

pub returns-in-52 : goal.returns-in-52
unfolding find
returns-in-52 c = λ context k. simp (c.in-52.is, c.or_d.ensures)

pub returns-in-53 : goal.returns-in-53
unfolding find
returns-in-53 c = λ context k. simp (c.in-53.is, c.or_c.ensures)

pub returns-in_default : goal.returns-in_default
unfolding find
returns-in_default c = let l = past (past (past (past (past c.requires.0 c.in_default.in_default-own.rest.0.0.0.0.1) c.in_default.in_default-own.rest.0.0.0.1) c.in_default.in_default-own.rest.0.0.1) c.in_default.in_default-own.rest.0.1) c.in_default.in_default-own.rest.1 in
    let e : c.args.kind ≡ 54 = omega (arith, l) in
    λ context k. simp (e, c.or_i.ensures)
