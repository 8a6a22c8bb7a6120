use Rattle.std.proofs.Common.{rules}
use native.Mathlib.Omega.{arith}
use mathlib.Core.Path.{◌≡◌}
use lib.ListN.{length}
use Rattle.figure_rules.proofs.Ranges.{small, children}
use Rattle.figure_rules.proofs.figures_of.Goals as goal

pub cast-requires : goal.cast-requires
cast-requires c =
    let len : length c.args.children ≡ 16 = search rules in
    small c.requires.1 _ 0 (omega (arith, len))

pub pair-requires : goal.pair-requires
pair-requires c =
    let len : length c.args.children ≡ 16 = search rules in
    (small c.requires.1 _ 0 (omega (arith, len)), small c.requires.1 _ 1 (omega (arith, len)))

pub and_or-requires : goal.and_or-requires
and_or-requires c =
    let len : length c.args.children ≡ 16 = search rules in
    (small c.requires.1 _ 0 (omega (arith, len)), (small c.requires.1 _ 1 (omega (arith, len)), small c.requires.1 _ 2 (omega (arith, len))))

pub threshold-requires : goal.threshold-requires
threshold-requires c =
    let len : length c.args.children ≡ 16 = search rules in
    let b = c.requires.1.bounds (omega (arith, c.in-56.is)) in
    (omega (arith, b.0, b.1), (b.2, children c.requires.1 (omega (arith, b.2, len))))
