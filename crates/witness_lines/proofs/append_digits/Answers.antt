-- `witness_lines::append_digits` meets its contract: there are at most 20. Assumes nothing.
use Rattle.std.proofs.Common.{rules}
use mathlib.Core.Path.{◌≡◌, sym}
use native.Mathlib.Omega.{arith}
use lib.ListN.{length}
use lib.Seq.{length-take-le}
use Rattle.witness_lines.proofs.append_digits.Goals as goal

pub slice_bounds-append-end : goal.slice_bounds-append-end
slice_bounds-append-end c = sym (length-take-le _ c.args.row c.requires.0)

pub append-requires : goal.append-requires
append-requires c = let row : length c.args.row ≡ 20 = search rules in
    omega (arith, row, c.requires.0, c.requires.1, length-take-le c.args.count c.args.row c.requires.0)

pub returns : goal.returns
returns c = let row : length c.args.row ≡ 20 = search rules in
    record { few = omega (arith, row, c.requires.0, length-take-le c.args.count c.args.row c.requires.0); appended = c.append.ensures }
