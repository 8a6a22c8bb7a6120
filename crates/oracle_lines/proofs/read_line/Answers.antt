-- `oracle_lines::read_line` meets its contract: a blank line, a heading, or a case. Assumes nothing.
use mathlib.Core.Path.{◌≡◌}
use Rattle.std.proofs.Common.{rules}
use lib.ListN.{length}
use Rattle.oracle_lines.proofs.Cases.{blank, heading, case-line, told-as}
use Rattle.oracle_lines.proofs.read_line.Goals as goal

pub returns-then-is_empty : goal.returns-then-is_empty
returns-then-is_empty c =
    let none : length c.args.line.now ≡ 0 = search rules in
    blank c.args.line.now none

pub returns-then-line-eq-HASH : goal.returns-then-line-eq-HASH
returns-then-line-eq-HASH c =
    let some : length c.args.line.now ≡ 0 → ⊥ = search rules in
    heading c.args.line.now some c.if-line-eq-HASH.true

pub returns-in-Some : goal.returns-in-Some
returns-in-Some c =
    let some : length c.args.line.now ≡ 0 → ⊥ = search rules in
    told-as (case-line c.args.line.now some c.if-line-eq-HASH.false) (rw c.in-Some.is at c.case_of.ensures)

pub returns-in-None : goal.returns-in-None
returns-in-None c =
    let some : length c.args.line.now ≡ 0 → ⊥ = search rules in
    told-as (case-line c.args.line.now some c.if-line-eq-HASH.false) (rw c.in-None.is at c.case_of.ensures)
