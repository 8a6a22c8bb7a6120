-- `names::kind_name` meets its contract: row by row of the table. Assumes nothing.
use Rattle.std.proofs.Common.{ap, sym}
use Rattle.names.specs.Text.{in_places}
use Rattle.names.specs.Names.{name_in}
use Rattle.names.proofs.Tables.{none, passed, unnamed}
use Rattle.names.proofs.kind_name.Goals as goal

pub returns-in-32 : goal.returns-in-32
unfolding name_in
returns-in-32 c = rw c.in-32.is

pub returns-in-33 : goal.returns-in-33
unfolding name_in
returns-in-33 c = rw c.in-33.is

pub returns-in-34 : goal.returns-in-34
unfolding name_in
returns-in-34 c = rw c.in-34.is

pub returns-in-35 : goal.returns-in-35
unfolding name_in
returns-in-35 c = rw c.in-35.is

pub returns-in-36 : goal.returns-in-36
unfolding name_in
returns-in-36 c = rw c.in-36.is

pub returns-in-37 : goal.returns-in-37
unfolding name_in
returns-in-37 c = rw c.in-37.is

pub returns-in-38 : goal.returns-in-38
unfolding name_in
returns-in-38 c = rw c.in-38.is

pub returns-in-39 : goal.returns-in-39
unfolding name_in
returns-in-39 c = rw c.in-39.is

pub returns-in-40 : goal.returns-in-40
unfolding name_in
returns-in-40 c = rw c.in-40.is

pub returns-in-41 : goal.returns-in-41
unfolding name_in
returns-in-41 c = rw c.in-41.is

pub returns-in-42 : goal.returns-in-42
unfolding name_in
returns-in-42 c = rw c.in-42.is

pub returns-in-43 : goal.returns-in-43
unfolding name_in
returns-in-43 c = rw c.in-43.is

pub returns-in-44 : goal.returns-in-44
unfolding name_in
returns-in-44 c = rw c.in-44.is

pub returns-in-45 : goal.returns-in-45
unfolding name_in
returns-in-45 c = rw c.in-45.is

pub returns-in-46 : goal.returns-in-46
unfolding name_in
returns-in-46 c = rw c.in-46.is

pub returns-in-47 : goal.returns-in-47
unfolding name_in
returns-in-47 c = rw c.in-47.is

pub returns-in-48 : goal.returns-in-48
unfolding name_in
returns-in-48 c = rw c.in-48.is

pub returns-in-49 : goal.returns-in-49
unfolding name_in
returns-in-49 c = rw c.in-49.is

pub returns-in-50 : goal.returns-in-50
unfolding name_in
returns-in-50 c = rw c.in-50.is

pub returns-in-51 : goal.returns-in-51
unfolding name_in
returns-in-51 c = rw c.in-51.is

pub returns-in-52 : goal.returns-in-52
unfolding name_in
returns-in-52 c = rw c.in-52.is

pub returns-in-53 : goal.returns-in-53
unfolding name_in
returns-in-53 c = rw c.in-53.is

pub returns-in-54 : goal.returns-in-54
unfolding name_in
returns-in-54 c = rw c.in-54.is

pub returns-in-55 : goal.returns-in-55
unfolding name_in
returns-in-55 c = rw c.in-55.is

pub returns-in-56 : goal.returns-in-56
unfolding name_in
returns-in-56 c = rw c.in-56.is

pub returns-in-57 : goal.returns-in-57
unfolding name_in
returns-in-57 c = rw c.in-57.is

pub returns-in-58 : goal.returns-in-58
unfolding name_in
returns-in-58 c = rw c.in-58.is

pub returns-in_default : goal.returns-in_default
returns-in_default c =
    ap (in_places 12) (sym (unnamed
    (passed c.in_default.in_default-own.rest.0.0.0.0.0.0.0.0.0.0.0.0.0.0.0.0.0.0.0.0.0.0.0.0.0.0.1
    (passed c.in_default.in_default-own.rest.0.0.0.0.0.0.0.0.0.0.0.0.0.0.0.0.0.0.0.0.0.0.0.0.0.1
    (passed c.in_default.in_default-own.rest.0.0.0.0.0.0.0.0.0.0.0.0.0.0.0.0.0.0.0.0.0.0.0.0.1
    (passed c.in_default.in_default-own.rest.0.0.0.0.0.0.0.0.0.0.0.0.0.0.0.0.0.0.0.0.0.0.0.1
    (passed c.in_default.in_default-own.rest.0.0.0.0.0.0.0.0.0.0.0.0.0.0.0.0.0.0.0.0.0.0.1
    (passed c.in_default.in_default-own.rest.0.0.0.0.0.0.0.0.0.0.0.0.0.0.0.0.0.0.0.0.0.1
    (passed c.in_default.in_default-own.rest.0.0.0.0.0.0.0.0.0.0.0.0.0.0.0.0.0.0.0.0.1
    (passed c.in_default.in_default-own.rest.0.0.0.0.0.0.0.0.0.0.0.0.0.0.0.0.0.0.0.1
    (passed c.in_default.in_default-own.rest.0.0.0.0.0.0.0.0.0.0.0.0.0.0.0.0.0.0.1
    (passed c.in_default.in_default-own.rest.0.0.0.0.0.0.0.0.0.0.0.0.0.0.0.0.0.1
    (passed c.in_default.in_default-own.rest.0.0.0.0.0.0.0.0.0.0.0.0.0.0.0.0.1
    (passed c.in_default.in_default-own.rest.0.0.0.0.0.0.0.0.0.0.0.0.0.0.0.1
    (passed c.in_default.in_default-own.rest.0.0.0.0.0.0.0.0.0.0.0.0.0.0.1
    (passed c.in_default.in_default-own.rest.0.0.0.0.0.0.0.0.0.0.0.0.0.1
    (passed c.in_default.in_default-own.rest.0.0.0.0.0.0.0.0.0.0.0.0.1
    (passed c.in_default.in_default-own.rest.0.0.0.0.0.0.0.0.0.0.0.1
    (passed c.in_default.in_default-own.rest.0.0.0.0.0.0.0.0.0.0.1
    (passed c.in_default.in_default-own.rest.0.0.0.0.0.0.0.0.0.1
    (passed c.in_default.in_default-own.rest.0.0.0.0.0.0.0.0.1
    (passed c.in_default.in_default-own.rest.0.0.0.0.0.0.0.1
    (passed c.in_default.in_default-own.rest.0.0.0.0.0.0.1
    (passed c.in_default.in_default-own.rest.0.0.0.0.0.1
    (passed c.in_default.in_default-own.rest.0.0.0.0.1
    (passed c.in_default.in_default-own.rest.0.0.0.1
    (passed c.in_default.in_default-own.rest.0.0.1
    (passed c.in_default.in_default-own.rest.0.1
    (passed c.in_default.in_default-own.rest.1
    none)))))))))))))))))))))))))))))
