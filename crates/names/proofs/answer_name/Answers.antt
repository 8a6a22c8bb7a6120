-- `names::answer_name` meets its contract: row by row of the table. Assumes nothing.
use Rattle.std.proofs.Common.{ap, sym}
use Rattle.names.specs.Text.{in_places}
use Rattle.names.specs.Names.{name_in}
use Rattle.names.proofs.Tables.{none, passed, unnamed}
use Rattle.names.proofs.answer_name.Goals as goal

pub returns-in-0 : goal.returns-in-0
unfolding name_in
returns-in-0 c = rw c.in-0.is

pub returns-in-1 : goal.returns-in-1
unfolding name_in
returns-in-1 c = rw c.in-1.is

pub returns-in-2 : goal.returns-in-2
unfolding name_in
returns-in-2 c = rw c.in-2.is

pub returns-in-3 : goal.returns-in-3
unfolding name_in
returns-in-3 c = rw c.in-3.is

pub returns-in-4 : goal.returns-in-4
unfolding name_in
returns-in-4 c = rw c.in-4.is

pub returns-in-5 : goal.returns-in-5
unfolding name_in
returns-in-5 c = rw c.in-5.is

pub returns-in-6 : goal.returns-in-6
unfolding name_in
returns-in-6 c = rw c.in-6.is

pub returns-in-7 : goal.returns-in-7
unfolding name_in
returns-in-7 c = rw c.in-7.is

pub returns-in-8 : goal.returns-in-8
unfolding name_in
returns-in-8 c = rw c.in-8.is

pub returns-in-9 : goal.returns-in-9
unfolding name_in
returns-in-9 c = rw c.in-9.is

pub returns-in-10 : goal.returns-in-10
unfolding name_in
returns-in-10 c = rw c.in-10.is

pub returns-in-11 : goal.returns-in-11
unfolding name_in
returns-in-11 c = rw c.in-11.is

pub returns-in-12 : goal.returns-in-12
unfolding name_in
returns-in-12 c = rw c.in-12.is

pub returns-in-13 : goal.returns-in-13
unfolding name_in
returns-in-13 c = rw c.in-13.is

pub returns-in-14 : goal.returns-in-14
unfolding name_in
returns-in-14 c = rw c.in-14.is

pub returns-in-15 : goal.returns-in-15
unfolding name_in
returns-in-15 c = rw c.in-15.is

pub returns-in-16 : goal.returns-in-16
unfolding name_in
returns-in-16 c = rw c.in-16.is

pub returns-in-17 : goal.returns-in-17
unfolding name_in
returns-in-17 c = rw c.in-17.is

pub returns-in-18 : goal.returns-in-18
unfolding name_in
returns-in-18 c = rw c.in-18.is

pub returns-in-19 : goal.returns-in-19
unfolding name_in
returns-in-19 c = rw c.in-19.is

pub returns-in-20 : goal.returns-in-20
unfolding name_in
returns-in-20 c = rw c.in-20.is

pub returns-in-21 : goal.returns-in-21
unfolding name_in
returns-in-21 c = rw c.in-21.is

pub returns-in-22 : goal.returns-in-22
unfolding name_in
returns-in-22 c = rw c.in-22.is

pub returns-in-23 : goal.returns-in-23
unfolding name_in
returns-in-23 c = rw c.in-23.is

pub returns-in-24 : goal.returns-in-24
unfolding name_in
returns-in-24 c = rw c.in-24.is

pub returns-in-25 : goal.returns-in-25
unfolding name_in
returns-in-25 c = rw c.in-25.is

pub returns-in-26 : goal.returns-in-26
unfolding name_in
returns-in-26 c = rw c.in-26.is

pub returns-in_default : goal.returns-in_default
returns-in_default c =
    ap (in_places 16) (sym (unnamed
    (passed c.in_default.in_default-own.rest.0.0.0.0.0.0.0.0.0.0.0.0.0.0.0.0.0.0.0.0.0.0.0.0.0.0.1
    (passed c.in_default.in_default-own.rest.0.0.0.0.0.0.0.0.0.0.0.0.0.0.0.0.0.0.0.0.0.0.0.0.0.1
    (passed c.in_default.in_default-own.rest.0.0.0.0.0.0.0.0.0.0.0.0.0.0.0.0.0.0.0.0.0.0.0.0.1
    (passed c.in_default.in_default-own.rest.0.0.0.0.0.0.0.0.0.0.0.0.0.0.0.0.0.0.0.0.0.0.0.1
    (passed c.in_default.in_default-own.rest.0.0.0.0.0.0.0.0.0.0.0.0.0.0.0.0.0.0.0.0.0.0.1
    (passed c.in_default.in_default-own.rest.0.0.0.0.0.0.0.0.0.0.0.0.0.0.0.0.0.0.0.0.0.1
    (passed c.in_default.in_default-own.rest.0.0.0.0.0.0.0.0.0.0.0.0.0.0.0.0.0.0.0.0.1
    (passed c.in_default.in_default-own.rest.0.0.0.0.0.0.0.0.0.0.0.0.0.0.0.0.0.0.0.1
    (passed c.in_default.in_default-own.rest.0.0.0.0.0.0.0.0.0.0.0.0.0.0.0.0.0.0.1
    (passed c.in_default.in_default-own.rest.0.0.0.0.0.0.0.0.0.0.0.0.0.0.0.0.0.1
    (passed c.in_default.in_default-own.rest.0.0.0.0.0.0.0.0.0.0.0.0.0.0.0.0.1
    (passed c.in_default.in_default-own.rest.0.0.0.0.0.0.0.0.0.0.0.0.0.0.0.1
    (passed c.in_default.in_default-own.rest.0.0.0.0.0.0.0.0.0.0.0.0.0.0.1
    (passed c.in_default.in_default-own.rest.0.0.0.0.0.0.0.0.0.0.0.0.0.1
    (passed c.in_default.in_default-own.rest.0.0.0.0.0.0.0.0.0.0.0.0.1
    (passed c.in_default.in_default-own.rest.0.0.0.0.0.0.0.0.0.0.0.1
    (passed c.in_default.in_default-own.rest.0.0.0.0.0.0.0.0.0.0.1
    (passed c.in_default.in_default-own.rest.0.0.0.0.0.0.0.0.0.1
    (passed c.in_default.in_default-own.rest.0.0.0.0.0.0.0.0.1
    (passed c.in_default.in_default-own.rest.0.0.0.0.0.0.0.1
    (passed c.in_default.in_default-own.rest.0.0.0.0.0.0.1
    (passed c.in_default.in_default-own.rest.0.0.0.0.0.1
    (passed c.in_default.in_default-own.rest.0.0.0.0.1
    (passed c.in_default.in_default-own.rest.0.0.0.1
    (passed c.in_default.in_default-own.rest.0.0.1
    (passed c.in_default.in_default-own.rest.0.1
    (passed c.in_default.in_default-own.rest.1
    none)))))))))))))))))))))))))))))
