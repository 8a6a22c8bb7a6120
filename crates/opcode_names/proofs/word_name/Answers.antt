-- `opcode_names::word_name` meets its contract: row by row of the table. Assumes nothing.
use Rattle.std.proofs.Common.{ap, sym}
use Rattle.names.specs.Text.{in_places}
use Rattle.names.specs.Names.{name_in}
use Rattle.names.proofs.Tables.{none, passed, unnamed}
use Rattle.opcode_names.proofs.word_name.Goals as goal

pub returns-in-0 : goal.returns-in-0
unfolding name_in
returns-in-0 c = rw c.in-0.is

pub returns-in-99 : goal.returns-in-99
unfolding name_in
returns-in-99 c = rw c.in-99.is

pub returns-in-100 : goal.returns-in-100
unfolding name_in
returns-in-100 c = rw c.in-100.is

pub returns-in-103 : goal.returns-in-103
unfolding name_in
returns-in-103 c = rw c.in-103.is

pub returns-in-104 : goal.returns-in-104
unfolding name_in
returns-in-104 c = rw c.in-104.is

pub returns-in-105 : goal.returns-in-105
unfolding name_in
returns-in-105 c = rw c.in-105.is

pub returns-in-107 : goal.returns-in-107
unfolding name_in
returns-in-107 c = rw c.in-107.is

pub returns-in-108 : goal.returns-in-108
unfolding name_in
returns-in-108 c = rw c.in-108.is

pub returns-in-115 : goal.returns-in-115
unfolding name_in
returns-in-115 c = rw c.in-115.is

pub returns-in-118 : goal.returns-in-118
unfolding name_in
returns-in-118 c = rw c.in-118.is

pub returns-in-124 : goal.returns-in-124
unfolding name_in
returns-in-124 c = rw c.in-124.is

pub returns-in-130 : goal.returns-in-130
unfolding name_in
returns-in-130 c = rw c.in-130.is

pub returns-in-135 : goal.returns-in-135
unfolding name_in
returns-in-135 c = rw c.in-135.is

pub returns-in-136 : goal.returns-in-136
unfolding name_in
returns-in-136 c = rw c.in-136.is

pub returns-in-146 : goal.returns-in-146
unfolding name_in
returns-in-146 c = rw c.in-146.is

pub returns-in-147 : goal.returns-in-147
unfolding name_in
returns-in-147 c = rw c.in-147.is

pub returns-in-154 : goal.returns-in-154
unfolding name_in
returns-in-154 c = rw c.in-154.is

pub returns-in-155 : goal.returns-in-155
unfolding name_in
returns-in-155 c = rw c.in-155.is

pub returns-in-156 : goal.returns-in-156
unfolding name_in
returns-in-156 c = rw c.in-156.is

pub returns-in-157 : goal.returns-in-157
unfolding name_in
returns-in-157 c = rw c.in-157.is

pub returns-in-166 : goal.returns-in-166
unfolding name_in
returns-in-166 c = rw c.in-166.is

pub returns-in-168 : goal.returns-in-168
unfolding name_in
returns-in-168 c = rw c.in-168.is

pub returns-in-169 : goal.returns-in-169
unfolding name_in
returns-in-169 c = rw c.in-169.is

pub returns-in-170 : goal.returns-in-170
unfolding name_in
returns-in-170 c = rw c.in-170.is

pub returns-in-172 : goal.returns-in-172
unfolding name_in
returns-in-172 c = rw c.in-172.is

pub returns-in-173 : goal.returns-in-173
unfolding name_in
returns-in-173 c = rw c.in-173.is

pub returns-in-174 : goal.returns-in-174
unfolding name_in
returns-in-174 c = rw c.in-174.is

pub returns-in-175 : goal.returns-in-175
unfolding name_in
returns-in-175 c = rw c.in-175.is

pub returns-in-177 : goal.returns-in-177
unfolding name_in
returns-in-177 c = rw c.in-177.is

pub returns-in-178 : goal.returns-in-178
unfolding name_in
returns-in-178 c = rw c.in-178.is

pub returns-in-186 : goal.returns-in-186
unfolding name_in
returns-in-186 c = rw c.in-186.is

pub returns-in_default : goal.returns-in_default
returns-in_default c =
    ap (in_places 22) (sym (unnamed
    (passed c.in_default.in_default-own.rest.0.0.0.0.0.0.0.0.0.0.0.0.0.0.0.0.0.0.0.0.0.0.0.0.0.0.0.0.0.0.1
    (passed c.in_default.in_default-own.rest.0.0.0.0.0.0.0.0.0.0.0.0.0.0.0.0.0.0.0.0.0.0.0.0.0.0.0.0.0.1
    (passed c.in_default.in_default-own.rest.0.0.0.0.0.0.0.0.0.0.0.0.0.0.0.0.0.0.0.0.0.0.0.0.0.0.0.0.1
    (passed c.in_default.in_default-own.rest.0.0.0.0.0.0.0.0.0.0.0.0.0.0.0.0.0.0.0.0.0.0.0.0.0.0.0.1
    (passed c.in_default.in_default-own.rest.0.0.0.0.0.0.0.0.0.0.0.0.0.0.0.0.0.0.0.0.0.0.0.0.0.0.1
    (passed c.in_default.in_default-own.rest.0.0.0.0.0.0.0.0.0.0.0.0.0.0.0.0.0.0.0.0.0.0.0.0.0.1
    (passed c.in_default.in_default-own.rest.0.0.0.0.0.0.0.0.0.0.0.0.0.0.0.0.0.0.0.0.0.0.0.0.1
    (passed c.in_default.in_default-own.rest.0.0.0.0.0.0.0.0.0.0.0.0.0.0.0.0.0.0.0.0.0.0.0.1
    (passed c.in_default.in_default-own.rest.0.0.0.0.0.0.0.0.0.0.0.0.0.0.0.0.0.0.0.0.0.0.1
    (passed c.in_default.in_default-own.rest.0.0.0.0.0.0.0.0.0.0.0.0.0.0.0.0.0.0.0.0.0.1
    (passed c.in_default.in_default-own.rest.0.0.0.0.0.0.0.0.0.0.0.0.0.0.0.0.0.0.0.0.1
    (passed c.in_default.in_default-own.rest.0.0.0.0.0.0.0.0.0.0.0.0.0.0.0.0.0.0.0.1
    (passed c.in_default.in_default-own.rest.0.0.0.0.0.0.0.0.0.0.0.0.0.0.0.0.0.0.1
    (passed c.in_default.in_default-own.rest.0.0.0.0.0.0.0.0.0.0.0.0.0.0.0.0.0.1
    (passed c.in_default.in_default-own.rest.0.0.0.0.0.0.0.0.0.0.0.0.0.0.0.0.1
    (passed c.in_default.in_default-own.rest.0.0.0.0.0.0.0.0.0.0.0.0.0.0.0.1
    (passed c.in_default.in_default-own.rest.0.0.0.0.0.0.0.0.0.0.0.0.0.0.1
    (passed c.in_default.in_default-own.rest.0.0.0.0.0.0.0.0.0.0.0.0.0.1
    (passed c.in_default.in_default-own.rest.0.0.0.0.0.0.0.0.0.0.0.0.1
    (passed c.in_default.in_default-own.rest.0.0.0.0.0.0.0.0.0.0.0.1
    (passed c.in_default.in_default-own.rest.0.0.0.0.0.0.0.0.0.0.1
    (passed c.in_default.in_default-own.rest.0.0.0.0.0.0.0.0.0.1
    (passed c.in_default.in_default-own.rest.0.0.0.0.0.0.0.0.1
    (passed c.in_default.in_default-own.rest.0.0.0.0.0.0.0.1
    (passed c.in_default.in_default-own.rest.0.0.0.0.0.0.1
    (passed c.in_default.in_default-own.rest.0.0.0.0.0.1
    (passed c.in_default.in_default-own.rest.0.0.0.0.1
    (passed c.in_default.in_default-own.rest.0.0.0.1
    (passed c.in_default.in_default-own.rest.0.0.1
    (passed c.in_default.in_default-own.rest.0.1
    (passed c.in_default.in_default-own.rest.1
    none)))))))))))))))))))))))))))))))))
