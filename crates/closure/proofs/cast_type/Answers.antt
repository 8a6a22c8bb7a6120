-- `closure::cast_type` meets its contract. Assumes nothing.
use Rattle.closure.specs.Typing.{cast_type}
use Rattle.closure.proofs.Typing.{type-unknown}
use Rattle.closure.proofs.cast_type.Goals as goal

pub returns-in-0 : goal.returns-in-0
unfolding cast_type
returns-in-0 c = rw c.in-0.is c.cast_check.ensures

pub returns-in-1 : goal.returns-in-1
unfolding cast_type
returns-in-1 c = rw c.in-1.is c.cast_dupif.ensures

pub returns-in-2 : goal.returns-in-2
unfolding cast_type
returns-in-2 c = rw c.in-2.is c.cast_likely.ensures

pub returns-in-3 : goal.returns-in-3
unfolding cast_type
returns-in-3 c = rw c.in-3.is c.cast_unlikely.ensures

pub returns-in-4 : goal.returns-in-4
unfolding cast_type
returns-in-4 c = rw c.in-4.is c.cast_verify.ensures

pub returns-in-5 : goal.returns-in-5
unfolding cast_type
returns-in-5 c = rw c.in-5.is c.cast_nonzero.ensures

pub returns-in-6 : goal.returns-in-6
unfolding cast_type
returns-in-6 c = rw c.in-6.is c.cast_true.ensures

pub returns-in-7 : goal.returns-in-7
unfolding cast_type
returns-in-7 c = rw c.in-7.is c.cast_swap.ensures

pub returns-in-8 : goal.returns-in-8
unfolding cast_type
returns-in-8 c = rw c.in-8.is c.cast_alt.ensures

pub returns-in-9 : goal.returns-in-9
unfolding cast_type
returns-in-9 c = rw c.in-9.is c.cast_zeronotequal.ensures

pub returns-in-10-to-255 : goal.returns-in-10-to-255
returns-in-10-to-255 c = type-unknown c.args.context c.args.number c.args.ty c.in-10-to-255.in-10-to-255-own.rest
