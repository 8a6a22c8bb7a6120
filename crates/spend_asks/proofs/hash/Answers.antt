-- `spend_asks::hash` meets its contract. Assumes nothing.
use native.Mathlib.Omega.{arith}
use mathlib.Core.Bool.{true, false}
use mathlib.Core.Path.{sym}
use Rattle.spend_stack.specs.Machines.{left_of}
use Rattle.spend_stack.proofs.Laws.{not-ready, sticks}
use Rattle.spend_asks.proofs.Next.{first-is, fits_next}
use Rattle.spend_asks.proofs.Telling.{hash-none, hash-missing, hash-said, hash-over}
use Rattle.spend_asks.proofs.hash.Goals as goal

pub returns-in-Err : goal.returns-in-Err
returns-in-Err c kind = not-ready 1 c.requires c.in-Err.ensures (hash-none c.args.log.now c.args.main.now c.args.m kind)

pub taken-requires : goal.taken-requires
taken-requires c = (c.requires.asks, (first-is c.args.log.now c.args.m _ (sym (rw c.in-Digest.is at c.ask-a.ensures))).some_left)

pub over-requires : goal.over-requires
over-requires c = let p = first-is c.args.log.now c.args.m _ (sym (rw c.in-Digest.is at c.ask-a.ensures)) in
    rw c.taken.ensures (fits_next c.args.log.now c.args.main.now c.args.m c.requires p.some_left, omega arith)

pub returns-in-Missing : goal.returns-in-Missing
returns-in-Missing c kind = sticks c.in-Ok.ensures.0 c.requires c.with_status.ensures λ d t a.
    hash-missing c.args.log.now c.args.main.now c.args.m kind c.in-Ok.ensures.1 d t a (left_of c.args.log.now c.args.m)
    (sym (rw c.in-Missing.is at c.ask-a.ensures))

pub returns-in-No : goal.returns-in-No
returns-in-No c kind = sticks c.in-Ok.ensures.0 c.requires c.with_status-in-No.ensures λ d t a.
    hash-said c.args.log.now c.args.main.now c.args.m kind false c.in-Ok.ensures.1 d t a (left_of c.args.log.now c.args.m)
    (sym (rw c.in-No.is at c.ask-a.ensures))

pub returns-in-Yes : goal.returns-in-Yes
returns-in-Yes c kind = sticks c.in-Ok.ensures.0 c.requires c.with_status-in-Yes.ensures λ d t a.
    hash-said c.args.log.now c.args.main.now c.args.m kind true c.in-Ok.ensures.1 d t a (left_of c.args.log.now c.args.m)
    (sym (rw c.in-Yes.is at c.ask-a.ensures))

pub returns-in-Digest : goal.returns-in-Digest
returns-in-Digest c kind = hash-over c.in-Ok.ensures.0 c.in-Ok.ensures.1
    (first-is c.args.log.now c.args.m _ (sym (rw c.in-Digest.is at c.ask-a.ensures))) (rw c.taken.ensures at c.over.ensures)
