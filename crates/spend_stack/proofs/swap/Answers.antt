-- `spend_stack::swap` meets its contract. Assumes nothing.
use Rattle.script_machine.specs.Words.{SWAP}
use Rattle.spend_stack.proofs.Laws.{not-ready, swaps}
use Rattle.spend_stack.proofs.Steps.{without-two, swap-none, swap-one, swap-on}
use Rattle.spend_stack.proofs.swap.Goals as goal

pub returns-in-Err : goal.returns-in-Err
returns-in-Err c = not-ready 2 c.requires c.in-Err.ensures (without-two c.args.log.now c.args.main.now c.args.m SWAP swap-none swap-one)

pub returns-in-Ok : goal.returns-in-Ok
returns-in-Ok c = swaps c.in-Ok.ensures.0 c.requires c.in-Ok.ensures.1 c.get-x.ensures c.get-y.ensures c.put.ensures c.put-in-Ok.ensures
    (swap-on c.args.log.now c.args.main.now c.args.m c.in-Ok.ensures.1)
