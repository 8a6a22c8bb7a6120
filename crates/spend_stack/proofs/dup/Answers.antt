-- `spend_stack::dup` meets its contract. Assumes nothing.
use mathlib.Core.Path.{ap}
use Rattle.spend_elements.specs.Elements.{bytes_in}
use Rattle.script_machine.specs.Words.{DUP}
use Rattle.spend_stack.proofs.Laws.{not-ready, leaves}
use Rattle.spend_stack.proofs.Steps.{without-one, dup-none, dup-on}
use Rattle.spend_stack.proofs.dup.Goals as goal

pub returns-in-Err : goal.returns-in-Err
returns-in-Err c = not-ready 1 c.requires c.in-Err.ensures (without-one c.args.log.now c.args.main.now c.args.m DUP dup-none)

pub returns-in-Ok : goal.returns-in-Ok
returns-in-Ok c = leaves c.in-Ok.ensures.0 c.requires c.over.ensures (ap (bytes_in c.args.log.now) c.get.ensures) (dup-on c.args.log.now c.args.main.now c.args.m c.in-Ok.ensures.1)
