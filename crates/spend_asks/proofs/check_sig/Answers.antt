-- `spend_asks::check_sig` meets its contract. Assumes nothing.
use Rattle.script_machine.specs.Words.{CHECKSIG}
use Rattle.spend_stack.proofs.Laws.{not-ready}
use Rattle.spend_stack.proofs.Steps.{without-two}
use Rattle.spend_asks.proofs.Telling.{sig-does, sig_none, sig-one}
use Rattle.spend_asks.proofs.check_sig.Goals as goal

pub returns-in-Err : goal.returns-in-Err
returns-in-Err c = not-ready 2 c.requires c.in-Err.ensures (without-two c.args.log.now c.args.main.now c.args.m CHECKSIG sig_none sig-one)

pub returns-in-Ok : goal.returns-in-Ok
returns-in-Ok c = sig-does c.in-Ok.ensures.0 c.in-Ok.ensures.1 c.say_over.ensures
