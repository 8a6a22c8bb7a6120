-- `spend_stack::open` meets its contract. Assumes nothing.
use Prim.Native.Nat.{ℕ}
use mathlib.Core.List.{List}
use mathlib.Core.Path.{sym, ◌∙◌, ap}
use Rattle.spend_elements.specs.declared.Element.{Element}
use Rattle.spend_elements.specs.Elements.{bytes_in}
use Rattle.script_machine.specs.Machine.{may_branch}
use Rattle.spend_stack.specs.Machines.{stack_of, left_of}
use Rattle.spend_stack.proofs.Laws.{opens-not-ready, opens-abort, opens-keep}
use Rattle.spend_stack.proofs.Steps.{open_none, open-may, open-not}
use Rattle.spend_stack.proofs.open.Goals as goal

pub returns-in-Err : goal.returns-in-Err
returns-in-Err c = opens-not-ready c.requires c.in-Err.ensures
    λ few alt. open_none c.args.log.now c.args.main.now c.args.m c.args.context few (stack_of c.args.log.now alt c.args.m.alt) (left_of c.args.log.now c.args.m)

pub returns-then-may_branch : goal.returns-then-may_branch
returns-then-may_branch c = let fact = sym (c.may_branch.ensures ∙ ap (λ (e : Element). may_branch c.args.context (bytes_in c.args.log.now e)) c.get.ensures) ∙ c.if-may_branch.true in
    opens-keep c.in-Ok.ensures.0 c.requires c.with_main.ensures
    λ (alt : List ℕ). open-may c.args.log.now c.args.main.now c.args.m c.args.context c.in-Ok.ensures.1 fact (stack_of c.args.log.now alt c.args.m.alt) (left_of c.args.log.now c.args.m)

pub returns-else-may_branch : goal.returns-else-may_branch
returns-else-may_branch c = let fact = sym (c.may_branch.ensures ∙ ap (λ (e : Element). may_branch c.args.context (bytes_in c.args.log.now e)) c.get.ensures) ∙ c.if-may_branch.false in
    opens-abort c.in-Ok.ensures.0 c.requires c.with_status.ensures
    λ (alt : List ℕ). open-not c.args.log.now c.args.main.now c.args.m c.args.context c.in-Ok.ensures.1 fact (stack_of c.args.log.now alt c.args.m.alt) (left_of c.args.log.now c.args.m)
