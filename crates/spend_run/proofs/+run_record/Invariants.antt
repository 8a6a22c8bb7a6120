-- `spend_run::run_record`: what falls is the record's number, since children come before their parents.
use Prim.Native.Nat.{◌-◌}
use Rattle.spend_stack.specs.Memory.{main_in, alt_in, Keeps}
use Rattle.spend_run.proofs.Recursion.{Going}
use Rattle.spend_run.proofs.+run_record.Given as goal

abbrev pub decreases-run_record : goal.decreases-run_record
decreases-run_record l = l.i

abbrev pub invariant-loop-place : goal.invariant-loop-place
invariant-loop-place l =
    Going l.context l.log l.head l.tree l.node (main_in l.initial.work) (alt_in l.initial.work) l.initial.place l.initial.at
    (main_in l.work) (alt_in l.work) l.place l.at × Keeps l.initial.work l.work

abbrev pub decreases-loop-place : goal.decreases-loop-place
decreases-loop-place l = l.n - l.place
