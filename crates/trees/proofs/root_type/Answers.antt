-- `trees::root_type` meets its contract: the last slot is the root. Assumes nothing.
use mathlib.Core.Path.{refl, sym, ap, ◌∙◌}
use native.Mathlib.Omega.{arith}
use Rattle.trees.specs.Reading.{or_refuse, bad_tree}
use Rattle.trees.specs.WorkMemory.{slot_of, type_in}
use Rattle.trees.proofs.InMemory.{slot-at, free-slot, taken-slot}
use Prim.Native.Nat.{◌-◌}
use lib.ListN.{get_or}
use Rattle.trees.proofs.root_type.Goals as goal

pub returns : goal.returns
returns c = let told = free-slot (slot_of (get_or c.args.work.now (c.args.read - 1) 0)) c.slot_of.ensures c.in-Some.is in
    record {
      result_value = sym (ap (λ o. type_in (or_refuse bad_tree o)) (slot-at c.args.work.now c.args.read (c.args.read - 1) (omega arith) ∙ told));
      work_unchanged = refl;
    }

pub returns-in_default : goal.returns-in_default
returns-in_default c = let told = taken-slot (slot_of (get_or c.args.work.now (c.args.read - 1) 0)) c.slot_of.ensures c.in_default.is in
    record {
      result_value = sym (ap (λ o. type_in (or_refuse bad_tree o)) (slot-at c.args.work.now c.args.read (c.args.read - 1) (omega arith) ∙ told));
      work_unchanged = refl;
    }
