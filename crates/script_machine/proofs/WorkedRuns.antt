-- The worked runs hold by computation.
use mathlib.Core.Path.{refl}
use Rattle.contexts.specs.Lists.{all, sum}
use Rattle.contexts.specs.declared.Context.{Context}
use Rattle.contexts.specs.declared.Context.TheVariants.{Segwitv0, Tap}
use Rattle.trees.specs.Typing.{type_of, types_of}
use Rattle.script_machine.specs.Numbers.{is_true, element, same, read, magnitude, negative, write, digits, signed, nonzero, equal}
use Rattle.script_machine.specs.Machine.{ok, step, run}
use Rattle.script_machine.specs.Translation as Translation
use Rattle.script_machine.specs.Translation.{script, ⟦◌⟧, adds}
use Rattle.script_machine.specs.WorkedRuns.{signs, all_sign, same_stack, all_hold, WorkedRuns, Counterexamples}

pub worked-runs : WorkedRuns
unfolding run step script ⟦◌⟧ Translation.sum adds ok is_true element same read magnitude negative write digits signed nonzero equal signs all_sign
    same_stack all_hold
worked-runs Segwitv0 = refl
worked-runs Tap = refl

pub counterexamples : (c : Context) → Counterexamples c
unfolding run step script ⟦◌⟧ Translation.sum adds ok is_true element same read magnitude negative write digits signed nonzero equal signs all_sign
    type_of types_of all sum
counterexamples Segwitv0 = record { non_zero_over_z = refl; leaves_one = refl; leaves_two = refl; thresh_over_b = refl; both_signed = refl }
counterexamples Tap = record { non_zero_over_z = refl; leaves_one = refl; leaves_two = refl; thresh_over_b = refl; both_signed = refl }
