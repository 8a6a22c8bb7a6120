-- The worked scripts, by computation. Assumes nothing.
use mathlib.Core.Path.{refl}
use Rattle.words.specs.Bytes.{little, le_at}
use Rattle.records.specs.Numbers.{u16s, numbers_at}
use Rattle.records.specs.Shapes.{look_up, shape_of}
use Rattle.records.specs.Payloads.{width, payload_of}
use Rattle.records.specs.RecordForm.{kind_of}
use Rattle.trees.specs.Typing.{type_of}
use Rattle.trees.specs.Height.{height_of}
use Rattle.trees.specs.Reading.{take_all, root_of, add_record, read_from, read_tree}
use Rattle.trees.specs.Tree.{find}
use Rattle.trees.specs.TreeCheck.{typed_tree_of, check_of}
use Rattle.script_machine.specs.Numbers.{same, write, signed, digits}
use Rattle.script_machine.specs.Translation.{⟦◌⟧, sum, adds}
use Rattle.script_machine.specs.Merged.{form, merge_verify}
use Rattle.script_bytes.specs.Encoding.{push_bytes, encode, script_bytes}
use Rattle.script_bytes.specs.ScriptOf.{has_entries, script_of}
use Rattle.script_bytes.specs.WorkedScripts.{all_hold, WorkedScripts, WorkedAnswers}

pub worked-scripts : WorkedScripts
unfolding all_hold same script_bytes encode push_bytes ⟦◌⟧ sum adds merge_verify form write signed digits
worked-scripts = refl

pub worked-answers : WorkedAnswers
unfolding script_of check_of typed_tree_of read_tree read_from add_record take_all root_of find type_of height_of kind_of width payload_of look_up shape_of u16s numbers_at le_at little
    has_entries script_bytes encode push_bytes ⟦◌⟧ merge_verify form
worked-answers = record {
  written = refl;
  bad-context = refl;
  bad-work = refl;
  bad-tree = refl;
  no-entry = refl;
  short-entry = refl;
  too_small = refl;
}
