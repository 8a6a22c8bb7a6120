-- The worked cases of keys of 64 bits, by computation. Assumes nothing.
use mathlib.Core.Path.{refl}
use Rattle.words.specs.Bytes.{little, bytes_of, le_at}
use Rattle.records.specs.Numbers.{u16s, numbers_at}
use Rattle.records.specs.Shapes.{look_up, shape_of}
use Rattle.records.specs.Payloads.{width, payload_of}
use Rattle.records.specs.RecordForm.{kind_of}
use Rattle.trees.specs.Typing.{type_of}
use Rattle.trees.specs.Height.{height_of}
use Rattle.trees.specs.Reading.{take_all, root_of, add_record, read_from, read_tree}
use Rattle.trees.specs.Tree.{find}
use Rattle.trees.specs.TreeCheck.{typed_tree_of, check_of}
use Rattle.script_machine.specs.Translation.{⟦◌⟧}
use Rattle.script_machine.specs.Merged.{form, merge_verify}
use Rattle.script_bytes.specs.Encoding.{push_bytes, encode, script_bytes}
use Rattle.script_bytes.specs.ScriptOf.{has_keys, has_entries, script_of}
use Rattle.script_entry.specs.LongKeys.{LongKeys}

pub long-keys : LongKeys
unfolding script_of check_of typed_tree_of read_tree read_from add_record take_all root_of find type_of height_of kind_of width payload_of look_up shape_of u16s numbers_at le_at little
    bytes_of has_keys has_entries script_bytes encode push_bytes ⟦◌⟧ merge_verify form
long-keys = record {
  written = refl;
  no_key = refl;
  no-key-hash = refl;
  no-key-in-1 = refl;
  no-key-of-two = refl;
}
