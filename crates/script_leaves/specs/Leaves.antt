-- The fragment that a record without children makes: document 01, "Records".
use Rattle.std.specs.Prelude.{ℕ, [], ◌∷◌, Option, None, Some}
use Rattle.records.specs.Payloads.{number_in, k_in, keys_in}
use Rattle.records.specs.RecordForm.{kind_of}
use Rattle.contexts.specs.Leaves.{After, Older, Sha256, Hash256, Ripemd160, Hash160}
use Rattle.trees.specs.Fragment.{Fragment, False, True, PkK, PkH, Lock, Hash, Multi, MultiA}
use Rattle.trees.specs.Tree.{◌is◌, find}
use Rattle.script_machine.specs.Numbers.{Bytes}

abbrev pub or_else : Fragment → Option Fragment → Fragment
or_else other (Some f) = f
or_else other None = other

-- Multi and MultiA
abbrev pub multi_of : (bytes : Bytes) → Fragment
multi_of bytes = Multi (k_in bytes) (keys_in bytes)

abbrev pub multi_a_of : (bytes : Bytes) → Fragment
multi_a_of bytes = MultiA (k_in bytes) (keys_in bytes)

-- a leaf that holds one number or none; False under every other kind
unfoldable pub numbered : (kind n : ℕ) → Fragment
numbered kind n = or_else False (find kind (
    33 is True
    ∷ 34 is PkK n
    ∷ 35 is PkH n
    ∷ 36 is Lock After n
    ∷ 37 is Lock Older n
    ∷ 38 is Hash Sha256 n
    ∷ 39 is Hash Hash256 n
    ∷ 40 is Hash Ripemd160 n
    ∷ 41 is Hash Hash160 n
    ∷ []))

-- the leaf of a whole record
unfoldable pub leaf_of : (bytes : Bytes) → Fragment
leaf_of bytes = or_else (numbered (kind_of bytes) (number_in bytes)) (find (kind_of bytes) (
    57 is multi_of bytes ∷ 58 is multi_a_of bytes ∷ []))
