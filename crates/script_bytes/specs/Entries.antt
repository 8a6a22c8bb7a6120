-- The table entries of a tree, record by record: document 02, R-1. For the inner contracts; proofs/Entries.antt shows that they are the tree's.
use Rattle.std.specs.Prelude.{ℕ, Bool, true, ◌&&◌, List}
use Rattle.contexts.specs.declared.Context.{Context}
use Rattle.trees.specs.Fragment.{Fragment, False, True, PkK, PkH, Lock, Hash}
use Rattle.trees.specs.Fragment.{Alt, Swap, Check, DupIf, Verify, NonZero, ZeroNotEqual}
use Rattle.trees.specs.Fragment.{AndB, AndV, OrB, OrD, OrC, OrI, AndOr, Thresh, Multi, MultiA}
use Rattle.walk.specs.TreeRecords.{fragment_at}
use Rattle.walk.specs.Folds.{over_records}
use Rattle.script_bytes.specs.Tables.{Tables, has_key, has_key_hash, has_hash}
use Rattle.script_bytes.specs.ScriptOf.{has_keys}

module _ (c : Context) (t : Tables) where
  -- whether the numbers that stand in a fragment itself, not in its children, have whole entries
  unfoldable pub own_entries : Fragment → Bool
  own_entries False = true
  own_entries True = true
  own_entries (PkK i) = has_key c t i
  own_entries (PkH i) = has_key_hash t i
  own_entries (Lock kind n) = true
  own_entries (Hash kind i) = has_hash t kind i
  own_entries (Alt x) = true
  own_entries (Swap x) = true
  own_entries (Check x) = true
  own_entries (DupIf x) = true
  own_entries (Verify x) = true
  own_entries (NonZero x) = true
  own_entries (ZeroNotEqual x) = true
  own_entries (AndB x y) = true
  own_entries (AndV x y) = true
  own_entries (OrB x y) = true
  own_entries (OrD x y) = true
  own_entries (OrC x y) = true
  own_entries (OrI x y) = true
  own_entries (AndOr x y z) = true
  own_entries (Thresh k xs) = true
  own_entries (Multi k keys) = has_keys c t keys
  own_entries (MultiA k keys) = has_keys c t keys

  -- the same of record i, and of each of the first n records
  abbrev pub entries_at : List ℕ → ℕ → Bool
  entries_at tree i = own_entries (fragment_at tree i)

  abbrev pub entries_below : List ℕ → ℕ → Bool
  entries_below tree n = over_records ◌&&◌ true own_entries tree n
