-- Which remembered table is meant: the newest of a policy at the same probabilities, as IEEE 754 compares them. From `PolicyCache` in
-- policy/compiler.rs and document 01, "Modules, leaves first", 7. Assumes nothing.
use Rattle.std.specs.Prelude.{Bool, cond, ◌&&◌, List, [], ◌∷◌, ℕ, zero, suc, eqb, Float, Option, None, Some}
use Rattle.std.specs.Float.Ieee.{eq}
use Rattle.costs.specs.Probabilities.{same_prob}
use Rattle.memory.specs.Layout.{table_count}
use Rattle.cache.specs.Slots.{Slot, slot_at}

-- whether a table is remembered under this key
abbrev pub same_key : ℕ → Float → Option Float → Slot → Bool
same_key number sat dissat t = eqb number t.number && (eq sat t.sat && same_prob dissat t.dissat)

-- the newest table under a key, the newest standing first
unfoldable pub newest : ℕ → Float → Option Float → List Slot → Option Slot
newest number sat dissat [] = None
newest number sat dissat (t ∷ ts) = cond (same_key number sat dissat t) (Some t) (newest number sat dissat ts)

-- where it stands among the first n tables of work memory
unfoldable pub find_up_to : List ℕ → ℕ → ℕ → Float → Option Float → Option ℕ
find_up_to m zero number sat dissat = None
find_up_to m (suc n) number sat dissat = cond (same_key number sat dissat (slot_at m n)) (Some n) (find_up_to m n number sat dissat)

abbrev pub find_in : List ℕ → ℕ → Float → Option Float → Option ℕ
find_in m number sat dissat = find_up_to m (table_count m) number sat dissat
