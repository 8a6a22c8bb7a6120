-- What is proved of the choice and the writing (document 02, R-7): every chosen tree has room, what the choice leaves is read again as the bytes that
-- compile writes, and compile is the two in a row. Policies and memories are lists of bytes and of words, whatever their length. Assumes nothing.
use Rattle.std.specs.Prelude.{Bool, cond, List, ◌≡◌, ℕ, zero, suc, ◌≤◌, leb, length, Some}
use Rattle.costs.specs.declared.Price.{Price}
use Rattle.trees.specs.Fragment.{Fragment}
use Rattle.trees.specs.Reading.{max_records}
use Rattle.writing.specs.Writing.{size, bytes_of_tree}
use Rattle.writing.specs.WellFormed.{AllBelow, WellFormed}
use Rattle.definition.specs.Refusals.{OutputTooSmall}
use Rattle.definition.specs.Compile.{Outcome, compiled, refused_with, compile}
use Rattle.chosen.specs.Form.{most_bytes, holding}
use Rattle.chosen.specs.Chosen.{chosen_of}
use Rattle.claspwillow.specs.Promises.{choice, ChoosePromise, WritePromise, CompilePromise}

-- a tree of at most 4,096 records always has room, so that the choice gives 13 for more records alone
abbrev pub RoomForAll : Type 0
RoomForAll = (f : Fragment) → WellFormed f → size f ≤ max_records → length (bytes_of_tree f) ≤ most_bytes

-- no two memories hold the same bytes: a memory of words that holds some is the one of their form
abbrev pub OneMemory : Type 0
OneMemory = (m b : List ℕ) → AllBelow 18446744073709551616 m → chosen_of m ≡ Some b → m ≡ holding b

-- and no bytes, so no memory, stand for two trees
abbrev pub OneTree : Type 0
OneTree =
    (b : List ℕ) (f g : Fragment) → WellFormed f → WellFormed g → size f ≤ max_records → size g ≤ max_records
    → b ≡ bytes_of_tree f → b ≡ bytes_of_tree g → f ≡ g

-- what was chosen, where it fits
abbrev pub in_a_row : (room : ℕ) → Outcome → Outcome
in_a_row room (compiled bytes cost nodes) = cond (leb (length bytes) room) (compiled bytes cost nodes) (refused_with OutputTooSmall)
in_a_row room (refused_with n) = refused_with n

-- compile gives what was chosen, where it fits
abbrev pub CompileInARow : Type 0
CompileInARow =
    (context : ℕ) (work_fits : Bool) (policy : List ℕ) (room : ℕ) → AllBelow 256 policy
    → compile context work_fits policy room ≡ in_a_row room (compile context work_fits policy most_bytes)

-- what the choice leaves is read as the bytes that it chose
abbrev pub ChosenIsRead : Type 0
ChosenIsRead =
    (context : ℕ) (policy work : List ℕ) (number bytes cost never nodes : ℕ) (after : List ℕ) → AllBelow 256 policy
    → ChoosePromise context policy work number bytes cost never nodes after
    → (tree : List ℕ) (price : Price) (used : ℕ) → choice context policy work ≡ compiled tree price used → chosen_of after ≡ Some tree

-- a result, and 0 where the number is a refusal's
abbrev pub if_done : (number : ℕ) → ℕ → ℕ
if_done zero n = n
if_done (suc e) n = 0

-- A done choice and a writing after it leave together what compile leaves: the writing's number, output, bytes and memory, and the choice's results
-- unless the writing refuses.
abbrev pub ChosenThenWritten : Type 0
ChosenThenWritten =
    (context : ℕ) (policy work out : List ℕ) → AllBelow 256 policy
    → (first bytes cost never nodes : ℕ) (between : List ℕ) → ChoosePromise context policy work first bytes cost never nodes between
    → (number : ℕ) (left : List ℕ) (written : ℕ) (after : List ℕ) → WritePromise out between number left written after
    → (tree : List ℕ) (price : Price) (used : ℕ) → choice context policy work ≡ compiled tree price used
    → CompilePromise context policy out work number left written (if_done number cost) (if_done number never) (if_done number nodes) after

-- and a refused choice leaves by itself what compile leaves
abbrev pub ChoiceRefused : Type 0
ChoiceRefused =
    (context : ℕ) (policy work out : List ℕ) → AllBelow 256 policy
    → (number bytes cost never nodes : ℕ) (after : List ℕ) → ChoosePromise context policy work number bytes cost never nodes after
    → (n : ℕ) → choice context policy work ≡ refused_with n → CompilePromise context policy out work number out bytes cost never nodes after
