-- How a log is written, in the byte form of docs/ENTRIES.md, and that what is written is read back: document 02, R-6.
use Rattle.std.specs.Prelude.{ℕ, ◌<◌, ◌^◌, List, [], ◌∷◌, ◌++◌, reverse, ◌≡◌, length, Some}
use Rattle.words.specs.Bytes.{bytes_of}
use Rattle.script_machine.specs.Numbers.{Bytes, Stack}
use Rattle.spend_machine.specs.Entries.{Outcome, no, yes, digest, End, aborts, leaves, Entry}
use Rattle.spend_log.specs.Logs.{Head, Log, log_of}

-- ---- the bytes of each part

abbrev pub number_bytes : ℕ → Bytes
number_bytes n = bytes_of 4 n

abbrev pub element_bytes : Bytes → Bytes
element_bytes x = number_bytes (length x) ++ x

-- one behind the other
unfoldable pub several_bytes : {A : Type 0} → (A → Bytes) → List A → Bytes
several_bytes write [] = []
several_bytes write (x ∷ xs) = write x ++ several_bytes write xs

abbrev pub counted_bytes : {A : Type 0} → (A → Bytes) → List A → Bytes
counted_bytes write xs = number_bytes (length xs) ++ several_bytes write xs

-- the bottom element first
abbrev pub stack_bytes : Stack → Bytes
stack_bytes m = counted_bytes element_bytes (reverse m)

abbrev pub outcome_bytes : Outcome → Bytes
outcome_bytes no = 0 ∷ []
outcome_bytes yes = 1 ∷ []
outcome_bytes (digest x) = 2 ∷ element_bytes x

abbrev pub end_bytes : End → Bytes
end_bytes aborts = 0 ∷ []
end_bytes (leaves m) = 1 ∷ stack_bytes m

unfoldable pub entry_bytes : Entry → Bytes
entry_bytes e =
    number_bytes e.number ++ (stack_bytes e.start ++ (counted_bytes outcome_bytes e.outcomes ++ end_bytes e.recorded))

unfoldable pub head_bytes : Head → Bytes
head_bytes h =
    number_bytes h.context
    ++ (number_bytes (length h.tree)
    ++ (number_bytes (length h.tables.keys)
    ++ (number_bytes (length h.tables.key_hashes)
    ++ (number_bytes (length h.tables.hashes32)
    ++ (number_bytes (length h.tables.hashes20)
    ++ (h.tree ++ (h.tables.keys ++ (h.tables.key_hashes ++ (h.tables.hashes32 ++ h.tables.hashes20)))))))))

unfoldable pub log_bytes : Log → Bytes
log_bytes l = head_bytes l.front ++ several_bytes entry_bytes l.entries

-- ---- when they can be written: every number, and the length of every list, is a u32

abbrev pub IsU32 : ℕ → Type 0
IsU32 n = n < 256 ^ 4

unfoldable pub All : {A : Type 0} → (A → Type 0) → List A → Type 0
All P [] = Unit
All P (x ∷ xs) = P x × All P xs

abbrev pub Counted : {A : Type 0} → (A → Type 0) → List A → Type 0
Counted P xs = IsU32 (length xs) × All P xs

abbrev pub Short : Bytes → Type 0
Short x = IsU32 (length x)

abbrev pub ShortStack : Stack → Type 0
ShortStack m = Counted Short (reverse m)

abbrev pub ShortOutcome : Outcome → Type 0
ShortOutcome no = Unit
ShortOutcome yes = Unit
ShortOutcome (digest x) = Short x

abbrev pub ShortEnd : End → Type 0
ShortEnd aborts = Unit
ShortEnd (leaves m) = ShortStack m

pub record ShortEntry (e : Entry) : Type 0 where
  pub number : IsU32 e.number
  pub start : ShortStack e.start
  pub outcomes : Counted ShortOutcome e.outcomes
  pub recorded : ShortEnd e.recorded

pub record ShortHead (h : Head) : Type 0 where
  pub context : IsU32 h.context
  pub tree : Short h.tree
  pub keys : Short h.tables.keys
  pub key_hashes : Short h.tables.key_hashes
  pub hashes32 : Short h.tables.hashes32
  pub hashes20 : Short h.tables.hashes20

-- ---- what is written is read back

abbrev pub ReadBack : Type 0
ReadBack = (l : Log) → ShortHead l.front → All ShortEntry l.entries → log_of (log_bytes l) ≡ Some l

-- An entry is a block of bytes of its own: the same head before blocks in any other order, or before any others, is the log of these entries.
abbrev pub BlocksAreEntries : Type 0
BlocksAreEntries =
    (h : Head) (es : List Entry) → ShortHead h → All ShortEntry es
    → log_of (head_bytes h ++ several_bytes entry_bytes es) ≡ Some (record { front = h; entries = es })
