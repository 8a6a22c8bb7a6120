-- What a log of recorded spends is: document 02, R-6, in the byte form of docs/ENTRIES.md. All numbers are u32.
use Rattle.std.specs.Prelude.{ℕ, cond, List, reverse, eqb, Option, None, Some}
use Rattle.spend_log.specs.Readers.{Read, Reader, give, broken, ◌>>=◌, block, byte, number, counted, to_end}
use Rattle.script_machine.specs.Numbers.{Bytes, Stack}
use Rattle.script_bytes.specs.Tables.{Tables, tables}
use Rattle.spend_machine.specs.Entries.{Outcome, no, yes, digest, End, aborts, leaves, Entry}

-- an element: its length, its bytes
unfoldable pub element : Reader Bytes
element = do
  length ← number
  block length

-- a stack: its elements, the bottom one first
unfoldable pub elements : Reader Stack
elements = do
  bottom_first ← counted element
  give (reverse bottom_first)

-- an outcome by the byte in front: 0 no, 1 yes, 2 a digest, which follows
unfoldable pub outcome_of : (sort : ℕ) → Reader Outcome
outcome_of sort =
    cond (eqb sort 0) (give no)
    (cond (eqb sort 1) (give yes)
    (cond (eqb sort 2) (element >>= λ bytes. give (digest bytes))
    broken))

unfoldable pub outcome : Reader Outcome
outcome = do
  sort ← byte
  outcome_of sort

-- a recorded end by the byte in front: 0 an abort, 1 a main stack, which follows
unfoldable pub end_of : (sort : ℕ) → Reader End
end_of sort =
    cond (eqb sort 0) (give aborts)
    (cond (eqb sort 1) (elements >>= λ m. give (leaves m))
    broken)

unfoldable pub ending : Reader End
ending = do
  sort ← byte
  end_of sort

unfoldable pub entry : Reader Entry
entry = do
  n ← number
  s ← elements
  os ← counted outcome
  e ← ending
  give (record { number = n; start = s; outcomes = os; recorded = e })

-- what stands before the entries: a context, a tree and the four tables
pub record Head : Type 0 where
  pub context : ℕ
  pub tree : Bytes
  pub tables : Tables

-- the tree and the tables, by how many bytes each has
unfoldable pub contents : (c t k kh h32 h20 : ℕ) → Reader Head
contents c t k kh h32 h20 = do
  tree ← block t
  keys ← block k
  key_hashes ← block kh
  hashes32 ← block h32
  hashes20 ← block h20
  give (record { context = c; tree = tree; tables = tables keys key_hashes hashes32 hashes20 })

-- the context, the bytes of the tree and of each table, then the tree and the tables
unfoldable pub head : Reader Head
head = do
  c ← number
  t ← number
  k ← number
  kh ← number
  h32 ← number
  h20 ← number
  contents c t k kh h32 h20

pub record Log : Type 0 where
  pub front : Head
  pub entries : List Entry

-- the head, then entries up to the log's end
unfoldable pub log : Reader Log
log = do
  h ← head
  es ← to_end entry
  give (record { front = h; entries = es })

abbrev pub value_of : {A : Type 0} → Option (Read A) → Option A
value_of None = None
value_of (Some r) = Some r.value

-- The log that some bytes are; any other bytes are broken.
abbrev pub log_of : Bytes → Option Log
log_of s = value_of (log s)
