-- Where the parts of a log lie in its bytes: what the readers of this crate answer, by the definitions of Readers.antt and Logs.antt.
use Rattle.std.specs.Prelude.{ℕ, ◌+◌, ◌-◌, ◌≤◌, cond, List, eqb, ◌≡◌, length, get_or, take, drop, Option, None, Some}
use Rattle.records.specs.Numbers.{u32}
use Rattle.script_machine.specs.Numbers.{Bytes}
use Rattle.script_bytes.specs.Tables.{Tables, tables}
use Rattle.spend_log.specs.Readers.{Read, Reader}
use Rattle.spend_log.specs.Logs.{Head, head}
use Rattle.spend_machine.specs.Entries.{Entry}
use Rattle.spend_log.specs.declared.Part.{Part}
use Rattle.spend_log.specs.declared.OutcomeAt.{OutcomeAt}
use Rattle.spend_log.specs.declared.Offsets.{Offsets}

-- of so many bytes, those behind what was read begin here
abbrev pub behind_at : {A : Type 0} → ℕ → Option (Read A) → Option ℕ
behind_at total None = None
behind_at total (Some r) = Some (total - length r.behind)

-- where what a reader reads at a place of a log ends
unfoldable pub place_of : {A : Type 0} → Reader A → List ℕ → ℕ → Option ℕ
place_of r log at = behind_at (length log) (r (drop at log))

-- an element that begins at a place: where its bytes begin, how many they are, and where they end
abbrev pub element_at : List ℕ → ℕ → Part
element_at log at = record { start = at + 4; len = u32 log at; next = at + 4 + u32 log at }

-- an outcome that begins at a place: the byte in front, its digest, and where it ends; without a digest, no bytes behind that byte
abbrev pub digest_by : List ℕ → (at sort : ℕ) → Part
digest_by log at sort = cond (eqb sort 2) (element_at log (at + 1)) (record { start = at + 1; len = 0; next = at + 1 })

abbrev pub outcome_at : List ℕ → ℕ → OutcomeAt
outcome_at log at =
    let sort = get_or log at 0 in
    record { sort = sort; digest = digest_by log at sort; next = (digest_by log at sort).next }

-- where the head's parts begin; the tree begins at byte 24
abbrev pub offsets : Head → Offsets
offsets h =
    let keys = 24 + length h.tree in
    let key_hashes = keys + length h.tables.keys in
    let hashes32 = key_hashes + length h.tables.key_hashes in
    let hashes20 = hashes32 + length h.tables.hashes32 in
    record {
      context = h.context;
      keys = keys;
      key_hashes = key_hashes;
      hashes32 = hashes32;
      hashes20 = hashes20;
      entries = hashes20 + length h.tables.hashes20;
    }

abbrev pub head_answer : Option (Read Head) → Option Offsets
head_answer None = None
head_answer (Some r) = Some (offsets r.value)

-- the bytes from one place up to another; the tree, the tables and the head that lie at such places
abbrev pub part_in : Bytes → (from to : ℕ) → Bytes
part_in log from to = take (to - from) (drop from log)

abbrev pub tree_in : Bytes → Offsets → Bytes
tree_in log h = part_in log 24 h.keys

abbrev pub tables_in : Bytes → Offsets → Tables
tables_in log h =
    tables (part_in log h.keys h.key_hashes) (part_in log h.key_hashes h.hashes32) (part_in log h.hashes32 h.hashes20)
    (part_in log h.hashes20 h.entries)

abbrev pub head_in : Bytes → Offsets → Head
head_in log h = record { context = h.context; tree = tree_in log h; tables = tables_in log h }

-- A log's head lies at these places, one behind the other.
pub record Lies (log : Bytes) (h : Offsets) : Type 0 where
  pub reads : head log ≡ Some (record { value = head_in log h; behind = drop h.entries log })
  pub keys : 24 ≤ h.keys
  pub key-hashes : h.keys ≤ h.key_hashes
  pub hashes32 : h.key_hashes ≤ h.hashes32
  pub hashes20 : h.hashes32 ≤ h.hashes20
  pub entries : h.hashes20 ≤ h.entries
  pub within : h.entries ≤ length log

-- how many entries were read
abbrev pub count_answer : Option (Read (List Entry)) → Option ℕ
count_answer None = None
count_answer (Some r) = Some (length r.value)
