-- Reading the records of a node, whatever stands before and after them. Assumes nothing.
use mathlib.Core.Path.{◌≡◌, ◌∙◌}
use mathlib.Core.List.{List, [], ◌∷◌, ◌++◌, append_assoc, append-nil}
use Rattle.std.specs.Prelude.{Option, None, Some}
use Prim.Native.Nat.{ℕ, suc, ◌+◌, ◌*◌, ◌<◌, ◌≤◌}
use native.Mathlib.Nat.{zero-add, add_assoc}
use native.Mathlib.Omega.{arith}
use lib.ListN.{length, take, drop, replicate, length-append}
use lib.Seq.{take_at, drop_at}
use Rattle.records.specs.Shapes.{meant}
use Rattle.records.specs.Payloads.{Payload, children_of}
use Rattle.records.specs.RecordForm.{record_length, kind_of, fragment_payload}
use Rattle.records.proofs.Laws.{length-bounds}
use Rattle.trees.specs.Reading.{Answer, done, ◌>>=◌, Slots, take_all, add_record, read_from}
use Rattle.writing.specs.Writing.{Node, node, Nodes, count, counts, owns, record_of, in_row, written, written_all}
use Rattle.writing.specs.WellFormed.{AllBelow}
use Rattle.writing.proofs.Rows.{length-row}
use Rattle.writing.proofs.OneRecord.{record-whole, record-kind, length-record}
use Rattle.writing.proofs.Slots.{trace, traces, length-trace, Each, no_more, and_then, length-owns, owns-below, take-nodes}

module _ {A : Type 0} (make : ℕ → Payload → List A → Answer A) where
  -- one record, with what was made of it in a slot of its own

  step : (left : ℕ) (slots : Slots A) (s : List ℕ) {len : ℕ} → record_length s ≡ Some len
      → read_from make (suc left) slots s ≡ (add_record make slots (take len s) >>= λ slots'. read_from make left slots' (drop len s))
  unfolding read_from
  step left slots [] e = absurd (omega (arith, length-bounds [] e))
  step left slots (b ∷ bs) e = rw e

  read-record : (left : ℕ) (slots : Slots A) (kind : ℕ) (payload rest : List ℕ) → length payload < 65532
      → read_from make (suc left) slots (record_of kind payload ++ rest)
      ≡ (add_record make slots (record_of kind payload) >>= λ slots'. read_from make left slots' rest)
  read-record left slots kind payload rest few =
      let s = record_of kind payload in
      let len = 4 + length payload in
      step left slots (s ++ rest) (record-whole kind payload rest few)
      ∙ rw (take_at s rest len (length-record kind payload), drop_at s rest len (length-record kind payload))

  made : (slots left : Slots A) (s : List ℕ) (kind : ℕ) {payload : Payload} {xs : List A} {x : A} → kind_of s ≡ kind
      → fragment_payload s ≡ Some payload → take_all (children_of payload) slots ≡ Some (record { those = xs; left = left })
      → make kind payload xs ≡ done x → add_record make slots s ≡ done (left ++ (Some x ∷ []))
  unfolding add_record
  made slots left s kind k p t m = rw (p, k, t, m)

  -- ---- nodes

  -- what a node's record says of it, whatever the numbers of its children
  pub record Says (kind : ℕ) (front : List ℕ) (xs : List A) (x : A) : Type 0 where
    pub is-u16 : kind < 65536
    pub few : length front + 2 * length xs < 65532
    pub says : (cs : List ℕ) → length cs ≡ length xs → AllBelow 65536 cs
        → (payload : Payload) × (fragment_payload (record_of kind (front ++ in_row 2 cs)) ≡ Some payload) × (children_of payload ≡ cs)
        × (make (meant kind) payload xs ≡ done x)

  -- a node's records are read, wherever they stand
  pub record Reads (t : Node) (x : A) : Type 0 where
    pub reads : (n left : ℕ) (slots : Slots A) (rest : List ℕ) → length slots ≡ n → n + count t ≤ 65536
        → read_from make (count t + left) slots (written n t ++ rest) ≡ read_from make left (slots ++ trace t x) rest

  reads_all : {ts : Nodes} {xs : List A} → Each Reads ts xs → (n left : ℕ) (slots : Slots A) (rest : List ℕ)
      → length slots ≡ n → n + counts ts ≤ 65536
      → read_from make (counts ts + left) slots (written_all n ts ++ rest) ≡ read_from make left (slots ++ traces ts xs) rest
  unfolding counts written_all traces
  reads_all no_more n left slots rest e fits = rw (zero-add left, append-nil slots)
  reads_all (and_then {t} {x} {ts} {xs} r rs) n left slots rest e fits =
      let len : length (slots ++ trace t x) ≡ n + count t = omega (arith, length-append slots (trace t x), length-trace t x) in
      rw (add_assoc (count t) (counts ts) left, append_assoc (written n t) (written_all (n + count t) ts) rest)
      (r.reads n (counts ts + left) slots (written_all (n + count t) ts ++ rest) e (omega arith)
      ∙ reads_all rs (n + count t) left (slots ++ trace t x) rest len (omega arith)
      ∙ rw (append_assoc slots (trace t x) (traces ts xs)))

  pub reads-node : (kind : ℕ) (front : List ℕ) {ts : Nodes} {xs : List A} {x : A} → Each Reads ts xs → Says kind front xs x
      → Reads (node kind front ts) x
  unfolding written count
  reads-node kind front {ts} {xs} {x} rs said = record { reads = at-any }
    where
      at-any : (n left : ℕ) (slots : Slots A) (rest : List ℕ) → length slots ≡ n → n + count (node kind front ts) ≤ 65536
          → read_from make (count (node kind front ts) + left) slots (written n (node kind front ts) ++ rest)
          ≡ read_from make left (slots ++ trace (node kind front ts) x) rest
      at-any n left slots rest e fits =
          let cs = owns n ts in
          let payload = front ++ in_row 2 cs in
          let told = said.says cs (length-owns rs n) (owns-below ts n (omega arith)) in
          let few : length payload < 65532 = omega (arith, length-append front (in_row 2 cs), length-row 2 cs, length-owns rs n, said.few) in
          let emptied = slots ++ replicate {A = Option A} (counts ts) None in
          let taken : take_all (children_of told.0) (slots ++ traces ts xs) ≡ Some (record { those = xs; left = emptied }) =
          rw told.2 (take-nodes rs n slots e) in
          let added = made (slots ++ traces ts xs) emptied (record_of kind payload) (meant kind)
          (record-kind kind payload said.is-u16) told.1 taken told.3 in
          let fuel : counts ts + 1 + left ≡ counts ts + suc left = omega arith in
          rw (fuel, append_assoc (written_all n ts) (record_of kind payload) rest)
          (reads_all rs n (suc left) slots (record_of kind payload ++ rest) e (omega arith)
          ∙ read-record left (slots ++ traces ts xs) kind payload rest few
          ∙ rw (added, append_assoc slots (replicate (counts ts) None) (Some x ∷ [])))
