-- A record in a list of bytes: document 01, "Records". It is its whole length (u16), a kind (u16), then the payload. Assumes nothing.
use Rattle.std.specs.Prelude.{Bool, true, false, List, ℕ, length, Option, None, Some}
use Rattle.records.specs.Numbers.{u16, between}
use Rattle.records.specs.Shapes.{meant, shape_of, is_policy_kind, is_fragment_kind}
use Rattle.records.specs.Payloads.{Payload, written_kind, payload_of}
use Rattle.records.specs.declared.Shape.{Shape}

abbrev pub when_whole : Bool → ℕ → Option ℕ
when_whole true n = Some n
when_whole false n = None

-- the whole length of the record that some bytes begin with, if it has room for length and kind and that many bytes are there
abbrev pub record_length : List ℕ → Option ℕ
record_length s = when_whole (between 4 (length s) (u16 s 0)) (u16 s 0)

-- ---- of the bytes of one whole record

-- the kind, 19 being 3 and so on: what differs is the width of key numbers
unfoldable pub kind_of : List ℕ → ℕ
kind_of s = meant (written_kind s)

abbrev pub payload_as : Option Shape → List ℕ → Option Payload
payload_as (Some shape) s = payload_of shape s
payload_as None s = None

abbrev pub only_if : Bool → Option Payload → Option Payload
only_if true p = p
only_if false p = None

-- the payload of a record, if it is of the form; in a policy and in a fragment tree the kind is one of theirs
abbrev pub record_payload : List ℕ → Option Payload
record_payload s = payload_as (shape_of (kind_of s)) s

abbrev pub policy_payload : List ℕ → Option Payload
policy_payload s = only_if (is_policy_kind (kind_of s)) (record_payload s)

abbrev pub fragment_payload : List ℕ → Option Payload
fragment_payload s = only_if (is_fragment_kind (kind_of s)) (record_payload s)
