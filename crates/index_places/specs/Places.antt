-- Where the fragment of each record stands in the script: document 02, R-11, over the records of document 01, "Records". A record's bytes are laid as
-- `claspwillow_script` lays them (crate script_entry, specs/Pieces.antt): what stands first, each child in the script's order with what follows it, and
-- what stands last.
use Rattle.std.specs.Prelude.{ℕ, zero, suc, ◌+◌, ◌≤◌, ◌<◌, Bool, false, List, [], ◌≡◌, length, get_or, Option, None, Some}
use Rattle.records.specs.Payloads.{Payload, children_of}
use Rattle.records.specs.RecordForm.{kind_of, fragment_payload}
use Rattle.contexts.specs.declared.Context.{Context}
use Rattle.trees.specs.Fragment.{Fragment}
use Rattle.walk.specs.TreeRecords.{record_at, fragment_at}
use Rattle.script_entry.specs.Pieces.{front, after, child_verified, place}
use Rattle.index_places.specs.Sizes.{size_of}

-- the children of a record, by their numbers
abbrev pub kids_with : Option Payload → List ℕ
kids_with (Some p) = children_of p
kids_with None = []

unfoldable pub kids_at : (tree : List ℕ) → ℕ → List ℕ
kids_at tree i = kids_with (fragment_payload (record_at tree i))

abbrev pub kind_at : (tree : List ℕ) → ℕ → ℕ
kind_at tree i = kind_of (record_at tree i)

-- child number j of a record, in the script's order
unfoldable pub kid : (tree : List ℕ) (i j : ℕ) → ℕ
kid tree i j = get_or (kids_at tree i) (place (kind_at tree i) j) 0

-- the bytes ahead of child number j, from the sizes of the children
unfoldable pub ahead : (kind : ℕ) (verified : Bool) (size : Bool → ℕ → ℕ) → ℕ → ℕ
ahead kind v size zero = length (front kind)
ahead kind v size (suc j) = ahead kind v size j + (size (child_verified kind j v) (place kind j) + length (after kind j))

module _ (c : Context) (tree : List ℕ) where
  -- how many bytes record i has, alone or before a VERIFY
  unfoldable pub size_at : (verified : Bool) → ℕ → ℕ
  size_at v i = size_of c v (fragment_at tree i)

  -- How many bytes of the script are its own and its children's. A VERIFY that is merged into its last byte does not lengthen it, and one that is not
  -- merged is a byte of the Verify.
  abbrev pub span_at : ℕ → ℕ
  span_at i = size_at false i

  unfoldable pub ahead_at : (verified : Bool) (i j : ℕ) → ℕ
  ahead_at v i j = ahead (kind_at tree i) v (λ w m. size_at w (get_or (kids_at tree i) m 0)) j

  -- Record i begins at this byte of the script of so many records: the last record begins the script; each child stands in its parent.
  pub data Stands (count : ℕ) : (i first : ℕ) → Type 0 where
    root : {i first : ℕ} → suc i ≡ count → first ≡ 0 → Stands count i first
    child : {i first : ℕ} (p at j : ℕ) → Stands count p at → j < length (kids_at tree p) → i ≡ kid tree p j → first ≡ at + ahead_at false p j
        → Stands count i first

  -- Byte `at` of the script is one of record i's.
  pub record Holds (count i at : ℕ) : Type 0 where
    pub first : ℕ
    pub stands : Stands count i first
    pub from : first ≤ at
    pub to : at < first + span_at i

-- Of so many records, record i is record k or stands beneath it in the tree.
pub data Beneath (tree : List ℕ) (count : ℕ) : (i k : ℕ) → Type 0 where
  same : {i k : ℕ} → i ≡ k → Beneath tree count i k
  under : {i k : ℕ} (p j : ℕ) → p < count → j < length (kids_at tree p) → i ≡ kid tree p j → Beneath tree count p k → Beneath tree count i k
