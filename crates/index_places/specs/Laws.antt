-- What is proved of the places of a tree's records: document 02, R-11. proofs/Theorem.antt has the proofs.
use Rattle.std.specs.Prelude.{ℕ, ◌+◌, ◌-◌, ◌≤◌, ◌<◌, Bool, true, false, List, ◌≡◌, length, take, drop}
use Rattle.contexts.specs.declared.Context.{Context}
use Rattle.trees.specs.Fragment.{Fragment, Verify}
use Rattle.walk.specs.TreeRecords.{fragment_at, TreeRecords}
use Rattle.script_bytes.specs.Tables.{Tables}
use Rattle.script_bytes.specs.Encoding.{script_bytes}
use Rattle.script_bytes.specs.ScriptOf.{has_entries}
use Rattle.script_bytes.specs.Layout.{bytes_of}
use Rattle.index_places.specs.Sizes.{size_of}
use Rattle.index_places.specs.Places.{kids_at, kid, span_at, ahead_at, Stands, Holds, Beneath}

-- every record stands in one place of the script, and no record in two
abbrev pub OnePlace : Type 0
OnePlace =
    (c : Context) (tree : List ℕ) (f : Fragment) (r : TreeRecords tree f) (i : ℕ) → i < r.count
    → (first : ℕ) × Stands c tree r.count i first × ((first' : ℕ) → Stands c tree r.count i first' → first ≡ first')

-- Whatever tables have a tree's entries: the bytes of a record's range in the script that `claspwillow_script` writes are those of its fragment, alone or
-- with a VERIFY that is merged into its last byte; and the root's range is the whole script.
abbrev pub OwnBytes : Type 0
OwnBytes =
    (c : Context) (t : Tables) (tree : List ℕ) (f : Fragment) (r : TreeRecords tree f) (i first : ℕ) → has_entries c t f ≡ true
    → Stands c tree r.count i first
    → (v : Bool) × (take (span_at c tree i) (drop first (script_bytes c t f)) ≡ bytes_of c t v (fragment_at tree i))
    × (length (bytes_of c t v (fragment_at tree i)) ≡ length (bytes_of c t false (fragment_at tree i)))

abbrev pub WholeScript : Type 0
WholeScript =
    (c : Context) (t : Tables) (tree : List ℕ) (f : Fragment) (r : TreeRecords tree f) → has_entries c t f ≡ true
    → Stands c tree r.count (r.count - 1) 0 × (length (script_bytes c t f) ≡ span_at c tree (r.count - 1))

-- the ranges of a record's children lie within its own, each before the next in the script's order
abbrev pub InOrder : Type 0
InOrder =
    (c : Context) (tree : List ℕ) (f : Fragment) (r : TreeRecords tree f) (p at : ℕ) → Stands c tree r.count p at
    → (j : ℕ) → j < length (kids_at tree p)
    → Stands c tree r.count (kid tree p j) (at + ahead_at c tree false p j)
    × (at + ahead_at c tree false p j + span_at c tree (kid tree p j) ≤ at + span_at c tree p)
    × ((m : ℕ) → j < m → at + ahead_at c tree false p j + span_at c tree (kid tree p j) ≤ at + ahead_at c tree false p m)

-- a Verify has no byte of its own where its VERIFY is merged, and one where it is not
abbrev pub MergedVerify : Type 0
MergedVerify = (c : Context) (x : Fragment) → size_of c false (Verify x) ≡ size_of c true x

-- of two records that hold a byte the one with the smaller number is the other or stands beneath it; a byte past the end is held by none
abbrev pub Nested : Type 0
Nested =
    (c : Context) (tree : List ℕ) (f : Fragment) (r : TreeRecords tree f) (at i k : ℕ) → i ≤ k → Holds c tree r.count i at
    → Holds c tree r.count k at → Beneath tree r.count i k

abbrev pub NonePast : Type 0
NonePast =
    (c : Context) (tree : List ℕ) (f : Fragment) (r : TreeRecords tree f) (at i : ℕ) → span_at c tree (r.count - 1) ≤ at
    → Holds c tree r.count i at → ⊥
