-- The length of a script against the figure that the cost counts it with, `pk_cost` of extra_props.rs: document 02, R-1.
use Rattle.std.specs.Prelude.{ℕ, ◌^◌, true, [], ◌∷◌, ◌≡◌, length, replicate}
use Rattle.contexts.specs.declared.Context.{Context}
use Rattle.contexts.specs.declared.Context.TheVariants.{Segwitv0, Tap}
use Rattle.contexts.specs.Leaves.{After}
use Rattle.trees.specs.Fragment.{Fragment, Lock, Multi, MultiA}
use Rattle.trees.specs.TreeCheck.{Typed}
use Rattle.definition.specs.Candidates.{Candidate}
use Rattle.definition_laws.specs.Laws.{figures_of, Good}
use Rattle.script_machine.specs.Numbers.{Bytes}
use Rattle.script_bytes.specs.Tables.{Tables, tables}
use Rattle.script_bytes.specs.Encoding.{script_bytes}
use Rattle.script_bytes.specs.ScriptOf.{has_entries}
use Rattle.script_bytes.specs.Written.{Written}

-- The figure is the length of every script that the entry writes.
abbrev pub SameLength : Type 0
SameLength =
    (c : Context) (t : Tables) (x : Typed) (bytes : Bytes) → Written c t x bytes → length bytes ≡ (figures_of c x.tree).pk_cost

-- The same of a candidate of the search, whose cost counts the figure that the candidate carries.
abbrev pub SameAsCosted : Type 0
SameAsCosted =
    (c : Context) (t : Tables) (x : Candidate) → Good c x → has_entries c t x.tree ≡ true
    → length (script_bytes c t x.tree) ≡ x.ext.pk_cost

-- A script's length, and the figure.
abbrev pub Are : (c : Context) → Tables → Fragment → (bytes figure : ℕ) → Type 0
Are c t f bytes figure = (length (script_bytes c t f) ≡ bytes) × ((figures_of c f).pk_cost ≡ figure)

-- one key, of zero bytes
abbrev pub one_key : (size : ℕ) → Tables
one_key size = tables (replicate size 0) [] [] []

-- Trees that the check passes for no bytes may have another figure: Multi in context 1, MultiA in context 0, MultiA of over 16 keys, and a lock of
-- over 5 bytes. One tree of each; that these are all kinds, or the smallest, is not claimed.
pub record Differences : Type 0 where
  pub multi-in-1 : Are Tap (one_key 32) (Multi 1 (0 ∷ [])) 36 37
  pub multi_a-in-0 : Are Segwitv0 (one_key 33) (MultiA 1 (0 ∷ [])) 37 36
  pub seventeen-keys : Are Tap (one_key 32) (MultiA 1 (replicate 17 0)) 580 581
  pub large-lock : Are Tap (one_key 0) (Lock After (2 ^ 39)) 8 7
