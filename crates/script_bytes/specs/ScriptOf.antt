-- What the entry gives: document 02, R-1. The tree is refused as the tree check does; then a number without a whole table entry is 17; then
-- too little room is 13.
use Rattle.std.specs.Prelude.{ℕ, Bool, true, ◌&&◌, cond, List, [], ◌∷◌, ◌++◌, ◌≡◌, leb, length, drop}
use Rattle.words.specs.Memory.{zeroed}
use Rattle.contexts.specs.declared.Context.{Context}
use Rattle.trees.specs.Fragment.{Fragment, Fragments, end, ◌▹◌, False, True, PkK, PkH, Lock, Hash}
use Rattle.trees.specs.Fragment.{Alt, Swap, Check, DupIf, Verify, NonZero, ZeroNotEqual}
use Rattle.trees.specs.Fragment.{AndB, AndV, OrB, OrD, OrC, OrI, AndOr, Thresh, Multi, MultiA}
use Rattle.trees.specs.Reading.{Answer, refused, done, ◌>>=◌, or_refuse}
use Rattle.trees.specs.TreeCheck.{bad_context, context_of, check_of}
use Rattle.script_machine.specs.Numbers.{Bytes}
use Rattle.script_bytes.specs.Tables.{Tables, has_key, has_key_hash, has_hash}
use Rattle.script_bytes.specs.Encoding.{script_bytes}

-- the numbers of the refusals that come after the tree check's
abbrev pub no_entry : ℕ
no_entry = 17

abbrev pub output_too_small : ℕ
output_too_small = 13

-- Whether every number of a tree has a whole entry in its table.
module _ (c : Context) (t : Tables) where
  unfoldable pub has_keys : List ℕ → Bool
  has_keys [] = true
  has_keys (i ∷ is) = has_key c t i && has_keys is

  unfoldable mutual
    pub has_entries : Fragment → Bool
    has_entries False = true
    has_entries True = true
    has_entries (PkK i) = has_key c t i
    has_entries (PkH i) = has_key_hash t i
    has_entries (Lock kind n) = true
    has_entries (Hash kind i) = has_hash t kind i
    has_entries (Alt x) = has_entries x
    has_entries (Swap x) = has_entries x
    has_entries (Check x) = has_entries x
    has_entries (DupIf x) = has_entries x
    has_entries (Verify x) = has_entries x
    has_entries (NonZero x) = has_entries x
    has_entries (ZeroNotEqual x) = has_entries x
    has_entries (AndB x y) = has_entries x && has_entries y
    has_entries (AndV x y) = has_entries x && has_entries y
    has_entries (OrB x y) = has_entries x && has_entries y
    has_entries (OrD x y) = has_entries x && has_entries y
    has_entries (OrC x y) = has_entries x && has_entries y
    has_entries (OrI x y) = has_entries x && has_entries y
    has_entries (AndOr x y z) = has_entries x && (has_entries y && has_entries z)
    has_entries (Thresh k xs) = all_have_entries xs
    has_entries (Multi k keys) = has_keys keys
    has_entries (MultiA k keys) = has_keys keys

    pub all_have_entries : Fragments → Bool
    all_have_entries end = true
    all_have_entries (x ▹ xs) = has_entries x && all_have_entries xs

-- a script that fits in so much room
abbrev pub fitting : (room : ℕ) → Bytes → Answer Bytes
fitting room script = cond (leb (length script) room) (done script) (refused output_too_small)

-- the script of a tree that the check passed
abbrev pub script_in : Context → Tables → (room : ℕ) → Fragment → Answer Bytes
script_in c t room f = cond (has_entries c t f) (fitting room (script_bytes c t f)) (refused no_entry)

-- The script, or the number of a refusal, for a context's number, a tree, tables, an output and work memory.
unfoldable pub script_of : (context : ℕ) → (tree : Bytes) → Tables → (out : Bytes) → (work : List ℕ) → Answer Bytes
script_of context tree t out work = do
  x ← check_of context tree (length work)
  c ← or_refuse bad_context (context_of context)
  script_in c t (length out) x.tree

-- the number of an answer: 0 is done
abbrev pub number_of : Answer Bytes → ℕ
number_of (refused n) = n
number_of (done script) = 0

-- the output: the script, then what stood there; all that stood there on a refusal
abbrev pub output_after : Answer Bytes → Bytes → Bytes
output_after (refused n) out = out
output_after (done script) out = script ++ drop (length script) out

-- the bytes written, 0 on a refusal
abbrev pub bytes_written : Answer Bytes → ℕ
bytes_written (refused n) = 0
bytes_written (done script) = length script

-- The entry, given these, leaves a number, an output, a count of bytes and work memory.
pub record ScriptPromise
    (context : ℕ) (tree : Bytes) (t : Tables) (out : Bytes) (work : List ℕ) (number : ℕ) (left : Bytes) (bytes : ℕ) (after : List ℕ)
    : Type 0 where
  pub gives : number ≡ number_of (script_of context tree t out work)
  pub writes : left ≡ output_after (script_of context tree t out work) out
  pub counts : bytes ≡ bytes_written (script_of context tree t out work)
  pub clears : after ≡ zeroed work

-- Any two outcomes that the promise allows are equal.
abbrev pub ScriptDetermined : Type 0
ScriptDetermined =
    (context : ℕ) (tree : Bytes) (t : Tables) (out : Bytes) (work : List ℕ)
    (number number' : ℕ) (left left' : Bytes) (bytes bytes' : ℕ) (after after' : List ℕ)
    → ScriptPromise context tree t out work number left bytes after → ScriptPromise context tree t out work number' left' bytes' after'
    → (number ≡ number') × (left ≡ left') × (bytes ≡ bytes') × (after ≡ after')
