-- How many bytes a fragment has in its script, alone or before a VERIFY: document 02, R-1 and R-11. The tables do not matter: proofs/Sizes.antt shows
-- that wherever they have a tree's entries, its bytes are so many.
use Rattle.std.specs.Prelude.{ℕ, ◌+◌, ◌*◌, Bool, true, false, List, length}
use Rattle.contexts.specs.declared.Context.{Context}
use Rattle.contexts.specs.declared.Context.TheVariants.{Segwitv0, Tap}
use Rattle.trees.specs.Fragment.{Fragment, Fragments, end, ◌▹◌, False, True, PkK, PkH, Lock, Hash}
use Rattle.trees.specs.Fragment.{Alt, Swap, Check, DupIf, Verify, NonZero, ZeroNotEqual}
use Rattle.trees.specs.Fragment.{AndB, AndV, OrB, OrD, OrC, OrI, AndOr, Thresh, Multi, MultiA}
use Rattle.script_bytes.specs.Tables.{hash_size}
use Rattle.script_bytes.specs.Layout.{number_bytes}

-- a VERIFY that is not merged
abbrev pub verify_size : (verified : Bool) → ℕ
verify_size true = 1
verify_size false = 0

-- the push of a number, and of a key
abbrev pub number_size : ℕ → ℕ
number_size n = length (number_bytes n)

abbrev pub key_push : Context → ℕ
key_push Segwitv0 = 34
key_push Tap = 33

-- A VERIFY that follows is merged into a test at the end: into that of a hash, Check, Thresh, Multi and MultiA, and of what Swap and AndV end with.
module _ (c : Context) where
  unfoldable mutual
    pub size_of : (verified : Bool) → Fragment → ℕ
    size_of v False = 1 + verify_size v
    size_of v True = 1 + verify_size v
    size_of v (PkK n) = key_push c + verify_size v
    size_of v (PkH n) = 24 + verify_size v
    size_of v (Lock kind n) = number_size n + (1 + verify_size v)
    size_of v (Hash kind h) = 7 + hash_size kind
    size_of v (Alt x) = 2 + size_of false x + verify_size v
    size_of v (Swap x) = 1 + size_of v x
    size_of v (Check x) = size_of false x + 1
    size_of v (DupIf x) = 3 + size_of false x + verify_size v
    size_of v (Verify x) = size_of true x + verify_size v
    size_of v (NonZero x) = 4 + size_of false x + verify_size v
    size_of v (ZeroNotEqual x) = size_of false x + 1 + verify_size v
    size_of v (AndB x y) = size_of false x + size_of false y + 1 + verify_size v
    size_of v (AndV x y) = size_of false x + size_of v y
    size_of v (OrB x y) = size_of false x + size_of false y + 1 + verify_size v
    size_of v (OrD x y) = size_of false x + size_of false y + 3 + verify_size v
    size_of v (OrC x y) = size_of false x + size_of false y + 2 + verify_size v
    size_of v (OrI x y) = size_of false x + size_of false y + 3 + verify_size v
    size_of v (AndOr x y z) = size_of false x + size_of false y + size_of false z + 3 + verify_size v
    size_of v (Thresh k xs) = sum_size xs + (number_size k + 1)
    size_of v (Multi k keys) = number_size k + key_push c * length keys + (number_size (length keys) + 1)
    size_of v (MultiA k keys) = (key_push c + 1) * length keys + (number_size k + 1)

    -- the children of a Thresh: the first alone, each other with ADD
    pub sum_size : Fragments → ℕ
    sum_size end = 0
    sum_size (x ▹ xs) = size_of false x + adds_size xs

    pub adds_size : Fragments → ℕ
    adds_size end = 0
    adds_size (x ▹ xs) = size_of false x + 1 + adds_size xs
