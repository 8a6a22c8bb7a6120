-- A fragment as what stands in its own record and its children: document 01, "Records", the kinds 32 to 58.
use Rattle.std.specs.Prelude.{ℕ, List, [], ◌∷◌, Option, None, Some}
use Rattle.records.specs.Payloads.{Payload, number_of, k_of, keys_of}
use Rattle.records.specs.RecordForm.{kind_of, fragment_payload}
use Rattle.contexts.specs.Leaves.{LockKind, After, Older, HashKind, Sha256, Hash256, Ripemd160, Hash160}
use Rattle.trees.specs.Fragment.{Fragment, to_list, False, True, PkK, PkH, Lock, Hash}
use Rattle.trees.specs.Fragment.{Alt, Swap, Check, DupIf, Verify, NonZero, ZeroNotEqual}
use Rattle.trees.specs.Fragment.{AndB, AndV, OrB, OrD, OrC, OrI, AndOr, Thresh, Multi, MultiA}

-- The kind of a fragment, its number, its k and its keys; 0 and no keys where it has none.
pub record Head : Type 0 where
  pub kind : ℕ
  pub number : ℕ
  pub k : ℕ
  pub keys : List ℕ

abbrev pub plain : (kind : ℕ) → Head
plain kind = record { kind = kind; number = 0; k = 0; keys = [] }

abbrev pub numbered : (kind number : ℕ) → Head
numbered kind number = record { kind = kind; number = number; k = 0; keys = [] }

abbrev pub counted : (kind k : ℕ) → (keys : List ℕ) → Head
counted kind k keys = record { kind = kind; number = 0; k = k; keys = keys }

abbrev pub lock_kind : LockKind → ℕ
lock_kind After = 36
lock_kind Older = 37

abbrev pub hash_kind : HashKind → ℕ
hash_kind Sha256 = 38
hash_kind Hash256 = 39
hash_kind Ripemd160 = 40
hash_kind Hash160 = 41

unfoldable pub head_of : Fragment → Head
head_of False = plain 32
head_of True = plain 33
head_of (PkK n) = numbered 34 n
head_of (PkH n) = numbered 35 n
head_of (Lock kind n) = numbered (lock_kind kind) n
head_of (Hash kind h) = numbered (hash_kind kind) h
head_of (Alt x) = plain 42
head_of (Swap x) = plain 43
head_of (Check x) = plain 44
head_of (DupIf x) = plain 45
head_of (Verify x) = plain 46
head_of (NonZero x) = plain 47
head_of (ZeroNotEqual x) = plain 48
head_of (AndB x y) = plain 49
head_of (AndV x y) = plain 50
head_of (OrB x y) = plain 51
head_of (OrD x y) = plain 52
head_of (OrC x y) = plain 53
head_of (OrI x y) = plain 54
head_of (AndOr x y z) = plain 55
head_of (Thresh k xs) = counted 56 k []
head_of (Multi k keys) = counted 57 k keys
head_of (MultiA k keys) = counted 58 k keys

-- the children, in order
unfoldable pub children_in : Fragment → List Fragment
children_in False = []
children_in True = []
children_in (PkK n) = []
children_in (PkH n) = []
children_in (Lock kind n) = []
children_in (Hash kind h) = []
children_in (Alt x) = x ∷ []
children_in (Swap x) = x ∷ []
children_in (Check x) = x ∷ []
children_in (DupIf x) = x ∷ []
children_in (Verify x) = x ∷ []
children_in (NonZero x) = x ∷ []
children_in (ZeroNotEqual x) = x ∷ []
children_in (AndB x y) = x ∷ y ∷ []
children_in (AndV x y) = x ∷ y ∷ []
children_in (OrB x y) = x ∷ y ∷ []
children_in (OrD x y) = x ∷ y ∷ []
children_in (OrC x y) = x ∷ y ∷ []
children_in (OrI x y) = x ∷ y ∷ []
children_in (AndOr x y z) = x ∷ y ∷ z ∷ []
children_in (Thresh k xs) = to_list xs
children_in (Multi k keys) = []
children_in (MultiA k keys) = []

-- the head that a record's bytes write
abbrev pub head_with : (kind : ℕ) → Option Payload → Head
head_with kind (Some p) = record { kind = kind; number = number_of p; k = k_of p; keys = keys_of p }
head_with kind None = plain kind

abbrev pub head_in : List ℕ → Head
head_in bytes = head_with (kind_of bytes) (fragment_payload bytes)
