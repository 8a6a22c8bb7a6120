-- The fragment tree that bytes write: document 01, "Records", its fragment kinds 32 to 58 with their payloads.
use Rattle.std.specs.Prelude.{ℕ, cond, List, [], ◌∷◌, eqb, Option, None, Some}
use Rattle.records.specs.Payloads.{Payload, number_of, k_of, keys_of}
use Rattle.contexts.specs.Leaves.{After, Older, Sha256, Hash256, Ripemd160, Hash160}
use Rattle.trees.specs.Fragment.{Fragment, Fragments, end, ◌▹◌}
use Rattle.trees.specs.Fragment.{False, True, PkK, PkH, Lock, Hash}
use Rattle.trees.specs.Fragment.{Alt, Swap, Check, DupIf, Verify, NonZero, ZeroNotEqual}
use Rattle.trees.specs.Fragment.{AndB, AndV, OrB, OrD, OrC, OrI, AndOr, Thresh, Multi, MultiA}
use Rattle.trees.specs.Reading.{Answer, or_refuse, bad_tree, read_tree}

-- A table by kind: each line has a number and what stands under it.
pub record Line (A : Type 0) : Type 0 where
  pub kind : ℕ
  pub this : A

infix 90 ◌is◌
abbrev pub ◌is◌ : {A : Type 0} → ℕ → A → Line A
kind is a = record { kind = kind; this = a }

unfoldable pub find : {A : Type 0} → ℕ → List (Line A) → Option A
find kind [] = None
find kind (line ∷ lines) = cond (eqb kind line.kind) (Some line.this) (find kind lines)

-- how a record's payload and its children, already made, become a fragment
abbrev pub Maker : Type 0
Maker = Payload → List Fragment → Option Fragment

abbrev pub plain : Fragment → Maker
plain f payload [] = Some f
plain f payload (x ∷ xs) = None

abbrev pub with_number : (ℕ → Fragment) → Maker
with_number f payload [] = Some (f (number_of payload))
with_number f payload (x ∷ xs) = None

abbrev pub one : (Fragment → Fragment) → Maker
one f payload [] = None
one f payload (x ∷ []) = Some (f x)
one f payload (x ∷ y ∷ xs) = None

abbrev pub two : (Fragment → Fragment → Fragment) → Maker
two f payload [] = None
two f payload (x ∷ []) = None
two f payload (x ∷ y ∷ []) = Some (f x y)
two f payload (x ∷ y ∷ z ∷ xs) = None

abbrev pub three : (Fragment → Fragment → Fragment → Fragment) → Maker
three f payload [] = None
three f payload (x ∷ []) = None
three f payload (x ∷ y ∷ []) = None
three f payload (x ∷ y ∷ z ∷ []) = Some (f x y z)
three f payload (x ∷ y ∷ z ∷ w ∷ xs) = None

unfoldable pub fragments : List Fragment → Fragments
fragments [] = end
fragments (x ∷ xs) = x ▹ fragments xs

abbrev pub of_children : (ℕ → Fragments → Fragment) → Maker
of_children f payload xs = Some (f (k_of payload) (fragments xs))

abbrev pub of_keys : (ℕ → List ℕ → Fragment) → Maker
of_keys f payload [] = Some (f (k_of payload) (keys_of payload))
of_keys f payload (x ∷ xs) = None

abbrev pub makers : List (Line Maker)
makers =
    32 is plain False
    ∷ 33 is plain True
    ∷ 34 is with_number PkK
    ∷ 35 is with_number PkH
    ∷ 36 is with_number (Lock After)
    ∷ 37 is with_number (Lock Older)
    ∷ 38 is with_number (Hash Sha256)
    ∷ 39 is with_number (Hash Hash256)
    ∷ 40 is with_number (Hash Ripemd160)
    ∷ 41 is with_number (Hash Hash160)
    ∷ 42 is one Alt
    ∷ 43 is one Swap
    ∷ 44 is one Check
    ∷ 45 is one DupIf
    ∷ 46 is one Verify
    ∷ 47 is one NonZero
    ∷ 48 is one ZeroNotEqual
    ∷ 49 is two AndB
    ∷ 50 is two AndV
    ∷ 51 is two OrB
    ∷ 52 is two OrD
    ∷ 53 is two OrC
    ∷ 54 is two OrI
    ∷ 55 is three AndOr
    ∷ 56 is of_children Thresh
    ∷ 57 is of_keys Multi
    ∷ 58 is of_keys MultiA
    ∷ []

abbrev pub made_by : Option Maker → Maker
made_by (Some maker) payload xs = maker payload xs
made_by None payload xs = None

abbrev pub fragment_of : ℕ → Maker
fragment_of kind = made_by (find kind makers)

abbrev pub make_fragment : ℕ → Payload → List Fragment → Answer Fragment
make_fragment kind payload xs = or_refuse bad_tree (fragment_of kind payload xs)

-- the tree that some bytes write, whatever its types, or the number of the refusal
unfoldable pub tree_of : List ℕ → Answer Fragment
tree_of bytes = read_tree make_fragment bytes
