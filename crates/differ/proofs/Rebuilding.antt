-- A fragment is its head and its children. Assumes nothing.
use Prim.Native.Nat.{ℕ}
use mathlib.Core.Bool.{cond}
use mathlib.Core.List.{List, []}
use mathlib.Core.Path.{◌≡◌, refl, sym, ap, ◌∙◌}
use lib.Dec.{ltb}
use Rattle.records.specs.Payloads.{Payload, number, keys}
use Rattle.contexts.specs.Leaves.{LockKind, After, Older, HashKind, Sha256, Hash256, Ripemd160, Hash160}
use Rattle.trees.specs.Fragment.{Fragment, Fragments, end, ◌▹◌, to_list, False, True, PkK, PkH, Lock, Hash}
use Rattle.trees.specs.Fragment.{Alt, Swap, Check, DupIf, Verify, NonZero, ZeroNotEqual}
use Rattle.trees.specs.Fragment.{AndB, AndV, OrB, OrD, OrC, OrI, AndOr, Thresh, Multi, MultiA}
use Rattle.trees.specs.Tree.{find, fragments, fragment_of}
use Rattle.walk.specs.TreeRecords.{or_false}
use Rattle.walk.specs.Heads.{Head, head_of, children_in}

-- the fragment of a head and of children
abbrev payload_for : Head → Payload
payload_for h = cond (ltb h.kind 56) (number h.number) (keys h.k h.keys)

abbrev rebuilt : Head → List Fragment → Fragment
rebuilt h xs = or_false (fragment_of h.kind (payload_for h) xs)

from_list : (xs : Fragments) → fragments (to_list xs) ≡ xs
unfolding fragments to_list
from_list end = refl
from_list (x ▹ xs) = rw (from_list xs)

rebuilt-lock : (kind : LockKind) (n : ℕ) → rebuilt (head_of (Lock kind n)) [] ≡ Lock kind n
unfolding head_of find
rebuilt-lock After n = refl
rebuilt-lock Older n = refl

rebuilt-hash : (kind : HashKind) (n : ℕ) → rebuilt (head_of (Hash kind n)) [] ≡ Hash kind n
unfolding head_of find
rebuilt-hash Sha256 n = refl
rebuilt-hash Hash256 n = refl
rebuilt-hash Ripemd160 n = refl
rebuilt-hash Hash160 n = refl

rebuilt-self : (f : Fragment) → rebuilt (head_of f) (children_in f) ≡ f
unfolding head_of children_in find
rebuilt-self False = refl
rebuilt-self True = refl
rebuilt-self (PkK n) = refl
rebuilt-self (PkH n) = refl
rebuilt-self (Lock kind n) = rebuilt-lock kind n
rebuilt-self (Hash kind h) = rebuilt-hash kind h
rebuilt-self (Alt x) = refl
rebuilt-self (Swap x) = refl
rebuilt-self (Check x) = refl
rebuilt-self (DupIf x) = refl
rebuilt-self (Verify x) = refl
rebuilt-self (NonZero x) = refl
rebuilt-self (ZeroNotEqual x) = refl
rebuilt-self (AndB x y) = refl
rebuilt-self (AndV x y) = refl
rebuilt-self (OrB x y) = refl
rebuilt-self (OrD x y) = refl
rebuilt-self (OrC x y) = refl
rebuilt-self (OrI x y) = refl
rebuilt-self (AndOr x y z) = refl
rebuilt-self (Thresh k xs) = ap (Thresh k) (from_list xs)
rebuilt-self (Multi k ks) = refl
rebuilt-self (MultiA k ks) = refl

pub same-fragment : (f g : Fragment) → head_of f ≡ head_of g → children_in f ≡ children_in g → f ≡ g
same-fragment f g e c =
    sym (rebuilt-self f) ∙ ap (λ (h : Head). rebuilt h (children_in f)) e ∙ ap (rebuilt (head_of g)) c ∙ rebuilt-self g
