-- The ways to satisfy and to dissatisfy a fragment: BIP 379's satisfaction table, row by row, without the ways in brackets, which it
-- marks as malleable or needless. `w ++ v` has v on top: v is the witness of the fragment that comes first in the script.
use Rattle.std.specs.Prelude.{ℕ, suc, List, [], ◌∷◌, ◌++◌, length, replicate}
use Rattle.contexts.specs.Leaves.{LockKind, HashKind}
use Rattle.trees.specs.Fragment.{Fragment, Fragments, end, ◌▹◌, False, True, PkK, PkH, Lock, Hash}
use Rattle.trees.specs.Fragment.{Alt, Swap, Check, DupIf, Verify, NonZero, ZeroNotEqual}
use Rattle.trees.specs.Fragment.{AndB, AndV, OrB, OrD, OrC, OrI, AndOr, Thresh, Multi, MultiA}
use Rattle.witness_ways.specs.Elements.{Witness, signature, key, preimage, empty, one}

-- The signatures of k of the keys, in the keys' order, the last key's on top.
pub data Picked : (k : ℕ) → (keys : List ℕ) → Witness → Type 0 where
  all-picked : Picked 0 [] []
  pick : {k : ℕ} {keys : List ℕ} {w : Witness} (n : ℕ) → Picked k keys w → Picked (suc k) (n ∷ keys) (signature n ∷ w)
  pass : {k : ℕ} {keys : List ℕ} {w : Witness} (n : ℕ) → Picked k keys w → Picked k (n ∷ keys) w

-- The signatures of k of the keys, and `0` in the places of the others, the first key's on top.
pub data Placed : (k : ℕ) → (keys : List ℕ) → Witness → Type 0 where
  all_placed : Placed 0 [] []
  signed : {k : ℕ} {keys : List ℕ} {w : Witness} (n : ℕ) → Placed k keys w → Placed (suc k) (n ∷ keys) (w ++ (signature n ∷ []))
  unsigned : {k : ℕ} {keys : List ℕ} {w : Witness} (n : ℕ) → Placed k keys w → Placed k (n ∷ keys) (w ++ (empty ∷ []))

mutual
  pub data Satisfies : Fragment → Witness → Type 0 where
    true : Satisfies True []
    lock : (kind : LockKind) (n : ℕ) → Satisfies (Lock kind n) []
    pk-k : (n : ℕ) → Satisfies (PkK n) (signature n ∷ [])
    pk-h : (n : ℕ) → Satisfies (PkH n) (signature n ∷ key n ∷ [])
    hash : (kind : HashKind) (n : ℕ) → Satisfies (Hash kind n) (preimage kind n ∷ [])
    and-or-y : {x y : Fragment} {v w : Witness} (z : Fragment) → Satisfies x v → Satisfies y w → Satisfies (AndOr x y z) (w ++ v)
    and-or-z : {x z : Fragment} {v w : Witness} (y : Fragment) → Dissatisfies x v → Satisfies z w → Satisfies (AndOr x y z) (w ++ v)
    and-v : {x y : Fragment} {v w : Witness} → Satisfies x v → Satisfies y w → Satisfies (AndV x y) (w ++ v)
    and-b : {x y : Fragment} {v w : Witness} → Satisfies x v → Satisfies y w → Satisfies (AndB x y) (w ++ v)
    or-b-x : {x z : Fragment} {v w : Witness} → Satisfies x v → Dissatisfies z w → Satisfies (OrB x z) (w ++ v)
    or-b-z : {x z : Fragment} {v w : Witness} → Dissatisfies x v → Satisfies z w → Satisfies (OrB x z) (w ++ v)
    or-c-x : {x : Fragment} {w : Witness} (z : Fragment) → Satisfies x w → Satisfies (OrC x z) w
    or-c-z : {x z : Fragment} {v w : Witness} → Dissatisfies x v → Satisfies z w → Satisfies (OrC x z) (w ++ v)
    or-d-x : {x : Fragment} {w : Witness} (z : Fragment) → Satisfies x w → Satisfies (OrD x z) w
    or-d-z : {x z : Fragment} {v w : Witness} → Dissatisfies x v → Satisfies z w → Satisfies (OrD x z) (w ++ v)
    or-i-x : {x : Fragment} {w : Witness} (z : Fragment) → Satisfies x w → Satisfies (OrI x z) (w ++ (one ∷ []))
    or-i-z : {z : Fragment} {w : Witness} (x : Fragment) → Satisfies z w → Satisfies (OrI x z) (w ++ (empty ∷ []))
    thresh : {xs : Fragments} {w : Witness} (k : ℕ) → Exactly k xs w → Satisfies (Thresh k xs) w
    multi : {k : ℕ} {keys : List ℕ} {w : Witness} → Picked k keys w → Satisfies (Multi k keys) (empty ∷ w)
    multi-a : {k : ℕ} {keys : List ℕ} {w : Witness} → Placed k keys w → Satisfies (MultiA k keys) w
    alt : {x : Fragment} {w : Witness} → Satisfies x w → Satisfies (Alt x) w
    swap : {x : Fragment} {w : Witness} → Satisfies x w → Satisfies (Swap x) w
    check : {x : Fragment} {w : Witness} → Satisfies x w → Satisfies (Check x) w
    zero-not-equal : {x : Fragment} {w : Witness} → Satisfies x w → Satisfies (ZeroNotEqual x) w
    dup-if : {x : Fragment} {w : Witness} → Satisfies x w → Satisfies (DupIf x) (w ++ (one ∷ []))
    verify : {x : Fragment} {w : Witness} → Satisfies x w → Satisfies (Verify x) w
    non_zero : {x : Fragment} {w : Witness} → Satisfies x w → Satisfies (NonZero x) w

  pub data Dissatisfies : Fragment → Witness → Type 0 where
    false : Dissatisfies False []
    no-pk-k : (n : ℕ) → Dissatisfies (PkK n) (empty ∷ [])
    no-pk-h : (n : ℕ) → Dissatisfies (PkH n) (empty ∷ key n ∷ [])
    no-and-or : {x z : Fragment} {v w : Witness} (y : Fragment) → Dissatisfies x v → Dissatisfies z w → Dissatisfies (AndOr x y z) (w ++ v)
    no-and-b : {x y : Fragment} {v w : Witness} → Dissatisfies x v → Dissatisfies y w → Dissatisfies (AndB x y) (w ++ v)
    no-or-b : {x z : Fragment} {v w : Witness} → Dissatisfies x v → Dissatisfies z w → Dissatisfies (OrB x z) (w ++ v)
    no-or-d : {x z : Fragment} {v w : Witness} → Dissatisfies x v → Dissatisfies z w → Dissatisfies (OrD x z) (w ++ v)
    no-or-i-x : {x : Fragment} {w : Witness} (z : Fragment) → Dissatisfies x w → Dissatisfies (OrI x z) (w ++ (one ∷ []))
    no-or-i-z : {z : Fragment} {w : Witness} (x : Fragment) → Dissatisfies z w → Dissatisfies (OrI x z) (w ++ (empty ∷ []))
    no-thresh : {xs : Fragments} {w : Witness} (k : ℕ) → Exactly 0 xs w → Dissatisfies (Thresh k xs) w
    no-multi : (k : ℕ) (keys : List ℕ) → Dissatisfies (Multi k keys) (replicate (suc k) empty)
    no-multi-a : (k : ℕ) (keys : List ℕ) → Dissatisfies (MultiA k keys) (replicate (length keys) empty)
    no-alt : {x : Fragment} {w : Witness} → Dissatisfies x w → Dissatisfies (Alt x) w
    no-swap : {x : Fragment} {w : Witness} → Dissatisfies x w → Dissatisfies (Swap x) w
    no-check : {x : Fragment} {w : Witness} → Dissatisfies x w → Dissatisfies (Check x) w
    no-zero-not-equal : {x : Fragment} {w : Witness} → Dissatisfies x w → Dissatisfies (ZeroNotEqual x) w
    no-dup-if : (x : Fragment) → Dissatisfies (DupIf x) (empty ∷ [])
    no-non-zero : (x : Fragment) → Dissatisfies (NonZero x) (empty ∷ [])

  -- Exactly k of the children are satisfied, and the others dissatisfied.
  pub data Exactly : (k : ℕ) → Fragments → Witness → Type 0 where
    no-child : Exactly 0 end []
    sat-child : {k : ℕ} {x : Fragment} {xs : Fragments} {v w : Witness} → Satisfies x v → Exactly k xs w → Exactly (suc k) (x ▹ xs) (w ++ v)
    dissat-child : {k : ℕ} {x : Fragment} {xs : Fragments} {v w : Witness} → Dissatisfies x v → Exactly k xs w → Exactly k (x ▹ xs) (w ++ v)
