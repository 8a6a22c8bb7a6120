-- The extremes by structure, from BIP 379's satisfaction table as specs/Ways.antt has it. proofs/Extremes.antt shows that they are those of
-- the ways. A threshold's are by how many of its children are satisfied.
use Rattle.std.specs.Prelude.{ℕ, zero, suc, ◌+◌, ◌*◌, ◌-◌, min, max, cond, leb, length, Option, None, Some}
use Rattle.contexts.specs.declared.Context.{Context}
use Rattle.trees.specs.Fragment.{Fragment, Fragments, end, ◌▹◌, False, True, PkK, PkH, Lock, Hash}
use Rattle.trees.specs.Fragment.{Alt, Swap, Check, DupIf, Verify, NonZero, ZeroNotEqual}
use Rattle.trees.specs.Fragment.{AndB, AndV, OrB, OrD, OrC, OrI, AndOr, Thresh, Multi, MultiA}
use Rattle.witness_ways.specs.declared.Bytes.{Bytes}
use Rattle.witness_ways.specs.declared.Both.{Both}
use Rattle.witness_ways.specs.Elements.{Witness, signature_bytes, key_bytes}
use Rattle.witness_ways.specs.Ways.{Satisfies, Dissatisfies}
use Rattle.witness_ways.specs.Spends.{Within}

-- the fewest and the most bytes of the witnesses of some ways, none where there is no way
abbrev pub Extremes : Type 0
Extremes = Option Bytes

abbrev pub bytes : (fewest most : ℕ) → Extremes
bytes a b = Some (record { fewest = a; most = b })

-- every way has so many bytes
abbrev pub just : ℕ → Extremes
just n = bytes n n

infixl 60 ◌and◌
infixl 50 ◌or◌
-- a way of each, the second on the first
abbrev pub ◌and◌ : Extremes → Extremes → Extremes
None and y = None
Some x and None = None
Some x and Some y = bytes (x.fewest + y.fewest) (x.most + y.most)

-- a way of either
abbrev pub ◌or◌ : Extremes → Extremes → Extremes
None or y = y
Some x or None = Some x
Some x or Some y = bytes (min x.fewest y.fewest) (max x.most y.most)

abbrev pub ways : (satisfied dissatisfied : Extremes) → Both
ways s d = record { satisfied = s; dissatisfied = d }

-- ---- each row of the table, from what its children have

abbrev pub sat : Both → Extremes
sat x = x.satisfied

abbrev pub dissat : Both → Extremes
dissat x = x.dissatisfied

abbrev pub false_ways : Both
false_ways = ways None (just 0)

abbrev pub true_ways : Both
true_ways = ways (just 0) None

abbrev pub hash_ways : Both
hash_ways = ways (just 33) None

abbrev pub pk_k_ways : Context → Both
pk_k_ways c = ways (just (signature_bytes c)) (just 1)

abbrev pub pk_h_ways : Context → Both
pk_h_ways c = ways (just (signature_bytes c + key_bytes c)) (just (1 + key_bytes c))

abbrev pub and_or_ways : (x y z : Both) → Both
and_or_ways x y z = ways (sat y and sat x or sat z and dissat x) (dissat z and dissat x)

abbrev pub and_v_ways : (x y : Both) → Both
and_v_ways x y = ways (sat y and sat x) None

abbrev pub and_b_ways : (x y : Both) → Both
and_b_ways x y = ways (sat y and sat x) (dissat y and dissat x)

abbrev pub or_b_ways : (x z : Both) → Both
or_b_ways x z = ways (dissat z and sat x or sat z and dissat x) (dissat z and dissat x)

abbrev pub or_c_ways : (x z : Both) → Both
or_c_ways x z = ways (sat x or sat z and dissat x) None

abbrev pub or_d_ways : (x z : Both) → Both
or_d_ways x z = ways (sat x or sat z and dissat x) (dissat z and dissat x)

abbrev pub or_i_ways : (x z : Both) → Both
or_i_ways x z = ways (sat x and just 2 or sat z and just 1) (dissat x and just 2 or dissat z and just 1)

-- k of n keys sign, with so many bytes
abbrev pub some_of : (k n bytes : ℕ) → Extremes
some_of k n bytes = cond (leb k n) (just bytes) None

abbrev pub multi_ways : Context → (k n : ℕ) → Both
multi_ways c k n = ways (just 1 and some_of k n (k * signature_bytes c)) (just (1 + k))

abbrev pub multi_a_ways : Context → (k n : ℕ) → Both
multi_a_ways c k n = ways (some_of k n (k * signature_bytes c + (n - k))) (just n)

abbrev pub dup_if_ways : Both → Both
dup_if_ways x = ways (sat x and just 2) (just 1)

abbrev pub verify_ways : Both → Both
verify_ways x = ways (sat x) None

abbrev pub non_zero_ways : Both → Both
non_zero_ways x = ways (sat x) (just 1)

-- ---- the children of a threshold: the extremes by how many of them are satisfied

abbrev pub ByCount : Type 0
ByCount = ℕ → Extremes

-- without children none is satisfied
abbrev pub no_child : ByCount
no_child zero = just 0
no_child (suc k) = None

-- one child more is satisfied, or dissatisfied
abbrev pub one_more : Both → ByCount → ByCount
one_more x rest zero = rest zero and dissat x
one_more x rest (suc k) = rest k and sat x or rest (suc k) and dissat x

module _ (c : Context) where
  unfoldable mutual
    pub extremes : Fragment → Both
    extremes False = false_ways
    extremes True = true_ways
    extremes (PkK n) = pk_k_ways c
    extremes (PkH n) = pk_h_ways c
    extremes (Lock kind n) = true_ways
    extremes (Hash kind n) = hash_ways
    extremes (Alt x) = extremes x
    extremes (Swap x) = extremes x
    extremes (Check x) = extremes x
    extremes (DupIf x) = dup_if_ways (extremes x)
    extremes (Verify x) = verify_ways (extremes x)
    extremes (NonZero x) = non_zero_ways (extremes x)
    extremes (ZeroNotEqual x) = extremes x
    extremes (AndB x y) = and_b_ways (extremes x) (extremes y)
    extremes (AndV x y) = and_v_ways (extremes x) (extremes y)
    extremes (OrB x z) = or_b_ways (extremes x) (extremes z)
    extremes (OrD x z) = or_d_ways (extremes x) (extremes z)
    extremes (OrC x z) = or_c_ways (extremes x) (extremes z)
    extremes (OrI x z) = or_i_ways (extremes x) (extremes z)
    extremes (AndOr x y z) = and_or_ways (extremes x) (extremes y) (extremes z)
    extremes (Thresh k xs) = ways (by_count xs k) (by_count xs 0)
    extremes (Multi k keys) = multi_ways c k (length keys)
    extremes (MultiA k keys) = multi_a_ways c k (length keys)

    pub by_count : Fragments → ByCount
    by_count end = no_child
    by_count (x ▹ xs) = one_more (extremes x) (by_count xs)

-- ---- what is computed is what is asked

-- Extremes are those of some ways.
pub data Spans (c : Context) (way : Witness → Type 0) : Extremes → Type 0 where
  no_way : ((w : Witness) → way w → ⊥) → Spans c way None
  spans : {x : Bytes} → Within c way x.fewest x.most → Spans c way (Some x)

-- The computed extremes are those of the ways to satisfy a fragment and to dissatisfy it, whatever its type.
pub record ExtremesMet (c : Context) (f : Fragment) : Type 0 where
  pub satisfied : Spans c (Satisfies f) (sat (extremes c f))
  pub dissatisfied : Spans c (Dissatisfies f) (dissat (extremes c f))

-- document 02's results of the extremes: whether there is a way, and its fewest and most bytes
abbrev pub found_in : Extremes → ℕ
found_in None = 0
found_in (Some x) = 1

abbrev pub smallest_in : Extremes → ℕ
smallest_in None = 0
smallest_in (Some x) = x.fewest

abbrev pub largest_in : Extremes → ℕ
largest_in None = 0
largest_in (Some x) = x.most
