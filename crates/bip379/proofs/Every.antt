-- What a computation over every base, input and so on shows of each of them. Assumes nothing.
use mathlib.Core.Bool.{Bool, true, false, ◌&&◌}
use lib.Dec.{T}
use lib.Ieee.Fits.{and_l, and_r}
use Rattle.bip379.specs.Rust.{Base, B, K, «V», W, Input, Zero, One, Any, OneNonZero, AnyNonZero, Dissat, None, Unique, Unknown}
use Rattle.bip379.specs.Rust.{Correctness, Malleability, «Type»}

abbrev pub all_bool : (Bool → Bool) → Bool
all_bool p = p true && p false

pub every_bool : (p : Bool → Bool) → T (all_bool p) → (a : Bool) → T (p a)
every_bool p h true = and_l (p true) _ h
every_bool p h false = and_r (p true) _ h

abbrev pub all_base : (Base → Bool) → Bool
all_base p = p B && (p K && (p «V» && p W))

pub every_base : (p : Base → Bool) → T (all_base p) → (a : Base) → T (p a)
every_base p h B = and_l (p B) _ h
every_base p h K = and_l (p K) _ (and_r (p B) _ h)
every_base p h «V» = and_l (p «V») _ (and_r (p K) _ (and_r (p B) _ h))
every_base p h W = and_r (p «V») _ (and_r (p K) _ (and_r (p B) _ h))

abbrev pub all_input : (Input → Bool) → Bool
all_input p = p Zero && (p One && (p Any && (p OneNonZero && p AnyNonZero)))

pub every_input : (p : Input → Bool) → T (all_input p) → (a : Input) → T (p a)
every_input p h Zero = and_l (p Zero) _ h
every_input p h One = and_l (p One) _ (and_r (p Zero) _ h)
every_input p h Any = and_l (p Any) _ (and_r (p One) _ (and_r (p Zero) _ h))
every_input p h OneNonZero = and_l (p OneNonZero) _ (and_r (p Any) _ (and_r (p One) _ (and_r (p Zero) _ h)))
every_input p h AnyNonZero = and_r (p OneNonZero) _ (and_r (p Any) _ (and_r (p One) _ (and_r (p Zero) _ h)))

abbrev pub all_dissat : (Dissat → Bool) → Bool
all_dissat p = p None && (p Unique && p Unknown)

pub every_dissat : (p : Dissat → Bool) → T (all_dissat p) → (a : Dissat) → T (p a)
every_dissat p h None = and_l (p None) _ h
every_dissat p h Unique = and_l (p Unique) _ (and_r (p None) _ h)
every_dissat p h Unknown = and_r (p Unique) _ (and_r (p None) _ h)

abbrev corr : Base → Input → Bool → Bool → Correctness
corr b i d u = record { base = b; input = i; dissatisfiable = d; unit = u }

abbrev pub all_correctness : (Correctness → Bool) → Bool
all_correctness p = all_base λ b. all_input λ i. all_bool λ d. all_bool λ u. p (corr b i d u)

pub every_correctness : (p : Correctness → Bool) → T (all_correctness p) → (x : Correctness) → T (p x)
every_correctness p h x =
    every_bool (λ u. p (corr x.base x.input x.dissatisfiable u))
    (every_bool (λ d. all_bool λ u. p (corr x.base x.input d u))
    (every_input (λ i. all_bool λ d. all_bool λ u. p (corr x.base i d u))
    (every_base (λ b. all_input λ i. all_bool λ d. all_bool λ u. p (corr b i d u)) h x.base) x.input) x.dissatisfiable) x.unit

abbrev mall : Dissat → Bool → Bool → Malleability
mall x s m = record { dissat = x; safe = s; non_malleable = m }

abbrev pub all_malleability : (Malleability → Bool) → Bool
all_malleability p = all_dissat λ x. all_bool λ s. all_bool λ m. p (mall x s m)

pub every_malleability : (p : Malleability → Bool) → T (all_malleability p) → (x : Malleability) → T (p x)
every_malleability p h x =
    every_bool (λ m. p (mall x.dissat x.safe m))
    (every_bool (λ s. all_bool λ m. p (mall x.dissat s m))
    (every_dissat (λ y. all_bool λ s. all_bool λ m. p (mall y s m)) h x.dissat) x.safe) x.non_malleable

abbrev pub all_type : («Type» → Bool) → Bool
all_type p = all_correctness λ c. all_malleability λ m. p (record { corr = c; mall = m })

pub every_type : (p : «Type» → Bool) → T (all_type p) → (x : «Type») → T (p x)
every_type p h x =
    every_malleability (λ m. p (record { corr = x.corr; mall = m }))
    (every_correctness (λ c. all_malleability λ m. p (record { corr = c; mall = m })) h x.corr) x.mall
