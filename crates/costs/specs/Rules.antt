-- The cost rules, from CompilerExtData in policy/compiler.rs, in its order and under its names: document 01, "Modules, leaves first", 3.
-- The probabilities of branches are arguments, and a missing dissatisfaction cost that the Rust unwraps is the answer Missing. Assumes nothing.
use Rattle.std.specs.Prelude.{ℕ, ◌+◌, ◌-◌, cond, List, [], ◌∷◌, take, Float, Option, None, Some}
use Rattle.std.specs.Float.Ieee.{lt}
use Rattle.costs.specs.Names.{SigType, Ecdsa, Schnorr, Cost}
use Rattle.costs.specs.Arithmetic.{◌⊕◌, ◌⊖◌, ◌⊗◌, ◌⊘◌, float_of, 0·, 1·, 2·, 33·, 34·, 64·, 66·, 73·, MAX}

-- a cost, of its satisfaction cost and its dissatisfaction cost
abbrev pub cost : Float → Option Float → Cost
cost sat dissat = record { sat_cost = sat; dissat_cost = dissat }

abbrev pub sat : Cost → Float
sat c = c.sat_cost

abbrev pub dissat : Cost → Option Float
dissat c = c.dissat_cost

-- what needs a dissatisfaction cost has an answer where there is one
abbrev pub unwrap : Option Float → (Float → Option Cost) → Option Cost
unwrap (Some d) answer = answer d
unwrap None answer = None

-- leaves

abbrev pub TRUE : Cost
TRUE = cost 0· None

abbrev pub FALSE : Cost
FALSE = cost MAX (Some 0·)

abbrev pub pk_k : SigType → Cost
pk_k Ecdsa = cost 73· (Some 1·)
pk_k Schnorr = cost (1· ⊕ 64· ⊕ 1·) (Some 1·)

abbrev pub pk_h : SigType → Cost
pk_h Ecdsa = cost (73· ⊕ 34·) (Some (1· ⊕ 34·))
pk_h Schnorr = cost (66· ⊕ 33·) (Some (1· ⊕ 33·))

abbrev pub multi : ℕ → ℕ → Cost
multi k n = cost (1· ⊕ 73· ⊗ float_of k) (Some (1· ⊗ float_of (k + 1)))

abbrev pub multi_a : ℕ → ℕ → Cost
multi_a k n = cost (66· ⊗ float_of k ⊕ float_of (n - k)) (Some (float_of n))

abbrev pub hash : Cost
hash = cost 33· (Some 33·)

abbrev pub time : Cost
time = cost 0· None

-- casts

abbrev pub cast_alt : Cost → Cost
cast_alt c = cost (sat c) (dissat c)

abbrev pub cast_swap : Cost → Cost
cast_swap c = cost (sat c) (dissat c)

abbrev pub cast_check : Cost → Cost
cast_check c = cost (sat c) (dissat c)

abbrev pub cast_dupif : Cost → Cost
cast_dupif c = cost (2· ⊕ sat c) (Some 1·)

abbrev pub cast_verify : Cost → Cost
cast_verify c = cost (sat c) None

abbrev pub cast_nonzero : Cost → Cost
cast_nonzero c = cost (sat c) (Some 1·)

abbrev pub cast_zeronotequal : Cost → Cost
cast_zeronotequal c = cost (sat c) (dissat c)

abbrev pub cast_true : Cost → Cost
cast_true c = cost (sat c) None

abbrev pub cast_unlikely : Cost → Cost
cast_unlikely c = cost (2· ⊕ sat c) (Some 1·)

abbrev pub cast_likely : Cost → Cost
cast_likely c = cost (1· ⊕ sat c) (Some 2·)

-- pairs and triples

-- one dissatisfaction cost and then another, if there is one
abbrev pub after : Float → Option Float → Option Float
after d (Some e) = Some (d ⊕ e)
after d None = None

abbrev pub plus_dissat : Option Float → Option Float → Option Float
plus_dissat (Some d) e = after d e
plus_dissat None e = None

-- the sum of two costs, which can be dissatisfied where both can
abbrev pub plus : Cost → Cost → Cost
plus l r = cost (sat l ⊕ sat r) (plus_dissat (dissat l) (dissat r))

abbrev pub and_b : Cost → Cost → Cost
and_b l r = plus l r

abbrev pub and_v : Cost → Cost → Cost
and_v l r = cost (sat l ⊕ sat r) None

unfoldable pub or_b : Cost → Cost → Float → Float → Option Cost
or_b l r lprob rprob =
    unwrap (dissat l)
    λ ldis. unwrap (dissat r)
    λ rdis. Some (cost (lprob ⊗ (sat l ⊕ rdis) ⊕ rprob ⊗ (sat r ⊕ ldis)) (Some (ldis ⊕ rdis)))

unfoldable pub or_d : Cost → Cost → Float → Float → Option Cost
or_d l r lprob rprob =
    unwrap (dissat l)
    λ ldis. Some (cost (lprob ⊗ sat l ⊕ rprob ⊗ (sat r ⊕ ldis)) (after ldis (dissat r)))

unfoldable pub or_c : Cost → Cost → Float → Float → Option Cost
or_c l r lprob rprob =
    unwrap (dissat l)
    λ ldis. Some (cost (lprob ⊗ sat l ⊕ rprob ⊗ (sat r ⊕ ldis)) None)

-- the second where the first is more, else the first
abbrev pub lesser : Float → Float → Float
lesser a b = cond (lt b a) b a

abbrev pub or_i_dissat : Option Float → Option Float → Option Float
or_i_dissat (Some ldis) (Some rdis) = Some (lesser (2· ⊕ ldis) (1· ⊕ rdis))
or_i_dissat (Some ldis) None = Some (2· ⊕ ldis)
or_i_dissat None (Some rdis) = Some (1· ⊕ rdis)
or_i_dissat None None = None

unfoldable pub or_i : Cost → Cost → Float → Float → Cost
or_i l r lprob rprob = cost (lprob ⊗ (2· ⊕ sat l) ⊕ rprob ⊗ (1· ⊕ sat r)) (or_i_dissat (dissat l) (dissat r))

unfoldable pub and_or : Cost → Cost → Cost → Float → Float → Option Cost
and_or a b c aprob cprob =
    unwrap (dissat a)
    λ adis. Some (cost (aprob ⊗ (sat a ⊕ sat b) ⊕ cprob ⊗ (adis ⊕ sat c)) (after adis (dissat c)))

-- thresholds

-- what no children cost
abbrev pub nothing : Cost
nothing = cost 0· (Some 0·)

-- a cost to which others are added, in order
unfoldable pub plus_all : Cost → List Cost → Cost
plus_all sum [] = sum
plus_all sum (c ∷ cs) = plus_all (plus sum c) cs

abbrev pub threshold_of : Float → Cost → Option Cost
threshold_of k_over_n sum =
    unwrap (dissat sum)
    λ d. Some (cost (sat sum ⊗ k_over_n ⊕ d ⊗ (1· ⊖ k_over_n)) (Some d))

-- k of the first n
unfoldable pub threshold : ℕ → ℕ → List Cost → Option Cost
threshold k n subs = threshold_of (float_of k ⊘ float_of n) (plus_all nothing (take n subs))
