-- The malleability rules, from types/malleability.rs, in its order and under its names.
use Rattle.std.specs.Prelude.{Bool, true, false, cond, ◌&&◌, ◌||◌, List, ℕ, ◌-◌, ltb, leb, eqb, length}
use Rattle.malleability.specs.Names.{Dissat, None, Unique, Unknown, Malleability}
use Rattle.malleability.specs.Letters.{is_none, is_unique}
use Rattle.contexts.specs.Lists.{all, count}

-- the dissatisfactions, s and m
abbrev pub malleability : Dissat → Bool → Bool → Malleability
malleability x s m = record { dissat = x; safe = s; non_malleable = m }

-- constructors

abbrev pub TRUE : Malleability
TRUE = malleability None false true

abbrev pub FALSE : Malleability
FALSE = malleability Unique true true

abbrev pub pk_k : Malleability
pk_k = malleability Unique true true

abbrev pub pk_h : Malleability
pk_h = malleability Unique true true

abbrev pub multi : Malleability
multi = malleability Unique true true

abbrev pub multi_a : Malleability
multi_a = malleability Unique true true

abbrev pub hash : Malleability
hash = malleability Unknown false true

abbrev pub time : Malleability
time = malleability None false true

-- casts

-- what a new way to dissatisfy makes of x
abbrev pub dissat_added : Dissat → Dissat
dissat_added x = cond (is_none x) Unique Unknown

abbrev pub cast_alt : Malleability → Malleability
cast_alt x = x

abbrev pub cast_swap : Malleability → Malleability
cast_swap x = x

abbrev pub cast_check : Malleability → Malleability
cast_check x = x

abbrev pub cast_dupif : Malleability → Malleability
cast_dupif x = malleability (dissat_added x.dissat) x.safe x.non_malleable

abbrev pub cast_verify : Malleability → Malleability
cast_verify x = malleability None x.safe x.non_malleable

abbrev pub cast_nonzero : Malleability → Malleability
cast_nonzero x = malleability (dissat_added x.dissat) x.safe x.non_malleable

abbrev pub cast_zeronotequal : Malleability → Malleability
cast_zeronotequal x = x

abbrev pub cast_true : Malleability → Malleability
cast_true x = malleability None x.safe x.non_malleable

abbrev pub cast_or_i_false : Malleability → Malleability
cast_or_i_false x = malleability (dissat_added x.dissat) x.safe x.non_malleable

-- pairs

abbrev pub none_if : Bool → Dissat
none_if b = cond b None Unknown

abbrev pub unique_if : Bool → Dissat
unique_if b = cond b Unique Unknown

-- the dissatisfactions x and y of two parts, of which s and t say whether they are safe
abbrev pub and_b_dissat : Dissat → Dissat → Bool → Bool → Dissat
and_b_dissat None None s t = None
and_b_dissat None Unique s t = none_if s
and_b_dissat None Unknown s t = none_if s
and_b_dissat Unique None s t = none_if t
and_b_dissat Unique Unique s t = unique_if (s && t)
and_b_dissat Unique Unknown s t = Unknown
and_b_dissat Unknown None s t = none_if t
and_b_dissat Unknown Unique s t = Unknown
and_b_dissat Unknown Unknown s t = Unknown

abbrev pub or_i_dissat : Dissat → Dissat → Dissat
or_i_dissat None y = y
or_i_dissat Unique y = cond (is_none y) Unique Unknown
or_i_dissat Unknown y = Unknown

abbrev pub and_b : Malleability → Malleability → Malleability
and_b x y =
    malleability (and_b_dissat x.dissat y.dissat x.safe y.safe) (x.safe || y.safe) (x.non_malleable && y.non_malleable)

abbrev pub and_v : Malleability → Malleability → Malleability
and_v x y =
    malleability (none_if (is_none y.dissat || x.safe)) (x.safe || y.safe) (x.non_malleable && y.non_malleable)

-- x has m and e, y has m, and one of the two is safe
abbrev pub either_safe : Malleability → Malleability → Bool
either_safe x y = ((x.non_malleable && is_unique x.dissat) && y.non_malleable) && (x.safe || y.safe)

abbrev pub or_b : Malleability → Malleability → Malleability
or_b x y = malleability Unique (x.safe && y.safe) (either_safe x y && is_unique y.dissat)

abbrev pub or_d : Malleability → Malleability → Malleability
or_d x y = malleability y.dissat (x.safe && y.safe) (either_safe x y)

abbrev pub or_c : Malleability → Malleability → Malleability
or_c x y = malleability None (x.safe && y.safe) (either_safe x y)

abbrev pub or_i : Malleability → Malleability → Malleability
or_i x y =
    malleability (or_i_dissat x.dissat y.dissat) (x.safe && y.safe)
    ((x.non_malleable && y.non_malleable) && (x.safe || y.safe))

-- a triple: z's dissatisfactions are the whole's if x is safe or y has none

abbrev pub and_or_dissat : Bool → Dissat → Dissat
and_or_dissat kept z = cond kept z Unknown

-- x has m and e, y and z have m
abbrev pub and_or_each : Malleability → Malleability → Malleability → Bool
and_or_each x y z = (x.non_malleable && is_unique x.dissat) && (y.non_malleable && z.non_malleable)

abbrev pub and_or : Malleability → Malleability → Malleability → Malleability
and_or x y z =
    malleability (and_or_dissat (x.safe || is_none y.dissat) z.dissat) ((x.safe || y.safe) && z.safe)
    (and_or_each x y z && ((x.safe || y.safe) || z.safe))

-- any number of children, of which k are to be satisfied

abbrev pub safe_count : List Malleability → ℕ
safe_count xs = count (λ x. x.safe) xs

abbrev pub all_unique : List Malleability → Bool
all_unique xs = all (λ x. is_unique x.dissat) xs

abbrev pub threshold : ℕ → List Malleability → Malleability
threshold k xs =
    malleability (unique_if (all_unique xs && eqb (safe_count xs) (length xs)))
    (ltb (length xs - k) (safe_count xs))
    ((all (λ x. x.non_malleable) xs && leb (length xs - k) (safe_count xs)) && all_unique xs)
