-- The type of a fragment tree, from the type rules of types/mod.rs and document 01's refusal 15 (Multi only in context 0, MultiA only in 1).
use Rattle.correctness.specs.declared.TypeError.{TypeError}
use Rattle.std.specs.Prelude.{List, [], ◌∷◌, Option, None, Some, Result, Ok, Err}
use Rattle.types.specs.declared.«Type».{«Type»}
use Rattle.types.specs.TypeRules as rule
use Rattle.contexts.specs.declared.Context.{Context}
use Rattle.contexts.specs.declared.Context.TheVariants.{Segwitv0, Tap}
use Rattle.trees.specs.Fragment.{Fragment, Fragments, end, ◌▹◌, False, True, PkK, PkH, Lock, Hash}
use Rattle.trees.specs.Fragment.{Alt, Swap, Check, DupIf, Verify, NonZero, ZeroNotEqual}
use Rattle.trees.specs.Fragment.{AndB, AndV, OrB, OrD, OrC, OrI, AndOr, Thresh, Multi, MultiA}

infixl 20 ◌>>=◌
-- A rule is asked only where the child is well-typed.
abbrev pub ◌>>=◌ : Result «Type» TypeError → («Type» → Result «Type» TypeError) → Result «Type» TypeError
Ok t >>= rule = rule t
(Err TypeError.IllTyped) >>= rule = Err TypeError.IllTyped

-- The same of all children of a Thresh.
abbrev pub all_typed : Option (List «Type») → (List «Type» → Result «Type» TypeError) → Result «Type» TypeError
all_typed (Some ts) rule = rule ts
all_typed None rule = Err TypeError.IllTyped

abbrev pub and_all : Result «Type» TypeError → Option (List «Type») → Option (List «Type»)
and_all (Ok t) (Some ts) = Some (t ∷ ts)
and_all (Ok t) None = None
and_all (Err TypeError.IllTyped) ts = None

-- The two fragments that belong to one context.
abbrev pub in_segwitv0 : Context → «Type» → Result «Type» TypeError
in_segwitv0 Segwitv0 t = Ok t
in_segwitv0 Tap t = Err TypeError.IllTyped

abbrev pub in_tap : Context → «Type» → Result «Type» TypeError
in_tap Segwitv0 t = Err TypeError.IllTyped
in_tap Tap t = Ok t

unfoldable mutual
  pub type_of : Context → Fragment → Result «Type» TypeError
  type_of c False = Ok rule.FALSE
  type_of c True = Ok rule.TRUE
  type_of c (PkK n) = Ok rule.pk_k
  type_of c (PkH n) = Ok rule.pk_h
  type_of c (Lock kind n) = Ok rule.time
  type_of c (Hash kind h) = Ok rule.hash
  type_of c (Alt x) = type_of c x >>= rule.cast_alt
  type_of c (Swap x) = type_of c x >>= rule.cast_swap
  type_of c (Check x) = type_of c x >>= rule.cast_check
  type_of c (DupIf x) = type_of c x >>= rule.cast_dupif c
  type_of c (Verify x) = type_of c x >>= rule.cast_verify
  type_of c (NonZero x) = type_of c x >>= rule.cast_nonzero
  type_of c (ZeroNotEqual x) = type_of c x >>= rule.cast_zeronotequal
  type_of c (AndB x y) = type_of c x >>= λ s. type_of c y >>= λ t. rule.and_b s t
  type_of c (AndV x y) = type_of c x >>= λ s. type_of c y >>= λ t. rule.and_v s t
  type_of c (OrB x y) = type_of c x >>= λ s. type_of c y >>= λ t. rule.or_b s t
  type_of c (OrD x y) = type_of c x >>= λ s. type_of c y >>= λ t. rule.or_d s t
  type_of c (OrC x y) = type_of c x >>= λ s. type_of c y >>= λ t. rule.or_c s t
  type_of c (OrI x y) = type_of c x >>= λ s. type_of c y >>= λ t. rule.or_i s t
  type_of c (AndOr x y z) = type_of c x >>= λ s. type_of c y >>= λ t. type_of c z >>= λ u. rule.and_or s t u
  type_of c (Thresh k xs) = all_typed (types_of c xs) λ ts. rule.threshold k ts
  type_of c (Multi k keys) = in_segwitv0 c rule.multi
  type_of c (MultiA k keys) = in_tap c rule.multi_a

  pub types_of : Context → Fragments → Option (List «Type»)
  types_of c end = Some []
  types_of c (x ▹ xs) = and_all (type_of c x) (types_of c xs)
