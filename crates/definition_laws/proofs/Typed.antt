-- Every candidate that is made of good ones is good: its tree is well-typed, of the type that it says, has the figures that it says, and can be
-- written.
use Rattle.correctness.specs.declared.TypeError.TheVariants as TypeError
use Rattle.correctness.specs.declared.TypeError.{TypeError}
use mathlib.Core.Bool.{Bool, true, false, ◌&&◌, ◌||◌}
use mathlib.Core.List.{List, [], ◌∷◌, map}
use Rattle.std.specs.Prelude.{Option, None, Some, Result, Ok, Err}
use mathlib.Core.Path.{◌≡◌, refl, ap, ◌∙◌, sym, subst}
use Prim.Native.Nat.{ℕ, suc, ◌^◌}
use lib.ListN.{length}
use lib.Ieee.{Float}
use Rattle.contexts.specs.declared.Context.{Context}
use Rattle.contexts.specs.declared.Context.TheVariants.{Segwitv0, Tap}
use Rattle.contexts.specs.Leaves.{LockKind, HashKind}
use Rattle.types.specs.declared.«Type».{«Type»}
use Rattle.correctness.specs.declared.Base.{Base}
use Rattle.correctness.specs.declared.Base.TheVariants.{B, K, «V», W}
use Rattle.correctness.specs.declared.Input.{Input}
use Rattle.correctness.specs.declared.Input.TheVariants.{Zero, One, Any, OneNonZero, AnyNonZero}
use Rattle.correctness.specs.declared.Correctness.{Correctness}
use Rattle.malleability.specs.declared.Dissat.{Dissat}
use Rattle.malleability.specs.declared.Dissat.TheVariants as Dissat
use Rattle.malleability.specs.declared.Malleability.{Malleability}
use Rattle.correctness.specs.CorrectnessRules as corr
use Rattle.malleability.specs.MalleabilityRules as mall
use Rattle.types.specs.TypeRules as type
use Rattle.figures.specs.declared.ExtData.{ExtData}
use Rattle.figures.specs.Rules as ext
use Rattle.figures.specs.Validity.{from_ast}
use Rattle.thresholds.specs.Threshold.{threshold}
use Rattle.costs.specs.declared.Cost.{Cost}
use Rattle.costs.specs.Rules as cost
use Rattle.trees.specs.Fragment.{Fragment, Thresh, to_list}
use Rattle.trees.specs.Typing.{type_of, types_of, all_typed, and_all}
use Rattle.trees.specs.Typing as typing
use Rattle.writing.specs.WellFormed.{AllBelow, IsU32, IsU64, IsLock, IsThreshold, WellFormed, AllWellFormed}
use Rattle.definition.specs.Candidates.{Candidate, Made, typed_as, made_as, if_valid}
use Rattle.definition.specs.Candidates.{Cast, cast_check, cast_dupif, cast_likely, cast_unlikely, cast_verify, cast_nonzero, cast_true}
use Rattle.definition.specs.Candidates.{cast_swap, cast_alt, cast_zeronotequal, all_casts}
use Rattle.definition.specs.Candidates.{false', true', pk_k, pk_h, lock, hash, multi, Pair, and_b, and_v, or_b, or_d, or_c, or_i, and_or}
use Rattle.definition.specs.Candidates.{fragments, thresh_of}
use Rattle.definition_laws.specs.Laws.{figures_of, figures_of_all, Good, All, nobody, ◌and◌}
use Rattle.definition_laws.specs.Laws.{IfSome, none_is, some_is, IfMade, passed_is, missing_is, made_is}

-- ---- leaves

pub false-good : (c : Context) → Good c false'
unfolding type_of figures_of WellFormed
false-good c = record { typed = refl; figured = refl; formed = tt }

pub true-good : (c : Context) → Good c true'
unfolding type_of figures_of WellFormed
true-good c = record { typed = refl; figured = refl; formed = tt }

pub pk_k-good : (c : Context) (n : ℕ) → IsU64 n → Good c (pk_k c n)
unfolding type_of figures_of WellFormed
pk_k-good c n w = record { typed = refl; figured = refl; formed = w }

pub pk_h-good : (c : Context) (n : ℕ) → IsU64 n → Good c (pk_h c n)
unfolding type_of figures_of WellFormed
pk_h-good c n w = record { typed = refl; figured = refl; formed = w }

pub lock-good : (c : Context) (kind : LockKind) (n : ℕ) → IsLock n → Good c (lock kind n)
unfolding type_of figures_of WellFormed
lock-good c kind n w = record { typed = refl; figured = refl; formed = w }

pub hash-good : (c : Context) (kind : HashKind) (h : ℕ) → IsU32 h → Good c (hash kind h)
unfolding type_of figures_of WellFormed
hash-good c kind h w = record { typed = refl; figured = refl; formed = w }

-- each context has the form of its own
pub multi-good : (c : Context) (k : ℕ) (keys : List ℕ) → IsThreshold k (length keys) → AllBelow (2 ^ 64) keys → Good c (multi c k keys)
unfolding type_of figures_of WellFormed
multi-good Segwitv0 k keys w b = record { typed = refl; figured = refl; formed = (w, b) }
multi-good Tap k keys w b = record { typed = refl; figured = refl; formed = (w, b) }

-- ---- casts

bind_ok : {r : Result «Type» TypeError} {t : «Type»} (rule : «Type» → Result «Type» TypeError) → r ≡ Ok t → typing.◌>>=◌ r rule ≡ rule t
bind_ok rule e = ap (λ r. typing.◌>>=◌ r rule) e

typed-as : {c : Context} (r : Result «Type» TypeError) (f : Fragment) (e : ExtData) (k : Cost) →
    type_of c f ≡ r → e ≡ figures_of c f → WellFormed f → IfSome (Good c) (typed_as r f e k)
typed-as (Ok t) f e k p q w = some_is (record { typed = p; figured = q; formed = w })
typed-as (Err TypeError.IllTyped) f e k p q w = none_is

-- the three casts that are pairs with a constant have its type

and-true : (b : Bool) → b && true ≡ b
and-true true = refl
and-true false = refl

or-true : (b : Bool) → b || true ≡ true
or-true true = refl
or-true false = refl

or-false : (b : Bool) → b || false ≡ b
or-false true = refl
or-false false = refl

likely-corr : (x : Correctness) → corr.or_i corr.FALSE x ≡ corr.cast_or_i_false x
likely-corr x = by-base x.base
  where
    by-base : (b : Base) →
        corr.or_i corr.FALSE (corr.correctness b x.input x.dissatisfiable x.unit)
        ≡ corr.cast_or_i_false (corr.correctness b x.input x.dissatisfiable x.unit)
    by-base B = refl
    by-base K = refl
    by-base «V» = refl
    by-base W = refl

likely-mall : (x : Malleability) → mall.or_i mall.FALSE x ≡ mall.cast_or_i_false x
likely-mall x = simp and-true

likely-type : (t : «Type») → type.or_i type.FALSE t ≡ type.cast_likely t
likely-type t = rw (likely-corr t.corr, likely-mall t.mall)

unlikely-corr : (x : Correctness) → corr.or_i x corr.FALSE ≡ corr.cast_or_i_false x
unlikely-corr x = by-base x.base
  where
    by-base : (b : Base) →
        corr.or_i (corr.correctness b x.input x.dissatisfiable x.unit) corr.FALSE
        ≡ corr.cast_or_i_false (corr.correctness b x.input x.dissatisfiable x.unit)
    by-base B = simp (and-true, or-true)
    by-base K = refl
    by-base «V» = refl
    by-base W = refl

unlikely-mall : (x : Malleability) → mall.or_i x mall.FALSE ≡ mall.cast_or_i_false x
unlikely-mall x = by-dissat x.dissat
  where
    by-dissat : (d : Dissat) →
        mall.or_i (mall.malleability d x.safe x.non_malleable) mall.FALSE
        ≡ mall.cast_or_i_false (mall.malleability d x.safe x.non_malleable)
    by-dissat Dissat.None = simp (and-true, or-true)
    by-dissat Dissat.Unique = simp (and-true, or-true)
    by-dissat Dissat.Unknown = simp (and-true, or-true)

unlikely-type : (t : «Type») → type.or_i t type.FALSE ≡ type.cast_unlikely t
unlikely-type t = rw (unlikely-corr t.corr, unlikely-mall t.mall)

true-corr : (x : Correctness) → corr.and_v x corr.TRUE ≡ corr.cast_true x
true-corr x = by-input x.input
  where
    by-input : (i : Input) →
        corr.and_v (corr.correctness x.base i x.dissatisfiable x.unit) corr.TRUE
        ≡ corr.cast_true (corr.correctness x.base i x.dissatisfiable x.unit)
    by-input Zero = simp and-true
    by-input One = simp and-true
    by-input Any = simp and-true
    by-input OneNonZero = simp and-true
    by-input AnyNonZero = simp and-true

true-mall : (x : Malleability) → mall.and_v x mall.TRUE ≡ mall.cast_true x
true-mall x = simp (and-true, or-false)

true-type : (t : «Type») → type.and_v t type.TRUE ≡ type.cast_true t
true-type t = rw (true-corr t.corr, true-mall t.mall)

module _ {c : Context} {x : Candidate} (g : Good c x) where
  pub check-good : IfSome (Good c) (cast_check x)
  unfolding type_of figures_of WellFormed
  check-good = typed-as _ _ _ _ (bind_ok type.cast_check g.typed) (ap ext.cast_check g.figured) g.formed

  pub dupif-good : IfSome (Good c) (cast_dupif c x)
  unfolding type_of figures_of WellFormed
  dupif-good = typed-as _ _ _ _ (bind_ok (type.cast_dupif c) g.typed) (ap ext.cast_dupif g.figured) g.formed

  pub likely-good : IfSome (Good c) (cast_likely x)
  unfolding type_of figures_of WellFormed ext.cast_likely
  likely-good =
      typed-as _ _ _ _ (bind_ok (λ t. type.or_i type.FALSE t) g.typed ∙ likely-type x.ty) (ap (λ e. ext.or_i ext.false_ext e) g.figured)
      (tt, g.formed)

  pub unlikely-good : IfSome (Good c) (cast_unlikely x)
  unfolding type_of figures_of WellFormed ext.cast_unlikely
  unlikely-good =
      typed-as _ _ _ _ (bind_ok (λ t. type.or_i t type.FALSE) g.typed ∙ unlikely-type x.ty) (ap (λ e. ext.or_i e ext.false_ext) g.figured)
      (g.formed, tt)

  pub verify-good : IfSome (Good c) (cast_verify x)
  unfolding type_of figures_of WellFormed
  verify-good = typed-as _ _ _ _ (bind_ok type.cast_verify g.typed) (ap ext.cast_verify g.figured) g.formed

  pub nonzero-good : IfSome (Good c) (cast_nonzero x)
  unfolding type_of figures_of WellFormed
  nonzero-good = typed-as _ _ _ _ (bind_ok type.cast_nonzero g.typed) (ap ext.cast_nonzero g.figured) g.formed

  pub true-cast-good : IfSome (Good c) (cast_true x)
  unfolding type_of figures_of WellFormed ext.cast_true
  true-cast-good =
      typed-as _ _ _ _ (bind_ok (λ t. type.and_v t type.TRUE) g.typed ∙ true-type x.ty) (ap (λ e. ext.and_v e ext.true_ext) g.figured)
      (g.formed, tt)

  pub swap-good : IfSome (Good c) (cast_swap x)
  unfolding type_of figures_of WellFormed
  swap-good = typed-as _ _ _ _ (bind_ok type.cast_swap g.typed) (ap ext.cast_swap g.figured) g.formed

  pub alt-good : IfSome (Good c) (cast_alt x)
  unfolding type_of figures_of WellFormed
  alt-good = typed-as _ _ _ _ (bind_ok type.cast_alt g.typed) (ap ext.cast_alt g.figured) g.formed

  pub zeronotequal-good : IfSome (Good c) (cast_zeronotequal x)
  unfolding type_of figures_of WellFormed
  zeronotequal-good = typed-as _ _ _ _ (bind_ok type.cast_zeronotequal g.typed) (ap ext.cast_zeronotequal g.figured) g.formed

-- a cast makes a good candidate of a good one, if it makes one
abbrev pub CastsWell : Context → Cast → Type 0
CastsWell c f = (x : Candidate) → Good c x → IfSome (Good c) (f x)

pub casts-good : (c : Context) → All (CastsWell c) (all_casts c)
casts-good c =
    (λ x g. check-good g) and (λ x g. dupif-good g) and (λ x g. likely-good g) and (λ x g. unlikely-good g) and (λ x g. verify-good g)
    and (λ x g. nonzero-good g) and (λ x g. true-cast-good g) and (λ x g. swap-good g) and (λ x g. alt-good g) and (λ x g. zeronotequal-good g)
    and nobody

-- ---- pairs and triples

made_as_lem : {c : Context} (r : Result «Type» TypeError) (f : Fragment) (e : ExtData) (k : Option Cost) →
    type_of c f ≡ r → e ≡ figures_of c f → WellFormed f → IfMade (Good c) (made_as r f e k)
made_as_lem (Ok t) f e (Some k) p q w = made_is (record { typed = p; figured = q; formed = w })
made_as_lem (Ok t) f e None p q w = missing_is
made_as_lem (Err TypeError.IllTyped) f e k p q w = passed_is

-- a pair of good candidates is good, if it is made, whatever the weights
abbrev pub PairsWell : Context → Pair → Type 0
PairsWell c f = (lw rw : Float) (x y : Candidate) → Good c x → Good c y → IfMade (Good c) (f lw rw x y)

bind-ok₂ : {r s : Result «Type» TypeError} {t u : «Type»} (rule : «Type» → «Type» → Result «Type» TypeError) → r ≡ Ok t → s ≡ Ok u →
    typing.◌>>=◌ r (λ t. typing.◌>>=◌ s λ u. rule t u) ≡ rule t u
bind-ok₂ rule p q = rw (p, q)

figures₂ : {d e d' e' : ExtData} (rule : ExtData → ExtData → ExtData) → d ≡ d' → e ≡ e' → rule d e ≡ rule d' e'
figures₂ rule p q = cc

module _ {c : Context} (lw rw : Float) (x y : Candidate) (g : Good c x) (h : Good c y) where
  pub and_b-good : IfMade (Good c) (and_b lw rw x y)
  unfolding type_of figures_of WellFormed
  and_b-good = made_as_lem _ _ _ _ (bind-ok₂ type.and_b g.typed h.typed) (figures₂ ext.and_b g.figured h.figured) (g.formed, h.formed)

  pub and_v-good : IfMade (Good c) (and_v lw rw x y)
  unfolding type_of figures_of WellFormed
  and_v-good = made_as_lem _ _ _ _ (bind-ok₂ type.and_v g.typed h.typed) (figures₂ ext.and_v g.figured h.figured) (g.formed, h.formed)

  pub or_b-good : IfMade (Good c) (or_b lw rw x y)
  unfolding type_of figures_of WellFormed
  or_b-good = made_as_lem _ _ _ _ (bind-ok₂ type.or_b g.typed h.typed) (figures₂ ext.or_b g.figured h.figured) (g.formed, h.formed)

  pub or_d-good : IfMade (Good c) (or_d lw rw x y)
  unfolding type_of figures_of WellFormed
  or_d-good = made_as_lem _ _ _ _ (bind-ok₂ type.or_d g.typed h.typed) (figures₂ ext.or_d g.figured h.figured) (g.formed, h.formed)

  pub or_c-good : IfMade (Good c) (or_c lw rw x y)
  unfolding type_of figures_of WellFormed
  or_c-good = made_as_lem _ _ _ _ (bind-ok₂ type.or_c g.typed h.typed) (figures₂ ext.or_c g.figured h.figured) (g.formed, h.formed)

  pub or_i-good : IfMade (Good c) (or_i lw rw x y)
  unfolding type_of figures_of WellFormed
  or_i-good = made_as_lem _ _ _ _ (bind-ok₂ type.or_i g.typed h.typed) (figures₂ ext.or_i g.figured h.figured) (g.formed, h.formed)

bind-ok₃ : {r s u : Result «Type» TypeError} {t v w : «Type»} (rule : «Type» → «Type» → «Type» → Result «Type» TypeError) → r ≡ Ok t → s ≡ Ok v → u ≡ Ok w →
    typing.◌>>=◌ r (λ t. typing.◌>>=◌ s λ v. typing.◌>>=◌ u λ w. rule t v w) ≡ rule t v w
bind-ok₃ rule p q r = rw (p, q, r)

figures₃ : {d e f d' e' f' : ExtData} (rule : ExtData → ExtData → ExtData → ExtData) → d ≡ d' → e ≡ e' → f ≡ f' → rule d e f ≡ rule d' e' f'
figures₃ rule p q r = cc

pub and_or-good : {c : Context} (lw rw : Float) (x y z : Candidate) → Good c x → Good c y → Good c z → IfMade (Good c) (and_or lw rw x y z)
unfolding type_of figures_of WellFormed
and_or-good lw rw x y z g h i =
    made_as_lem _ _ _ _ (bind-ok₃ type.and_or g.typed h.typed i.typed) (figures₃ ext.and_or g.figured h.figured i.figured)
    (g.formed, h.formed, i.formed)

-- ---- thresholds

types-of : {c : Context} {xs : List Candidate} → All (Good c) xs → types_of c (fragments xs) ≡ Some (map (λ x. x.ty) xs)
unfolding type_of fragments
types-of nobody = refl
types-of (g and gs) = both _ _ g.typed (types-of gs)
  where
    both : {t : «Type»} {ts : List «Type»} (r : Result «Type» TypeError) (rs : Option (List «Type»)) → r ≡ Ok t → rs ≡ Some ts → and_all r rs ≡ Some (t ∷ ts)
    both r rs p q = rw (p, q)

figures-of : {c : Context} {xs : List Candidate} → All (Good c) xs → map (λ x. x.ext) xs ≡ figures_of_all c (fragments xs)
unfolding figures_of fragments
figures-of nobody = refl
figures-of (g and gs) = both g.figured (figures-of gs)
  where
    both : {e d : ExtData} {es ds : List ExtData} → e ≡ d → es ≡ ds → e ∷ es ≡ d ∷ ds
    both p q = cc

formed-of : {c : Context} {xs : List Candidate} → All (Good c) xs → AllWellFormed (fragments xs)
unfolding WellFormed fragments
formed-of nobody = tt
formed-of (g and gs) = (g.formed, formed-of gs)

as_many : (xs : List Candidate) → length (to_list (fragments xs)) ≡ length xs
unfolding to_list fragments
as_many [] = refl
as_many (x ∷ xs) = ap suc (as_many xs)

if-valid : {P : Candidate → Type 0} {m : Made} (b : Bool) → IfMade P m → IfMade P (if_valid b m)
if-valid true h = h
if-valid false h = passed_is

pub thresh-good : {c : Context} (k : ℕ) (xs : List Candidate) → IsThreshold k (length xs) → All (Good c) xs → IfMade (Good c) (thresh_of c k xs)
unfolding thresh_of type_of figures_of WellFormed
thresh-good {c} k xs w gs =
    if-valid (from_ast c 0 (threshold k (map (λ x. x.ext) xs)))
    (made_as_lem (type.threshold k (map (λ x. x.ty) xs)) (Thresh k (fragments xs)) (threshold k (map (λ x. x.ext) xs))
    (cost.threshold k (length xs) (map (λ x. x.cost) xs))
    (ap (λ r. all_typed r λ ts. type.threshold k ts) (types-of gs)) (ap (threshold k) (figures-of gs))
    (subst (IsThreshold k) (sym (as_many xs)) w, formed-of gs))
