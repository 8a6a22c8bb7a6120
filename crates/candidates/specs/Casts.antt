-- The ten casts, from Cast and all_casts in policy/compiler.rs: document 01, "Modules, leaves first", 4.
use Rattle.candidates.specs.declared.CastError.{CastError}
use Rattle.correctness.specs.declared.TypeError.{TypeError}
use Rattle.std.specs.Prelude.{List, [], ◌∷◌, ℕ, zero, suc, Result, Ok, Err}
use Rattle.contexts.specs.declared.Context.{Context}
use Rattle.types.specs.declared.«Type».{«Type»}
use Rattle.types.specs.TypeRules as type
use Rattle.figures.specs.declared.ExtData.{ExtData}
use Rattle.figures.specs.Rules as ext
use Rattle.costs.specs.declared.Cost.{Cost}
use Rattle.costs.specs.Rules as cost
use Rattle.candidates.specs.FragmentKinds.{Alt, Swap, Check, DupIf, Verify, NonZero, ZeroNotEqual, AndV, OrI}
use Rattle.candidates.specs.FragmentKinds.{false_node, true_node, no_child}
use Rattle.candidates.specs.declared.Candidate.{Candidate}
use Rattle.candidates.specs.Candidates.{candidate}

-- the children of a cast's node, from the node that is cast: the first and the second
pub record Children : Type 0 where
  pub first : ℕ
  pub second : ℕ

abbrev pub X : ℕ → Children
X x = record { first = x; second = no_child }

abbrev pub False-X : ℕ → Children
False-X x = record { first = false_node; second = x }

abbrev pub X-False : ℕ → Children
X-False x = record { first = x; second = false_node }

abbrev pub X-True : ℕ → Children
X-True x = record { first = x; second = true_node }

-- a cast: the kind of its node and the children, and the rules for its type, its figures and its cost
pub record Row : Type 0 where
  pub kind : ℕ
  pub children : ℕ → Children
  pub type_rule : «Type» → Result «Type» TypeError
  pub ext_rule : ExtData → ExtData
  pub cost_rule : Cost → Cost

abbrev pub row : ℕ → (ℕ → Children) → («Type» → Result «Type» TypeError) → (ExtData → ExtData) → (Cost → Cost) → Row
row kind children t e c = record { kind = kind; children = children; type_rule = t; ext_rule = e; cost_rule = c }

abbrev pub check : Row
check = row Check X type.cast_check ext.cast_check cost.cast_check

abbrev pub dupif : Context → Row
dupif context = row DupIf X (type.cast_dupif context) ext.cast_dupif cost.cast_dupif

abbrev pub likely : Row
likely = row OrI False-X type.cast_likely ext.cast_likely cost.cast_likely

abbrev pub unlikely : Row
unlikely = row OrI X-False type.cast_unlikely ext.cast_unlikely cost.cast_unlikely

abbrev pub verify : Row
verify = row Verify X type.cast_verify ext.cast_verify cost.cast_verify

abbrev pub nonzero : Row
nonzero = row NonZero X type.cast_nonzero ext.cast_nonzero cost.cast_nonzero

abbrev pub true' : Row
true' = row AndV X-True type.cast_true ext.cast_true cost.cast_true

abbrev pub swap : Row
swap = row Swap X type.cast_swap ext.cast_swap cost.cast_swap

abbrev pub alt : Row
alt = row Alt X type.cast_alt ext.cast_alt cost.cast_alt

abbrev pub zeronotequal : Row
zeronotequal = row ZeroNotEqual X type.cast_zeronotequal ext.cast_zeronotequal cost.cast_zeronotequal

-- in the order in which they are tried
abbrev pub all_casts : Context → List Row
all_casts context = check ∷ dupif context ∷ likely ∷ unlikely ∷ verify ∷ nonzero ∷ true' ∷ swap ∷ alt ∷ zeronotequal ∷ []

-- a candidate unless the type rule says ill-typed
abbrev pub cast_as : ℕ → Children → Result «Type» TypeError → ExtData → Cost → Result Candidate CastError
cast_as kind children (Ok t) e c = Ok (candidate kind children.first children.second no_child t e c)
cast_as kind children (Err error) e c = Err CastError.IllTyped

-- the cast of a candidate that is node `node`
abbrev pub cast_by : Row → Candidate → ℕ → Result Candidate CastError
cast_by r x node = cast_as r.kind (r.children node) (r.type_rule x.ty) (r.ext_rule x.ext) (r.cost_rule x.cost)

unfoldable pub cast_from : List Row → ℕ → Candidate → ℕ → Result Candidate CastError
cast_from [] number x node = Err CastError.Unknown
cast_from (r ∷ rows) zero x node = cast_by r x node
cast_from (r ∷ rows) (suc number) x node = cast_from rows number x node

-- the cast of a number, 0 for the first
abbrev pub cast_of : Context → ℕ → Candidate → ℕ → Result Candidate CastError
cast_of context number = cast_from (all_casts context) number
