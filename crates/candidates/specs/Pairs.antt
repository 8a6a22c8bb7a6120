-- Pairs and triples, from `binary` and `ternary` of AstElemExt in policy/compiler.rs: document 01, "Modules, leaves first", 3. What is
-- ill-typed is passed over before it is costed; a needed dissatisfaction cost may be missing.
use Rattle.candidates.specs.declared.NotMade.{NotMade}
use Rattle.correctness.specs.declared.TypeError.{TypeError}
use Rattle.std.specs.Prelude.{cond, List, [], ◌∷◌, ℕ, eqb, Float, Option, Result, None, Some, Ok, Err}
use Rattle.types.specs.declared.«Type».{«Type»}
use Rattle.types.specs.TypeRules as type
use Rattle.figures.specs.declared.ExtData.{ExtData}
use Rattle.figures.specs.Rules as ext
use Rattle.costs.specs.declared.Cost.{Cost}
use Rattle.costs.specs.Rules as cost
use Rattle.candidates.specs.FragmentKinds.{AndB, AndV, OrB, OrD, OrC, OrI, AndOr, no_child}
use Rattle.candidates.specs.declared.Candidate.{Candidate}
use Rattle.candidates.specs.Candidates.{candidate}

-- a pair: its kind, and the rules for its type, its figures and its cost at the probabilities of its branches
pub record Row : Type 0 where
  pub kind : ℕ
  pub type_rule : «Type» → «Type» → Result «Type» TypeError
  pub ext_rule : ExtData → ExtData → ExtData
  pub cost_rule : Cost → Cost → Float → Float → Option Cost

abbrev pub row : ℕ → («Type» → «Type» → Result «Type» TypeError) → (ExtData → ExtData → ExtData) → (Cost → Cost → Float → Float → Option Cost) → Row
row kind t e c = record { kind = kind; type_rule = t; ext_rule = e; cost_rule = c }

abbrev pub and_b : Row
and_b = row AndB type.and_b ext.and_b (λ l r lprob rprob. Some (cost.and_b l r))

abbrev pub and_v : Row
and_v = row AndV type.and_v ext.and_v (λ l r lprob rprob. Some (cost.and_v l r))

abbrev pub or_b : Row
or_b = row OrB type.or_b ext.or_b cost.or_b

abbrev pub or_d : Row
or_d = row OrD type.or_d ext.or_d cost.or_d

abbrev pub or_c : Row
or_c = row OrC type.or_c ext.or_c cost.or_c

abbrev pub or_i : Row
or_i = row OrI type.or_i ext.or_i (λ l r lprob rprob. Some (cost.or_i l r lprob rprob))

abbrev pub all_pairs : List Row
all_pairs = and_b ∷ and_v ∷ or_b ∷ or_d ∷ or_c ∷ or_i ∷ []

abbrev pub costed_as : (Cost → Candidate) → Option Cost → Result Candidate NotMade
costed_as of (Some c) = Ok (of c)
costed_as of None = Err NotMade.Missing

-- a candidate of its kind and children, unless the type rule says ill-typed
abbrev pub made_as : ℕ → ℕ → ℕ → ℕ → Result «Type» TypeError → ExtData → Option Cost → Result Candidate NotMade
made_as kind first second third (Ok t) e c = costed_as (candidate kind first second third t e) c
made_as kind first second third (Err error) e c = Err NotMade.PassedOver

-- the pair of two candidates, each followed by its node
abbrev pub pair_by : Row → Candidate → ℕ → Candidate → ℕ → Float → Float → Result Candidate NotMade
pair_by p l l_node r r_node lprob rprob =
    made_as p.kind l_node r_node no_child (p.type_rule l.ty r.ty) (p.ext_rule l.ext r.ext)
    (p.cost_rule l.cost r.cost lprob rprob)

unfoldable pub pair_from : List Row → ℕ → Candidate → ℕ → Candidate → ℕ → Float → Float → Result Candidate NotMade
pair_from [] kind l l_node r r_node lprob rprob = Err NotMade.PassedOver
pair_from (p ∷ pairs) kind l l_node r r_node lprob rprob =
    cond (eqb kind p.kind) (pair_by p l l_node r r_node lprob rprob) (pair_from pairs kind l l_node r r_node lprob rprob)

-- the pair of a kind; another kind is passed over
abbrev pub pair_of : ℕ → Candidate → ℕ → Candidate → ℕ → Float → Float → Result Candidate NotMade
pair_of kind = pair_from all_pairs kind

-- AndOr, at the probabilities of its first two and of its third
abbrev pub and_or : Candidate → ℕ → Candidate → ℕ → Candidate → ℕ → Float → Float → Result Candidate NotMade
and_or a a_node b b_node c c_node aprob cprob =
    made_as AndOr a_node b_node c_node (type.and_or a.ty b.ty c.ty) (ext.and_or a.ext b.ext c.ext)
    (cost.and_or a.cost b.cost c.cost aprob cprob)
