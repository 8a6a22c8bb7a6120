-- The type of a record's fragment from the types of its children alone: the rules of types/mod.rs under document 01's kinds; and its height from theirs.
-- The tree check computes these; proofs/Rules.antt and proofs/Heights.antt show that they give what TreeCheck.antt asks for.
use Rattle.correctness.specs.declared.TypeError.{TypeError}
use Rattle.std.specs.Prelude.{ℕ, suc, max, List, [], ◌∷◌, map, Option, None, Some, Result, Ok, Err}
use Rattle.records.specs.Payloads.{Payload, k_of}
use Rattle.types.specs.declared.«Type».{«Type»}
use Rattle.types.specs.TypeRules as rule
use Rattle.contexts.specs.declared.Context.{Context}
use Rattle.trees.specs.Typing.{in_segwitv0, in_tap}
use Rattle.trees.specs.declared.Subtree.{Subtree}
use Rattle.trees.specs.Reading.{Answer, refused, done, ◌>>=◌, bad_tree, ill_typed}
use Rattle.trees.specs.Tree.{Line, ◌is◌, find}
use Rattle.trees.specs.TreeCheck.{if_low}

-- by the context, a threshold's k and the types of the children
abbrev pub Rule : Type 0
Rule = Context → ℕ → List «Type» → Answer «Type»

abbrev pub answered : Result «Type» TypeError → Answer «Type»
answered (Ok t) = done t
answered (Err TypeError.IllTyped) = refused ill_typed

abbrev pub of_none : (Context → Result «Type» TypeError) → Rule
of_none rule c k [] = answered (rule c)
of_none rule c k (t ∷ ts) = refused bad_tree

abbrev pub of_one : («Type» → Result «Type» TypeError) → Rule
of_one rule c k [] = refused bad_tree
of_one rule c k (t ∷ []) = answered (rule t)
of_one rule c k (t ∷ u ∷ ts) = refused bad_tree

-- a rule that asks for the context
abbrev pub of_one_in : (Context → «Type» → Result «Type» TypeError) → Rule
of_one_in rule c = of_one (rule c) c

abbrev pub of_two : («Type» → «Type» → Result «Type» TypeError) → Rule
of_two rule c k [] = refused bad_tree
of_two rule c k (t ∷ []) = refused bad_tree
of_two rule c k (t ∷ u ∷ []) = answered (rule t u)
of_two rule c k (t ∷ u ∷ v ∷ ts) = refused bad_tree

abbrev pub of_three : («Type» → «Type» → «Type» → Result «Type» TypeError) → Rule
of_three rule c k [] = refused bad_tree
of_three rule c k (t ∷ []) = refused bad_tree
of_three rule c k (t ∷ u ∷ []) = refused bad_tree
of_three rule c k (t ∷ u ∷ v ∷ []) = answered (rule t u v)
of_three rule c k (t ∷ u ∷ v ∷ w ∷ ts) = refused bad_tree

abbrev pub of_all : (ℕ → List «Type» → Result «Type» TypeError) → Rule
of_all rule c k ts = answered (rule k ts)

abbrev pub always : «Type» → Rule
always t = of_none (λ c. Ok t)

abbrev pub rules : List (Line Rule)
rules =
    32 is always rule.FALSE
    ∷ 33 is always rule.TRUE
    ∷ 34 is always rule.pk_k
    ∷ 35 is always rule.pk_h
    ∷ 36 is always rule.time
    ∷ 37 is always rule.time
    ∷ 38 is always rule.hash
    ∷ 39 is always rule.hash
    ∷ 40 is always rule.hash
    ∷ 41 is always rule.hash
    ∷ 42 is of_one rule.cast_alt
    ∷ 43 is of_one rule.cast_swap
    ∷ 44 is of_one rule.cast_check
    ∷ 45 is of_one_in rule.cast_dupif
    ∷ 46 is of_one rule.cast_verify
    ∷ 47 is of_one rule.cast_nonzero
    ∷ 48 is of_one rule.cast_zeronotequal
    ∷ 49 is of_two rule.and_b
    ∷ 50 is of_two rule.and_v
    ∷ 51 is of_two rule.or_b
    ∷ 52 is of_two rule.or_d
    ∷ 53 is of_two rule.or_c
    ∷ 54 is of_two rule.or_i
    ∷ 55 is of_three rule.and_or
    ∷ 56 is of_all rule.threshold
    ∷ 57 is of_none (λ c. in_segwitv0 c rule.multi)
    ∷ 58 is of_none (λ c. in_tap c rule.multi_a)
    ∷ []

abbrev pub given_by : Option Rule → Rule
given_by (Some rule) c k ts = rule c k ts
given_by None c k ts = refused bad_tree

abbrev pub rule_of : ℕ → Rule
rule_of kind = given_by (find kind rules)

-- ---- types and heights

abbrev pub types_of : List Subtree → List «Type»
types_of xs = map (λ x. x.ty) xs

unfoldable pub tallest : List Subtree → ℕ
tallest [] = 0
tallest (x ∷ xs) = max x.height (tallest xs)

-- a record's type and its height, from those of its children
abbrev pub make_subtree : Context → ℕ → Payload → List Subtree → Answer Subtree
make_subtree c kind payload xs = do
  t ← rule_of kind c (k_of payload) (types_of xs)
  if_low (suc (tallest xs)) (record { ty = t; height = suc (tallest xs) })
