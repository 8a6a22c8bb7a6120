-- A pair or a triple of nodes, as the code makes it, stands for the definition's of what the nodes stand for, and it may be offered to a
-- table. Assumes nothing.
use Rattle.candidates.specs.declared.NotMade.{NotMade}
use Rattle.types.specs.declared.«Type».{«Type»}
use Rattle.correctness.specs.declared.TypeError.{TypeError}
use Rattle.costs.specs.declared.Cost.{Cost}
use Rattle.std.specs.Prelude.{Option, Result, None, Some, Ok, Err}
use mathlib.Core.Path.{◌≡◌, refl, sym, ◌∙◌, ap}
use mathlib.Core.Bool.{Bool, true, false, cond, ◌&&◌}
use mathlib.Core.List.{List, [], ◌∷◌}
use Prim.Native.Nat.{ℕ, ◌<◌}
use lib.Dec.{eqb}
use lib.Ieee.{Float}
use Rattle.types.specs.TypeRules as type
use Rattle.figures.specs.declared.ExtData.{ExtData}
use Rattle.figures.specs.Rules as ext
use Rattle.costs.specs.Rules as cost
use Rattle.trees.specs.Fragment.{Fragment, AndB, AndV, OrB, OrD, OrC, OrI, AndOr}
use Rattle.trees.specs.Tree.{find}
use Rattle.definition.specs.Candidates as definition
use Rattle.definition.specs.Candidates.{Candidate, Pair, pair_no}
use Rattle.candidates.specs.declared.Candidate as code
use Rattle.candidates.specs.Pairs as pairs
use Rattle.candidates.specs.Pairs.{Row, made_as, pair_by, pair_from, pair_of, and_or}
use Rattle.candidates.proofs.Kept.{pair-kept, and-or-kept}
use Rattle.memory.specs.Layout.{node_count}
use Rattle.nodes.specs.Words.{node_at}
use Rattle.nodes.specs.Views.{tree_of, seen_as, seen}
use Rattle.nodes.specs.Answers.{Holds}
use Rattle.nodes.specs.Offers.{Offerable, made_seen}
use Rattle.nodes.proofs.Seen.{Shows, TreeIs, seen-fields}
use Rattle.nodes.proofs.Offers.{both_true, plain_kind, plain-offers, node-entered}

-- ---- what a pair stands for

module _ (pol m : List ℕ) where
  as-made : (kind first second third : ℕ) (f : Fragment) → TreeIs pol m kind first second third f → (r : Result «Type» TypeError) (d : ExtData) (c : Option Cost)
      → made_seen pol m (made_as kind first second third r d c) ≡ definition.made_as r f d c
  unfolding seen_as
  as-made kind first second third f is (Ok t) d (Some c) =
      ap (λ (g : Fragment). definition.made (definition.candidate g t d c)) (is t d c)
  as-made kind first second third f is (Ok t) d None = refl
  as-made kind first second third f is (Err TypeError.IllTyped) d c = refl

  module _ (l r : ℕ) (s t : Candidate) (x y : code.Candidate) (same : Shows s x) (same' : Shows t y) (lprob rprob : Float) where
    -- any pair, by its rules and its tree
    row_seen : (row : Row) (f : Fragment) → TreeIs pol m row.kind l r 0 f
        → made_seen pol m (pair_by row x l y r lprob rprob)
        ≡ definition.made_as (row.type_rule s.ty t.ty) f (row.ext_rule s.ext t.ext) (row.cost_rule s.cost t.cost lprob rprob)
    row_seen row f is =
        rw (same.ty, same.ext, same.cost, same'.ty, same'.ext, same'.cost)
        (as-made row.kind l r 0 f is (row.type_rule x.ty y.ty) (row.ext_rule x.ext y.ext)
        (row.cost_rule x.cost y.cost lprob rprob))

module _ (pol m : List ℕ) (l r : ℕ) (hl : l < node_count m) (hr : r < node_count m) (lprob rprob : Float) where
  of_row : (row : Row) (f : Fragment) → TreeIs pol m row.kind l r 0 f
      → made_seen pol m (pair_by row (node_at m l) l (node_at m r) r lprob rprob)
      ≡ definition.made_as (row.type_rule (seen pol m l).ty (seen pol m r).ty) f
      (row.ext_rule (seen pol m l).ext (seen pol m r).ext) (row.cost_rule (seen pol m l).cost (seen pol m r).cost lprob rprob)
  of_row row f is =
      row_seen pol m l r (seen pol m l) (seen pol m r) (node_at m l) (node_at m r) (seen-fields pol m l hl) (seen-fields pol m r hr) lprob rprob row f is

  left : Fragment
  left = (seen pol m l).tree

  right : Fragment
  right = (seen pol m r).tree

  pub and-b-seen : made_seen pol m (pair_by pairs.and_b (node_at m l) l (node_at m r) r lprob rprob) ≡ definition.and_b lprob rprob (seen pol m l) (seen pol m r)
  unfolding tree_of find left right
  and-b-seen = of_row pairs.and_b (AndB left right) (λ t d c. refl)

  pub and-v-seen : made_seen pol m (pair_by pairs.and_v (node_at m l) l (node_at m r) r lprob rprob) ≡ definition.and_v lprob rprob (seen pol m l) (seen pol m r)
  unfolding tree_of find left right
  and-v-seen = of_row pairs.and_v (AndV left right) (λ t d c. refl)

  pub or-b-seen : made_seen pol m (pair_by pairs.or_b (node_at m l) l (node_at m r) r lprob rprob) ≡ definition.or_b lprob rprob (seen pol m l) (seen pol m r)
  unfolding tree_of find left right
  or-b-seen = of_row pairs.or_b (OrB left right) (λ t d c. refl)

  pub or-d-seen : made_seen pol m (pair_by pairs.or_d (node_at m l) l (node_at m r) r lprob rprob) ≡ definition.or_d lprob rprob (seen pol m l) (seen pol m r)
  unfolding tree_of find left right
  or-d-seen = of_row pairs.or_d (OrD left right) (λ t d c. refl)

  pub or-c-seen : made_seen pol m (pair_by pairs.or_c (node_at m l) l (node_at m r) r lprob rprob) ≡ definition.or_c lprob rprob (seen pol m l) (seen pol m r)
  unfolding tree_of find left right
  or-c-seen = of_row pairs.or_c (OrC left right) (λ t d c. refl)

  pub or-i-seen : made_seen pol m (pair_by pairs.or_i (node_at m l) l (node_at m r) r lprob rprob) ≡ definition.or_i lprob rprob (seen pol m l) (seen pol m r)
  unfolding tree_of find left right
  or-i-seen = of_row pairs.or_i (OrI left right) (λ t d c. refl)

  -- what is made stands for a pair of the definition
  abbrev Sees : Result code.Candidate NotMade → Pair → Type 0
  Sees x f = made_seen pol m x ≡ f lprob rprob (seen pol m l) (seen pol m r)

  next-seen : (b : Bool) (x y : Result code.Candidate NotMade) (f g : Pair) → Sees x f → Sees y g → Sees (cond b x y) (cond b f g)
  next-seen true x y f g p q = p
  next-seen false x y f g p q = q

  from_row : (row : Row) (rest : List Row) (kind : ℕ) (f g : Pair) → Sees (pair_by row (node_at m l) l (node_at m r) r lprob rprob) f
      → Sees (pair_from rest kind (node_at m l) l (node_at m r) r lprob rprob) g
      → Sees (pair_from (row ∷ rest) kind (node_at m l) l (node_at m r) r lprob rprob) (cond (eqb kind row.kind) f g)
  unfolding pair_from
  from_row row rest kind f g p q =
      next-seen (eqb kind row.kind) (pair_by row (node_at m l) l (node_at m r) r lprob rprob)
      (pair_from rest kind (node_at m l) l (node_at m r) r lprob rprob) f g p q

  none_left : (kind : ℕ) → made_seen pol m (pair_from [] kind (node_at m l) l (node_at m r) r lprob rprob) ≡ definition.passed_over
  unfolding pair_from
  none_left kind = refl

  pub pair-seen : (kind : ℕ) → made_seen pol m (pair_of kind (node_at m l) l (node_at m r) r lprob rprob) ≡ pair_no kind lprob rprob (seen pol m l) (seen pol m r)
  pair-seen kind =
      from_row pairs.and_b _ kind definition.and_b _ and-b-seen
      (from_row pairs.and_v _ kind definition.and_v _ and-v-seen
      (from_row pairs.or_b _ kind definition.or_b _ or-b-seen
      (from_row pairs.or_d _ kind definition.or_d _ or-d-seen
      (from_row pairs.or_c _ kind definition.or_c _ or-c-seen
      (from_row pairs.or_i _ kind definition.or_i (λ lw rw l r. definition.passed_over) or-i-seen (none_left kind))))))

-- ---- what a triple stands for

three-seen : (pol m : List ℕ) (a b c : ℕ) (s t u : Candidate) (x y z : code.Candidate) → Shows s x → Shows t y → Shows u z → (f : Fragment)
    → TreeIs pol m 55 a b c f → (lprob rprob : Float)
    → made_seen pol m (and_or x a y b z c lprob rprob)
    ≡ definition.made_as (type.and_or s.ty t.ty u.ty) f (ext.and_or s.ext t.ext u.ext)
    (cost.and_or s.cost t.cost u.cost lprob rprob)
three-seen pol m a b c s t u x y z p q r f is lprob rprob =
    as-made pol m 55 a b c f is (type.and_or x.ty y.ty z.ty) (ext.and_or x.ext y.ext z.ext)
    (cost.and_or x.cost y.cost z.cost lprob rprob)
    ∙ cc

pub and-or-seen : (pol m : List ℕ) (a b c : ℕ) → a < node_count m → b < node_count m → c < node_count m → (lprob rprob : Float)
    → made_seen pol m (and_or (node_at m a) a (node_at m b) b (node_at m c) c lprob rprob)
    ≡ definition.and_or lprob rprob (seen pol m a) (seen pol m b) (seen pol m c)
unfolding tree_of find
and-or-seen pol m a b c ha hb hc lprob rprob =
    three-seen pol m a b c (seen pol m a) (seen pol m b) (seen pol m c) (node_at m a) (node_at m b) (node_at m c)
    (seen-fields pol m a ha) (seen-fields pol m b hb) (seen-fields pol m c hc)
    (AndOr (seen pol m a).tree (seen pol m b).tree (seen pol m c).tree) (λ t d e. refl) lprob rprob

-- ---- a pair or a triple may be offered

made-kind : (kind first second third : ℕ) (r : Result «Type» TypeError) (d : ExtData) (c : Option Cost) {y : code.Candidate}
    → made_as kind first second third r d c ≡ Ok y → kind ≡ y.kind
made-kind kind first second third (Ok t) d (Some c) h = cc
made-kind kind first second third (Ok t) d None h = cc
made-kind kind first second third (Err TypeError.IllTyped) d c h = cc

all_plain : List Row → Bool
all_plain [] = true
all_plain (p ∷ rows) = plain_kind p.kind && all_plain rows

module _ (x : code.Candidate) (l : ℕ) (y : code.Candidate) (r : ℕ) (lprob rprob : Float) {z : code.Candidate} where
  plain-next : (b : Bool) (row : Row) (rest : Result code.Candidate NotMade) → plain_kind row.kind ≡ true → (rest ≡ Ok z → plain_kind z.kind ≡ true)
      → cond b (pair_by row x l y r lprob rprob) rest ≡ Ok z → plain_kind z.kind ≡ true
  plain-next true row rest p next m =
      let k = made-kind row.kind l r 0 (row.type_rule x.ty y.ty) (row.ext_rule x.ext y.ext)
      (row.cost_rule x.cost y.cost lprob rprob) m in
      ap plain_kind (sym k) ∙ p
  plain-next false row rest p next m = next m

  plain-from : (rows : List Row) → all_plain rows ≡ true → (kind : ℕ) → pair_from rows kind x l y r lprob rprob ≡ Ok z
      → plain_kind z.kind ≡ true
  unfolding pair_from all_plain
  plain-from [] p kind m = cc
  plain-from (row ∷ rows) p kind m =
      let both = both_true (plain_kind row.kind) (all_plain rows) p in
      plain-next (eqb kind row.kind) row (pair_from rows kind x l y r lprob rprob) both.0 (plain-from rows both.1 kind) m

module _ {m : List ℕ} (holds : Holds m) where
  pub pair-fresh : {l r : ℕ} → l < node_count m → r < node_count m → (lprob rprob : Float) (kind : ℕ) {y : code.Candidate}
      → pair_of kind (node_at m l) l (node_at m r) r lprob rprob ≡ Ok y → Offerable m y
  unfolding all_plain
  pair-fresh {l} {r} hl hr lprob rprob kind is =
      plain-offers (pair-kept (node_at m l) (node_at m r) (node-entered holds hl) (node-entered holds hr) l r lprob rprob kind is)
      (plain-from (node_at m l) l (node_at m r) r lprob rprob pairs.all_pairs refl kind is)

  pub and-or-fresh : {a b c : ℕ} → a < node_count m → b < node_count m → c < node_count m → (lprob rprob : Float) {y : code.Candidate}
      → and_or (node_at m a) a (node_at m b) b (node_at m c) c lprob rprob ≡ Ok y → Offerable m y
  and-or-fresh {a} {b} {c} ha hb hc lprob rprob is =
      plain-offers
      (and-or-kept (node_at m a) (node_at m b) (node_at m c) (node-entered holds ha) (node-entered holds hb) (node-entered holds hc)
      a b c lprob rprob is)
      (ap plain_kind
      (sym
      (made-kind 55 a b c (type.and_or (node_at m a).ty (node_at m b).ty (node_at m c).ty)
      (ext.and_or (node_at m a).ext (node_at m b).ext (node_at m c).ext)
      (cost.and_or (node_at m a).cost (node_at m b).cost (node_at m c).cost lprob rprob) is)))
