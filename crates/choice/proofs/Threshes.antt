-- The Thresh over a row of nodes: what it stands for, and that it may be offered to a table. Assumes nothing.
use Rattle.candidates.specs.declared.NotMade.{NotMade}
use Rattle.correctness.specs.declared.TypeError.{TypeError}
use Rattle.std.specs.Prelude.{Option, None, Some, Result, Ok, Err}
use Rattle.std.specs.Option.{ok_or}
use mathlib.Core.Path.{◌≡◌, refl, sym, ◌∙◌, ap, subst}
use mathlib.Core.Bool.{Bool, true, false}
use mathlib.Core.List.{List, [], ◌∷◌, ◌++◌, map}
use Prim.Native.Nat.{ℕ, zero, suc, ◌+◌, ◌<◌, ◌≤◌}
use native.Mathlib.Omega.{arith}
use borrow.Author.Tests.{le-leb}
use lib.ListN.{length, get_or, take}
use lib.Seq.{take-suc, take_all, length-take-le}
use Rattle.contexts.specs.declared.Context.{Context}
use Rattle.types.specs.declared.«Type».{«Type»}
use Rattle.types.specs.TypeRules as type
use Rattle.types.specs.TypeRules.{typed_if}
use Rattle.figures.specs.declared.ExtData.{ExtData}
use Rattle.figures.specs.Bounds as bounds
use Rattle.figures.specs.Validity.{from_ast}
use Rattle.thresholds.specs.Threshold.{threshold, AllEntered, Children}
use Rattle.thresholds.proofs.Making.{entered-children, threshold-candidate}
use Rattle.costs.specs.declared.Cost.{Cost}
use Rattle.costs.specs.Rules as cost
use Rattle.policies.specs.Forms.{k_of, children_of}
use Rattle.policies.specs.Array.{policy_at}
use Rattle.trees.specs.Fragment.{Fragment, Thresh}
use Rattle.trees.specs.Tree.{find}
use Rattle.writing.specs.WellFormed.{AllBelow}
use Rattle.definition.specs.Candidates as definition
use Rattle.definition.specs.Candidates.{fragments}
use Rattle.definition.specs.Tables.{Table}
use Rattle.candidates.specs.declared.Candidate.{Candidate}
use Rattle.candidates.specs.Candidates.{candidate}
use Rattle.candidates.specs.Pairs.{made_as}
use Rattle.memory.specs.Layout.{max_rows, node_count, row_count}
use Rattle.nodes.specs.Words.{node_at, row_child}
use Rattle.nodes.specs.Views.{row_at, tree_of, seen_as, all_nodes, seen_all}
use Rattle.nodes.specs.Answers.{thresh_kind, max_figure, Holds, OneRow}
use Rattle.nodes.specs.Offers.{Offerable, made_seen}
use Rattle.nodes.proofs.Seen.{seen-fields}
use Rattle.nodes.proofs.Grown.{grows-refl, tables-refl, seen_all-kept}
use Rattle.nodes.proofs.Offers.{node-entered}
use Rattle.choice.specs.Threshes.{MakesThresh, types_of, exts_of, costs_of, if_valid, thresh_with, thresh_at, with_row}

-- ---- the figures of the children

exts-entered : {m : List ℕ} → Holds m → (es : List ℕ) → AllBelow (node_count m) es → AllEntered max_figure (exts_of m es)
unfolding AllBelow
exts-entered holds [] h = tt
exts-entered {m} holds (e ∷ es) h = (node-entered holds h.0, exts-entered holds es h.1)

pub exts-children : {m : List ℕ} → Holds m → (es : List ℕ) → AllBelow (node_count m) es → {l : List ExtData} → l ≡ exts_of m es → Children l
exts-children {m} holds es h is =
    rw is (entered-children max_figure (exts_of m es) (omega arith) (exts-entered holds es h))

-- ---- the code's Thresh, with no row yet

module _ (m : List ℕ) (r k n : ℕ) (es : List ℕ) where
  types-told : n ≤ 16 → (ts : List «Type») {t : Result «Type» TypeError} → take n ts ≡ types_of m es → t ≡ type.threshold_of k n ts
      → t ≡ type.threshold k (types_of m es)
  types-told few ts are is =
      is
      ∙ ap (λ (b : Bool). typed_if b (type.threshold k (take n ts))) (le-leb n 16 few)
      ∙ ap (λ (l : List «Type»). type.threshold k l) are

  length-costs : (l : List ℕ) → length (costs_of m l) ≡ length l
  length-costs [] = refl
  length-costs (e ∷ l) = ap suc (length-costs l)

  costs-told : length es ≤ n → (cs : List Cost) {c : Option Cost} → take n cs ≡ costs_of m es → c ≡ cost.threshold k n cs
      → c ≡ cost.threshold k n (costs_of m es)
  unfolding cost.threshold
  costs-told few cs are is =
      let all : take n (costs_of m es) ≡ costs_of m es = take_all n (costs_of m es) (omega (arith, length-costs es)) in
      is ∙ rw (are, all)

  module _ (d : ExtData) (few : n ≤ 16) (ts : List «Type») {t : Result «Type» TypeError} (types : take n ts ≡ types_of m es) (typed : t ≡ type.threshold_of k n ts) where
    pub with-ill : ((u : «Type») → t ≡ Ok u → ⊥) → Err NotMade.PassedOver ≡ thresh_with d m r k n es
    with-ill ill = by-type t ill ∙ ap (λ (x : Result «Type» TypeError). made_as thresh_kind r 0 0 x d (cost.threshold k n (costs_of m es))) (types-told few ts types typed)
      where
        by-type : (x : Result «Type» TypeError) → ((u : «Type») → x ≡ Ok u → ⊥)
            → Err NotMade.PassedOver ≡ made_as thresh_kind r 0 0 x d (cost.threshold k n (costs_of m es))
        by-type (Ok u) never = absurd (never u refl)
        by-type (Err TypeError.IllTyped) never = refl

    module _ (cs : List Cost) {c : Option Cost} (u : «Type») (ok : t ≡ Ok u) (long : length es ≤ n) (costs : take n cs ≡ costs_of m es)
        (costed : c ≡ cost.threshold k n cs) where
      with-typed : made_as thresh_kind r 0 0 (Ok u) d c ≡ thresh_with d m r k n es
      with-typed =
          ap (λ (x : Result «Type» TypeError). made_as thresh_kind r 0 0 x d c) (sym ok ∙ types-told few ts types typed)
          ∙ ap (λ (x : Option Cost). made_as thresh_kind r 0 0 (type.threshold k (types_of m es)) d x) (costs-told long cs costs costed)

      pub with-missing : {o : Result Cost NotMade} {e : NotMade} → o ≡ ok_or c NotMade.Missing → o ≡ Err e → Err e ≡ thresh_with d m r k n es
      with-missing {e = e} or is = by-cost c (sym is ∙ or) ∙ with-typed
        where
          by-cost : (c : Option Cost) → Err e ≡ ok_or c NotMade.Missing → Err e ≡ made_as thresh_kind r 0 0 (Ok u) d c
          by-cost None same = let z : e ≡ NotMade.Missing = cc in ap (λ (e : NotMade). Err e) z
          by-cost (Some x) same = absurd (let z : ◌≡◌ {A = ℕ} 0 1 = cc in omega arith)

      pub with-made : {o : Result Cost NotMade} {x : Cost} → o ≡ ok_or c NotMade.Missing → o ≡ Ok x
          → Ok (candidate thresh_kind r 0 0 u d x) ≡ thresh_with d m r k n es
      with-made {x = x} or is = by-cost c (sym is ∙ or) ∙ with-typed
        where
          by-cost : (c : Option Cost) → Ok x ≡ ok_or c NotMade.Missing → Ok (candidate thresh_kind r 0 0 u d x) ≡ made_as thresh_kind r 0 0 (Ok u) d c
          by-cost None same = absurd (let z : ◌≡◌ {A = ℕ} 0 1 = cc in omega arith)
          by-cost (Some y) same = let z : x ≡ y = cc in ap (λ (c : Cost). Ok (candidate thresh_kind r 0 0 u d c)) z

  module _ (c : Context) (ds : List ExtData) {d : ExtData} {t : Bool} (exts : take n ds ≡ exts_of m es) (figured : d ≡ threshold k (take n ds))
      (valid : t ≡ from_ast c 0 d) where
    figures-told : d ≡ threshold k (exts_of m es)
    figures-told = figured ∙ ap (threshold k) exts

    valid-told : t ≡ from_ast c 0 (threshold k (exts_of m es))
    valid-told = valid ∙ ap (from_ast c 0) figures-told

    pub of-valid : t ≡ true → {x : Result Candidate NotMade} → x ≡ thresh_with d m r k n es → x ≡ thresh_at c m r k n es
    of-valid taken is =
        is
        ∙ ap (λ (e : ExtData). thresh_with e m r k n es) figures-told
        ∙ ap (λ (b : Bool). if_valid b (thresh_with (threshold k (exts_of m es)) m r k n es)) (sym taken ∙ valid-told)

    pub of_other : t ≡ false → Err NotMade.PassedOver ≡ thresh_at c m r k n es
    of_other left = ap (λ (b : Bool). if_valid b (thresh_with (threshold k (exts_of m es)) m r k n es)) (sym left ∙ valid-told)

-- ---- what it stands for

-- with a tree
stands_for : Fragment → Result Candidate NotMade → definition.Made
stands_for f (Ok y) = definition.made (definition.candidate f y.ty y.ext y.cost)
stands_for f (Err NotMade.PassedOver) = definition.passed_over
stands_for f (Err NotMade.Missing) = definition.missing

stands : (r : ℕ) (f : Fragment) (v : Bool) (t : Result «Type» TypeError) (d : ExtData) (c : Option Cost)
    → stands_for f (if_valid v (made_as thresh_kind r 0 0 t d c)) ≡ definition.if_valid v (definition.made_as t f d c)
unfolding stands_for
stands r f true (Ok t) d (Some c) = refl
stands r f true (Ok t) d None = refl
stands r f true (Err TypeError.IllTyped) d c = refl
stands r f false t d c = refl

module _ (pol m : List ℕ) where
  types-seen : (es : List ℕ) → AllBelow (node_count m) es → map (λ x. x.ty) (seen_all pol m es) ≡ types_of m es
  unfolding AllBelow
  types-seen [] h = refl
  types-seen (e ∷ es) h =
      ap (λ (t : «Type»). t ∷ map (λ x. x.ty) (seen_all pol m es)) (seen-fields pol m e h.0).ty
      ∙ ap (λ (l : List «Type»). (node_at m e).ty ∷ l) (types-seen es h.1)

  exts-seen : (es : List ℕ) → AllBelow (node_count m) es → map (λ x. x.ext) (seen_all pol m es) ≡ exts_of m es
  unfolding AllBelow
  exts-seen [] h = refl
  exts-seen (e ∷ es) h =
      ap (λ (t : ExtData). t ∷ map (λ x. x.ext) (seen_all pol m es)) (seen-fields pol m e h.0).ext
      ∙ ap (λ (l : List ExtData). (node_at m e).ext ∷ l) (exts-seen es h.1)

  costs-seen : (es : List ℕ) → AllBelow (node_count m) es → map (λ x. x.cost) (seen_all pol m es) ≡ costs_of m es
  unfolding AllBelow
  costs-seen [] h = refl
  costs-seen (e ∷ es) h =
      ap (λ (t : Cost). t ∷ map (λ x. x.cost) (seen_all pol m es)) (seen-fields pol m e h.0).cost
      ∙ ap (λ (l : List Cost). (node_at m e).cost ∷ l) (costs-seen es h.1)

  length_seen : (es : List ℕ) → length (seen_all pol m es) ≡ length es
  length_seen [] = refl
  length_seen (e ∷ es) = ap suc (length_seen es)

  at_seen : (c : Context) (r k n : ℕ) (es : List ℕ) → AllBelow (node_count m) es → length es ≡ n
      → stands_for (Thresh k (fragments (seen_all pol m es))) (thresh_at c m r k n es) ≡ definition.thresh_of c k (seen_all pol m es)
  unfolding definition.thresh_of
  at_seen c r k n es below long =
      stands r (Thresh k (fragments (seen_all pol m es))) (from_ast c 0 (threshold k (exts_of m es))) (type.threshold k (types_of m es))
      (threshold k (exts_of m es)) (cost.threshold k n (costs_of m es))
      ∙ sym (rw (exts-seen es below, types-seen es below, costs-seen es below, length_seen es ∙ long))

-- ---- its tree

row_is : (m row : List ℕ) (r n : ℕ) → n ≤ 16 → length row ≡ 16 → ((j : ℕ) → j < 16 → row_child m r j ≡ get_or row j 0) → row_at m r n ≡ take n row
unfolding row_at
row_is m row r zero few long are = refl
row_is m row r (suc n) few long are =
    ap (λ (l : List ℕ). l ++ (row_child m r n ∷ [])) (row_is m row r n (omega arith) long are)
    ∙ ap (λ (e : ℕ). take n row ++ (e ∷ [])) (are n (omega arith))
    ∙ sym (take-suc row n 0 (omega arith))

tree_is : (pol m : List ℕ) (r row k : ℕ) (xs : Table) (t : «Type») (d : ExtData) (c : Cost) → k_of (policy_at pol r) ≡ k
    → seen_all pol m (row_at m row (length (children_of (policy_at pol r)))) ≡ xs
    → tree_of pol m (all_nodes pol m) (candidate thresh_kind r row 0 t d c) ≡ Thresh k (fragments xs)
unfolding tree_of find
tree_is pol m r row k xs t d c same-k same_row =
    ap (λ (j : ℕ). Thresh j (fragments (seen_all pol m (row_at m row (length (children_of (policy_at pol r))))))) same-k
    ∙ ap (λ (l : Table). Thresh k (fragments l)) same_row

-- ---- its shape

pub record Shape (r : ℕ) (d : ExtData) (y : Candidate) : Type 0 where
  pub is : y ≡ candidate thresh_kind r 0 0 y.ty y.ext y.cost
  pub ext : y.ext ≡ d

shape-of : (r : ℕ) (d : ExtData) (t : «Type») (c : Cost) {y : Candidate} → candidate thresh_kind r 0 0 t d c ≡ y → Shape r d y
shape-of r d t c is =
    subst (Shape r d) is (record { is = refl; ext = refl })

shape : (r : ℕ) (v : Bool) (t : Result «Type» TypeError) (d : ExtData) (c : Option Cost) {y : Candidate} → if_valid v (made_as thresh_kind r 0 0 t d c) ≡ Ok y
    → Shape r d y
shape r true (Ok t) d (Some c) h = shape-of r d t c (cc)
shape r true (Ok t) d None h = absurd (let z : ◌≡◌ {A = ℕ} 0 1 = cc in omega arith)
shape r true (Err TypeError.IllTyped) d c h = absurd (let z : ◌≡◌ {A = ℕ} 0 1 = cc in omega arith)
shape r false t d c h = absurd (let z : ◌≡◌ {A = ℕ} 0 1 = cc in omega arith)

-- ---- what making it leaves

module _ (c : Context) (r k n : ℕ) (row m₀ : List ℕ)
    (pre : Holds m₀ × ((row_count m₀ < max_rows) × ((1 ≤ k) × ((k ≤ n) × ((n ≤ 16) × AllBelow (node_count m₀) (take n row))))))
    (long : length row ≡ 16) where
  holds : Holds m₀
  holds = pre.0

  some : 1 ≤ n
  some = omega (arith, pre.1.1.0, pre.1.1.1.0)

  few : n ≤ 16
  few = pre.1.1.1.1.0

  below : AllBelow (node_count m₀) (take n row)
  below = pre.1.1.1.1.1

  count : length (take n row) ≡ n
  count = length-take-le n row (omega (arith, few))

  nothing-made : (x : Result Candidate NotMade) → ((y : Candidate) → x ≡ Ok y → ⊥)
      → ((pol : List ℕ) → made_seen pol m₀ x ≡ stands_for (Thresh k (fragments (seen_all pol m₀ (take n row)))) x)
      → x ≡ thresh_at c m₀ r k n (take n row) → MakesThresh c r k n row m₀ m₀ x
  nothing-made x never stands-so is =
      record {
        says = λ pol same-k same-n.
            stands-so pol
            ∙ ap (stands_for (Thresh k (fragments (seen_all pol m₀ (take n row))))) is
            ∙ at_seen pol m₀ c r k n (take n row) below count;
        holds = holds;
        grows = grows-refl m₀;
        tables = tables-refl m₀;
        count = refl;
        rows = omega arith;
        offers = λ y same. absurd (never y same);
      }

  -- the row that is looked at has n nodes
  at-n : {x : Result Candidate NotMade} → x ≡ thresh_at c m₀ r k (length (take n row)) (take n row) → x ≡ thresh_at c m₀ r k n (take n row)
  at-n is = is ∙ ap (λ (n' : ℕ). thresh_at c m₀ r k n' (take n row)) count

  pub not-made : {x : Result Candidate NotMade} {e : NotMade} → x ≡ thresh_at c m₀ r k (length (take n row)) (take n row) → x ≡ Err e → MakesThresh c r k n row m₀ m₀ (Err e)
  unfolding stands_for
  not-made {e = e} is over =
      nothing-made (Err e) (λ y same. let z : ◌≡◌ {A = ℕ} 0 1 = cc in omega arith)
      (λ pol. told pol (Thresh k (fragments (seen_all pol m₀ (take n row)))) e) (sym over ∙ at-n is)
    where
      told : (pol : List ℕ) (f : Fragment) (e : NotMade) → made_seen pol m₀ (Err e) ≡ stands_for f (Err e)
      told pol f NotMade.PassedOver = refl
      told pol f NotMade.Missing = refl

  module _ {x : Result Candidate NotMade} (y : Candidate) (is : x ≡ thresh_at c m₀ r k (length (take n row)) (take n row)) (made : x ≡ Ok y) (m : List ℕ) (number : ℕ)
      (one : OneRow m₀ m row number) where
    shaped : Shape r (threshold k (exts_of m₀ (take n row))) y
    shaped =
        shape r (from_ast c 0 (threshold k (exts_of m₀ (take n row)))) (type.threshold k (types_of m₀ (take n row)))
        (threshold k (exts_of m₀ (take n row))) (cost.threshold k n (costs_of m₀ (take n row))) (sym (at-n is) ∙ made)

    rowed : with_row y number ≡ candidate thresh_kind r number 0 y.ty y.ext y.cost
    rowed = ap (λ (z : Candidate). with_row z number) shaped.is

    tree : (pol : List ℕ) → k_of (policy_at pol r) ≡ k → length (children_of (policy_at pol r)) ≡ n
        → tree_of pol m (all_nodes pol m) (with_row y number) ≡ Thresh k (fragments (seen_all pol m₀ (take n row)))
    tree pol same-k same-n =
        ap (tree_of pol m (all_nodes pol m)) rowed
        ∙ tree_is pol m r number k (seen_all pol m₀ (take n row)) y.ty y.ext y.cost same-k
        (ap (λ (j : ℕ). seen_all pol m (row_at m number j)) same-n
        ∙ ap (seen_all pol m) (row_is m row number n few long one.children)
        ∙ seen_all-kept holds one.grows pol (take n row) below)

    offerable : Offerable m (with_row y number)
    offerable =
        let kind : y.kind ≡ thresh_kind = ap (λ (z : Candidate). z.kind) shaped.is in
        let bounded : bounds.Candidate (max_figure + 1) (threshold k (exts_of m₀ (take n row))) =
        threshold-candidate max_figure k (exts_of m₀ (take n row)) (omega (arith, length-exts (take n row), count, some))
        (omega (arith, length-exts (take n row), count, few)) (exts-entered holds (take n row) below) in
        record {
          candidate = rw shaped.ext bounded;
          kind = omega arith;
          rowed = λ same. omega (arith, one.is, one.rows);
        }
      where
        length-exts : (l : List ℕ) → length (exts_of m₀ l) ≡ length l
        length-exts [] = refl
        length-exts (e ∷ l) = ap suc (length-exts l)

    pub thresh-made : {z : Candidate} → z ≡ with_row y number → MakesThresh c r k n row m₀ m (Ok z)
    unfolding stands_for seen_as
    thresh-made same =
        rw same
        (record {
          says = λ pol same-k same-n.
              ap (λ (f : Fragment). definition.made (definition.candidate f y.ty y.ext y.cost)) (tree pol same-k same-n)
              ∙ ap (stands_for (Thresh k (fragments (seen_all pol m₀ (take n row))))) (sym made ∙ at-n is)
              ∙ at_seen pol m₀ c r k n (take n row) below count;
          holds = one.holds;
          grows = one.grows;
          tables = one.tables;
          count = one.count;
          rows = omega (arith, one.rows);
          offers = λ z is. subst (Offerable m) (made-same (with_row y number) z is) offerable;
        })
      where
        made-same : (a b : Candidate) → ◌≡◌ {A = Result Candidate NotMade} (Ok a) (Ok b) → a ≡ b
        made-same a b h = cc
