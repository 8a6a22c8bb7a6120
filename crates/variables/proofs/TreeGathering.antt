-- The variables of a tree are those of its records. Assumes nothing.
use Prim.Native.Nat.{ℕ, zero, suc, ◌+◌, ◌-◌, ◌≤◌, ◌<◌}
use mathlib.Core.Bool.{Bool, false, ◌||◌}
use mathlib.Core.List.{List, [], ◌∷◌, ◌++◌, map, append_assoc}
use mathlib.Core.Path.{◌≡◌, refl, sym, ap, ◌∙◌}
use native.Mathlib.Numerals.{add-one}
use lib.ListN.{length, take, drop}
use Rattle.trees.specs.Fragment.{Fragment, Fragments, end, ◌▹◌, to_list, False, True, PkK, PkH, Lock, Hash}
use Rattle.trees.specs.Fragment.{Alt, Swap, Check, DupIf, Verify, NonZero, ZeroNotEqual}
use Rattle.trees.specs.Fragment.{AndB, AndV, OrB, OrD, OrC, OrI, AndOr, Thresh, Multi, MultiA}
use Rattle.walk.specs.TreeRecords.{length_from, fragment_at, TreeRecords}
use Rattle.walk.specs.Heads.{children_in}
use Rattle.walk.specs.Folds.{every, over_records, Gathers, OwnAndChildren}
use Rattle.walk.proofs.FoldLaws.{over-records}
use Rattle.meaning.specs.Meaning.{Variable}
use Rattle.variables.specs.declared.Vars.{Vars}
use Rattle.variables.specs.declared.Own.{Own}
use Rattle.variables.specs.Variables.{member, tree_variables, trees_variables}
use Rattle.variables.specs.Gathering.{code_of, Roomy, Gathered, own_variables, OwnIs, Fits}
use Rattle.variables.proofs.Members.{or_assoc, or_comm, or-false, member-append}
use Rattle.variables.proofs.Rows.{gathered-same}
use Rattle.variables.proofs.Walking.{On, begins, its-row, its-bytes, its-payload, next, all-walked}
use Rattle.variables.proofs.OwnCodes.{own_at}

-- ---- a tree's variables, from those of its records

or-gathers : Gathers ◌||◌ false
or-gathers = record { right-unit = or-false; assoc = or_assoc; comm = or_comm }

module _ (v : Variable) where
  abbrev has : Fragment → Bool
  has f = member v (tree_variables f)

  abbrev own : Fragment → Bool
  own f = member v (own_variables f)

  one : (x : Fragment) → has x ≡ has x || false
  one x = sym (or-false (has x))

  two : (x y : Fragment) → member v (tree_variables x ++ tree_variables y) ≡ has x || (has y || false)
  two x y = member-append v (tree_variables x) (tree_variables y) ∙ ap (λ (b : Bool). has x || b) (one y)

  many : (xs : Fragments) → member v (trees_variables xs) ≡ every ◌||◌ false has (to_list xs)
  unfolding trees_variables every to_list member
  many end = refl
  many (x ▹ xs) = member-append v (tree_variables x) (trees_variables xs) ∙ ap (λ (b : Bool). has x || b) (many xs)

  splits : OwnAndChildren ◌||◌ false has own
  unfolding tree_variables own_variables children_in every member
  splits False = refl
  splits True = refl
  splits (PkK n) = sym (or-false _)
  splits (PkH n) = sym (or-false _)
  splits (Lock kind n) = sym (or-false _)
  splits (Hash kind n) = sym (or-false _)
  splits (Alt x) = one x
  splits (Swap x) = one x
  splits (Check x) = one x
  splits (DupIf x) = one x
  splits (Verify x) = one x
  splits (NonZero x) = one x
  splits (ZeroNotEqual x) = one x
  splits (AndB x y) = two x y
  splits (AndV x y) = two x y
  splits (OrB x y) = two x y
  splits (OrD x y) = two x y
  splits (OrC x y) = two x y
  splits (OrI x y) = two x y
  splits (AndOr x y z) =
      member-append v (tree_variables x) (tree_variables y ++ tree_variables z) ∙ ap (λ (b : Bool). has x || b) (two y z)
  splits (Thresh k xs) = many xs
  splits (Multi k keys) = sym (or-false _)
  splits (MultiA k keys) = sym (or-false _)

-- the variables of the first n records
unfoldable pub own_up_to : List ℕ → ℕ → List Variable
own_up_to tree zero = []
own_up_to tree (suc n) = own_up_to tree n ++ own_variables (fragment_at tree n)

own-records : (v : Variable) (tree : List ℕ) (n : ℕ) → over_records ◌||◌ false (own v) tree n ≡ member v (own_up_to tree n)
unfolding over_records own_up_to member
own-records v tree zero = refl
own-records v tree (suc n) =
    ap (λ (b : Bool). b || own v (fragment_at tree n)) (own-records v tree n) ∙ sym (member-append v (own_up_to tree n) (own_variables (fragment_at tree n)))

all-variables : {tree : List ℕ} {f : Fragment} (r : TreeRecords tree f) (v : Variable) → member v (own_up_to tree r.count) ≡ member v (tree_variables f)
all-variables {tree} {f} r v =
    sym (own-records v tree r.count) ∙ sym (over-records ◌||◌ false or-gathers (has v) (own v) (splits v) r)

-- ---- record by record

pub record TreeOn (tree : List ℕ) (t : Vars) (at : ℕ) (all : Vars) : Type 0 where
  pub i : ℕ
  pub on : On tree at i
  pub room : Roomy all
  pub so_far : (l : List Variable) → Gathered t l → Gathered all (l ++ own_up_to tree i)

nil : (l : List Variable) → l ++ [] ≡ l
nil [] = refl
nil (v ∷ l) = ap (λ (k : List Variable). v ∷ k) (nil l)

pub tree-begin : (tree : List ℕ) (t : Vars) → Roomy t → TreeOn tree t 0 t
unfolding own_up_to
tree-begin tree t room = record { i = 0; on = begins tree; room = room; so_far = λ l g. rw (nil l) g }

module _ {tree : List ℕ} {t : Vars} {at : ℕ} {all : Vars} (sofar : TreeOn tree t at all) {f : Fragment} (r : TreeRecords tree f) where
  module _ (h : at < length tree) {end : ℕ} (e : end ≡ at + length_from tree at) where
    pub tree-fits : Fits (take (end - at) (drop at tree))
    tree-fits = record { payload = (its-row sofar.on r h e).payload; fits = its-payload sofar.on r h e }

    pub tree-more : {own : Own} → OwnIs (take (end - at) (drop at tree)) own → {more : Vars}
        → ((l vs : List Variable) → take own.n own.list ≡ map code_of vs → Gathered all l → Gathered more (l ++ vs)) → Roomy more
        → TreeOn tree t end more
    unfolding own_up_to
    tree-more {own} is {more} adds room =
        let row = its-row sofar.on r h e in
        let codes = own_at row (its-bytes sofar.on r h e) is in
        record {
          i = sofar.i + 1;
          on = next sofar.on r h e;
          room = room;
          so_far = λ l g. let more_of = adds (l ++ own_up_to tree sofar.i) (own_variables (fragment_at tree sofar.i)) codes (sofar.so_far l g) in
              let joined : l ++ own_up_to tree (sofar.i + 1) ≡ (l ++ own_up_to tree sofar.i) ++ own_variables (fragment_at tree sofar.i) =
              ap (λ (n : ℕ). l ++ own_up_to tree n) (add-one sofar.i) ∙ sym (append_assoc l (own_up_to tree sofar.i) (own_variables (fragment_at tree sofar.i))) in
              rw joined more_of;
        }

  pub tree-done : length tree ≤ at → (l : List Variable) → Gathered t l → Gathered all (l ++ tree_variables f)
  tree-done h l g =
      let same : sofar.i ≡ r.count = all-walked sofar.on r h in
      gathered-same
      (λ v. member-append v l (own_up_to tree sofar.i) ∙ ap (λ (b : Bool). member v l || b)
      (ap (λ (n : ℕ). member v (own_up_to tree n)) same ∙ all-variables r v) ∙ sym (member-append v l (tree_variables f)))
      (sofar.so_far l g)
