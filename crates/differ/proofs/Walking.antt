-- Two trees walked side by side: what is told at two records, and then at their children in turn. Assumes nothing.
use Prim.Native.Nat.{ℕ, suc, ◌+◌, ◌-◌, ◌≤◌, ◌<◌}
use mathlib.Core.Bool.{Bool, true, false, cond}
use mathlib.Core.List.{List, [], ◌∷◌, ◌++◌}
use mathlib.Core.Path.{◌≡◌, refl, sym, ap, subst, ◌∙◌}
use native.Mathlib.Numerals.{add-one}
use native.Mathlib.Omega.{arith}
use borrow.Author.Tests.{eqb-true}
use lib.ListN.{length, get_or, take, drop, drop_of_length-le}
use lib.Seq.{drop-cons, get_or-take}
use Rattle.records.specs.Payloads.{children_of}
use Rattle.records.proofs.Forms.{and_right}
use Rattle.trees.specs.Fragment.{Fragment}
use Rattle.trees.specs.Reading.{max_records}
use Rattle.walk.specs.declared.Node.{Node}
use Rattle.walk.specs.TreeRecords.{TreeRecord, TreeRecords, record_at}
use Rattle.walk.specs.Nodes.{node_of, AllPlaced}
use Rattle.walk.specs.Heads.{head_in}
use Rattle.walk.proofs.Laws.{placed_below, few, node-count, node-children, child-before}
use Rattle.differ.specs.Numbered.{Numbered, node}
use Rattle.differ.specs.Differences.{Difference, same_head, same_count, differences, differences_in}
use Rattle.differ.specs.Records.{numbered_at, list_at, size_of, sizes_of, same_record, Walks}
use Rattle.differ.specs.Telling.{Tells}
use Rattle.differ.proofs.Numbering.{numbered-at}
use Rattle.differ.proofs.Sides.{counts-listed, sides}
use Rattle.differ.proofs.Sizes.{few-differences, few-records}
use Rattle.differ.proofs.Telling.{ToCome, all_come, more-come, none-come, told-as}

-- ---- two records

module _ {left right : List ℕ} {i j : ℕ} (x : TreeRecord left i) (y : TreeRecord right j) where
  abbrev those-left : List ℕ
  those-left = children_of x.payload

  abbrev those-right : List ℕ
  those-right = children_of y.payload

  as-nodes : differences (numbered_at left i) (numbered_at right j)
      ≡ cond (same_record (record_at left i) (record_at right j)) (differences_in (list_at left those-left) (list_at right those-right)) (record { left = i; right = j } ∷ [])
  unfolding differences
  as-nodes =
      ap (λ (t : Numbered). differences t (numbered_at right j)) (numbered-at left x)
      ∙ ap (differences (node i (head_in (record_at left i)) (list_at left those-left))) (numbered-at right y)
      ∙ ap (λ (b : Bool). cond b (differences_in (list_at left those-left) (list_at right those-right)) (record { left = i; right = j } ∷ [])) (sym (sides x y))

  if-other : same_record (record_at left i) (record_at right j) ≡ false
      → differences (numbered_at left i) (numbered_at right j) ≡ record { left = i; right = j } ∷ []
  if-other e = as-nodes ∙ ap (λ (b : Bool). cond b (differences_in (list_at left those-left) (list_at right those-right)) (record { left = i; right = j } ∷ [])) e

  if-same : same_record (record_at left i) (record_at right j) ≡ true
      → differences (numbered_at left i) (numbered_at right j) ≡ differences_in (list_at left those-left) (list_at right those-right)
  if-same e = as-nodes ∙ ap (λ (b : Bool). cond b (differences_in (list_at left those-left) (list_at right those-right)) (record { left = i; right = j } ∷ [])) e

  as_many : same_record (record_at left i) (record_at right j) ≡ true → length those-left ≡ length those-right
  as_many e =
      eqb-true (length those-left) (length those-right)
      (sym (counts-listed left right those-left those-right)
      ∙ and_right (same_head (head_in (record_at left i)) (head_in (record_at right j))) (same_count (list_at left those-left) (list_at right those-right)) (sym (sides x y) ∙ e))

-- ---- the children that are still to come

abbrev pub rest_from : (left right xs ys : List ℕ) → (c : ℕ) → List Difference
rest_from left right xs ys c = differences_in (list_at left (drop c xs)) (list_at right (drop c ys))

rest-next : (left right xs ys : List ℕ) (c : ℕ) → c < length xs → c < length ys
    → rest_from left right xs ys c ≡ differences (numbered_at left (get_or xs c 0)) (numbered_at right (get_or ys c 0)) ++ rest_from left right xs ys (c + 1)
unfolding differences_in list_at
rest-next left right xs ys c h l = rw (add-one c, drop-cons xs c 0 h, drop-cons ys c 0 l)

rest_end : (left right xs ys : List ℕ) (c : ℕ) → length xs ≤ c → rest_from left right xs ys c ≡ []
unfolding differences_in list_at
rest_end left right xs ys c h = rw (drop_of_length-le xs h)

sizes-next : (left xs : List ℕ) (c : ℕ) → c < length xs
    → sizes_of (list_at left (drop c xs)) ≡ size_of (numbered_at left (get_or xs c 0)) + sizes_of (list_at left (drop (c + 1) xs))
unfolding sizes_of list_at
sizes-next left xs c h = rw (add-one c, drop-cons xs c 0 h)

-- so many children are compared
pub record DifferOn (left right before : List ℕ) (from : ℕ) (xs ys : List ℕ) (n : ℕ) (out : List ℕ) (at c : ℕ) : Type 0 where
  pub come : ToCome before from (rest_from left right (take n xs) (take n ys) 0) out at (rest_from left right (take n xs) (take n ys) c)
  pub room : at + sizes_of (list_at left (drop c (take n xs))) ≤ max_records
  pub within : c ≤ n

module _ {left right starts others : List ℕ} {i j at : ℕ} (walks : Walks left right starts others i j at) where
  abbrev row-left : TreeRecord left i
  row-left = (walks.placed_left.placed i (omega arith)).row

  abbrev row-right : TreeRecord right j
  row-right = (walks.placed_right.placed j (omega arith)).row

  size-here : size_of (numbered_at left i) ≡ suc (sizes_of (list_at left (children_of row-left.payload)))
  unfolding size_of
  size-here = ap size_of (numbered-at left row-left)

  pub has_room : at < max_records
  has_room = omega (arith, size-here, walks.room)

  pub told_here : {out after : List ℕ} {end : ℕ} {same : Bool} → same ≡ same_record (record_at left i) (record_at right j) → same ≡ false
      → Tells out after at (record { left = i; right = j } ∷ []) end → Tells out after at (differences (numbered_at left i) (numbered_at right j)) end
  told_here e f t = told-as (sym (if-other row-left row-right (sym e ∙ f))) t

  module _ {x y : Node} (x-is : x ≡ node_of (record_at left i)) (y-is : y ≡ node_of (record_at right j)) {same : Bool}
      (told : same ≡ same_record (record_at left i) (record_at right j)) (taken : same ≡ true) where
    agree : same_record (record_at left i) (record_at right j) ≡ true
    agree = sym told ∙ taken

    pub few-left : x.n ≤ 16
    few-left = subst (λ (z : Node). z.n ≤ 16) (sym x-is) (few row-left)

    same-n : x.n ≡ y.n
    same-n =
        ap (λ (z : Node). z.n) x-is ∙ node-count row-left ∙ as_many row-left row-right agree ∙ sym (node-count row-right) ∙ sym (ap (λ (z : Node). z.n) y-is)

    children-left : take x.n x.children ≡ children_of row-left.payload
    children-left = subst (λ (z : Node). take z.n z.children ≡ children_of row-left.payload) (sym x-is) (node-children row-left)

    children-right : take x.n y.children ≡ children_of row-right.payload
    children-right =
        ap (λ (n : ℕ). take n y.children) same-n
        ∙ subst (λ (z : Node). take z.n z.children ≡ children_of row-right.payload) (sym y-is) (node-children row-right)

    long-left : length (take x.n x.children) ≡ x.n
    long-left = ap length children-left ∙ sym (node-count row-left) ∙ sym (ap (λ (z : Node). z.n) x-is)

    long-right : length (take x.n y.children) ≡ x.n
    long-right = ap length children-right ∙ sym (as_many row-left row-right agree) ∙ sym (node-count row-left) ∙ sym (ap (λ (z : Node). z.n) x-is)

    all_told : rest_from left right (take x.n x.children) (take x.n y.children) 0 ≡ differences (numbered_at left i) (numbered_at right j)
    all_told =
        ap (λ (xs : List ℕ). rest_from left right xs (take x.n y.children) 0) children-left
        ∙ ap (λ (ys : List ℕ). rest_from left right (children_of row-left.payload) ys 0) children-right
        ∙ sym (if-same row-left row-right agree)

    pub differ-begins : (out : List ℕ) → DifferOn left right out at x.children y.children x.n out at 0
    differ-begins out =
        record {
          come = all_come out at refl;
          room = omega (arith, size-here, ap (λ (xs : List ℕ). sizes_of (list_at left xs)) children-left, walks.room);
          within = omega arith;
        }

    module _ {before out : List ℕ} {from to c : ℕ} (so_far : DifferOn left right before from x.children y.children x.n out to c) where
      pub differ-ends : x.n ≤ c → from ≡ at → Tells before out at (differences (numbered_at left i) (numbered_at right j)) to
      differ-ends h e =
          told-as all_told
          (subst (λ (n : ℕ). Tells before out n (rest_from left right (take x.n x.children) (take x.n y.children) 0) to) e
          (none-come (rest_end left right (take x.n x.children) (take x.n y.children) c (omega (arith, long-left))) so_far.come))

      module _ (h : c < x.n) where
        child-left : get_or (take x.n x.children) c 0 ≡ get_or x.children c 0
        child-left = get_or-take x.n x.children c 0 h

        child-right : get_or (take x.n y.children) c 0 ≡ get_or y.children c 0
        child-right = get_or-take x.n y.children c 0 h

        pub less-left : get_or x.children c 0 < i
        less-left = subst (λ (z : Node). c < z.n → get_or z.children c 0 < i) (sym x-is) (child-before row-left c) h

        less-right : get_or y.children c 0 < j
        less-right = subst (λ (z : Node). c < z.n → get_or z.children c 0 < j) (sym y-is) (child-before row-right c) (omega (arith, same-n))

        size-left : sizes_of (list_at left (drop c (take x.n x.children)))
            ≡ size_of (numbered_at left (get_or x.children c 0)) + sizes_of (list_at left (drop (c + 1) (take x.n x.children)))
        size-left =
            sizes-next left (take x.n x.children) c (omega (arith, long-left))
            ∙ ap (λ (a : ℕ). size_of (numbered_at left a) + sizes_of (list_at left (drop (c + 1) (take x.n x.children)))) child-left

        pub child-walks : Walks left right starts others (get_or x.children c 0) (get_or y.children c 0) to
        child-walks =
            record {
              placed_left = placed_below walks.placed_left (get_or x.children c 0) (omega (arith, less-left));
              placed_right = placed_below walks.placed_right (get_or y.children c 0) (omega (arith, less-right));
              small_left = omega (arith, less-left, walks.small_left);
              small_right = omega (arith, less-right, walks.small_right);
              room = omega (arith, size-left, so_far.room);
            }

        pub differ-more : {next : List ℕ} {end : ℕ}
            → Tells out next to (differences (numbered_at left (get_or x.children c 0)) (numbered_at right (get_or y.children c 0))) end
            → DifferOn left right before from x.children y.children x.n next end (c + 1)
        differ-more {next} {end} t =
            let a = get_or x.children c 0 in
            let b = get_or y.children c 0 in
            let split : rest_from left right (take x.n x.children) (take x.n y.children) c
            ≡ differences (numbered_at left a) (numbered_at right b) ++ rest_from left right (take x.n x.children) (take x.n y.children) (c + 1) =
            rest-next left right (take x.n x.children) (take x.n y.children) c (omega (arith, long-left)) (omega (arith, long-right))
            ∙ ap (λ (a : ℕ). differences (numbered_at left a) (numbered_at right (get_or (take x.n y.children) c 0))
            ++ rest_from left right (take x.n x.children) (take x.n y.children) (c + 1)) child-left
            ∙ ap (λ (b : ℕ). differences (numbered_at left a) (numbered_at right b)
            ++ rest_from left right (take x.n x.children) (take x.n y.children) (c + 1)) child-right in
            record {
              come = more-come split so_far.come t;
              room = omega (arith, size-left, so_far.room, t.ends, few-differences (numbered_at left a) (numbered_at right b));
              within = omega arith;
            }

-- the measure
pub below : {a b t : ℕ} → a < b → b ≡ t → a < t
below {a} h e = subst (λ (n : ℕ). a < n) e h

-- no more differences than there may be records
pub few-told : {left right starts others : List ℕ} {i j at : ℕ} → Walks left right starts others i j at → {out after : List ℕ} {end : ℕ}
    → Tells out after at (differences (numbered_at left i) (numbered_at right j)) end → end ≤ max_records
few-told {left} {right} {i = i} {j = j} walks t = omega (arith, walks.room, t.ends, few-differences (numbered_at left i) (numbered_at right j))

-- ---- the roots

pub root-walks : {left right starts others : List ℕ} {f g : Fragment} (r : TreeRecords left f) (s : TreeRecords right g) {n m : ℕ} → n ≡ r.count
    → m ≡ s.count → AllPlaced left starts (n - 1) → AllPlaced right others (m - 1) → Walks left right starts others (n - 1) (m - 1) 0
root-walks {left} r s {n} {m} e d p q =
    record {
      placed_left = p;
      placed_right = q;
      small_left = omega (arith, e, r.any, r.few);
      small_right = omega (arith, d, s.any, s.few);
      room = omega (arith, few-records r, ap (λ (n : ℕ). size_of (numbered_at left (n - 1))) e);
    }
