-- Each record is given its place, parents first. Assumes nothing.
use Prim.Native.Nat.{ℕ, suc, ◌+◌, ◌-◌, ◌≤◌, ◌<◌}
use mathlib.Core.Bool.{Bool, true, false}
use mathlib.Core.List.{List}
use mathlib.Core.Logic.{◌⊎◌, inl, inr, ⊎_elim}
use mathlib.Core.Path.{◌≡◌, refl, sym, ap, subst, ◌∙◌}
use native.Mathlib.Omega.{arith}
use borrow.Author.Tests.{eqb-true, eqb-false}
use lib.Dec.{eqb}
use lib.ListN.{length, get_or, set, length-set}
use lib.Seq.{get_or-set_other}
use Rattle.contexts.specs.declared.Context.{Context}
use Rattle.walk.specs.TreeRecords.{record_at, TreeRecord, TreeRecords}
use Rattle.walk.specs.declared.Node.{Node}
use Rattle.walk.specs.Nodes.{node_of, Placed}
use Rattle.walk.proofs.Laws.{few, node-count, child-is}
use Rattle.script_entry.specs.Pieces.{place}
use Rattle.script_entry.proofs.Nodes.{place-small}
use Rattle.index_places.specs.Places.{kids_at, kind_at, kid, ahead, size_at, ahead_at, Stands, root, child}
use Rattle.index_places.proofs.Parents.{kids-row}
use Rattle.index_places.proofs.Records.{same_ahead}
use Rattle.index_places.proofs.Weights.{size_small}
use Rattle.index_places.proofs.Stands.{place_in, kid-before, one_place, parent_of, in-script}
use Rattle.index_memory.specs.Memory.{size_in, first_in, subtree_in}
use Rattle.index_entry.specs.Building.{Children, Known, Gives, first_under, Gave, Sized, Rooted, Giving}
use Rattle.index_memory.proofs.Words.{first-same, first-other, size-other, subtree-other, size-kept, first-kept}

-- ---- the children of one record

-- so many of its children have their places
pub record GiveOn (tree before work : List ℕ) (i j : ℕ) : Type 0 where
  pub room : length work ≡ length before
  pub kids : (m : ℕ) → m < j → first_in work (kid tree i m) ≡ first_under tree before i m
  pub others : (a : ℕ) → ((m : ℕ) → m < j → a ≡ 8192 + kid tree i m → ⊥) → get_or work a 0 ≡ get_or before a 0

pub give-begins : (tree work : List ℕ) (i : ℕ) → GiveOn tree work work i 0
give-begins tree work i = record { room = refl; kids = λ m h. absurd (omega arith); others = λ a h. refl }

module _ {tree before : List ℕ} {i : ℕ} (gives : Gives tree before i) {node : Node} (is : node ≡ node_of (record_at tree i)) where
  abbrev rows : TreeRecords tree gives.root
  rows = gives.rows

  abbrev row : TreeRecord tree i
  row = rows.row i gives.inside

  count-is : node.n ≡ length (kids_at tree i)
  count-is = ap (λ (x : Node). x.n) is ∙ node-count row ∙ sym (ap length (kids-row tree row))

  kind-is : node.kind ≡ kind_at tree i
  kind-is = ap (λ (x : Node). x.kind) is

  small-i : i < 4096
  small-i = omega (arith, gives.inside, rows.few)

  small-kid : (j : ℕ) → j < length (kids_at tree i) → kid tree i j < 4096
  small-kid j h = omega (arith, kid-before-any j h, small-i)
    where
      kid-before-any : (j : ℕ) → j < length (kids_at tree i) → kid tree i j < i
      kid-before-any j h = kid-before rows i j gives.inside h

  -- the child that is read
  kid_is : (j : ℕ) → j < node.n → get_or node.children (place node.kind j) 0 ≡ kid tree i j
  unfolding kid
  kid_is j h =
      let l : j < length (kids_at tree i) = omega (arith, count-is) in
      let at : get_or node.children (place node.kind j) 0 ≡ get_or (node_of (record_at tree i)).children (place (kind_at tree i) j) 0 =
      ap (λ (x : Node). get_or x.children (place x.kind j) 0) is in
      at ∙ child-is row (place (kind_at tree i) j) (omega (arith, ap length (kids-row tree row), node-count row, place_in rows i j gives.inside l))
      ∙ ap (λ (ks : List ℕ). get_or ks (place (kind_at tree i) j) 0) (sym (kids-row tree row))

  pub small-place : (j : ℕ) → j < node.n → place node.kind j < 16
  small-place j h = subst (λ (x : Node). j < x.n → place x.kind j < 16) (sym is) (place-small row j) h

  pub child-inside : (j : ℕ) → j < node.n → get_or node.children (place node.kind j) 0 < 4096
  child-inside j h = rw (kid_is j h) (small-kid j (omega (arith, count-is)))

  pub child-at : (j q : ℕ) → q ≡ place node.kind j → j < node.n → get_or node.children q 0 < 4096
  child-at j q e h = rw e (child-inside j h)

  pub few-children : node.n ≤ 16
  few-children = subst (λ (x : Node). x.n ≤ 16) (sym is) (few row)

  module _ {work : List ℕ} {j : ℕ} (on : GiveOn tree before work i j) (h : j < node.n) where
    pub room-here : length work ≡ 16384
    room-here = on.room ∙ gives.room

    pub children-here : Children work node.kind node.children j
    children-here =
        record {
          room = room-here;
          few = omega (arith, few-children);
          small = λ m l. small-place m (omega arith);
          inside = λ m l. child-inside m (omega arith);
        }

    size-here : (w : Bool) (x : ℕ) → x < 4096 → size_in work w x ≡ size_in before w x
    size-here w x l = size-kept before work w x (on.others (4096 + x) (λ m o e. omega arith))

    ahead-here : ahead node.kind false (λ w m. size_in work w (get_or node.children m 0)) j
        ≡ ahead (kind_at tree i) false (λ w m. size_in before w (get_or (kids_at tree i) m 0)) j
    unfolding kid
    ahead-here =
        ap (λ (k : ℕ). ahead k false (λ w m. size_in work w (get_or node.children m 0)) j) kind-is
        ∙ same_ahead false (kind_at tree i) j (λ w m. size_in work w (get_or node.children m 0)) (λ w m. size_in before w (get_or (kids_at tree i) m 0))
        (λ w m l. let o : m < node.n = omega arith in
        let at : get_or node.children (place (kind_at tree i) m) 0 ≡ kid tree i m = ap (λ (k : ℕ). get_or node.children (place k m) 0) (sym kind-is) ∙ kid_is m o in
        ap (size_in work w) at ∙ size-here w (kid tree i m) (small-kid m (omega (arith, count-is))))

    pub give-more : {at child q first : ℕ} {next : List ℕ} → at ≡ first_in before i → q ≡ place node.kind j → child ≡ get_or node.children q 0
        → first ≡ ahead node.kind false (λ w m. size_in work w (get_or node.children m 0)) j → next ≡ set work (8192 + child) (at + first)
        → GiveOn tree before next i (j + 1)
    give-more {at} {child} {q} {first} {next} s p k a e =
        let l : j < length (kids_at tree i) = omega (arith, count-is) in
        let it : child ≡ kid tree i j = k ∙ ap (λ (x : ℕ). get_or node.children x 0) p ∙ kid_is j h in
        let here : first_in next child ≡ first_under tree before i j =
        ap (λ (m : List ℕ). first_in m child) e
        ∙ first-same work (8192 + child) (at + first) child refl (omega (arith, it, small-kid j l, room-here))
        ∙ under s (a ∙ ahead-here) in
        record {
          room = ap length e ∙ length-set work (8192 + child) (at + first) ∙ on.room;
          kids = λ m o. each m (eqb m j) refl o it here;
          others = λ a f. ap (λ (m : List ℕ). get_or m a 0) e
              ∙ get_or-set_other work (8192 + child) a (at + first) 0 (λ z. f j (omega arith) (z ∙ ap (λ (x : ℕ). 8192 + x) it))
              ∙ on.others a (λ m o. f m (omega arith));
        }
      where
        under : {a a' b b' : ℕ} → a ≡ a' → b ≡ b' → a + b ≡ a' + b'
        under x y = rw (x, y)

        each : (m : ℕ) (t : Bool) → eqb m j ≡ t → m < j + 1 → child ≡ kid tree i j → first_in next child ≡ first_under tree before i j
            → first_in next (kid tree i m) ≡ first_under tree before i m
        each m true t o it here =
            let same = eqb-true m j t in
            rw same (ap (first_in next) (sym it) ∙ here)
        each m false t o it here =
            let n = eqb-false m j t in
            let less : m < j = omega (arith, n) in
            let apart : 8192 + kid tree i m ≡ 8192 + child → ⊥ =
            λ z. n (one_place rows i i m j gives.inside gives.inside (omega (arith, count-is)) (omega (arith, count-is)) (let y : kid tree i m ≡ child = omega (arith, z) in y ∙ it)).1 in
            ap (λ (w : List ℕ). first_in w (kid tree i m)) e ∙ first-other work (8192 + child) (at + first) (kid tree i m) apart
            ∙ on.kids m less

  pub give-ends : {work : List ℕ} {j : ℕ} → GiveOn tree before work i j → j ≤ node.n → node.n ≤ j → Gave tree before work i
  give-ends {work} {j} on o h =
      record {
        room = on.room;
        kids = λ m l. on.kids m (omega (arith, count-is));
        others = λ a f. on.others a (λ m l z. f m (omega (arith, count-is)) z);
      }

-- ---- all records

module _ {tree before : List ℕ} {count : ℕ} (sized : Sized tree before count) where
  abbrev its : TreeRecords tree sized.scanned.checked.root
  its = sized.scanned.checked.rows

  counts : count ≡ its.count
  counts = sized.scanned.counts

  pub root-inside : (1 ≤ count) × (count - 1 < 4096)
  root-inside = (omega (arith, counts, its.any), omega (arith, counts, its.any, its.few))

  -- the root is given its place
  module _ {work : List ℕ} (e : work ≡ set before (8192 + (count - 1)) 0) where
    pub known-rooted : (c : Context) (j : ℕ) → j < count → Known c tree before j → Known c tree work j
    known-rooted c j h known =
        let few : j < 4096 = omega (arith, root-inside.1) in
        record {
          sizes = λ v. ap (λ (m : List ℕ). size_in m v j) e ∙ size-other before (8192 + (count - 1)) 0 v j (λ z. omega arith) ∙ known.sizes v;
          subtree = ap (λ (m : List ℕ). subtree_in m j) e ∙ subtree-other before (8192 + (count - 1)) 0 j (λ z. omega (arith, root-inside.1)) ∙ known.subtree;
        }

    rooted-long : length work ≡ 16384
    rooted-long = ap length e ∙ length-set before (8192 + (count - 1)) 0 ∙ sized.scanned.room

    pub rooted : Rooted tree work count
    rooted =
        record {
          sized = record {
            c = sized.c;
            scanned = record { checked = sized.scanned.checked; counts = counts; room = rooted-long; placed = record { placed = placed } };
            each = λ j h. known-rooted sized.c j h (sized.each j h);
          };
          first = ap (λ (m : List ℕ). first_in m (count - 1)) e ∙ first-same before (8192 + (count - 1)) 0 (count - 1) refl (omega (arith, root-inside.1, sized.scanned.room));
        }
      where
        placed : (j : ℕ) → j ≤ count - 1 → Placed tree work j
        placed j l =
            let was = sized.scanned.placed.placed j l in
            record {
              row = was.row;
              long = omega (arith, rooted-long, root-inside.1);
              start = ap (λ (m : List ℕ). get_or m j 0) e ∙ get_or-set_other before (8192 + (count - 1)) j 0 0 (λ z. omega (arith, root-inside.1)) ∙ was.start;
            }

  pub all-begins : first_in before (count - 1) ≡ 0 → Giving tree before before count count
  all-begins z =
      record {
        room = refl;
        others = λ a h. refl;
        each = λ c known k h w. ⊎_elim (λ last. at-root c k last) (λ q. absurd (omega (arith, q.2, q.3))) w;
      }
    where
      at-root : (c : Context) (k : ℕ) → suc k ≡ count → Stands c tree count k (first_in before k)
      at-root c k last =
          let here : k ≡ count - 1 = omega arith in
          root last (ap (first_in before) here ∙ z)

  module _ {work : List ℕ} {i : ℕ} (on : Giving tree before work count (suc i)) (h : i < count) where
    in_rows : i < its.count
    in_rows = omega (arith, counts)

    few-i : i < 4096
    few-i = omega (arith, in_rows, its.few)

    -- the record that gives stands already
    giver-stands : (c : Context) → ((j : ℕ) → j < count → Known c tree before j) → Stands c tree count i (first_in work i)
    giver-stands c known = by-test (eqb (suc i) count) refl
      where
        by-test : (b : Bool) → eqb (suc i) count ≡ b → Stands c tree count i (first_in work i)
        by-test true b = on.each c known i h (inl (eqb-true (suc i) count b))
        by-test false b =
            let q = parent_of its i (omega (arith, counts, eqb-false (suc i) count b)) in
            let above : suc i ≤ q.0 = omega (arith, q.4, kid-before its q.0 q.1 q.2 q.3) in
            on.each c known i h (inr (q.0, q.1, above, omega (arith, counts, q.2), q.3, q.4))

    pub gives : Gives tree work i
    gives =
        let s = giver-stands sized.c sized.each in
        let t : Stands sized.c tree its.count i (first_in work i) =
        subst (λ (n : ℕ). Stands sized.c tree n i (first_in work i)) counts s in
        let end = in-script sized.c its t in
        let few = size_small sized.c its false (its.count - 1) (omega (arith, its.any)) in
        record {
          root = sized.scanned.checked.root;
          rows = its;
          inside = in_rows;
          room = on.room ∙ sized.scanned.room;
          placed = record { placed = placed };
          small = omega (arith, end, few);
        }
      where
        placed : (j : ℕ) → j ≤ i → Placed tree work j
        placed j l =
            let was = sized.scanned.placed.placed j (omega arith) in
            record {
              row = was.row;
              long = omega (arith, on.room, sized.scanned.room, few-i);
              start = on.others j (inl (omega (arith, few-i))) ∙ was.start;
            }

    sizes : (c : Context) → ((j : ℕ) → j < count → Known c tree before j) → (w : Bool) (x : ℕ) → x < count → x < 4096 → size_in work w x ≡ size_at c tree w x
    sizes c known w x l m = size-kept before work w x (on.others (4096 + x) (inl (omega arith))) ∙ (known x l).sizes w

    new-child : {next : List ℕ} → Gave tree work next i → (c : Context) → ((j : ℕ) → j < count → Known c tree before j) → (k j : ℕ) → j < length (kids_at tree i)
        → k ≡ kid tree i j → Stands c tree count k (first_in next k)
    unfolding ahead_at kid
    new-child {next} gave c known k j l e =
        let at : first_in next k ≡ first_under tree work i j = ap (first_in next) e ∙ gave.kids j l in
        let same : ahead (kind_at tree i) false (λ w m. size_in work w (get_or (kids_at tree i) m 0)) j ≡ ahead_at c tree false i j =
        same_ahead false (kind_at tree i) j (λ w m. size_in work w (get_or (kids_at tree i) m 0)) (λ w m. size_at c tree w (get_or (kids_at tree i) m 0))
        (λ w m o. let p : m < length (kids_at tree i) = omega arith in
        let less : kid tree i m < i = kid-before its i m in_rows p in
        sizes c known w (kid tree i m) (omega (arith, less)) (omega (arith, less, few-i))) in
        child i (first_in work i) j (giver-stands c known) l e (at ∙ ap (λ (z : ℕ). first_in work i + z) same)

    pub all_more : {next : List ℕ} → Gave tree work next i → Giving tree before next count i
    all_more {next} gave =
        record { room = gave.room ∙ on.room; others = others; each = each }
      where
        kid-few : (j : ℕ) → j < length (kids_at tree i) → kid tree i j < 4096
        kid-few j l = omega (arith, kid-before its i j in_rows l, few-i)

        others : (a : ℕ) → (a < 8192) ⊎ (12288 ≤ a) → get_or next a 0 ≡ get_or before a 0
        others a l = gave.others a (λ j m z. apart a l j m z) ∙ on.others a l
          where
            apart : (a : ℕ) → (a < 8192) ⊎ (12288 ≤ a) → (j : ℕ) → j < length (kids_at tree i) → a ≡ 8192 + kid tree i j → ⊥
            apart a (inl l) j m z = omega arith
            apart a (inr l) j m z = omega (arith, kid-few j m)

        -- a record that is no child of this one keeps its place
        kept : (k : ℕ) → ((j : ℕ) → j < length (kids_at tree i) → k ≡ kid tree i j → ⊥) → first_in next k ≡ first_in work k
        kept k f = first-kept work next k (gave.others (8192 + k) (λ j m z. f j m (omega arith)))

        same-stands : (c : Context) (k : ℕ) → first_in next k ≡ first_in work k → Stands c tree count k (first_in work k)
            → Stands c tree count k (first_in next k)
        same-stands c k e s = subst (λ (x : ℕ). Stands c tree count k x) (sym e) s

        each : (c : Context) → ((j : ℕ) → j < count → Known c tree before j) → (k : ℕ) → k < count
            → (suc k ≡ count) ⊎ ((p j : ℕ) × (i ≤ p) × (p < count) × (j < length (kids_at tree p)) × (k ≡ kid tree p j))
            → Stands c tree count k (first_in next k)
        each c known k l (inl last) =
            same-stands c k (kept k (λ j m z. omega (arith, z, kid-before its i j in_rows m))) (on.each c known k l (inl last))
        each c known k l (inr q) = by-test (eqb q.0 i) refl
          where
            by-test : (b : Bool) → eqb q.0 i ≡ b → Stands c tree count k (first_in next k)
            by-test true b =
                let same = eqb-true q.0 i b in
                new-child gave c known k q.1 (subst (λ (p : ℕ). q.1 < length (kids_at tree p)) same q.4) (q.5 ∙ ap (λ (p : ℕ). kid tree p q.1) same)
            by-test false b =
                let n = eqb-false q.0 i b in
                let apart : (j : ℕ) → j < length (kids_at tree i) → k ≡ kid tree i j → ⊥ =
                λ j m z. n (one_place its q.0 i q.1 j (omega (arith, counts, q.3)) in_rows q.4 m (sym q.5 ∙ z)).0 in
                same-stands c k (kept k apart) (on.each c known k l (inr (q.0, q.1, omega (arith, n, q.2), q.3, q.4, q.5)))

  -- the same of the record before number n
  module _ {work : List ℕ} {n : ℕ} (on : Giving tree before work count n) (h : 0 < n) (l : n ≤ count) where
    as-next : Giving tree before work count (suc (n - 1))
    as-next =
        let same : n ≡ suc (n - 1) = omega arith in
        subst (λ (m : ℕ). Giving tree before work count m) same on

    pub gives-last : Gives tree work (n - 1)
    gives-last = gives as-next (omega arith)

    pub all-last : {next : List ℕ} → Gave tree work next (n - 1) → Giving tree before next count (n - 1)
    all-last gave = all_more as-next (omega arith) gave
