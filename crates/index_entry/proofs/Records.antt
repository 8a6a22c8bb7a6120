-- A record's size, type and height are read from its bytes and its children's words. Assumes nothing.
use Rattle.correctness.specs.declared.TypeError.{TypeError}
use Rattle.std.specs.Prelude.{Result, Ok, Err}
use Prim.Native.Nat.{ℕ, zero, suc, ◌+◌, ◌≤◌, ◌<◌}
use mathlib.Core.Bool.{Bool, true, false}
use mathlib.Core.List.{List, [], ◌∷◌, ◌++◌, map}
use mathlib.Core.Path.{◌≡◌, refl, sym, ap, subst, ◌∙◌}
use native.Mathlib.Numerals.{add-one}
use native.Mathlib.Omega.{arith}
use borrow.Author.Tests.{eq-eqb, ne_eqb}
use lib.Dec.{eqb}
use lib.ListN.{length, get_or, set, take, replicate, length-set}
use lib.Seq.{get_or-take, take-suc, take-suc-set}
use Rattle.records.specs.declared.Parts.{Parts}
use Rattle.records.specs.Shapes.{arity}
use Rattle.records.specs.Payloads.{children_of}
use Rattle.records.specs.RecordForm.{kind_of, fragment_payload}
use Rattle.records.specs.Answers.{parts_of}
use Rattle.records.proofs.Arities.{Found, own-children, few-children, rule-needs, same-children}
use Rattle.types.specs.declared.«Type».{«Type»}
use Rattle.contexts.specs.declared.Context.{Context}
use Rattle.trees.specs.Height.{max_height}
use Rattle.trees.specs.Reading.{Answer, refused, done, ill_typed}
use Rattle.trees.specs.Rules.{answered, rule_of, types_of, tallest}
use Rattle.trees.specs.declared.Subtree.{Subtree}
use Rattle.walk.specs.declared.Node.{Node}
use Rattle.walk.specs.Nodes.{node_of}
use Rattle.script_leaves.specs.Leaves.{leaf_of}
use Rattle.script_entry.specs.Pieces.{front, after, last, child_verified, place}
use Rattle.script_entry.proofs.Nodes.{place-one}
use Rattle.index_places.specs.Sizes.{size_of}
use Rattle.index_places.specs.Places.{ahead}
use Rattle.index_memory.specs.Memory.{size_in, subtree_in}
use Rattle.index_entry.specs.Memory.{Readable, size_from, subtrees_from}
use Rattle.index_entry.specs.Building.{Children, Ruled}

-- ---- what is ahead, child by child

pub ahead-begins : (kind : ℕ) (v : Bool) (s : Bool → ℕ → ℕ) {at : ℕ} → at ≡ length (front kind) → at ≡ ahead kind v s 0
unfolding ahead
ahead-begins kind v s e = e

pub ahead_more : (work children : List ℕ) (kind j : ℕ) (v : Bool) {at q child size a : ℕ} {w : Bool}
    → at ≡ ahead kind v (λ w m. size_in work w (get_or children m 0)) j → q ≡ place kind j → child ≡ get_or children q 0 → w ≡ child_verified kind j v
    → size ≡ size_in work w child → a ≡ length (after kind j) → at + (size + a) ≡ ahead kind v (λ w m. size_in work w (get_or children m 0)) (j + 1)
unfolding ahead
ahead_more work children kind j v e p k f s g = rw (add-one j, e, s, k, p, f, g)

-- ---- the record of some bytes

module _ {bytes work : List ℕ} (readable : Readable bytes work) where
  abbrev its-record : Found bytes (parts_of (fragment_payload bytes)) (kind_of bytes) (arity (kind_of bytes) (parts_of (fragment_payload bytes)).count)
  its-record = record { payload = readable.payload; fits = readable.fits; parts_are = ap parts_of readable.fits; kind-is = refl; n-is = refl }

  pub few-there : (node_of bytes).n ≤ 16
  few-there = few-children its-record

  child-there : (j : ℕ) → j < (node_of bytes).n → get_or (node_of bytes).children j 0 < 4096
  child-there j h =
      let same : get_or (take (node_of bytes).n (node_of bytes).children) j 0 ≡ get_or (children_of readable.payload) j 0 =
      ap (λ (l : List ℕ). get_or l j 0) (same-children its-record) in
      let is : get_or (node_of bytes).children j 0 ≡ get_or (children_of readable.payload) j 0 = sym (get_or-take (node_of bytes).n (node_of bytes).children j 0 h) ∙ same in
      rw is (readable.inside j (omega (arith, own-children its-record)))

  children-there : Children work (node_of bytes).kind (node_of bytes).children (node_of bytes).n
  children-there =
      record {
        room = readable.room;
        few = few-there;
        small = λ j h. omega (arith, place-one (kind_of bytes) (parts_of (fragment_payload bytes)).count j h, few-there);
        inside = λ j h. child-there (place (kind_of bytes) j) (place-one (kind_of bytes) (parts_of (fragment_payload bytes)).count j h);
      }

  -- ---- its size

  module _ {node : Node} (is : node ≡ node_of bytes) where
    pub its-children : Children work node.kind node.children node.n
    its-children = subst (λ (x : Node). Children work x.kind x.children x.n) (sym is) children-there

    pub from-leaf : (c : Context) (v : Bool) {r : ℕ} → node.n ≡ 0 → r ≡ size_of c v (leaf_of bytes) → r ≡ size_from c bytes work v
    unfolding size_from
    from-leaf c v z e =
        let none : eqb (node_of bytes).n 0 ≡ true = eq-eqb (node_of bytes).n 0 (sym (ap (λ (x : Node). x.n) is) ∙ z) in
        e ∙ sym (rw none)

    pub from-children : (c : Context) (v : Bool) {a b : ℕ} → (node.n ≡ 0 → ⊥)
        → a ≡ ahead node.kind v (λ w m. size_in work w (get_or node.children m 0)) node.n → b ≡ length (last node.kind node.k v)
        → a + b ≡ size_from c bytes work v
    unfolding size_from
    from-children c v {a} {b} any e f =
        let none : eqb (node_of bytes).n 0 ≡ false = ne_eqb (node_of bytes).n 0 (λ z. any (ap (λ (x : Node). x.n) is ∙ z)) in
        let first = e ∙ ap (λ (x : Node). ahead x.kind v (λ w m. size_in work w (get_or x.children m 0)) x.n) is in
        let second = f ∙ ap (λ (x : Node). length (last x.kind x.k v)) is in
        rw (first, second, none)

  -- ---- its type and height

  module _ {parts : Parts} {kind n : ℕ} (p : parts ≡ parts_of (fragment_payload bytes)) (k : kind ≡ kind_of bytes) (a : n ≡ arity kind parts.count) where
    abbrev told : Found bytes parts kind n
    told = record { payload = readable.payload; fits = readable.fits; parts_are = p ∙ ap parts_of readable.fits; kind-is = k; n-is = a }

    pub few-loaded : n ≤ 16
    few-loaded = few-children told

    pub needed : (32 ≤ kind) × (kind ≤ 58) × (parts.count ≤ 16)
    needed = rule-needs told

    pub loaded-inside : (j : ℕ) → j < n → get_or parts.children j 0 < 4096
    loaded-inside j h =
        let same : get_or (take n parts.children) j 0 ≡ get_or (children_of readable.payload) j 0 = ap (λ (l : List ℕ). get_or l j 0) (same-children told) in
        let is : get_or parts.children j 0 ≡ get_or (children_of readable.payload) j 0 = sym (get_or-take n parts.children j 0 h) ∙ same in
        rw is (readable.inside j (omega (arith, own-children told)))

    module _ (children : List Subtree) (l : take n children ≡ map (subtree_in work) (take n parts.children)) where
      count-is : n ≡ (node_of bytes).n
      count-is = a ∙ rw (k, p)

      those : take n children ≡ subtrees_from bytes work
      those = l ∙ ap (λ (m : ℕ). map (subtree_in work) (take m parts.children)) count-is ∙ ap (λ (x : Parts). map (subtree_in work) (take (node_of bytes).n x.children)) p

      take-map : (m : ℕ) (xs : List Subtree) → take m (types_of xs) ≡ types_of (take m xs)
      take-map zero xs = refl
      take-map (suc m) [] = refl
      take-map (suc m) (x ∷ xs) = rw (take-map m xs)

      module _ (c : Context) {types : List «Type»} (t : types ≡ types_of children) {q : ℕ} (o : q ≡ parts.k) (r : Result «Type» TypeError)
          (e : rule_of kind c q (take (arity kind parts.count) types) ≡ answered r) where
        by-rule : rule_of (node_of bytes).kind c (node_of bytes).k (types_of (subtrees_from bytes work)) ≡ answered r
        by-rule =
            let its-k : q ≡ (node_of bytes).k = o ∙ ap (λ (x : Parts). x.k) p in
            let same : take (arity kind parts.count) types ≡ types_of (subtrees_from bytes work) =
            ap (λ (m : ℕ). take m types) (sym a) ∙ ap (take n) t ∙ take-map n children ∙ ap types_of those in
            sym (ap (λ (i : ℕ). rule_of i c q (take (arity kind parts.count) types)) k
            ∙ ap (λ (i : ℕ). rule_of (kind_of bytes) c i (take (arity kind parts.count) types)) its-k
            ∙ ap (rule_of (kind_of bytes) c (node_of bytes).k) same) ∙ e

        pub ill-ruled : (x : Subtree) (why : TypeError) → r ≡ Err why → Ruled c bytes work x
        ill-ruled x TypeError.IllTyped i =
            record {
              is = λ t given low. absurd (let same : ◌≡◌ {A = Answer «Type»} (done t) (refused ill_typed) = sym given ∙ by-rule ∙ ap answered i in
                  let z : ◌≡◌ {A = ℕ} 0 1 = cc (same) in omega arith);
            }

        pub tall-ruled : (x : Subtree) {below : ℕ} → below ≡ tallest (take n children) → max_height ≤ below → Ruled c bytes work x
        tall-ruled x {below} f g = record { is = λ t given low. absurd (omega (arith, f, ap tallest those)) }

        pub well-ruled : {ty : «Type»} {below : ℕ} → r ≡ Ok ty → below ≡ tallest (take n children) → Ruled c bytes work (record { ty = ty; height = below + 1 })
        well-ruled {ty} {below} i f =
            record {
              is = λ t given low. let same : ◌≡◌ {A = Answer «Type»} (done t) (done ty) = sym given ∙ by-rule ∙ ap answered i in
                  let types : ty ≡ t = cc (same) in
                  let heights : below + 1 ≡ tallest (subtrees_from bytes work) + 1 = ap (λ (m : ℕ). m + 1) (f ∙ ap tallest those) in
                  ap (λ (y : «Type»). record { ty = y; height = below + 1 }) types ∙ ap (λ (m : ℕ). record { ty = t; height = m }) heights;
            }

-- ---- loading children

pub record LoadOn (work numbers : List ℕ) (out : List Subtree) (j : ℕ) : Type 0 where
  pub long : length out ≡ 16
  pub are : take j out ≡ map (subtree_in work) (take j numbers)

pub load-begins : (work numbers : List ℕ) (x : Subtree) → LoadOn work numbers (replicate 16 x) 0
load-begins work numbers x = record { long = refl; are = refl }

map_more : (f : ℕ → Subtree) (l : List ℕ) (v : ℕ) → map f (l ++ (v ∷ [])) ≡ map f l ++ (f v ∷ [])
map_more f [] v = refl
map_more f (w ∷ l) v = ap (λ (s : List Subtree). f w ∷ s) (map_more f l v)

pub load-more : {work numbers : List ℕ} {out : List Subtree} {j : ℕ} → LoadOn work numbers out j → {x : Subtree} → j < 16 → j < length numbers
    → x ≡ subtree_in work (get_or numbers j 0) → LoadOn work numbers (set out j x) (j + 1)
load-more {work} {numbers} {out} {j} on {x} h l e =
    record {
      long = length-set out j x ∙ on.long;
      are = rw (add-one j) (take-suc-set out j x (omega (arith, on.long)) ∙ ap (λ (s : List Subtree). s ++ (x ∷ [])) on.are
          ∙ ap (λ (y : Subtree). map (subtree_in work) (take j numbers) ++ (y ∷ [])) e
          ∙ sym (map_more (subtree_in work) (take j numbers) (get_or numbers j 0)) ∙ ap (map (subtree_in work)) (sym (take-suc numbers j 0 l)));
    }
