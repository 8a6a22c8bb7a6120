-- The tree check passes exactly the well-typed trees that are not too tall (TreeCheck.antt), and its type and height can be found from the children's
-- alone (Rules.antt). Both compare two readings of the same bytes. Assumes nothing.
use Rattle.correctness.specs.declared.TypeError.{TypeError}
use Prim.Native.Nat.{ℕ, suc, ◌≤◌, ◌<◌}
use mathlib.Core.Bool.{Bool, true, false, cond}
use mathlib.Core.List.{List, map}
use mathlib.Core.Logic.{◌⊎◌, inl, inr, ⊎_elim}
use Rattle.std.specs.Prelude.{Option, None, Some, Result, Ok, Err}
use mathlib.Core.Path.{◌≡◌, refl, sym, ap, subst, ◌∙◌}
use native.Mathlib.Omega.{arith}
use borrow.Author.Tests.{eq-eqb, ne_eqb, leb-true, leb-false}
use lib.Dec.{leb}
use Rattle.records.specs.Payloads.{Payload, k_of}
use Rattle.types.specs.declared.«Type».{«Type»}
use Rattle.contexts.specs.declared.Context.{Context}
use Rattle.contexts.specs.declared.Context.TheVariants.{Segwitv0, Tap}
use Rattle.trees.specs.Fragment.{Fragment}
use Rattle.trees.specs.declared.Subtree.{Subtree}
use Rattle.trees.specs.Typing.{type_of}
use Rattle.trees.specs.Height.{max_height, height_of}
use Rattle.trees.specs.Reading.{Answer, refused, done, ◌>>=◌, or_refuse, bad_tree, tree_too_tall, max_records, read_tree}
use Rattle.trees.specs.Tree.{find, Maker, makers, made_by, fragment_of, make_fragment, tree_of}
use Rattle.trees.specs.TreeCheck.{Typed, if_low, typed, made, make_typed, typed_tree_of, check_in, check_of, PassesWellTypedTrees}
use Rattle.trees.specs.TreeCheck.{bad_context, bad_work}
use Rattle.trees.specs.Checked.{type_only}
use Rattle.trees.specs.Rules.{Rule, answered, rules, given_by, types_of, tallest, make_subtree}
use Rattle.trees.specs.WorkMemory.{type_in}
use Rattle.trees.proofs.Slots.{All, both, Any, here, there, Pairs, empty, pair, IfSome}
use Rattle.trees.proofs.Rules.{Good, Ill, type_made, FitsIfFound, fits}
use Rattle.trees.proofs.Heights.{tallest_tree, any-tall, rises}
use Rattle.trees.proofs.Joint.{IfDone, refuses, holds, Joint, neither, first, joint}

module _ (c : Context) where
  -- ---- the trees of the bytes, and those that are well-typed and not too tall

  abbrev Tall : Fragment → Type 0
  Tall f = max_height < height_of f

  abbrev Unfit : Fragment → Type 0
  Unfit f = Ill c f ⊎ Tall f

  abbrev Tree : Fragment → Typed → Type 0
  Tree f x = (f ≡ x.tree) × Good c x × (height_of x.tree ≤ max_height)

  ill-kept : (kind : ℕ) (p : Payload) (xs : List Fragment) → Any (Ill c) xs → IfDone Unfit (make_fragment kind p xs)
  ill-kept kind p xs a = by-line (find kind makers) (find kind rules) (fits c kind)
    where
      by-some : (o : Option Fragment) → IfSome (Ill c) o → IfDone Unfit (or_refuse bad_tree o)
      by-some None h = refuses
      by-some (Some f) h = holds (inl h)

      by-line : (m : Option Maker) (r : Option Rule) → FitsIfFound c m r → IfDone Unfit (or_refuse bad_tree (made_by m p xs))
      by-line (Some m) (Some r) h = by-some (m p xs) (h.ill p xs a)
      by-line (Some m) None h = absurd h
      by-line None r h = refuses

  tall-kept : (kind : ℕ) (p : Payload) (xs : List Fragment) → Any Tall xs → IfDone Unfit (make_fragment kind p xs)
  tall-kept kind p xs a = by-some (fragment_of kind p xs) (rises kind p xs)
    where
      by-some : (o : Option Fragment) → IfSome (λ f. height_of f ≡ suc (tallest_tree xs)) o → IfDone Unfit (or_refuse bad_tree o)
      by-some None h = refuses
      by-some (Some f) h = holds {x = f} (inr (omega (arith, h, any-tall a)))

  either : {xs : List Fragment} → Any Unfit xs → Any (Ill c) xs ⊎ Any Tall xs
  either (here h) = ⊎_elim (λ i. inl (here i)) (λ t. inr (here t)) h
  either (there h) = ⊎_elim (λ i. inl (there i)) (λ t. inr (there t)) (either h)

  any-kept : (kind : ℕ) (p : Payload) (xs : List Fragment) → Any Unfit xs → IfDone Unfit (make_fragment kind p xs)
  any-kept kind p xs a = ⊎_elim (λ i. ill-kept kind p xs i) (λ t. tall-kept kind p xs t) (either a)

  trees-of : {xs : List Fragment} {ys : List Typed} → Pairs Tree xs ys → xs ≡ map (λ y. y.tree) ys
  trees-of empty = refl
  trees-of (pair p ps) = rw (p.0, trees-of ps)

  makes-tree : (kind : ℕ) (p : Payload) (xs : List Fragment) (ys : List Typed) → Pairs Tree xs ys
      → Joint (λ m n. Unit) Tree Unfit (make_fragment kind p xs) (make_typed c kind p ys)
  makes-tree kind p xs ys ps = rw (trees-of ps) (by-made (fragment_of kind p (map (λ y. y.tree) ys)))
    where
      by_height : (f : Fragment) (t : «Type») (b : Bool) → type_of c f ≡ Ok t → leb (height_of f) max_height ≡ b
          → Joint (λ m n. Unit) Tree Unfit (done f) (cond b (done (record { tree = f; type = t })) (refused tree_too_tall))
      by_height f t true e l = Joint.both (refl, e, leb-true _ _ l)
      by_height f t false e l = first (inr (leb-false _ _ l))

      by-type : (f : Fragment) (r : Result «Type» TypeError) → type_of c f ≡ r → Joint (λ m n. Unit) Tree Unfit (done f) (typed f r)
      by-type f (Ok t) e = by_height f t (leb (height_of f) max_height) e refl
      by-type f (Err TypeError.IllTyped) e = first (inl e)

      by-made : (o : Option Fragment) → Joint (λ m n. Unit) Tree Unfit (or_refuse bad_tree o) (made c o)
      by-made None = neither tt
      by-made (Some f) = by-type f (type_of c f) refl

  trees : (bytes : List ℕ) → Joint (λ m n. Unit) Tree Unfit (tree_of bytes) (typed_tree_of c bytes)
  unfolding tree_of typed_tree_of
  trees bytes =
      joint (λ m n. Unit) Tree Unfit make_fragment (make_typed c) (λ n. tt) (λ x h m n. tt) any-kept makes-tree bytes

  passes : (a : Answer Fragment) (b : Answer Typed) (x : Typed) → Joint (λ m n. Unit) Tree Unfit a b → b ≡ done x
      → (a ≡ done x.tree) × (type_of c x.tree ≡ Ok x.type) × (height_of x.tree ≤ max_height)
  passes a b x (neither h) e =
      let z : ◌≡◌ {A = ℕ} 0 1 = cc in
      absurd (omega arith)
  passes a b x (first h) e =
      let z : ◌≡◌ {A = ℕ} 0 1 = cc in
      absurd (omega arith)
  passes a b x (Joint.both {x = f} {y = y} h) e =
      let q : y ≡ x = cc in (
        ap done (h.0 ∙ ap (λ (y : Typed). y.tree) q),
        subst (λ (y : Typed). Good c y) q h.1,
        subst (λ (y : Typed). height_of y.tree ≤ max_height) q h.2,
      )

  passed : (a : Answer Fragment) (b : Answer Typed) (x : Typed) → Joint (λ m n. Unit) Tree Unfit a b → a ≡ done x.tree
      → type_of c x.tree ≡ Ok x.type → height_of x.tree ≤ max_height → b ≡ done x
  passed a b x (neither h) e t l =
      let z : ◌≡◌ {A = ℕ} 0 1 = cc in
      absurd (omega arith)
  passed a b x (first {x = f} h) e t l =
      let same : f ≡ x.tree = cc in
      absurd (⊎_elim (λ i. ill-or (sym t ∙ ap (type_of c) (sym same) ∙ i)) (λ k. tall-or (subst Tall same k) l) h)
    where
      ill-or : {t : «Type»} → Ok t ≡ (Err TypeError.IllTyped) → ⊥
      ill-or e =
          let z : ◌≡◌ {A = ℕ} 0 1 = cc in
          omega arith

      tall-or : {n : ℕ} → max_height < n → n ≤ max_height → ⊥
      tall-or h k = omega arith
  passed a b x (Joint.both {x = f} {y = y} h) e t l =
      let tree : y.tree ≡ x.tree = cc h.0 in
      let type : y.type ≡ x.type = cc (h.1, tree) in
      ap done (same_typed y x tree type)
    where
      same_typed : (y x : Typed) → y.tree ≡ x.tree → y.type ≡ x.type → y ≡ x
      same_typed y x e t = ap (λ (f : Fragment). record { tree = f; type = y.type }) e ∙ ap (λ (t : «Type»). record { tree = x.tree; type = t }) t

  -- ---- those trees, and their types and heights found from their children's

  pub record Found (x : Typed) (s : Subtree) : Type 0 where
    pub good : Good c x
    pub typed : x.type ≡ s.ty
    pub high : height_of x.tree ≡ s.height

  types-of : {xs : List Typed} {ss : List Subtree} → Pairs Found xs ss → types_of ss ≡ map (λ x. x.type) xs
  types-of empty = refl
  types-of (pair p ps) = rw (p.typed, types-of ps)

  tallest-of : {xs : List Typed} {ss : List Subtree} → Pairs Found xs ss → tallest ss ≡ tallest_tree (map (λ x. x.tree) xs)
  unfolding tallest tallest_tree
  tallest-of empty = refl
  tallest-of (pair p ps) = rw (p.high, tallest-of ps)

  all-good : {xs : List Typed} {ss : List Subtree} → Pairs Found xs ss → All (Good c) xs
  all-good empty = empty
  all-good (pair p ps) = both p.good (all-good ps)

  abbrev height_over : List Typed → ℕ
  height_over xs = suc (tallest_tree (map (λ x. x.tree) xs))

  -- a record's type and height, if it has a fragment of its own
  abbrev subtree_of : (height : ℕ) → «Type» → Answer Subtree
  subtree_of n t = if_low n (record { ty = t; height = n })

  made_found : (n : ℕ) (o : Option Fragment) → IfSome (λ f. height_of f ≡ n) o
      → Joint ◌≡◌ Found (λ x. ⊥) (made c o) (type_made c o >>= λ t. subtree_of n t)
  made_found n None h = neither refl
  made_found n (Some f) h = subst (λ (n : ℕ). Joint ◌≡◌ Found (λ x. ⊥) (made c (Some f)) (type_made c (Some f) >>= λ t. subtree_of n t)) h
      (by-type (type_of c f) refl)
    where
      by_height : (t : «Type») (b : Bool) → type_of c f ≡ Ok t
          → Joint ◌≡◌ Found (λ x. ⊥) (cond b (done (record { tree = f; type = t })) (refused tree_too_tall))
          (cond b (done (record { ty = t; height = height_of f })) (refused tree_too_tall))
      by_height t true e = Joint.both (record { good = e; typed = refl; high = refl })
      by_height t false e = neither refl

      by-type : (r : Result «Type» TypeError) → type_of c f ≡ r → Joint ◌≡◌ Found (λ x. ⊥) (typed f r) (answered r >>= λ t. subtree_of (height_of f) t)
      by-type (Ok t) e = by_height t (leb (height_of f) max_height) e
      by-type (Err TypeError.IllTyped) e = neither refl

  makes-subtree : (kind : ℕ) (p : Payload) (xs : List Typed) (ss : List Subtree) → Pairs Found xs ss
      → Joint ◌≡◌ Found (λ x. ⊥) (make_typed c kind p xs) (make_subtree c kind p ss)
  makes-subtree kind p xs ss ps =
      rw (types-of ps, tallest-of ps) (by-line (find kind makers) (find kind rules) (fits c kind) (rises kind p (map (λ x. x.tree) xs)))
    where
      by-line : (m : Option Maker) (r : Option Rule) → FitsIfFound c m r
          → IfSome (λ f. height_of f ≡ height_over xs) (made_by m p (map (λ x. x.tree) xs))
          → Joint ◌≡◌ Found (λ x. ⊥) (made c (made_by m p (map (λ x. x.tree) xs)))
          (given_by r c (k_of p) (map (λ x. x.type) xs) >>= λ t. subtree_of (height_over xs) t)
      by-line (Some m) (Some r) h rise = rw (h.same p xs (all-good ps)) (made_found (height_over xs) (m p (map (λ x. x.tree) xs)) rise)
      by-line (Some m) None h rise = absurd h
      by-line None (Some r) h rise = absurd h
      by-line None None h rise = neither refl

  never-kept : (kind : ℕ) (p : Payload) (xs : List Typed) → Any (λ x. ⊥) xs → IfDone (λ x. ⊥) (make_typed c kind p xs)
  never-kept kind p xs h = absurd (never h)
    where
      never : {xs : List Typed} → Any (λ x. ⊥) xs → ⊥
      never (here h) = h
      never (there h) = never h

  found : (a : Answer Typed) (b : Answer Subtree) → Joint ◌≡◌ Found (λ x. ⊥) a b → type_in b ≡ type_only a
  found a b (neither e) = ap refused (sym e)
  found a b (first h) = absurd h
  found a b (Joint.both h) = ap done (sym h.typed)

  -- the types by kind give the type of the tree check, and with the heights its refusals
  pub types-found : (bytes : List ℕ) → type_in (read_tree (make_subtree c) bytes) ≡ type_only (typed_tree_of c bytes)
  unfolding typed_tree_of
  types-found bytes =
      found (read_tree (make_typed c) bytes) (read_tree (make_subtree c) bytes)
      (joint ◌≡◌ Found (λ x. ⊥) (make_typed c) (make_subtree c) (λ n. refl) (λ x h m n. absurd h) never-kept makes-subtree bytes)

-- the check passes exactly the byte strings that write a well-typed tree of at most 128 levels, and gives its type
pub passes-well-typed-trees : PassesWellTypedTrees
unfolding check_of
passes-well-typed-trees context c bytes x e = rw e (
  λ b. passes c (tree_of bytes) (typed_tree_of c bytes) x (trees c bytes) b,
  λ h. passed c (tree_of bytes) (typed_tree_of c bytes) x (trees c bytes) h.0 h.1 h.2,
)

-- ---- the check from the types by kind

module _ (bytes : List ℕ) (words : ℕ) where
  pub checked-in : (c : Context) {a : Answer «Type»} → words ≡ max_records → a ≡ type_in (read_tree (make_subtree c) bytes)
      → a ≡ type_only (check_in c bytes words)
  checked-in c w e = e ∙ types-found c bytes ∙ rw (eq-eqb words max_records w)

  pub bad-work : (c : Context) → (words ≡ max_records → ⊥) → refused bad_work ≡ type_only (check_in c bytes words)
  bad-work c w = rw (ne_eqb words max_records w)

  pub checked-0 : (context : ℕ) {a : Answer «Type»} → context ≡ 0 → a ≡ type_only (check_in Segwitv0 bytes words)
      → a ≡ type_only (check_of context bytes words)
  unfolding check_of
  checked-0 context e h = rw e h

  pub checked-1 : (context : ℕ) {a : Answer «Type»} → context ≡ 1 → a ≡ type_only (check_in Tap bytes words)
      → a ≡ type_only (check_of context bytes words)
  unfolding check_of
  checked-1 context e h = rw e h

  pub bad-context : (context : ℕ) → (context ≡ 0 → ⊥) → (context ≡ 1 → ⊥) → refused bad_context ≡ type_only (check_of context bytes words)
  unfolding check_of
  bad-context context f g = rw (ne_eqb context 0 f, ne_eqb context 1 g)
