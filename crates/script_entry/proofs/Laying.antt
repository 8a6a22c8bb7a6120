-- A fragment is laid once its pieces are: before the first child, each child and what follows it, and the end. Assumes nothing.
use Prim.Native.Nat.{ℕ, ◌+◌, ◌≤◌, ◌<◌}
use mathlib.Core.Bool.{Bool}
use mathlib.Core.List.{List, [], ◌++◌}
use mathlib.Core.Path.{◌≡◌, sym, ap, subst, ◌∙◌}
use native.Mathlib.Numerals.{add-one}
use native.Mathlib.Omega.{arith}
use lib.ListN.{get_or}
use Rattle.contexts.specs.declared.Context.{Context}
use Rattle.trees.specs.Fragment.{Fragment}
use Rattle.script_machine.specs.Numbers.{Bytes}
use Rattle.script_bytes.specs.Tables.{Tables}
use Rattle.script_bytes.specs.Layout.{bytes_of}
use Rattle.walk.specs.TreeRecords.{TreeRecord, record_at, fragment_at}
use Rattle.walk.specs.declared.Node.{Node}
use Rattle.walk.specs.Nodes.{node_of}
use Rattle.walk.proofs.Laws.{few}
use Rattle.script_leaves.specs.Laying.{Lays, max_position}
use Rattle.script_leaves.specs.Leaves.{leaf_of}
use Rattle.script_leaves.proofs.Laws.{none-laid, then-laid, laid_as, keeps-length, position}
use Rattle.script_entry.specs.Pieces.{front, last, child_verified, place, up_to}
use Rattle.script_entry.specs.Pieces as Pieces
use Rattle.script_entry.specs.Outcomes.{Ready}
use Rattle.script_entry.proofs.Nodes.{place-small, placed-before, leaf-here, in_pieces}

-- nothing is laid yet where some bytes end
pub none_yet : {before after bytes : Bytes} {at end : ℕ} → Lays before after at bytes end → Lays after after end [] end
none_yet {before} {after} {bytes} {at} {end} l =
    none-laid after end (subst (λ (n : ℕ). n < max_position) (sym (keeps-length l)) l.short) (position l)

-- the measure
pub below : {a b t : ℕ} → a < b → b ≡ t → a < t
below {a} h e = subst (λ (n : ℕ). a < n) e h

module _ {c : Context} {t : Tables} {tree starts : List ℕ} {i : ℕ} (ready : Ready c t tree starts i) where
  pub ready-below : (j : ℕ) → j < i → Ready c t tree starts j
  ready-below j h =
      record { placed = λ n l. ready.placed n (omega arith); entries = λ n l. ready.entries n (omega arith) }

  module _ {node : Node} (is : node ≡ node_of (record_at tree i)) where
    abbrev its-row : TreeRecord tree i
    its-row = (ready.placed i (omega arith)).row

    pub few-children : node.n ≤ 16
    few-children = subst (λ (x : Node). x.n ≤ 16) (sym is) (few its-row)

    pub small-place : (j q : ℕ) → q ≡ place node.kind j → j < node.n → q < 16
    small-place j q e h =
        rw e (subst (λ (x : Node). j < x.n → place x.kind j < 16) (sym is) (place-small its-row j) h)

    pub child-less : (j q : ℕ) → q ≡ place node.kind j → j < node.n → get_or node.children q 0 < i
    child-less j q e h =
        rw e
        (subst (λ (x : Node). j < x.n → get_or x.children (place x.kind j) 0 < i) (sym is) (placed-before its-row j) h)

    pub leaf-laid : (v : Bool) {before after : Bytes} {at end : ℕ} → node.n ≡ 0
        → Lays before after at (bytes_of c t v (leaf_of (record_at tree i))) end → Lays before after at (bytes_of c t v (fragment_at tree i)) end
    leaf-laid v z l = laid_as (ap (bytes_of c t v) (leaf-here its-row (sym (ap (λ (x : Node). x.n) is) ∙ z))) l

    pub all_laid : (v : Bool) {before between after done : Bytes} {at start to end j : ℕ} → (node.n ≡ 0 → ⊥) → j ≤ node.n → node.n ≤ j
        → Lays before between at (front node.kind) start
        → Lays between after start (up_to c t node.kind v (λ x. fragment_at tree (get_or node.children x 0)) j) to
        → Lays after done to (last node.kind node.k v) end
        → Lays before done at (bytes_of c t v (fragment_at tree i)) end
    all_laid v {j = j} some l h first children ends =
        let all : j ≡ node.n = omega arith in
        laid_as
        (ap (λ (n : ℕ). front node.kind
        ++ (up_to c t node.kind v (λ x. fragment_at tree (get_or node.children x 0)) n ++ last node.kind node.k v)) all
        ∙ sym (subst (λ (x : Node). 0 < x.n
        → bytes_of c t v (fragment_at tree i) ≡ front x.kind
        ++ (up_to c t x.kind v (λ y. fragment_at tree (get_or x.children y 0)) x.n ++ last x.kind x.k v)) (sym is)
        (in_pieces its-row c t v) (omega (arith, some))))
        (then-laid first (then-laid children ends))

-- one child more, with what follows it
module _ (c : Context) (t : Tables) (kind : ℕ) (v : Bool) (child : ℕ → Fragment) where
  pub child-laid : (j : ℕ) {before between next after : Bytes} {at to end last q : ℕ} {w : Bool}
      → Lays before between at (up_to c t kind v child j) to → q ≡ place kind j → w ≡ child_verified kind j v
      → Lays between next to (bytes_of c t w (child q)) end → Lays next after end (Pieces.after kind j) last
      → Lays before after at (up_to c t kind v child (j + 1)) last
  unfolding up_to
  child-laid j {w = w} l e f one follows =
      rw (add-one j) (then-laid l (laid_as (same e f) (then-laid one follows)))
    where
      same : {q : ℕ} {w : Bool} → q ≡ place kind j → w ≡ child_verified kind j v → bytes_of c t w (child q) ++ Pieces.after kind j
          ≡ bytes_of c t (child_verified kind j v) (child (place kind j)) ++ Pieces.after kind j
      same {q} {w} e f =
          ap (λ (n : ℕ). bytes_of c t w (child n) ++ Pieces.after kind j) e
          ∙ ap (λ (b : Bool). bytes_of c t b (child (place kind j)) ++ Pieces.after kind j) f
