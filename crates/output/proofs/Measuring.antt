-- Measuring goes over the children of a node with what is still to come: the records and the bytes so far, with those of the children to come,
-- are those of the node's tree. Assumes nothing.
use Rattle.std.specs.Prelude.{None, Some}
use mathlib.Core.Path.{◌≡◌, refl, sym, ◌∙◌, ap}
use mathlib.Core.Bool.{Bool, true, false, cond}
use mathlib.Core.List.{List}
use Prim.Native.Nat.{ℕ, zero, suc, ◌+◌, ◌*◌, ◌-◌, ◌<◌, ◌≤◌}
use native.Mathlib.Omega.{arith}
use borrow.Author.Tests.{ltb-true}
use lib.Dec.{ltb}
use lib.ListN.{length}
use Rattle.trees.specs.Fragment.{Fragment}
use Rattle.records.specs.Shapes.{arity}
use Rattle.writing.specs.Writing.{Node, Nodes, nil, ◌▸◌, node_of, count, counts, size}
use Rattle.policies.specs.Heads.{head_of}
use Rattle.policies.specs.Forms.{children_of}
use Rattle.policies.specs.Array.{policy_at, Good}
use Rattle.policies.specs.declared.Head.{Head}
use Rattle.candidates.specs.declared.Candidate.{Candidate}
use Rattle.nodes.specs.Words.{node_at}
use Rattle.output.specs.Records.{tree_at, held_at, count_at, front_length, arity_at, named_child, child_at, child_nodes, length_at}
use Rattle.output.specs.Answers.{Readable, Measured, fits, too_many}
use Rattle.output.specs.Inside.{FrontLength, RecordLength}
use Rattle.output.specs.declared.Extent.{Extent}
use Rattle.output.proofs.Lengths.{length_of, lengths_of, length-written, front_length_lem, front-few, arity-few, both-few, count-few, count-is}
use Rattle.output.proofs.Lengths.{length-is}

-- ---- the length of a record

module _ (pol m : List ℕ) (e : ℕ) (x : Candidate) (h : Head) (is : x ≡ node_at m e) (held : h ≡ head_of (policy_at pol x.first)) (good : Good pol) where
  count-read : h.count ≡ count_at pol m e
  unfolding held_at
  count-read = ap (λ (y : Head). y.count) held ∙ ap (λ (y : Candidate). length (children_of (policy_at pol y.first))) is

  pub count-read-few : h.count ≤ 16
  count-read-few = omega (arith, count-read, count-few pol m good e)

  pub front_read : (n : ℕ) → n ≡ front_length x.kind h.count → FrontLength pol m e n
  front_read n r =
      let s : n ≡ front_length (node_at m e).kind (count_at pol m e) =
      r ∙ ap (front_length x.kind) count-read ∙ ap (λ (y : Candidate). front_length y.kind (count_at pol m e)) is in
      record {
        is = s ∙ sym (front_length_lem pol m e);
        few = omega (arith, s, front-few (node_at m e).kind (count_at pol m e) (count-few pol m good e));
      }

module _ (pol m : List ℕ) (e front n : ℕ) (good : Good pol) (f : FrontLength pol m e front) (a : n ≡ arity_at pol m e) where
  arity-is : n ≡ arity (node_at m e).kind (count_at pol m e)
  unfolding arity_at
  arity-is = a

  pub arity-read-few : n ≤ 16
  arity-read-few = omega (arith, arity-is, arity-few (node_at m e).kind (count_at pol m e) (count-few pol m good e))

  pub record-few : 4 + front + 2 * n ≤ 136
  record-few =
      omega (arith, arity-is, f.is, front_length_lem pol m e, both-few (node_at m e).kind (count_at pol m e) (count-few pol m good e))

  pub record-read : RecordLength pol m e (4 + front + 2 * n)
  unfolding length_at
  record-read = record { is = omega (arith, f.is, a); few = record-few }

-- ---- the children of a node are nodes before it

pub next-child : (pol m : List ℕ) (e j n : ℕ) → j < n
    → child_nodes pol m e j (n - j) ≡ node_of (tree_at pol m (child_at m e j)) ▸ child_nodes pol m e (j + 1) (n - (j + 1))
unfolding child_nodes
next-child pol m e j n l =
    let more : n - j ≡ suc (n - (j + 1)) = omega arith in
    let next : j + 1 ≡ suc j = omega arith in
    rw (more, next)

pub no-child : (pol m : List ℕ) (e j n : ℕ) → n ≤ j → child_nodes pol m e j (n - j) ≡ nil
unfolding child_nodes
no-child pol m e j n l =
    let none : n - j ≡ 0 = omega arith in
    rw none

module _ {pol m : List ℕ} {e : ℕ} (readable : Readable pol m e) where
  -- node 0 is False
  first_leaf : e ≡ 0 → arity_at pol m e ≡ 0
  unfolding arity_at
  first_leaf z =
      ap (λ (i : ℕ). arity (node_at m i).kind (count_at pol m e)) z
      ∙ ap (λ (x : Candidate). arity x.kind (count_at pol m e)) readable.holds.false_first

  child-less : (c : ℕ) (b : Bool) → ltb c e ≡ b → 0 < e → cond b c 0 < e
  child-less c true t l = ltb-true c e t
  child-less c false t l = l

  pub child-falls : (j : ℕ) → j < arity_at pol m e → child_at m e j < e
  child-falls j l =
      child-less (named_child m e j) (ltb (named_child m e j) e) refl (by_zero e refl)
    where
      by_zero : (i : ℕ) → e ≡ i → 0 < e
      by_zero zero z = let none = first_leaf z in omega arith
      by_zero (suc i) s = omega arith

  pub child-readable : (j c : ℕ) → j < arity_at pol m e → c ≡ child_at m e j → Readable pol m c
  child-readable j c l is =
      record { holds = readable.holds; good = readable.good; there = omega (arith, child-falls j l, readable.there) }

-- ---- what is still to come

pub record MeasureInv (pol m : List ℕ) (e left n records bytes j : ℕ) : Type 0 where
  pub arity : n ≡ arity_at pol m e
  pub upto : j ≤ n
  pub counted : records + counts (child_nodes pol m e j (n - j)) ≡ count (node_of (tree_at pol m e))
  pub long : bytes + lengths_of (child_nodes pol m e j (n - j)) ≡ length_of (node_of (tree_at pol m e))
  pub few : records ≤ left
  pub short : bytes ≤ 136 * records

pub count-cons : (x : Node) (xs : Nodes) → counts (x ▸ xs) ≡ count x + counts xs
unfolding count
count-cons x xs = refl

pub length-cons : (x : Node) (xs : Nodes) → lengths_of (x ▸ xs) ≡ length_of x + lengths_of xs
unfolding length_of
length-cons x xs = refl

no_more : (counts nil ≡ 0) × (lengths_of nil ≡ 0)
unfolding count length_of
no_more = (refl, refl)

-- a measured tree, by the answer

pub record Fitted (t : Fragment) (left : ℕ) (x : Extent) : Type 0 where
  pub count : count (node_of t) ≡ x.records
  pub long : length_of (node_of t) ≡ x.bytes
  pub few : x.records ≤ left
  pub short : x.bytes ≤ 136 * x.records

pub fitted : {t : Fragment} {left : ℕ} {x : Extent} → Measured t left (Some x) → Fitted t left x
fitted {t} (fits s b f h) = record { count = s; long = sym (length-written 0 (node_of t)) ∙ b; few = f; short = h }

pub exceeds : {t : Fragment} {left : ℕ} → Measured t left None → left < size t
exceeds (too_many h) = h

module _ {pol m : List ℕ} {e left : ℕ} (readable : Readable pol m e) where
  pub measure-none : left ≡ 0 → Measured (tree_at pol m e) left None
  measure-none z = too_many (omega (arith, count-is readable))

  pub measure-starts : (n bytes : ℕ) → n ≡ arity_at pol m e → RecordLength pol m e bytes → (left ≡ 0 → ⊥) → MeasureInv pol m e left n 1 bytes 0
  measure-starts n bytes a r some =
      let z : n - 0 ≡ arity_at pol m e = omega arith in
      record {
        arity = a;
        upto = omega arith;
        counted = rw z (omega (arith, count-is readable));
        long = rw z (omega (arith, length-is readable, r.is));
        few = positive left some;
        short = omega (arith, r.few);
      }
    where
      positive : (n : ℕ) → (n ≡ 0 → ⊥) → 1 ≤ n
      positive zero h = absurd (h refl)
      positive (suc n) h = omega arith

  module _ {n records bytes j : ℕ} (inv : MeasureInv pol m e left n records bytes j) where
    pub measure-stops : (c : ℕ) → j < n → c ≡ child_at m e j → left - records < size (tree_at pol m c)
        → Measured (tree_at pol m e) left None
    measure-stops c l is h =
        let xs : Nodes = child_nodes pol m e (j + 1) (n - (j + 1)) in
        let next = ap counts (next-child pol m e j n l) ∙ count-cons (node_of (tree_at pol m (child_at m e j))) xs in
        let same : count (node_of (tree_at pol m c)) ≡ count (node_of (tree_at pol m (child_at m e j))) = ap (λ (i : ℕ). count (node_of (tree_at pol m i))) is in
        too_many (omega (arith, next, same, inv.counted, inv.few))

    pub measure-goes-on : (c : ℕ) (more : Extent) → j < n → c ≡ child_at m e j → Fitted (tree_at pol m c) (left - records) more
        → MeasureInv pol m e left n (records + more.records) (bytes + more.bytes) (j + 1)
    measure-goes-on c more l is f =
        let xs : Nodes = child_nodes pol m e (j + 1) (n - (j + 1)) in
        let x : Node = node_of (tree_at pol m (child_at m e j)) in
        let next_count = ap counts (next-child pol m e j n l) ∙ count-cons x xs in
        let next_length = ap lengths_of (next-child pol m e j n l) ∙ length-cons x xs in
        let same_count : count (node_of (tree_at pol m c)) ≡ count x = ap (λ (i : ℕ). count (node_of (tree_at pol m i))) is in
        let same_length : length_of (node_of (tree_at pol m c)) ≡ length_of x = ap (λ (i : ℕ). length_of (node_of (tree_at pol m i))) is in
        record {
          arity = inv.arity;
          upto = omega arith;
          counted = omega (arith, next_count, same_count, f.count, inv.counted);
          long = omega (arith, next_length, same_length, f.long, inv.long);
          few = omega (arith, f.few, inv.few);
          short = omega (arith, f.short, inv.short);
        }

    pub measure-ends : n ≤ j → Measured (tree_at pol m e) left (Some (record { records = records; bytes = bytes }))
    measure-ends l =
        let none = no-child pol m e j n l in
        let c = ap counts none ∙ no_more.0 in
        let b = ap lengths_of none ∙ no_more.1 in
        fits {x = record { records = records; bytes = bytes }}
        (omega (arith, c, inv.counted))
        (length-written 0 (node_of (tree_at pol m e)) ∙ omega (arith, b, inv.long))
        inv.few
        inv.short
