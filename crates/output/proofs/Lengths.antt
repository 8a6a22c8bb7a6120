-- How many bytes the records of a node have, wherever they stand, and that a record of work memory has few. Assumes nothing.
use mathlib.Core.Path.{◌≡◌, refl, ◌∙◌, ap}
use mathlib.Core.Bool.{Bool, true, false, cond}
use mathlib.Core.List.{List, [], ◌∷◌, ◌++◌}
use Prim.Native.Nat.{ℕ, zero, suc, ◌+◌, ◌*◌, ◌<◌, ◌≤◌}
use native.Mathlib.Omega.{arith}
use borrow.Author.Tests.{ltb-true, ltb-false, le-leb, lt-leb}
use lib.Dec.{eqb, ltb, leb}
use lib.ListN.{length, length-append, length-map}
use Rattle.records.specs.Numbers.{between}
use Rattle.words.specs.Bytes.{bytes_of}
use Rattle.words.proofs.Bytes.{length-bytes}
use Rattle.records.specs.Shapes.{arity}
use Rattle.records.proofs.Arities.{arity-above}
use Rattle.writing.specs.Writing.{Node, node, Nodes, nil, ◌▸◌, in_row, k_and_n, node_of, count, counts, owns, record_of, written, written_all}
use Rattle.policies.specs.Policy.{Policy}
use Rattle.policies.specs.Forms.{number_of, k_of, children_of}
use Rattle.policies.specs.Array.{policy_at, Good}
use Rattle.policies.specs.declared.Head.{Head}
use Rattle.policies.proofs.Views.{stored_is, stored-count, past_head}
use Rattle.nodes.specs.Words.{node_at}
use Rattle.nodes.specs.Views.{keys_of}
use Rattle.output.specs.Records.{tree_at, held_at, count_at, number_width, front_at, front_length, arity_at, child_nodes, length_at}
use Rattle.output.specs.Answers.{Readable}
use Rattle.output.proofs.Shapes.{shape, out_below}

-- ---- the length of what is written

unfoldable pub number : Nodes → ℕ
number nil = 0
number (x ▸ xs) = suc (number xs)

unfoldable mutual
  pub length_of : Node → ℕ
  length_of (node kind front children) = lengths_of children + (4 + (length front + 2 * number children))

  pub lengths_of : Nodes → ℕ
  lengths_of nil = 0
  lengths_of (x ▸ xs) = length_of x + lengths_of xs

pub mul-suc : (a b : ℕ) → a * suc b ≡ a + a * b
mul-suc zero b = omega arith
mul-suc (suc a) b =
    let h : a * suc b ≡ a + a * b = mul-suc a b in
    omega arith

pub length-row : (width : ℕ) (ns : List ℕ) → length (in_row width ns) ≡ width * length ns
unfolding in_row
length-row width [] = omega arith
length-row width (n ∷ ns) =
    let first : length (bytes_of width n) ≡ width = length-bytes width n in
    let others : length (in_row width ns) ≡ width * length ns = length-row width ns in
    let times : width * suc (length ns) ≡ width + width * length ns = mul-suc width (length ns) in
    length-append (bytes_of width n) (in_row width ns) ∙ omega arith

pub length-owns : (n : ℕ) (xs : Nodes) → length (owns n xs) ≡ number xs
unfolding owns number
length-owns n nil = refl
length-owns n (x ▸ xs) = ap suc (length-owns (n + count x) xs)

pub length-record : (kind : ℕ) (payload : List ℕ) → length (record_of kind payload) ≡ 4 + length payload
length-record kind payload =
    let a : length (bytes_of 2 (4 + length payload)) ≡ 2 = length-bytes 2 (4 + length payload) in
    let b : length (bytes_of 2 kind) ≡ 2 = length-bytes 2 kind in
    length-append (bytes_of 2 (4 + length payload)) (bytes_of 2 kind ++ payload)
    ∙ (let c = length-append (bytes_of 2 kind) payload in omega arith)

mutual
  unfolding written length_of

  pub length-written : (n : ℕ) (t : Node) → length (written n t) ≡ length_of t
  length-written n (node kind front children) =
      let payload : List ℕ = front ++ in_row 2 (owns n children) in
      let below : length (written_all n children) ≡ lengths_of children = lengths-written n children in
      let own : length (record_of kind payload) ≡ 4 + length payload = length-record kind payload in
      let p : length payload ≡ length front + length (in_row 2 (owns n children)) = length-append front (in_row 2 (owns n children)) in
      let r : length (in_row 2 (owns n children)) ≡ 2 * length (owns n children) = length-row 2 (owns n children) in
      let o : length (owns n children) ≡ number children = length-owns n children in
      length-append (written_all n children) (record_of kind payload) ∙ omega arith

  pub lengths-written : (n : ℕ) (xs : Nodes) → length (written_all n xs) ≡ lengths_of xs
  lengths-written n nil = refl
  lengths-written n (x ▸ xs) =
      let a : length (written n x) ≡ length_of x = length-written n x in
      let b : length (written_all (n + count x) xs) ≡ lengths_of xs = lengths-written (n + count x) xs in
      length-append (written n x) (written_all (n + count x) xs) ∙ omega arith

-- ---- the front

front_long : (kind : ℕ) (p : Policy) (a b c : Bool)
    → length (cond a (bytes_of (number_width kind) (number_of p)) (cond b (k_and_n (k_of p) (length (children_of p)))
    (cond c (k_and_n (k_of p) (length (children_of p)) ++ in_row 8 (keys_of p)) [])))
    ≡ cond a (number_width kind) (cond b 4 (cond c (4 + 8 * length (children_of p)) 0))
front_long kind p true b c = length-bytes (number_width kind) (number_of p)
front_long kind p false true c = length-row 2 (k_of p ∷ length (children_of p) ∷ [])
front_long kind p false false true =
    let a : length (k_and_n (k_of p) (length (children_of p))) ≡ 4 = length-row 2 (k_of p ∷ length (children_of p) ∷ []) in
    let r : length (in_row 8 (keys_of p)) ≡ 8 * length (keys_of p) = length-row 8 (keys_of p) in
    let k : length (keys_of p) ≡ length (children_of p) = length-map (children_of p) number_of in
    length-append (k_and_n (k_of p) (length (children_of p))) (in_row 8 (keys_of p)) ∙ omega arith
front_long kind p false false false = refl

pub front_length_lem : (pol m : List ℕ) (e : ℕ) → length (front_at pol m e) ≡ front_length (node_at m e).kind (count_at pol m e)
unfolding front_at
front_length_lem pol m e =
    front_long (node_at m e).kind (held_at pol m e) (between 34 41 (node_at m e).kind) (eqb (node_at m e).kind 56) (between 57 58 (node_at m e).kind)

-- ---- a record has few bytes

pub width-eight : (kind : ℕ) → kind ≤ 35 → number_width kind ≡ 8
unfolding number_width
width-eight kind l = rw (le-leb kind 35 l)

pub width_four : (kind : ℕ) → 35 < kind → number_width kind ≡ 4
unfolding number_width
width_four kind l = rw (lt-leb kind 35 l)

few-width : (kind : ℕ) → number_width kind ≤ 8
unfolding number_width
few-width kind = by-test (leb kind 35)
  where
    by-test : (b : Bool) → cond b 8 4 ≤ 8
    by-test true = omega arith
    by-test false = omega arith

few-tests : (w n : ℕ) (a b c : Bool) → w ≤ 8 → n ≤ 16 → cond a w (cond b 4 (cond c (4 + 8 * n) 0)) ≤ 132
few-tests w n true b c l h = omega arith
few-tests w n false true c l h = omega arith
few-tests w n false false true l h = omega arith
few-tests w n false false false l h = omega arith

pub front-few : (kind n : ℕ) → n ≤ 16 → front_length kind n ≤ 132
front-few kind n h = few-tests (number_width kind) n (between 34 41 kind) (eqb kind 56) (between 57 58 kind) (few-width kind) h

arity-tests : (n : ℕ) (a b c d : Bool) → n ≤ 16 → cond a 1 (cond b 2 (cond c 3 (cond d n 0))) ≤ 16
arity-tests n true b c d h = omega arith
arity-tests n false true c d h = omega arith
arity-tests n false false true d h = omega arith
arity-tests n false false false true h = omega arith
arity-tests n false false false false h = omega arith

pub arity-few : (kind n : ℕ) → n ≤ 16 → arity kind n ≤ 16
arity-few kind n h = arity-tests n (between 42 48 kind) (between 49 54 kind) (eqb kind 55) (eqb kind 56) h

small-tests : (w : ℕ) (a b : Bool) → w ≤ 8 → cond a w (cond b 4 0) ≤ 8
small-tests w true b l = omega arith
small-tests w false true l = omega arith
small-tests w false false l = omega arith

-- a kind that has keys has no children
pub both-few : (kind n : ℕ) → n ≤ 16 → front_length kind n + 2 * arity kind n ≤ 132
both-few kind n h = by-test (ltb 56 kind) refl
  where
    by-test : (b : Bool) → ltb 56 kind ≡ b → front_length kind n + 2 * arity kind n ≤ 132
    by-test true t =
        let none : 0 ≡ arity kind n = arity-above kind n (ltb-true 56 kind t) in
        let f = front-few kind n h in
        omega arith
    by-test false t =
        let a = arity-few kind n h in
        let f : front_length kind n ≤ 8 =
        rw (no_keys (ltb-false 56 kind t)) (small-tests (number_width kind) (between 34 41 kind) (eqb kind 56) (few-width kind)) in
        omega arith
      where
        no_keys : kind ≤ 56 → between 57 58 kind ≡ false
        no_keys l = out_below 57 58 kind (omega arith)

pub policy-few : (pol : List ℕ) → Good pol → (r : ℕ) → length (children_of (policy_at pol r)) ≤ 16
policy-few pol good r = by-test (ltb r 64) refl
  where
    by-test : (b : Bool) → ltb r 64 ≡ b → length (children_of (policy_at pol r)) ≤ 16
    by-test true t =
        let l = ltb-true r 64 t in
        let same = ap (λ (p : Policy). length (children_of p)) (stored_is pol r l) ∙ stored-count pol r good l in
        omega (arith, same, good.rows.few r l)
    by-test false t =
        let two : 2 ≡ length (children_of (policy_at pol r)) = ap (λ (h : Head). h.count) (past_head pol r (ltb-false r 64 t)) in
        omega arith

pub count-few : (pol m : List ℕ) → Good pol → (e : ℕ) → count_at pol m e ≤ 16
unfolding held_at
count-few pol m good e = policy-few pol good (node_at m e).first

pub arity-at-few : (pol m : List ℕ) → Good pol → (e : ℕ) → arity_at pol m e ≤ 16
unfolding arity_at
arity-at-few pol m good e = arity-few (node_at m e).kind (count_at pol m e) (count-few pol m good e)

-- ---- the record of a node

pub number-children : (pol m : List ℕ) (e j n : ℕ) → number (child_nodes pol m e j n) ≡ n
unfolding number child_nodes
number-children pol m e j zero = refl
number-children pol m e j (suc n) = ap suc (number-children pol m e (suc j) n)

module _ {pol m : List ℕ} {e : ℕ} (readable : Readable pol m e) where
  pub count-is : count (node_of (tree_at pol m e)) ≡ counts (child_nodes pol m e 0 (arity_at pol m e)) + 1
  unfolding count
  count-is = ap count (shape pol readable.holds e readable.there)

  pub length-is : length_of (node_of (tree_at pol m e)) ≡ lengths_of (child_nodes pol m e 0 (arity_at pol m e)) + length_at pol m e
  unfolding length_of length_at
  length-is =
      ap length_of (shape pol readable.holds e readable.there)
      ∙ ap (λ (n : ℕ). lengths_of (child_nodes pol m e 0 (arity_at pol m e)) + (4 + (length (front_at pol m e) + 2 * n)))
      (number-children pol m e 0 (arity_at pol m e))
