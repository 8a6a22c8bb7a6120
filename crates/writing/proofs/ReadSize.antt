-- A tree that is read has no more records than may begin: each record read is one of the tree's, and is there once. Assumes nothing.
use mathlib.Core.Path.{◌≡◌, refl}
use mathlib.Core.List.{List, [], ◌∷◌, ◌++◌}
use Rattle.std.specs.Prelude.{Option, None, Some}
use Prim.Native.Nat.{ℕ, zero, suc, ◌+◌, ◌≤◌}
use native.Mathlib.Omega.{arith}
use lib.ListN.{get_or, set, take, drop}
use Rattle.records.specs.Payloads.{Payload, number_of, k_of, keys_of, children_of}
use Rattle.records.specs.RecordForm.{kind_of}
use Rattle.trees.specs.Fragment.{Fragment, False, True, PkK, PkH, Lock, Hash}
use Rattle.contexts.specs.Leaves.{After, Older, Sha256, Hash256, Ripemd160, Hash160}
use Rattle.trees.specs.Fragment.{Alt, Swap, Check, DupIf, Verify, NonZero, ZeroNotEqual}
use Rattle.trees.specs.Fragment.{AndB, AndV, OrB, OrD, OrC, OrI, AndOr, Thresh, Multi, MultiA}
use Rattle.trees.specs.Reading.{done, Slots, Taken, and_first, take_all, root_of, read_from, read_tree}
use Rattle.trees.specs.Tree.{Maker, plain, with_number, one, two, three, of_children, of_keys, fragments, makers, make_fragment, tree_of}
use Rattle.writing.specs.Writing.{node_of, nodes_of, count, counts, size}
use Rattle.writing.specs.ReadBack.{ReadsFew}
use Rattle.writing.proofs.Kept.{no-some, not_done, given-some, stepped}
use Rattle.writing.proofs.Makers.{AllLines, no_line, ◌⊗◌, found-maker}
use Rattle.writing.proofs.Makers.{plain-made, number-made, keys-made, one-made, two_made, three_made}

-- the records of some trees, and of those in the slots
unfoldable sizes : List Fragment → ℕ
sizes [] = 0
sizes (x ∷ xs) = size x + sizes xs

abbrev held : Option Fragment → ℕ
held None = 0
held (Some x) = size x

unfoldable weight : Slots Fragment → ℕ
weight [] = 0
weight (o ∷ slots) = held o + weight slots

-- ---- slots

weight-without : (slots : Slots Fragment) (j : ℕ) → held (get_or slots j None) + weight (set slots j None) ≡ weight slots
unfolding weight
weight-without [] j = refl
weight-without (o ∷ slots) zero = omega arith
weight-without (o ∷ slots) (suc j) = omega (arith, weight-without slots j)

weight-with : (slots : Slots Fragment) (x : Fragment) → weight (slots ++ (Some x ∷ [])) ≡ weight slots + size x
unfolding weight
weight-with [] x = omega arith
weight-with (o ∷ slots) x = omega (arith, weight-with slots x)

weight-root : (slots : Slots Fragment) {x : Fragment} → root_of slots ≡ Some x → size x ≤ weight slots
unfolding weight root_of
weight-root [] e = absurd (no-some e)
weight-root (o ∷ []) {x} e = rw e (omega arith)
weight-root (None ∷ o ∷ slots) e = omega (arith, weight-root (o ∷ slots) e)
weight-root (Some y ∷ o ∷ slots) e = absurd (no-some e)

weight-taken : (js : List ℕ) (slots : Slots Fragment) {t : Taken Fragment} → take_all js slots ≡ Some t
    → sizes t.those + weight t.left ≡ weight slots
unfolding take_all sizes
weight-taken [] slots {t} e =
    let same : t ≡ record { those = []; left = slots } = cc in
    rw same (omega arith)
weight-taken (j ∷ js) slots {t} e =
    by_first (get_or slots j None) (take_all js (set slots j None)) (weight-without slots j)
    (λ u same. weight-taken js (set slots j None) {t = u} same) refl e
  where
    by_first : (o : Option Fragment) (others : Option (Taken Fragment)) → held o + weight (set slots j None) ≡ weight slots
        → ((u : Taken Fragment) → take_all js (set slots j None) ≡ Some u → sizes u.those + weight u.left ≡ weight (set slots j None))
        → take_all js (set slots j None) ≡ others → and_first o others ≡ Some t → sizes t.those + weight t.left ≡ weight slots
    by_first (Some x) (Some u) w rests same e =
        let rest = rests u same in
        let is : t ≡ record { those = x ∷ u.those; left = u.left } = cc in
        rw is (omega arith)
    by_first (Some x) None w rests same e = absurd (no-some e)
    by_first None others w rests same e = absurd (no-some e)

-- ---- makers

-- what is made of some trees has one record more than they
abbrev OneMore : ℕ → Maker → Type 0
OneMore kind maker = (payload : Payload) (xs : List Fragment) (x : Fragment) → maker payload xs ≡ Some x → size x ≡ sizes xs + 1

carried : {x y : Fragment} {xs ys : List Fragment} → xs ≡ ys → x ≡ y → size y ≡ sizes ys + 1 → size x ≡ sizes xs + 1
carried e₁ e₂ w = rw (e₁, e₂) w

module _ (kind : ℕ) where
  plain_more : (f : Fragment) → size f ≡ 1 → OneMore kind (plain f)
  unfolding sizes
  plain_more f w payload xs x m =
      let by = plain-made f payload xs m in
      carried by.0 by.1 w

  number_more : (f : ℕ → Fragment) → ((n : ℕ) → size (f n) ≡ 1) → OneMore kind (with_number f)
  unfolding sizes
  number_more f w payload xs x m =
      let by = number-made f payload xs m in
      carried by.0 by.1 (w (number_of payload))

  keys-more : (f : ℕ → List ℕ → Fragment) → ((k : ℕ) (ks : List ℕ) → size (f k ks) ≡ 1) → OneMore kind (of_keys f)
  unfolding sizes
  keys-more f w payload xs x m =
      let by = keys-made f payload xs m in
      carried by.0 by.1 (w (k_of payload) (keys_of payload))

  one_more : (f : Fragment → Fragment) → ((x : Fragment) → size (f x) ≡ sizes (x ∷ []) + 1) → OneMore kind (one f)
  one_more f w payload xs x m =
      let by = one-made f payload xs m in
      carried by.1 by.2 (w by.0)

  two-more : (f : Fragment → Fragment → Fragment) → ((x y : Fragment) → size (f x y) ≡ sizes (x ∷ y ∷ []) + 1) → OneMore kind (two f)
  two-more f w payload xs x m =
      let by = two_made f payload xs m in
      carried by.2 by.3 (w by.0 by.1)

  three-more : (f : Fragment → Fragment → Fragment → Fragment)
      → ((x y z : Fragment) → size (f x y z) ≡ sizes (x ∷ y ∷ z ∷ []) + 1) → OneMore kind (three f)
  three-more f w payload xs x m =
      let by = three_made f payload xs m in
      carried by.3 by.4 (w by.0 by.1 by.2)

counts-fragments : (xs : List Fragment) → counts (nodes_of (fragments xs)) ≡ sizes xs
unfolding counts nodes_of fragments sizes
counts-fragments [] = refl
counts-fragments (x ∷ xs) = rw (counts-fragments xs)

thresh-more : OneMore 56 (of_children Thresh)
unfolding count node_of
thresh-more payload xs x m =
    let this : x ≡ Thresh (k_of payload) (fragments xs) = cc in
    rw this (omega (arith, counts-fragments xs))

makers-more : AllLines OneMore makers
unfolding count node_of sizes
makers-more =
    plain_more 32 False refl
    ⊗ plain_more 33 True refl
    ⊗ number_more 34 PkK (λ n. refl)
    ⊗ number_more 35 PkH (λ n. refl)
    ⊗ number_more 36 (Lock After) (λ n. refl)
    ⊗ number_more 37 (Lock Older) (λ n. refl)
    ⊗ number_more 38 (Hash Sha256) (λ n. refl)
    ⊗ number_more 39 (Hash Hash256) (λ n. refl)
    ⊗ number_more 40 (Hash Ripemd160) (λ n. refl)
    ⊗ number_more 41 (Hash Hash160) (λ n. refl)
    ⊗ one_more 42 Alt (λ x. refl)
    ⊗ one_more 43 Swap (λ x. refl)
    ⊗ one_more 44 Check (λ x. refl)
    ⊗ one_more 45 DupIf (λ x. refl)
    ⊗ one_more 46 Verify (λ x. refl)
    ⊗ one_more 47 NonZero (λ x. refl)
    ⊗ one_more 48 ZeroNotEqual (λ x. refl)
    ⊗ two-more 49 AndB (λ x y. refl)
    ⊗ two-more 50 AndV (λ x y. refl)
    ⊗ two-more 51 OrB (λ x y. refl)
    ⊗ two-more 52 OrD (λ x y. refl)
    ⊗ two-more 53 OrC (λ x y. refl)
    ⊗ two-more 54 OrI (λ x y. refl)
    ⊗ three-more 55 AndOr (λ x y z. refl)
    ⊗ thresh-more
    ⊗ keys-more 57 Multi (λ k ks. refl)
    ⊗ keys-more 58 MultiA (λ k ks. refl)
    ⊗ no_line

-- ---- reading

read-size : (left : ℕ) (slots : Slots Fragment) (s : List ℕ) {x : Fragment} → read_from make_fragment left slots s ≡ done x
    → size x ≤ weight slots + left
unfolding read_from
read-size zero slots [] e = omega (arith, weight-root slots (given-some (root_of slots) e))
read-size zero slots (b ∷ bs) e = absurd (not_done e)
read-size (suc left) slots [] e = omega (arith, weight-root slots (given-some (root_of slots) e))
read-size (suc left) slots (b ∷ bs) e =
    let step = stepped make_fragment left slots b bs e in
    let one = step.adds in
    let taken = one.taken in
    let by = found-maker OneMore makers-more (kind_of (take step.len (b ∷ bs))) one.payload taken.those one.is_made in
    let more : size one.made ≡ sizes taken.those + 1 = by.1 one.payload taken.those one.made by.2 in
    let before = weight-taken (children_of one.payload) slots one.is-taken in
    let after : weight step.next ≡ weight taken.left + size one.made = rw one.is-added (weight-with taken.left one.made) in
    omega (arith, read-size left step.next (drop step.len (b ∷ bs)) step.then-read)

pub reads-few : ReadsFew
unfolding tree_of read_tree weight
reads-few bytes f e = omega (arith, read-size 4096 [] bytes e)
