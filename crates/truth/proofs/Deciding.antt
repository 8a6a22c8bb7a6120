-- All blocks agree exactly if tree and policy mean the same. Assumes nothing.
use Prim.Native.Nat.{ℕ, ◌+◌, ◌≤◌, ◌<◌}
use mathlib.Core.Bool.{Bool, true, false}
use mathlib.Core.List.{List, ◌++◌}
use mathlib.Core.Path.{◌≡◌, refl, sym, ap, subst, ◌∙◌}
use native.Mathlib.Omega.{arith}
use borrow.Author.Tests.{eqb-true, eqb-false}
use lib.Dec.{eqb}
use lib.ListN.{length, get_or, length-map}
use lib.Seq.{length-take-le}
use Rattle.policies.specs.Policy.{Policy}
use Rattle.policies.specs.Array.{policy_at}
use Rattle.trees.specs.Fragment.{Fragment}
use Rattle.walk.specs.TreeRecords.{TreeRecords}
use Rattle.meaning.specs.Meaning.{Variable, key, Assignment, policy_means, tree_means}
use Rattle.variables.specs.declared.Var.{Var}
use Rattle.variables.specs.declared.Vars.{Vars}
use Rattle.variables.specs.Variables.{member, policy_variables, tree_variables}
use Rattle.variables.specs.Gathering.{code_of, row_of, Roomy, Found}
use Rattle.truth.specs.Words.{bit_at, word_for, assigned, block_words}
use Rattle.truth.specs.Alike.{Alike, Says, AlikeIn, BlockSays}
use Rattle.truth.proofs.BitLaws.{words-equal}
use Rattle.truth.proofs.Agreeing.{first_of, second-of, policy-agrees, tree-agrees}
use Rattle.truth.proofs.Covering.{place, looked-up}

-- ---- one block

pub block-says : {pol tree : List ℕ} {root : ℕ} {row : List Var} {words : List ℕ} {left right : ℕ} → left < 18446744073709551616 → right < 18446744073709551616
    → ((j : ℕ) → j < 64 → bit_at left j ≡ policy_means (assigned row words j) (policy_at pol root))
    → ((f : Fragment) → TreeRecords tree f → (j : ℕ) → j < 64 → bit_at right j ≡ tree_means (assigned row words j) f)
    → BlockSays pol root tree row words (eqb left right)
block-says {pol} {tree} {root} {row} {words} {left} {right} a b p t =
    record {
      yes = λ e f r j l. sym (t f r j l) ∙ ap (λ (w : ℕ). bit_at w j) (sym (eqb-true left right e)) ∙ p j l;
      no = λ e f r same. eqb-false left right e (words-equal 64 left right a b (λ j l. p j l ∙ sym (same j l) ∙ sym (t f r j l)));
    }

pub same-words : {pol tree : List ℕ} {root : ℕ} {row : List Var} {words words' : List ℕ} {b : Bool} → words ≡ words'
    → BlockSays pol root tree row words b → BlockSays pol root tree row words' b
same-words {pol} {tree} {root} {row} {b = b} e s = subst (λ (w : List ℕ). BlockSays pol root tree row w b) e s

-- ---- all blocks

module _ {t : Vars} (room : Roomy t) {p : Policy} {f : Fragment} (x : Found t p f) where
  few : length x.those ≤ 12
  few =
      let many : length x.those ≡ t.len =
      sym (length-map x.those code_of) ∙ ap length (sym x.row) ∙ length-take-le t.len t.list (omega (arith, room.few, room.long)) in
      omega (arith, many, room.few)

  twelve : (b : ℕ) → length (block_words b) ≡ 12
  unfolding block_words
  twelve b = refl

  pub all_alike : ((b : ℕ) → b < 64 → AlikeIn p f (row_of t) (block_words b)) → Alike p f
  all_alike h a =
      let its = place (λ i. a (get_or x.those i (key 0))) in
      let c : Assignment = assigned (row_of t) (block_words its.block) its.bit in
      let agrees : (v : Variable) → member v (policy_variables p ++ tree_variables f) ≡ true → a v ≡ c v =
      λ v m. sym (ap (λ (r : List Var). bit_at (word_for r (block_words its.block) (code_of v)) its.bit) x.row
      ∙ looked-up x.those (block_words its.block) a its.bit (omega (arith, few, twelve its.block))
      (λ i l. its.holds i (omega (arith, few))) v (x.all v ∙ m)) in
      tree-agrees a c f (second-of a c (policy_variables p) (tree_variables f) agrees)
      ∙ h its.block its.block-low its.bit its.bit-low
      ∙ sym (policy-agrees a c p (first_of a c (policy_variables p) (tree_variables f) agrees))

-- the blocks so far
pub record BlocksOn (pol : List ℕ) (root : ℕ) (tree : List ℕ) (row : List Var) (b : ℕ) : Type 0 where
  pub upto : b ≤ 64
  pub so_far : (c : ℕ) → c < b → (f : Fragment) → TreeRecords tree f → AlikeIn (policy_at pol root) f row (block_words c)

pub blocks-begin : (pol : List ℕ) (root : ℕ) (tree : List ℕ) (row : List Var) → BlocksOn pol root tree row 0
blocks-begin pol root tree row = record { upto = omega arith; so_far = λ c l. absurd (omega arith) }

module _ {pol tree : List ℕ} {root : ℕ} {row : List Var} {b : ℕ} (on : BlocksOn pol root tree row b) where
  pub blocks_more : b < 64 → {r : Bool} → BlockSays pol root tree row (block_words b) r → r ≡ true → BlocksOn pol root tree row (b + 1)
  blocks_more l {r} s e = record { upto = omega arith; so_far = λ c m. by_number c (eqb c b) refl m }
    where
      by_number : (c : ℕ) (q : Bool) → eqb c b ≡ q → c < b + 1 → (f : Fragment) → TreeRecords tree f → AlikeIn (policy_at pol root) f row (block_words c)
      by_number c true q m f r =
          subst (λ (n : ℕ). AlikeIn (policy_at pol root) f row (block_words n)) (sym (eqb-true c b q)) (s.yes e f r)
      by_number c false q m f r = on.so_far c (omega (arith, eqb-false c b q)) f r

pub blocks-stop : {pol tree : List ℕ} {root : ℕ} {row : List Var} {words : List ℕ} {r : Bool} → BlockSays pol root tree row words r → r ≡ false
    → (f : Fragment) → TreeRecords tree f → Says false (policy_at pol root) f
blocks-stop {row = row} {words = words} s e f r =
    record { yes = λ t. absurd (let z : ◌≡◌ {A = ℕ} 0 1 = cc (t) in omega arith); no = λ n same. s.no e f r (λ j l. same (assigned row words j)) }

pub blocks-done : {pol tree : List ℕ} {root : ℕ} {t : Vars} {b : ℕ} → BlocksOn pol root tree (row_of t) b → 64 ≤ b → Roomy t
    → (f : Fragment) → TreeRecords tree f → Found t (policy_at pol root) f → Says true (policy_at pol root) f
blocks-done on l room f r x =
    record {
      yes = λ t. all_alike room x (λ c m. on.so_far c (omega arith) f r);
      no = λ n. absurd (let z : ◌≡◌ {A = ℕ} 0 1 = cc (n) in omega arith);
    }
