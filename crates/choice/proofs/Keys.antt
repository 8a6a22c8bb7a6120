-- Whether the children of a Thresh are keys, and the Multi of keys. Assumes nothing.
use mathlib.Core.Path.{◌≡◌, refl, sym, ◌∙◌, ap}
use mathlib.Core.Bool.{Bool, true, false, ◌&&◌}
use mathlib.Core.List.{List, [], ◌∷◌}
use Prim.Native.Nat.{ℕ, suc, ◌+◌, ◌<◌, ◌≤◌}
use native.Mathlib.Omega.{arith}
use native.Mathlib.Numerals.{add-one}
use borrow.Author.Tests.{ne_eqb, eq-eqb}
use lib.Dec.{eqb}
use lib.ListN.{length, drop, drop_of_length-le}
use lib.Seq.{drop-cons}
use Rattle.contexts.specs.declared.Context.{Context}
use Rattle.contexts.specs.declared.Context.TheVariants.{Segwitv0, Tap}
use Rattle.contexts.specs.Leaves.{After, Older, Sha256, Hash256, Ripemd160, Hash160}
use Rattle.policies.specs.declared.Head.{Head}
use Rattle.policies.specs.Policy.{Policy, Policies, end, ◌▹◌, to_list, Unsatisfiable, Trivial, Key, Lock, Hash, And, Or, Thresh}
use Rattle.policies.specs.Forms.{nth, kind_of, number_of, children_of}
use Rattle.policies.specs.Heads.{head_of}
use Rattle.policies.specs.Array.{policy_at, child_number, Good, stored}
use Rattle.policies.proofs.Views.{child-is}
use Rattle.definition.specs.Search.{key_or, keys_of, searchers}
use Rattle.definition_laws.proofs.Steps.{keys_of-next}
use Rattle.candidates.specs.declared.Candidate.{Candidate}
use Rattle.candidates.specs.Leaves.{multi, multi_a}
use Rattle.nodes.proofs.Leaves.{multi-seen, multi-a-seen, multi-offers, multi-a-offers}
use Rattle.choice.specs.Keys.{keys_if, AllKeys, MultiOf}

-- ---- whether all are keys

unfoldable pub all_keys : List Policy → Bool
all_keys [] = true
all_keys (x ∷ xs) = eqb (kind_of x) 3 && all_keys xs

key-first : (x : Policy) (xs : Policies) (b : Bool) → key_or x (keys_if b xs) ≡ keys_if (eqb (kind_of x) 3 && b) (x ▹ xs)
unfolding kind_of number_of to_list
key-first Unsatisfiable xs b = refl
key-first Trivial xs b = refl
key-first (Key n) xs true = refl
key-first (Key n) xs false = refl
key-first (Lock After n) xs b = refl
key-first (Lock Older n) xs b = refl
key-first (Hash Sha256 n) xs b = refl
key-first (Hash Hash256 n) xs b = refl
key-first (Hash Ripemd160 n) xs b = refl
key-first (Hash Hash160 n) xs b = refl
key-first (And l r) xs b = refl
key-first (Or l r lw rw) xs b = refl
key-first (Thresh k ys) xs b = refl

keys-told : (c : Context) (xs : Policies) → keys_of (searchers c xs) ≡ keys_if (all_keys (to_list xs)) xs
unfolding keys_of searchers all_keys to_list
keys-told c end = refl
keys-told c (x ▹ xs) =
    keys_of-next c x (searchers c xs) ∙ ap (key_or x) (keys-told c xs) ∙ key-first x xs (all_keys (to_list xs))

told : (q : Policy) (r : Bool) → all_keys (children_of q) ≡ r → AllKeys q r
unfolding children_of
told q r is =
    record {
      says = λ c k xs thresh.
          keys-told c xs ∙ ap (λ (b : Bool). keys_if b xs) (ap (λ (p : Policy). all_keys (children_of p)) (sym thresh) ∙ is);
    }

-- the loop: of the children from i on it is still to be told
pub record Telling (q : Policy) (i : ℕ) : Type 0 where
  pub few : i ≤ length (children_of q)
  pub is : all_keys (children_of q) ≡ all_keys (drop i (children_of q))

pub telling-starts : (q : Policy) → Telling q 0
telling-starts q = record { few = omega arith; is = refl }

module _ {m : List ℕ} (good : Good m) (r : ℕ) (small : r < 64) {i : ℕ} (h : Telling (policy_at m r) i) (l : i < length (children_of (policy_at m r)))
    {c : ℕ} (child : c ≡ child_number m r i) {head : Head} (is : head ≡ head_of (policy_at m c)) where
  kind-is : head.kind ≡ kind_of (nth (children_of (policy_at m r)) i)
  kind-is =
      ap (λ (x : Head). x.kind) is
      ∙ ap (λ (n : ℕ). kind_of (policy_at m n)) child
      ∙ ap kind_of (child-is m good r i (stored small) l).is

  from-here : all_keys (children_of (policy_at m r))
      ≡ (eqb head.kind 3 && all_keys (drop (suc i) (children_of (policy_at m r))))
  unfolding all_keys
  from-here =
      h.is
      ∙ ap all_keys (drop-cons (children_of (policy_at m r)) i Unsatisfiable l)
      ∙ ap (λ (n : ℕ). eqb n 3 && all_keys (drop (suc i) (children_of (policy_at m r)))) (sym kind-is)

  pub telling-on : head.kind ≡ 3 → Telling (policy_at m r) (i + 1)
  telling-on key =
      rw (add-one i)
      (record {
        few = omega arith;
        is = from-here ∙ ap (λ (b : Bool). b && all_keys (drop (suc i) (children_of (policy_at m r)))) (eq-eqb head.kind 3 key);
      })

  pub telling-other : (head.kind ≡ 3 → ⊥) → AllKeys (policy_at m r) false
  telling-other other =
      told (policy_at m r) false
      (from-here ∙ ap (λ (b : Bool). b && all_keys (drop (suc i) (children_of (policy_at m r)))) (ne_eqb head.kind 3 other))

pub telling-ends : {q : Policy} {i : ℕ} → Telling q i → length (children_of q) ≤ i → AllKeys q true
unfolding all_keys
telling-ends {q} h l = told q true (h.is ∙ ap all_keys (drop_of_length-le (children_of q) l))

-- ---- the Multi

module _ {c : Context} (r k n : ℕ) {x : Candidate} (one : 1 ≤ k) (le : k ≤ n) where
  pub multi-of : c ≡ Segwitv0 → x ≡ multi k n r → MultiOf c r k n x
  multi-of context is =
      rw (context, is)
      (record {
        says = λ pol m xs keys thresh all long. rw (sym long) (multi-seen pol m r thresh all);
        offers = λ m few. multi-offers m k n r le few;
      })

  pub multi-a-of : c ≡ Tap → x ≡ multi_a k n r → MultiOf c r k n x
  multi-a-of context is =
      rw (context, is)
      (record {
        says = λ pol m xs keys thresh all long. rw (sym long) (multi-a-seen pol m r thresh all);
        offers = λ m few. multi-a-offers m k n r one le few;
      })
