-- Meaning depends on the variables that occur. Assumes nothing.
use Prim.Native.Nat.{ℕ}
use mathlib.Core.Bool.{Bool, true, ◌&&◌, ◌||◌}
use mathlib.Core.List.{List, [], ◌∷◌, ◌++◌, map}
use mathlib.Core.Path.{◌≡◌, refl, ap, ◌∙◌}
use lib.Dec.{leb}
use Rattle.policies.specs.Policy as policy
use Rattle.policies.specs.Policy.{Policy, Policies, Unsatisfiable, Trivial, Key, And, Or}
use Rattle.trees.specs.Fragment.{Fragment, Fragments, end, ◌▹◌, False, True, PkK, PkH, Lock, Hash}
use Rattle.trees.specs.Fragment.{Alt, Swap, Check, DupIf, Verify, NonZero, ZeroNotEqual}
use Rattle.trees.specs.Fragment.{AndB, AndV, OrB, OrD, OrC, OrI, AndOr, Thresh, Multi, MultiA}
use Rattle.meaning.specs.Meaning.{Variable, key, lock, hash, Assignment, count_true, policy_means, policies_mean, tree_means, trees_mean}
use Rattle.variables.specs.Variables.{same, member, policy_variables, policies_variables, tree_variables, trees_variables}
use Rattle.variables.proofs.Members.{or_left, or_right, same_self, member-append}

module _ (a b : Assignment) where
  abbrev pub Agrees : List Variable → Type 0
  Agrees vs = (v : Variable) → member v vs ≡ true → a v ≡ b v

  pub first_of : (xs ys : List Variable) → Agrees (xs ++ ys) → Agrees xs
  first_of xs ys h v m = h v (member-append v xs ys ∙ or_left (member v xs) (member v ys) m)

  pub second-of : (xs ys : List Variable) → Agrees (xs ++ ys) → Agrees ys
  second-of xs ys h v m = h v (member-append v xs ys ∙ or_right (member v xs) (member v ys) m)

  head_of : (v : Variable) (vs : List Variable) → Agrees (v ∷ vs) → a v ≡ b v
  unfolding member
  head_of v vs h = h v (or_left (same v v) (member v vs) (same_self v))

  tail_of : (v : Variable) (vs : List Variable) → Agrees (v ∷ vs) → Agrees vs
  unfolding member
  tail_of v vs h w m = h w (or_right (same w v) (member w vs) m)

  keys-agree : (ks : List ℕ) → Agrees (map key ks) → map (λ n. a (key n)) ks ≡ map (λ n. b (key n)) ks
  keys-agree [] h = refl
  keys-agree (k ∷ ks) h =
      ap (λ (x : Bool). x ∷ map (λ n. a (key n)) ks) (head_of (key k) (map key ks) h)
      ∙ ap (λ (l : List Bool). b (key k) ∷ l) (keys-agree ks (tail_of (key k) (map key ks) h))

  mutual
    unfolding policy_means policies_mean policy_variables policies_variables

    pub policy-agrees : (p : Policy) → Agrees (policy_variables p) → policy_means a p ≡ policy_means b p
    policy-agrees Unsatisfiable h = refl
    policy-agrees Trivial h = refl
    policy-agrees (Key n) h = head_of (key n) [] h
    policy-agrees (policy.Lock kind n) h = head_of (lock kind n) [] h
    policy-agrees (policy.Hash kind n) h = head_of (hash kind n) [] h
    policy-agrees (And x y) h =
        let p = policy-agrees x (first_of (policy_variables x) (policy_variables y) h) in
        let q = policy-agrees y (second-of (policy_variables x) (policy_variables y) h) in
        rw (p, q)
    policy-agrees (Or x y lw rw) h =
        let p = policy-agrees x (first_of (policy_variables x) (policy_variables y) h) in
        let q = policy-agrees y (second-of (policy_variables x) (policy_variables y) h) in
        ap (λ (t : Bool). t || policy_means a y) p ∙ ap (λ (t : Bool). policy_means b x || t) q
    policy-agrees (policy.Thresh k xs) h = ap (λ (l : List Bool). leb k (count_true l)) (policies-agree xs h)

    policies-agree : (xs : Policies) → Agrees (policies_variables xs) → policies_mean a xs ≡ policies_mean b xs
    policies-agree policy.end h = refl
    policies-agree (policy.◌▹◌ x xs) h =
        ap (λ (t : Bool). t ∷ policies_mean a xs) (policy-agrees x (first_of (policy_variables x) (policies_variables xs) h))
        ∙ ap (λ (l : List Bool). policy_means b x ∷ l) (policies-agree xs (second-of (policy_variables x) (policies_variables xs) h))

  mutual
    unfolding tree_means trees_mean tree_variables trees_variables

    pub tree-agrees : (f : Fragment) → Agrees (tree_variables f) → tree_means a f ≡ tree_means b f
    tree-agrees False h = refl
    tree-agrees True h = refl
    tree-agrees (PkK n) h = head_of (key n) [] h
    tree-agrees (PkH n) h = head_of (key n) [] h
    tree-agrees (Lock kind n) h = head_of (lock kind n) [] h
    tree-agrees (Hash kind n) h = head_of (hash kind n) [] h
    tree-agrees (Alt x) h = tree-agrees x h
    tree-agrees (Swap x) h = tree-agrees x h
    tree-agrees (Check x) h = tree-agrees x h
    tree-agrees (DupIf x) h = tree-agrees x h
    tree-agrees (Verify x) h = tree-agrees x h
    tree-agrees (NonZero x) h = tree-agrees x h
    tree-agrees (ZeroNotEqual x) h = tree-agrees x h
    tree-agrees (AndB x y) h =
        ap (λ (t : Bool). t && tree_means a y) (tree-agrees x (first_of (tree_variables x) (tree_variables y) h))
        ∙ ap (λ (t : Bool). tree_means b x && t) (tree-agrees y (second-of (tree_variables x) (tree_variables y) h))
    tree-agrees (AndV x y) h =
        ap (λ (t : Bool). t && tree_means a y) (tree-agrees x (first_of (tree_variables x) (tree_variables y) h))
        ∙ ap (λ (t : Bool). tree_means b x && t) (tree-agrees y (second-of (tree_variables x) (tree_variables y) h))
    tree-agrees (OrB x y) h =
        ap (λ (t : Bool). t || tree_means a y) (tree-agrees x (first_of (tree_variables x) (tree_variables y) h))
        ∙ ap (λ (t : Bool). tree_means b x || t) (tree-agrees y (second-of (tree_variables x) (tree_variables y) h))
    tree-agrees (OrD x y) h =
        ap (λ (t : Bool). t || tree_means a y) (tree-agrees x (first_of (tree_variables x) (tree_variables y) h))
        ∙ ap (λ (t : Bool). tree_means b x || t) (tree-agrees y (second-of (tree_variables x) (tree_variables y) h))
    tree-agrees (OrC x y) h =
        ap (λ (t : Bool). t || tree_means a y) (tree-agrees x (first_of (tree_variables x) (tree_variables y) h))
        ∙ ap (λ (t : Bool). tree_means b x || t) (tree-agrees y (second-of (tree_variables x) (tree_variables y) h))
    tree-agrees (OrI x y) h =
        ap (λ (t : Bool). t || tree_means a y) (tree-agrees x (first_of (tree_variables x) (tree_variables y) h))
        ∙ ap (λ (t : Bool). tree_means b x || t) (tree-agrees y (second-of (tree_variables x) (tree_variables y) h))
    tree-agrees (AndOr x y z) h =
        let rest = second-of (tree_variables x) (tree_variables y ++ tree_variables z) h in
        ap (λ (t : Bool). (t && tree_means a y) || tree_means a z) (tree-agrees x (first_of (tree_variables x) (tree_variables y ++ tree_variables z) h))
        ∙ ap (λ (t : Bool). (tree_means b x && t) || tree_means a z) (tree-agrees y (first_of (tree_variables y) (tree_variables z) rest))
        ∙ ap (λ (t : Bool). (tree_means b x && tree_means b y) || t) (tree-agrees z (second-of (tree_variables y) (tree_variables z) rest))
    tree-agrees (Thresh k xs) h = ap (λ (l : List Bool). leb k (count_true l)) (trees-agree xs h)
    tree-agrees (Multi k ks) h = ap (λ (l : List Bool). leb k (count_true l)) (keys-agree ks h)
    tree-agrees (MultiA k ks) h = ap (λ (l : List Bool). leb k (count_true l)) (keys-agree ks h)

    trees-agree : (xs : Fragments) → Agrees (trees_variables xs) → trees_mean a xs ≡ trees_mean b xs
    trees-agree end h = refl
    trees-agree (x ▹ xs) h =
        ap (λ (t : Bool). t ∷ trees_mean a xs) (tree-agrees x (first_of (tree_variables x) (trees_variables xs) h))
        ∙ ap (λ (l : List Bool). tree_means b x ∷ l) (trees-agree xs (second-of (tree_variables x) (trees_variables xs) h))
