-- Searches over insertions that are alike are alike, the third being the definition's own: by induction on the policy. Assumes nothing.
use mathlib.Core.Bool.{Bool, true, false, cond}
use mathlib.Core.List.{List, [], ◌∷◌}
use Rattle.std.specs.Prelude.{Option, None, Some}
use mathlib.Core.Path.{◌≡◌, refl, ap, ap₂, subst}
use Prim.Native.Nat.{ℕ, zero, suc}
use lib.Dec.{eqb}
use lib.ListN.{length}
use lib.Ieee.{Float, inf}
use Rattle.contexts.specs.declared.Context.{Context}
use Rattle.costs.specs.Arithmetic.{◌⊕◌, ◌⊖◌, ◌⊗◌, ◌⊘◌, float_of, 0·, 1·}
use Rattle.costs.specs.Weights.{weights}
use Rattle.policies.specs.Policy.{Policy, Policies, end, ◌▹◌, Unsatisfiable, Trivial, Key, Lock, Hash, And, Or, Thresh}
use Rattle.definition.specs.Candidates.{Candidate, Cast, all_casts, Made, passed_over, missing, made, Pair}
use Rattle.definition.specs.Candidates.{false', true', pk_k, pk_h, lock, hash, multi, and_b, and_v, or_b, or_d, or_c, or_i, and_or, thresh_of}
use Rattle.definition.specs.Tables.{Probs, probs, Table}
use Rattle.definition.specs.Refusals.{State, M, ◌>>=◌, pure, lookup}
use Rattle.definition.specs.Insertion.{insert_closure}
use Rattle.definition.specs.Search.{Again, alone, redo, for_each, inserted_if_typed, casts_of, wrapped, wrapped_if_made, binary, ternary}
use Rattle.definition.specs.Search.{Searcher, plain, conjunction, policy_of, search_of, kept, found_or, remembering}
use Rattle.definition.specs.Search.{Body, without, again_at, searching, leaves, and_body, and_ors, Four, four_of, or_body, or_none}
use Rattle.definition.specs.Search.{Best, best_of, bests, most_gaining, arranged, key_or, keys_of, multi_of, and_searcher, fold_ands}
use Rattle.definition.specs.Search.{folded_or, thresh_body, searcher, searchers, search}
use Rattle.search_before.specs.AnyInsertion.{Insertion, insert_closure_by, inserted_if_typed_by, casts_of_by, wrapped_by, wrapped_if_made_by}
use Rattle.search_before.specs.AnyInsertion.{binary_by, ternary_by, leaves_by, and_body_by, and_ors_by, or_body_by, multi_of_by, and_searcher_by}
use Rattle.search_before.specs.AnyInsertion.{fold_ands_by, folded_or_by, thresh_body_by, searcher_by, searchers_by, search_by}
use Rattle.search_before.proofs.Alike.{Ends, Alike, itself, cond-alike, bind-alike}
use Rattle.search_before.proofs.Inserting.{AlikeInsertions, insert_closure-alike}

-- ---- what does not depend on insertion

-- what may be asked for again
pub data AlikeAgain (Stops : ℕ → Type 0) : Again → Again → Again → Type 0 where
  alone_all : AlikeAgain Stops alone alone alone
  redo_all : {m m₁ m₂ : M Table} → Alike Stops m m₁ m₂ → AlikeAgain Stops (redo m) (redo m₁) (redo m₂)

-- searchers of one policy
pub data AlikeSearchers (Stops : ℕ → Type 0) : Searcher → Searcher → Searcher → Type 0 where
  plain_all : {q : Policy} {f f₁ f₂ : Probs → M Table} → ((p : Probs) → Alike Stops (f p) (f₁ p) (f₂ p)) →
      AlikeSearchers Stops (plain q f) (plain q f₁) (plain q f₂)
  conjunction_all : {q : Policy} {f f₁ f₂ : Probs → M Table} {l l₁ l₂ r r₁ r₂ : Searcher} → ((p : Probs) → Alike Stops (f p) (f₁ p) (f₂ p)) →
      AlikeSearchers Stops l l₁ l₂ → AlikeSearchers Stops r r₁ r₂ →
      AlikeSearchers Stops (conjunction q f l r) (conjunction q f₁ l₁ r₁) (conjunction q f₂ l₂ r₂)

pub data AllAlike (Stops : ℕ → Type 0) : List Searcher → List Searcher → List Searcher → Type 0 where
  nobody : AllAlike Stops [] [] []
  ◌and◌ : {s s₁ s₂ : Searcher} {ss ss₁ ss₂ : List Searcher} → AlikeSearchers Stops s s₁ s₂ → AllAlike Stops ss ss₁ ss₂ →
      AllAlike Stops (s ∷ ss) (s₁ ∷ ss₁) (s₂ ∷ ss₂)

infixr 20 ◌and◌
abbrev pub AlikeBodies : (Stops : ℕ → Type 0) → Body → Body → Body → Type 0
AlikeBodies Stops b b₁ b₂ =
    (p : Probs) (g g₁ g₂ : Again) → AlikeAgain Stops g g₁ g₂ → Alike Stops (b p g) (b₁ p g₁) (b₂ p g₂)

module _ {Stops : ℕ → Type 0} where
  search-alike : {s s₁ s₂ : Searcher} → AlikeSearchers Stops s s₁ s₂ → (p : Probs) → Alike Stops (search_of s p) (search_of s₁ p) (search_of s₂ p)
  search-alike (plain_all h) p = h p
  search-alike (conjunction_all h l r) p = h p

  first-policy : {s s₁ s₂ : Searcher} → AlikeSearchers Stops s s₁ s₂ → policy_of s ≡ policy_of s₁
  first-policy (plain_all h) = refl
  first-policy (conjunction_all h l r) = refl

  second-policy : {s s₁ s₂ : Searcher} → AlikeSearchers Stops s s₁ s₂ → policy_of s ≡ policy_of s₂
  second-policy (plain_all h) = refl
  second-policy (conjunction_all h l r) = refl

  first-length : {ss ss₁ ss₂ : List Searcher} → AllAlike Stops ss ss₁ ss₂ → length ss ≡ length ss₁
  first-length nobody = refl
  first-length (h and hs) = ap suc (first-length hs)

  second-length : {ss ss₁ ss₂ : List Searcher} → AllAlike Stops ss ss₁ ss₂ → length ss ≡ length ss₂
  second-length nobody = refl
  second-length (h and hs) = ap suc (second-length hs)

  first-keys : {ss ss₁ ss₂ : List Searcher} → AllAlike Stops ss ss₁ ss₂ → keys_of ss ≡ keys_of ss₁
  unfolding keys_of
  first-keys nobody = refl
  first-keys (h and hs) = ap₂ key_or (first-policy h) (first-keys hs)

  second-keys : {ss ss₁ ss₂ : List Searcher} → AllAlike Stops ss ss₁ ss₂ → keys_of ss ≡ keys_of ss₂
  unfolding keys_of
  second-keys nobody = refl
  second-keys (h and hs) = ap₂ key_or (second-policy h) (second-keys hs)

  for_each-alike : {f f₁ f₂ : Candidate → Table → M Table} → ((x : Candidate) (t : Table) → Alike Stops (f x t) (f₁ x t) (f₂ x t)) →
      (xs t : Table) → Alike Stops (for_each f xs t) (for_each f₁ xs t) (for_each f₂ xs t)
  unfolding for_each
  for_each-alike h [] t = itself
  for_each-alike h (x ∷ xs) t = bind-alike (h x t) λ t. for_each-alike h xs t

  found_or-alike : (o : Option Table) {m m₁ m₂ : M Table} → Alike Stops m m₁ m₂ → Alike Stops (found_or o m) (found_or o m₁) (found_or o m₂)
  found_or-alike None h = h
  found_or-alike (Some t) h = itself

  remembering-alike : (q : Policy) (p : Probs) {m m₁ m₂ : M Table} → Alike Stops m m₁ m₂ →
      Alike Stops (remembering q p m) (remembering q p m₁) (remembering q p m₂)
  unfolding remembering
  remembering-alike q p h = record { from = λ s. (found_or-alike (lookup q p s.stored) (bind-alike h λ t. itself)).from s }

  again-alike : (q : Policy) {b b₁ b₂ : Body} (p : Probs) (d : Option Float) → AlikeBodies Stops b b₁ b₂ →
      AlikeAgain Stops (again_at q b p d) (again_at q b₁ p d) (again_at q b₂ p d)
  again-alike q p None h = alone_all
  again-alike q p (Some d) h = redo_all (remembering-alike q (without p) (h (without p) alone alone alone alone_all))

  searching-alike : (q : Policy) {b b₁ b₂ : Body} → AlikeBodies Stops b b₁ b₂ → (p : Probs) →
      Alike Stops (searching q b p) (searching q b₁ p) (searching q b₂ p)
  unfolding searching
  searching-alike q h p = remembering-alike q p (h p _ _ _ (again-alike q p p.dissat h))

  four_of-alike : {s s₁ s₂ : Searcher} → AlikeSearchers Stops s s₁ s₂ → (p : Probs) (w v : Float) →
      Alike Stops (four_of s p w v) (four_of s₁ p w v) (four_of s₂ p w v)
  unfolding four_of
  four_of-alike h p w v =
      bind-alike (search-alike h _) λ t₀.
      bind-alike (search-alike h _) λ t₁.
      bind-alike (search-alike h _) λ t₂.
      bind-alike (search-alike h _) λ t₃.
      itself

  best_of-alike : (p : Probs) {s s₁ s₂ : Searcher} → AlikeSearchers Stops s s₁ s₂ → Alike Stops (best_of p s) (best_of p s₁) (best_of p s₂)
  unfolding best_of
  best_of-alike p h =
      bind-alike (search-alike h p) λ t.
      bind-alike itself λ e.
      bind-alike (search-alike h p) λ t.
      bind-alike itself λ w.
      itself

  bests-alike : (p : Probs) {ss ss₁ ss₂ : List Searcher} → AllAlike Stops ss ss₁ ss₂ → Alike Stops (bests p ss) (bests p ss₁) (bests p ss₂)
  unfolding bests
  bests-alike p nobody = itself
  bests-alike p (h and hs) =
      bind-alike (best_of-alike p h) λ b.
      bind-alike (bests-alike p hs) λ bs.
      itself

-- ---- what does

module _ {Stops : ℕ → Type 0} {c : Context} {i j : Insertion} (alike : AlikeInsertions Stops c i j) where
  inserted-alike : (p : Probs) (x : Option Candidate) (t : Table) →
      Alike Stops (inserted_if_typed_by i c p x t) (inserted_if_typed_by j c p x t) (inserted_if_typed c p x t)
  inserted-alike p None t = itself
  inserted-alike p (Some x) t = insert_closure-alike alike p x t

  casts_of-alike : (p : Probs) {m m₁ m₂ : M Table} → Alike Stops m m₁ m₂ → (fs : List Cast) (t : Table) →
      Alike Stops (casts_of_by i c p m fs t) (casts_of_by j c p m₁ fs t) (casts_of c p m₂ fs t)
  unfolding casts_of_by casts_of
  casts_of-alike p h [] t = itself
  casts_of-alike p h (f ∷ fs) t =
      bind-alike h λ xs.
      bind-alike (for_each-alike (λ x t. inserted-alike p (f x) t) xs t) λ t.
      casts_of-alike p h fs t

  wrapped-alike : (p : Probs) {g g₁ g₂ : Again} → AlikeAgain Stops g g₁ g₂ → (x : Candidate) (t : Table) →
      Alike Stops (wrapped_by i c p g x t) (wrapped_by j c p g₁ x t) (wrapped c p g₂ x t)
  unfolding wrapped_by wrapped
  wrapped-alike p alone_all x t = insert_closure-alike alike p x t
  wrapped-alike p (redo_all h) x t = bind-alike (insert_closure-alike alike p x t) λ t. casts_of-alike p h (all_casts c) t

  made_alike : (p : Probs) {g g₁ g₂ : Again} → AlikeAgain Stops g g₁ g₂ → (m : Made) (t : Table) →
      Alike Stops (wrapped_if_made_by i c p g m t) (wrapped_if_made_by j c p g₁ m t) (wrapped_if_made c p g₂ m t)
  made_alike p a passed_over t = itself
  made_alike p a missing t = itself
  made_alike p a (made x) t = wrapped-alike p a x t

  module _ (p : Probs) {g g₁ g₂ : Again} (a : AlikeAgain Stops g g₁ g₂) where
    binary-alike : (f : Pair) (lw rw : Float) (ls rs t : Table) →
        Alike Stops (binary_by i c p g f lw rw ls rs t) (binary_by j c p g₁ f lw rw ls rs t) (binary c p g₂ f lw rw ls rs t)
    binary-alike f lw rw ls rs t = for_each-alike (λ l t. for_each-alike (λ r t. made_alike p a (f lw rw l r) t) rs t) ls t

    ternary-alike : (lw rw : Float) (xs ys zs t : Table) →
        Alike Stops (ternary_by i c p g lw rw xs ys zs t) (ternary_by j c p g₁ lw rw xs ys zs t) (ternary c p g₂ lw rw xs ys zs t)
    ternary-alike lw rw xs ys zs t =
        for_each-alike (λ x t. for_each-alike (λ y t. for_each-alike (λ z t. made_alike p a (and_or lw rw x y z) t) zs t) ys t) xs t

    multi-alike : (k : ℕ) (keys : Option (List ℕ)) (t : Table) →
        Alike Stops (multi_of_by i c p g k keys t) (multi_of_by j c p g₁ k keys t) (multi_of c p g₂ k keys t)
    multi-alike k None t = itself
    multi-alike k (Some keys) t = wrapped-alike p a (multi c k keys) t

  leaves_alike : (xs : Table) → AlikeBodies Stops (leaves_by i c xs) (leaves_by j c xs) (leaves c xs)
  leaves_alike xs p g g₁ g₂ a = for_each-alike (λ x t. wrapped-alike p a x t) xs []

  module _ {l l₁ l₂ r r₁ r₂ : Searcher} (lh : AlikeSearchers Stops l l₁ l₂) (rh : AlikeSearchers Stops r r₁ r₂) where
    and_body-alike : AlikeBodies Stops (and_body_by i c l r) (and_body_by j c l₁ r₁) (and_body c l₂ r₂)
    unfolding and_body_by and_body
    and_body-alike p g g₁ g₂ a =
        bind-alike (search-alike lh p) λ left.
        bind-alike (search-alike rh p) λ right.
        bind-alike (search-alike rh (without p)) λ right₀.
        bind-alike (search-alike lh (without p)) λ left₀.
        bind-alike (binary-alike p a and_b 1· 1· left right []) λ t.
        bind-alike (binary-alike p a and_b 1· 1· right left t) λ t.
        bind-alike (binary-alike p a and_v 1· 1· left right t) λ t.
        bind-alike (binary-alike p a and_v 1· 1· right left t) λ t.
        bind-alike (ternary-alike p a 1· 0· left right₀ (false' ∷ []) t) λ t.
        ternary-alike p a 1· 0· right left₀ (false' ∷ []) t

    and_ors-alike : (p : Probs) {g g₁ g₂ : Again} → AlikeAgain Stops g g₁ g₂ → (w v : Float) (t : Table) →
        Alike Stops (and_ors_by i c p g l r w v t) (and_ors_by j c p g₁ l₁ r₁ w v t) (and_ors c p g₂ l₂ r₂ w v t)
    unfolding and_ors_by and_ors
    and_ors-alike p {g} {g₁} {g₂} a w v t = of-sides lh
      where
        of-sides : {s s₁ s₂ : Searcher} → AlikeSearchers Stops s s₁ s₂ →
            Alike Stops (and_ors_by i c p g s r w v t) (and_ors_by j c p g₁ s₁ r₁ w v t) (and_ors c p g₂ s₂ r₂ w v t)
        of-sides (plain_all h) = itself
        of-sides (conjunction_all h x y) =
            bind-alike (search-alike x _) λ a₁.
            bind-alike (search-alike x _) λ a₂.
            bind-alike (search-alike y _) λ b₁.
            bind-alike (search-alike y _) λ b₂.
            bind-alike (search-alike rh _) λ z.
            bind-alike (ternary-alike p a w v a₁ b₂ z t) λ t.
            ternary-alike p a w v b₁ a₂ z t

  or_body-alike : {l l₁ l₂ r r₁ r₂ : Searcher} → AlikeSearchers Stops l l₁ l₂ → AlikeSearchers Stops r r₁ r₂ → (lw rw : Float) →
      AlikeBodies Stops (or_body_by i c l r lw rw) (or_body_by j c l₁ r₁ lw rw) (or_body c l₂ r₂ lw rw)
  unfolding or_body_by or_body
  or_body-alike lh rh lw rw p g g₁ g₂ a =
      bind-alike (and_ors-alike lh rh p a lw rw []) λ t.
      bind-alike (and_ors-alike rh lh p a rw lw t) λ t.
      bind-alike (four_of-alike lh p lw rw) λ ls.
      bind-alike (four_of-alike rh p rw lw) λ rs.
      bind-alike (binary-alike p a or_b lw rw ls.both rs.both t) λ t.
      bind-alike (binary-alike p a or_b rw lw rs.both ls.both t) λ t.
      bind-alike (binary-alike p a or_d lw rw ls.both rs.own t) λ t.
      bind-alike (binary-alike p a or_d rw lw rs.both ls.own t) λ t.
      bind-alike (binary-alike p a or_c lw rw ls.other rs.none t) λ t.
      bind-alike (binary-alike p a or_c rw lw rs.other ls.none t) λ t.
      bind-alike (binary-alike p a or_i lw rw ls.own rs.none t) λ t.
      bind-alike (binary-alike p a or_i rw lw rs.own ls.none t) λ t.
      bind-alike (binary-alike p a or_i lw rw ls.none rs.own t) λ t.
      binary-alike p a or_i rw lw rs.none ls.own t

  -- ---- Thresh

  fold_ands-alike : {s s₁ s₂ : Searcher} {ss ss₁ ss₂ : List Searcher} → AlikeSearchers Stops s s₁ s₂ → AllAlike Stops ss ss₁ ss₂ →
      AlikeSearchers Stops (fold_ands_by i c s ss) (fold_ands_by j c s₁ ss₁) (fold_ands c s₂ ss₂)
  unfolding fold_ands_by fold_ands
  fold_ands-alike h nobody = h
  fold_ands-alike {s} {s₁} {s₂} h (◌and◌ {s = r} {s₁ = r₁} {s₂ = r₂} k ks) =
      fold_ands-alike {s = and_searcher_by i c s r} {s₁ = and_searcher_by j c s₁ r₁} {s₂ = and_searcher c s₂ r₂} (and_alike h k) ks
    where
      and_alike : {s s₁ s₂ r r₁ r₂ : Searcher} → AlikeSearchers Stops s s₁ s₂ → AlikeSearchers Stops r r₁ r₂ →
          AlikeSearchers Stops (and_searcher_by i c s r) (and_searcher_by j c s₁ r₁) (and_searcher c s₂ r₂)
      and_alike {s} {s₁} {s₂} {r} {r₁} {r₂} h k = subst
          (λ q. AlikeSearchers Stops (and_searcher_by i c s r) (and_searcher_by j c s₁ r₁) (conjunction q (searching q (and_body c s₂ r₂)) s₂ r₂))
          (ap₂ And (second-policy h) (second-policy k))
          (subst
          (λ q. AlikeSearchers Stops (and_searcher_by i c s r) (conjunction q (searching q (and_body_by j c s₁ r₁)) s₁ r₁)
          (conjunction (And (policy_of s) (policy_of r)) (searching (And (policy_of s) (policy_of r)) (and_body c s₂ r₂)) s₂ r₂))
          (ap₂ And (first-policy h) (first-policy k))
          (conjunction_all (searching-alike (And (policy_of s) (policy_of r)) (and_body-alike h k)) h k))

  folded_or-alike : (p : Probs) (k : ℕ) {ss ss₁ ss₂ : List Searcher} → AllAlike Stops ss ss₁ ss₂ → (t : Table) →
      Alike Stops (folded_or_by i c p k ss t) (folded_or_by j c p k ss₁ t) (folded_or c p k ss₂ t)
  folded_or-alike p k nobody t = itself
  folded_or-alike p k (◌and◌ {s} {s₁} {s₂} {ss} {ss₁} {ss₂} h hs) t =
      subst (λ m. Alike Stops (folded_or_by i c p k (s ∷ ss) t) (folded_or_by j c p k (s₁ ∷ ss₁) t) m)
      (ap (λ n. cond (eqb k (suc n)) (search_of (fold_ands c s₂ ss₂) p) (pure t)) (second-length hs))
      (subst (λ m. Alike Stops (folded_or_by i c p k (s ∷ ss) t) m (cond (eqb k (suc (length ss))) (search_of (fold_ands c s₂ ss₂) p) (pure t)))
      (ap (λ n. cond (eqb k (suc n)) (search_of (fold_ands_by j c s₁ ss₁) p) (pure t)) (first-length hs))
      (cond-alike (eqb k (suc (length ss))) (search-alike (fold_ands-alike h hs) p) itself))

  thresh_body-alike : (k : ℕ) {ss ss₁ ss₂ : List Searcher} → AllAlike Stops ss ss₁ ss₂ →
      AlikeBodies Stops (thresh_body_by i c k ss) (thresh_body_by j c k ss₁) (thresh_body c k ss₂)
  unfolding thresh_body_by thresh_body
  thresh_body-alike k {ss} {ss₁} {ss₂} hs p g g₁ g₂ a =
      subst (λ m. Alike Stops (first (length ss) (keys_of ss)) (second (length ss₁) (keys_of ss₁)) m)
      (ap₂ third (second-length hs) (second-keys hs))
      (subst (λ m. Alike Stops (first (length ss) (keys_of ss)) m (third (length ss) (keys_of ss)))
      (ap₂ second (first-length hs) (first-keys hs))
      (bind-alike (bests-alike (child (length ss)) hs) λ bs.
      bind-alike (made_alike p a (thresh_of c k (arranged (most_gaining (child (length ss)) 0 0 (inf false) bs) bs)) []) λ t.
      bind-alike (multi-alike p a k (keys_of ss) t) λ t.
      folded_or-alike p k hs t))
    where
      child : (n : ℕ) → Probs
      child n = probs (p.sat ⊗ (float_of k ⊘ float_of n)) (Some (or_none p.dissat ⊕ (1· ⊖ (float_of k ⊘ float_of n)) ⊗ p.sat))

      -- each body over its count of children and its keys
      body : (M (List Best)) → (Made → Table → M Table) → (Table → M Table) → (Table → M Table) → ℕ → M Table
      body found wrap keyed folded n = do
        bs ← found
        t ← wrap (thresh_of c k (arranged (most_gaining (child n) 0 0 (inf false) bs) bs)) []
        t ← keyed t
        folded t

      first : ℕ → Option (List ℕ) → M Table
      first n keys = body (bests (child n) ss) (wrapped_if_made_by i c p g) (multi_of_by i c p g k keys) (folded_or_by i c p k ss) n

      second : ℕ → Option (List ℕ) → M Table
      second n keys = body (bests (child n) ss₁) (wrapped_if_made_by j c p g₁) (multi_of_by j c p g₁ k keys) (folded_or_by j c p k ss₁) n

      third : ℕ → Option (List ℕ) → M Table
      third n keys = body (bests (child n) ss₂) (wrapped_if_made c p g₂) (multi_of c p g₂ k keys) (folded_or c p k ss₂) n

  -- ---- every policy

  mutual
    unfolding searcher_by searcher

    searcher-alike : (q : Policy) → AlikeSearchers Stops (searcher_by i c q) (searcher_by j c q) (searcher c q)
    searcher-alike Unsatisfiable = plain_all (searching-alike _ (leaves_alike (false' ∷ [])))
    searcher-alike Trivial = plain_all (searching-alike _ (leaves_alike (true' ∷ [])))
    searcher-alike (Key n) = plain_all (searching-alike _ (leaves_alike (pk_h c n ∷ pk_k c n ∷ [])))
    searcher-alike (Lock kind n) = plain_all (searching-alike _ (leaves_alike (lock kind n ∷ [])))
    searcher-alike (Hash kind n) = plain_all (searching-alike _ (leaves_alike (hash kind n ∷ [])))
    searcher-alike (And l r) =
        conjunction_all (searching-alike _ (and_body-alike (searcher-alike l) (searcher-alike r))) (searcher-alike l) (searcher-alike r)
    searcher-alike (Or l r lw rw) =
        plain_all (searching-alike _ (or_body-alike (searcher-alike l) (searcher-alike r) (weights lw rw).lw (weights lw rw).rw))
    searcher-alike (Thresh k xs) = plain_all (searching-alike _ (thresh_body-alike k (searchers-alike xs)))

    searchers-alike : (xs : Policies) → AllAlike Stops (searchers_by i c xs) (searchers_by j c xs) (searchers c xs)
    searchers-alike end = nobody
    searchers-alike (x ▹ xs) = searcher-alike x and searchers-alike xs

  pub searches-alike : (q : Policy) (p : Probs) → Alike Stops (search_by i c q p) (search_by j c q p) (search c q p)
  searches-alike q p = search-alike (searcher-alike q) p
