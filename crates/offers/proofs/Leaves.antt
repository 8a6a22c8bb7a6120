-- The leaf that each kind makes stands for what the search of the policy offers. Assumes nothing.
use mathlib.Core.Path.{◌≡◌, refl, sym, ◌∙◌, ap, subst}
use mathlib.Core.List.{List, [], ◌∷◌}
use Prim.Native.Nat.{ℕ, zero, suc, ◌%◌, ◌<◌, ◌≤◌}
use native.Mathlib.Omega.{arith}
use Rattle.contexts.specs.declared.Context.{Context}
use Rattle.contexts.specs.Leaves.{LockKind, After, Older, HashKind, Sha256, Hash256, Ripemd160, Hash160}
use Rattle.policies.specs.Policy.{Policy, Unsatisfiable, Trivial, Key, Lock, Hash, And, Or, Thresh}
use Rattle.policies.specs.Forms.{kind_of, number_of, lock_kind, hash_kind}
use Rattle.policies.specs.Array.{policy_at}
use Rattle.policies.proofs.Forms.{is-unsatisfiable, is-trivial, is-after, is-older, is-sha256, is-hash256, is-ripemd160, is-hash160}
use Rattle.candidates.specs.declared.Candidate as code
use Rattle.candidates.specs.Leaves.{false_candidate, true_candidate, after, older, sha256, hash256, ripemd160, hash160}
use Rattle.definition.specs.Candidates as definition
use Rattle.definition.specs.Candidates.{Candidate}
use Rattle.definition.specs.Search.{leaves}
use Rattle.definition_laws.specs.FormedPolicy.{FormedPolicy}
use Rattle.definition_laws.specs.Bodies.{body_of}
use Rattle.nodes.specs.Views.{offered}
use Rattle.nodes.specs.Offers.{Offerable}
use Rattle.nodes.proofs.Leaves.{false-seen, true-seen, after-seen, older-seen, sha256-seen, hash256-seen, ripemd160-seen, hash160-seen}
use Rattle.nodes.proofs.Leaves.{false-offers, true-offers, after-offers, older-offers, sha256-offers, hash256-offers, ripemd160-offers}
use Rattle.nodes.proofs.Leaves.{hash160-offers}
use Rattle.offers.specs.Offering.{LeafOf}

-- a policy that is known, and what the leaf stands for
leaf-says : (c : Context) (pol m : List ℕ) (x : code.Candidate) {q known : Policy} {s : Candidate} → q ≡ known →
    body_of c known ≡ leaves c (s ∷ []) → offered pol m x ≡ s → body_of c q ≡ leaves c (offered pol m x ∷ [])
leaf-says c pol m x is body seen = ap (body_of c) is ∙ body ∙ ap (λ (s : Candidate). leaves c (s ∷ [])) (sym seen)

-- every policy has a kind
some-kind : (q : Policy) → kind_of q ≡ 0 → ⊥
unfolding kind_of
some-kind Unsatisfiable e = omega arith
some-kind Trivial e = omega arith
some-kind (Key n) e = omega arith
some-kind (Lock After n) e = omega arith
some-kind (Lock Older n) e = omega arith
some-kind (Hash Sha256 n) e = omega arith
some-kind (Hash Hash256 n) e = omega arith
some-kind (Hash Ripemd160 n) e = omega arith
some-kind (Hash Hash160 n) e = omega arith
some-kind (And l r) e = omega arith
some-kind (Or l r lw rw) e = omega arith
some-kind (Thresh k xs) e = omega arith

-- the kinds of which a match asks before its last arm
abbrev pub NoOther : ℕ → Type 0
NoOther kind =
    ((((((Unit {0} × (kind ≡ 2 → ⊥)) × (kind ≡ 4 → ⊥)) × (kind ≡ 5 → ⊥)) × (kind ≡ 6 → ⊥)) × (kind ≡ 7 → ⊥)) × (kind ≡ 8 → ⊥)) × (kind ≡ 9 → ⊥)

only-first : (kind : ℕ) → NoOther kind → kind < 10 → (kind ≡ 3 → ⊥) → (kind ≡ 0 → ⊥) → kind ≡ 1
only-first zero none low key kindless = absurd (kindless refl)
only-first (suc zero) none low key kindless = refl
only-first (suc (suc zero)) none low key kindless = absurd (none.0.0.0.0.0.0.1 refl)
only-first (suc (suc (suc zero))) none low key kindless = absurd (key refl)
only-first (suc (suc (suc (suc zero)))) none low key kindless = absurd (none.0.0.0.0.0.1 refl)
only-first (suc (suc (suc (suc (suc zero))))) none low key kindless = absurd (none.0.0.0.0.1 refl)
only-first (suc (suc (suc (suc (suc (suc zero)))))) none low key kindless = absurd (none.0.0.0.1 refl)
only-first (suc (suc (suc (suc (suc (suc (suc zero))))))) none low key kindless = absurd (none.0.0.1 refl)
only-first (suc (suc (suc (suc (suc (suc (suc (suc zero)))))))) none low key kindless = absurd (none.0.1 refl)
only-first (suc (suc (suc (suc (suc (suc (suc (suc (suc zero))))))))) none low key kindless = absurd (none.1 refl)
only-first (suc (suc (suc (suc (suc (suc (suc (suc (suc (suc n)))))))))) none low key kindless = absurd (omega arith)

-- ---- the two locks

abbrev pub lock_leaf : LockKind → (n held : ℕ) → code.Candidate
lock_leaf After n held = after n held
lock_leaf Older n held = older n held

is-lock : (lock : LockKind) (q : Policy) → kind_of q ≡ lock_kind lock → q ≡ Lock lock (number_of q)
is-lock After q e = is-after q e
is-lock Older q e = is-older q e

lock-seen : (lock : LockKind) (pol m : List ℕ) (held : ℕ) {n : ℕ} → policy_at pol held ≡ Lock lock n
    → offered pol m (lock_leaf lock n held) ≡ definition.lock lock n
lock-seen After pol m held is = after-seen pol m held is
lock-seen Older pol m held is = older-seen pol m held is

lock-offers : (lock : LockKind) (m : List ℕ) (n held : ℕ) → Offerable m (lock_leaf lock n held)
lock-offers After m n held = after-offers m n held
lock-offers Older m n held = older-offers m n held

-- a lock's number is a u32
lock-fits : {q : Policy} {kind : LockKind} {n number : ℕ} → q ≡ Lock kind n → n ≡ number → FormedPolicy q → n ≡ number % 0x1_0000_0000
unfolding FormedPolicy
lock-fits {q} {kind} {n} {number} is same formed =
    let fits : (1 ≤ n) × (n ≤ 2147483647) = subst FormedPolicy is formed in
    let few : n ≤ 2147483647 = fits.1 in
    omega arith

-- ---- the four hashes

abbrev pub hash_leaf : HashKind → (held : ℕ) → code.Candidate
hash_leaf Sha256 held = sha256 held
hash_leaf Hash256 held = hash256 held
hash_leaf Ripemd160 held = ripemd160 held
hash_leaf Hash160 held = hash160 held

is-hash : (hash : HashKind) (q : Policy) → kind_of q ≡ hash_kind hash → q ≡ Hash hash (number_of q)
is-hash Sha256 q e = is-sha256 q e
is-hash Hash256 q e = is-hash256 q e
is-hash Ripemd160 q e = is-ripemd160 q e
is-hash Hash160 q e = is-hash160 q e

hash-seen : (hash : HashKind) (pol m : List ℕ) (held : ℕ) {n : ℕ} → policy_at pol held ≡ Hash hash n
    → offered pol m (hash_leaf hash held) ≡ definition.hash hash n
hash-seen Sha256 pol m held is = sha256-seen pol m held is
hash-seen Hash256 pol m held is = hash256-seen pol m held is
hash-seen Ripemd160 pol m held is = ripemd160-seen pol m held is
hash-seen Hash160 pol m held is = hash160-seen pol m held is

hash-offers : (hash : HashKind) (m : List ℕ) (held : ℕ) → Offerable m (hash_leaf hash held)
hash-offers Sha256 m held = sha256-offers m held
hash-offers Hash256 m held = hash256-offers m held
hash-offers Ripemd160 m held = ripemd160-offers m held
hash-offers Hash160 m held = hash160-offers m held

-- ---- each kind

module _ {kind number r : ℕ} {x : code.Candidate} where
  pub true-leaf : kind ≡ 2 → x ≡ true_candidate → LeafOf kind number r x
  true-leaf e is =
      subst (LeafOf kind number r) (sym is)
      (record {
        says = λ pol m leaf formed key c. leaf-says c pol m true_candidate (is-trivial (policy_at pol r) (leaf.is_kind ∙ e)) refl (true-seen pol m);
        offers = true-offers;
      })

  pub lock-leaf : (lock : LockKind) → kind ≡ lock_kind lock → x ≡ lock_leaf lock (number % 0x1_0000_0000) r → LeafOf kind number r x
  lock-leaf lock e is =
      subst (LeafOf kind number r) (sym is)
      (record {
        says =
            λ pol m leaf formed key c.
            let n = number % 0x1_0000_0000 in
            let known = is-lock lock (policy_at pol r) (leaf.is_kind ∙ e) in
            let told : policy_at pol r ≡ Lock lock n = known ∙ ap (Lock lock) (lock-fits known leaf.is_number formed) in
            leaf-says c pol m (lock_leaf lock n r) told refl (lock-seen lock pol m r told);
        offers = λ m. lock-offers lock m (number % 0x1_0000_0000) r;
      })

  pub hash-leaf : (hash : HashKind) → kind ≡ hash_kind hash → x ≡ hash_leaf hash r → LeafOf kind number r x
  hash-leaf hash e is =
      subst (LeafOf kind number r) (sym is)
      (record {
        says =
            λ pol m leaf formed key c.
            let known = is-hash hash (policy_at pol r) (leaf.is_kind ∙ e) in
            leaf-says c pol m (hash_leaf hash r) known refl (hash-seen hash pol m r known);
        offers = λ m. hash-offers hash m r;
      })

  -- any other leaf but a key is Unsatisfiable
  pub false-leaf : NoOther kind → x ≡ false_candidate → LeafOf kind number r x
  false-leaf none is =
      subst (LeafOf kind number r) (sym is)
      (record {
        says =
            λ pol m leaf formed key c.
            let first = only-first kind none leaf.low key (λ z. some-kind (policy_at pol r) (leaf.is_kind ∙ z)) in
            leaf-says c pol m false_candidate (is-unsatisfiable (policy_at pol r) (leaf.is_kind ∙ first)) refl (false-seen pol m);
        offers = false-offers;
      })
