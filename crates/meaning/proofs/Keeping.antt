-- Computations of the definition that keep what candidates mean: how such laws are put together. Every remembered table means its policy.
use mathlib.Core.Bool.{Bool, true, false, cond}
use mathlib.Core.Path.{◌≡◌, refl}
use mathlib.Core.List.{List, ◌∷◌}
use Prim.Native.Nat.{ℕ, suc}
use lib.Dec.{leb}
use lib.ListN.{length}
use Rattle.policies.specs.Policy.{Policy}
use Rattle.definition.specs.Candidates.{Candidate}
use Rattle.definition.specs.Tables.{Probs, Table}
use Rattle.definition.specs.Refusals.{State, state, Res, done, refused, M, then, ◌>>=◌, pure, refuse, accept, store}
use Rattle.definition.specs.Refusals.{max_accepted, max_tables, NodesFull, CacheFull}
use Rattle.definition_laws.specs.Laws.{All, ◌and◌}
use Rattle.meaning.specs.Meaning.{Assignment, policy_means, tree_means}

module _ (a : Assignment) where
  -- a candidate means v, and so do all entries of a table
  pub record Means (v : Bool) (x : Candidate) : Type 0 where
    pub means : tree_means a x.tree ≡ v

  abbrev pub AllMean : Bool → Table → Type 0
  AllMean v t = All (Means v) t

  pub record MeantState (s : State) : Type 0 where
    pub tables : All (λ r. AllMean (policy_means a r.policy) r.table) s.stored

  -- a refusal, or an answer that is as P says, and a state whose tables mean their policies
  pub data Gives {A : Type 0} (P : A → Type 0) : Res A → Type 0 where
    refuses : {e : ℕ} → Gives P (refused e)
    gives : {x : A} {s : State} → P x → MeantState s → Gives P (done x s)

  pub record Keeps {A : Type 0} (P : A → Type 0) (m : M A) : Type 0 where
    pub from : (s : State) → MeantState s → Gives P (m s)

  pub pure-keeps : {A : Type 0} {P : A → Type 0} {x : A} → P x → Keeps P (pure x)
  pure-keeps h = record { from = λ s g. gives h g }

  pub refuse-keeps : {A : Type 0} {P : A → Type 0} (e : ℕ) → Keeps P (refuse e)
  refuse-keeps e = record { from = λ s g. refuses }

  pub cond-keeps : {A : Type 0} {P : A → Type 0} {m n : M A} (b : Bool) → (b ≡ true → Keeps P m) → (b ≡ false → Keeps P n) →
      Keeps P (cond b m n)
  cond-keeps true h k = h refl
  cond-keeps false h k = k refl

  pub bind-keeps : {A B : Type 0} {P : A → Type 0} {Q : B → Type 0} {m : M A} {k : A → M B} →
      Keeps P m → ((x : A) → P x → Keeps Q (k x)) → Keeps Q (m >>= k)
  unfolding then
  bind-keeps {P} {Q} {k} h n = record { from = λ s g. next (h.from s g) }
    where
      next : {r : Res _} → Gives P r → Gives Q (then r k)
      next refuses = refuses
      next (gives {x} {s} p g) = (n x p).from s g

  -- ---- the two computations that change the state

  pub accept-keeps : Keeps (λ _. Unit {0}) accept
  accept-keeps = record { from = λ s g. by-test s g (leb (suc s.accepted) max_accepted) }
    where
      by-test : (s : State) → MeantState s → (b : Bool) →
          Gives (λ _. Unit {0}) (cond b (done (tt {0}) (state (suc s.accepted) s.stored)) (refused NodesFull))
      by-test s g true = gives {s = state (suc s.accepted) s.stored} tt (record { tables = g.tables })
      by-test s g false = refuses

  pub store_keeps : (q : Policy) (p : Probs) (t : Table) → AllMean (policy_means a q) t → Keeps (λ _. Unit {0}) (store q p t)
  store_keeps q p t h = record { from = λ s g. by-test s g (leb (suc (length s.stored)) max_tables) }
    where
      by-test : (s : State) → MeantState s → (b : Bool) →
          Gives (λ _. Unit {0})
          (cond b (done (tt {0}) (state s.accepted (record { policy = q; at = p; table = t } ∷ s.stored))) (refused CacheFull))
      by-test s g true = gives tt (record { tables = h and g.tables })
      by-test s g false = refuses
