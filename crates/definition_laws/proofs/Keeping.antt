-- How laws of computations are put together: what is answered, refused, done in turn and chosen keeps what its parts keep.
use mathlib.Core.Bool.{Bool, true, false, cond}
use mathlib.Core.List.{List, ◌∷◌}
use mathlib.Core.Path.{◌≡◌, refl}
use Prim.Native.Nat.{ℕ, suc}
use native.Mathlib.Nat.{le_refl, le_trans}
use native.Mathlib.Omega.{arith}
use borrow.Author.Tests.{leb-true}
use lib.Dec.{leb}
use lib.ListN.{length}
use Rattle.contexts.specs.declared.Context.{Context}
use Rattle.policies.specs.Policy.{Policy}
use Rattle.definition.specs.Tables.{Probs, Table}
use Rattle.definition.specs.Refusals.{State, state, Res, done, refused, M, then, ◌>>=◌, pure, refuse, accept, store}
use Rattle.definition.specs.Refusals.{max_accepted, max_tables, NodesFull, CacheFull}
use Rattle.definition_laws.specs.Laws.{◌and◌, Onto, same, more, Grown, Proper, ProperState}
use Rattle.definition_laws.specs.Laws.{Refusal, Gives, refuses, gives, Keeps}

-- ---- growth

onto-trans : {A : Type 0} {xs ys zs : List A} → Onto xs ys → Onto ys zs → Onto xs zs
onto-trans p same = p
onto-trans p (more q) = more (onto-trans p q)

pub grown-same : (s : State) → Grown s s
grown-same s = record { counted = le_refl _; added = same }

pub grown-trans : {s t u : State} → Grown s t → Grown t u → Grown s u
grown-trans g h = record { counted = le_trans g.counted h.counted; added = onto-trans g.added h.added }

-- ---- answers, refusals, steps in turn and choices

module _ {A : Type 0} {c : Context} {P : A → Type 0} where
  pub pure-keeps : {a : A} → P a → Keeps c P (pure a)
  pure-keeps h = record { from = λ s g. gives h g (grown-same s) }

  pub refuse-keeps : (e : ℕ) → Refusal e → Keeps c P (refuse e)
  refuse-keeps e n = record { from = λ s g. refuses n }

  pub cond-keeps : {m n : M A} (b : Bool) → (b ≡ true → Keeps c P m) → (b ≡ false → Keeps c P n) → Keeps c P (cond b m n)
  cond-keeps true h k = h refl
  cond-keeps false h k = k refl

  onward : {s t : State} {r : Res A} → Grown s t → Gives c P t r → Gives c P s r
  onward g (refuses n) = refuses n
  onward g (gives h p k) = gives h p (grown-trans g k)

pub bind-keeps : {A B : Type 0} {c : Context} {P : A → Type 0} {Q : B → Type 0} {m : M A} {k : A → M B} →
    Keeps c P m → ((a : A) → P a → Keeps c Q (k a)) → Keeps c Q (m >>= k)
unfolding then
bind-keeps {c} {P} {Q} {k} h n = record { from = λ s g. next (h.from s g) }
  where
    next : {s : State} {r : Res _} → Gives c P s r → Gives c Q s (then r k)
    next (refuses n) = refuses n
    next (gives {a} {s'} p g l) = onward l ((n a p).from s' g)

-- what holds of all answers may be weakened
pub weaken : {A : Type 0} {c : Context} {P Q : A → Type 0} {m : M A} → ((a : A) → P a → Q a) → Keeps c P m → Keeps c Q m
weaken {c} {P} {Q} w h = record { from = λ s g. each (h.from s g) }
  where
    each : {s : State} {r : Res _} → Gives c P s r → Gives c Q s r
    each (refuses n) = refuses n
    each (gives {a} p g l) = gives (w a p) g l

-- ---- the two computations that change the state

pub accept-keeps : {c : Context} → Keeps c (λ _. Unit {0}) accept
accept-keeps {c} = record { from = λ s g. by-test s g (leb (suc s.accepted) max_accepted) refl }
  where
    by-test : (s : State) → ProperState c s → (b : Bool) → leb (suc s.accepted) max_accepted ≡ b →
        Gives c (λ _. Unit {0}) s (cond b (done (tt {0}) (state (suc s.accepted) s.stored)) (refused NodesFull))
    by-test s g true e =
        gives {s' = state (suc s.accepted) s.stored} tt (record { tables = g.tables; nodes = leb-true _ _ e; slots = g.slots })
        (record { counted = omega arith; added = same })
    by-test s g false e = refuses {e = NodesFull} (omega arith)

pub store_keeps : {c : Context} (q : Policy) (p : Probs) (t : Table) → Proper c t → Keeps c (λ _. Unit {0}) (store q p t)
store_keeps {c} q p t h = record { from = λ s g. by-test s g (leb (suc (length s.stored)) max_tables) refl }
  where
    by-test : (s : State) → ProperState c s → (b : Bool) → leb (suc (length s.stored)) max_tables ≡ b →
        Gives c (λ _. Unit {0}) s
        (cond b (done (tt {0}) (state s.accepted (record { policy = q; at = p; table = t } ∷ s.stored))) (refused CacheFull))
    by-test s g true e =
        gives tt (record { tables = h and g.tables; nodes = g.nodes; slots = leb-true _ _ e })
        (record { counted = le_refl _; added = more same })
    by-test s g false e = refuses {e = CacheFull} (omega arith)
