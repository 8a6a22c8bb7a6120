-- Once every cast of a remembered table was offered to a table, offering them again changes nothing (specs/Settled.antt): whatever is offered or
-- dropped later, what an entry met is met still. Assumes nothing.
use mathlib.Core.Bool.{Bool, true, false, cond, not, ◌&&◌, true≢false}
use mathlib.Core.List.{List, [], ◌∷◌}
use Rattle.std.specs.Prelude.{Option, None, Some}
use mathlib.Core.Path.{◌≡◌, refl, sym, ap, subst, ◌∙◌}
use Prim.Native.Nat.{ℕ, zero, suc, ◌*◌}
use native.Mathlib.Omega.{arith}
use borrow.Author.Tests.{eq-eqb}
use lib.Dec.{leb}
use lib.Ieee.{Float, nan, inf, fin, eq, level, up, down}
use lib.ListN.{length}
use Rattle.contexts.specs.declared.Context.{Context}
use Rattle.contexts.proofs.Bools.{and_l, and_r}
use Rattle.costs.specs.declared.Price.{Price}
use Rattle.costs.specs.declared.Price.TheVariants as Price
use Rattle.costs.specs.Price.{is_price, at_most}
use Rattle.costs.specs.Probabilities.{same_prob}
use Rattle.policies.specs.Policy.{Policy}
use Rattle.definition.specs.Candidates.{Candidate, Cast, all_casts, Made, passed_over, missing, made}
use Rattle.definition.specs.Tables.{Probs, probs, Table, cost_at, key_sub}
use Rattle.definition.specs.SamePolicy.{same}
use Rattle.definition.specs.Refusals.{State, state, Stored, Res, done, refused, M, then, ◌>>=◌, pure, refuse, accept, lookup, same_probs}
use Rattle.definition.specs.Refusals.{max_accepted, max_entries, max_tables, max_pops, FuelSpent, TableFull, NotACost, NodesFull, CacheFull}
use Rattle.definition.specs.Insertion.{if_priced, any, filter, worthwhile, beats, Offered, insert, Queued, queued, offer, cast_all, next}
use Rattle.definition.specs.Insertion.{closure, insert_closure}
use Rattle.definition.specs.Search.{redo, for_each, inserted_if_typed, casts_of, wrapped, wrapped_if_made, remembering, kept, without, search}
use Rattle.definition_laws.specs.Laws.{All, nobody, ◌and◌, IfSome, none_is, some_is}
use Rattle.definition_laws.specs.NothingBetter.{SomeOf, here, later}
use Rattle.definition_laws.specs.Bodies.{body_in}
use Rattle.definition_laws.specs.Settled.{TurnsAway, AllAway, Settled}
use Rattle.definition_laws.proofs.SamePolicies.{same_self}
use Rattle.definition_laws.proofs.Sorting.{all_map}
use Rattle.definition_laws.proofs.Bodies.{search_is}
use Rattle.definition_laws.proofs.NothingBetter.{Left, unworthy, beaten, enters, Met, left-met, left-offered}
use Rattle.definition_laws.proofs.Steps.{then-done, then-refused, insert-unworthy, insert-beaten, offer-some, closure-nobody, insert_closure-is}
use Rattle.definition_laws.proofs.Steps.{for_each-none, for_each-next, casts_of-none, casts_of-next, wrapped-redo}
use Rattle.definition_laws.proofs.Steps.{lookup-found, lookup-other, lookup-none, remembering-found, remembering-new, kept-kept, kept_full}

-- ---- computations that remember no table

pub data Quiet {A : Type 0} (P : A → Type 0) (s : State) : Res A → Type 0 where
  stops : {e : ℕ} → Quiet P s (refused e)
  goes : {a : A} {s' : State} → s'.stored ≡ s.stored → P a → Quiet P s (done a s')

record Quietly {A : Type 0} (P : A → Type 0) (m : M A) : Type 0 where
  from : (s : State) → Quiet P s (m s)

module _ {A : Type 0} {P : A → Type 0} where
  pure_quiet : {a : A} → P a → Quietly P (pure a)
  pure_quiet h = record { from = λ s. goes refl h }

  refuse-quiet : (e : ℕ) → Quietly P (refuse e)
  refuse-quiet e = record { from = λ s. stops }

  cond-quiet : {m n : M A} (b : Bool) → (b ≡ true → Quietly P m) → (b ≡ false → Quietly P n) → Quietly P (cond b m n)
  cond-quiet true h k = h refl
  cond-quiet false h k = k refl

  onward : {s t : State} {r : Res A} → t.stored ≡ s.stored → Quiet P t r → Quiet P s r
  onward e stops = stops
  onward e (goes k h) = goes (k ∙ e) h

then-quiet : {A B : Type 0} {P : A → Type 0} {Q : B → Type 0} {k : A → M B} {s : State} {r : Res A} → Quiet P s r →
    ((a : A) (s' : State) → s'.stored ≡ s.stored → P a → Quiet Q s' (k a s')) → Quiet Q s (then r k)
unfolding then
then-quiet stops n = stops
then-quiet (goes {a} {s'} e h) n = onward e (n a s' e h)

bind-quiet : {A B : Type 0} {P : A → Type 0} {Q : B → Type 0} {m : M A} {k : A → M B} →
    Quietly P m → ((a : A) → P a → Quietly Q (k a)) → Quietly Q (m >>= k)
bind-quiet h n = record { from = λ s. then-quiet (h.from s) (λ a s' e k. (n a k).from s') }

weaken : {A : Type 0} {P Q : A → Type 0} {m : M A} → ((a : A) → P a → Q a) → Quietly P m → Quietly Q m
weaken {P} {Q} w h = record { from = λ s. each (h.from s) }
  where
    each : {s : State} {r : Res _} → Quiet P s r → Quiet Q s r
    each stops = stops
    each (goes {a} e k) = goes e (w a k)

accept-quiet : Quietly (λ _. Unit {0}) accept
accept-quiet = record { from = λ s. by-test s (leb (suc s.accepted) max_accepted) }
  where
    by-test : (s : State) (b : Bool) →
        Quiet (λ _. Unit {0}) s (cond b (done (tt {0}) (state (suc s.accepted) s.stored)) (refused NodesFull))
    by-test s true = goes refl tt
    by-test s false = stops

-- ---- offers: what an entry met is met still, and what was offered is turned away from then on

-- what is met in the first table is met in the second
record Onto (p : Probs) (t u : Table) : Type 0 where
  met : (y : Candidate) → Met p y t → Met p y u

onto_same : {p : Probs} {t : Table} → Onto p t t
onto_same = record { met = λ y h. h }

onto-trans : {p : Probs} {t u v : Table} → Onto p t u → Onto p u v → Onto p t v
onto-trans a b = record { met = λ y h. b.met y (a.met y h) }

away-onto : (c : Context) {p : Probs} {t u : Table} → Onto p t u → {x : Option Candidate} → IfSome (TurnsAway c p t) x → IfSome (TurnsAway c p u) x
away-onto c o none_is = none_is
away-onto c o (some_is {x} h) = some_is (λ w. o.met x (h w))

module _ (c : Context) (p : Probs) where
  priced-quiet : {P : Offered → Type 0} {m : M Offered} (price : Price) → (is_price price ≡ true → Quietly P m) → Quietly P (if_priced price m)
  priced-quiet (Price.Finite x) h = h refl
  priced-quiet Price.Never h = h refl
  priced-quiet Price.NotACost h = refuse-quiet NotACost

  insert-left : (x : Candidate) (t : Table) → Quietly (λ o. Left c p x t o.table) (insert c p x t)
  unfolding insert
  insert-left x t =
      cond-quiet (worthwhile c x)
      (λ w. priced-quiet (cost_at p x)
      (λ i. cond-quiet (any (λ e. beats p e x) t)
      (λ b. pure_quiet (beaten b))
      (λ b. cond-quiet (leb (suc (length (filter (λ e. not (beats p x e)) t))) max_entries)
      (λ l. bind-quiet accept-quiet λ _ _. pure_quiet (enters i b))
      (λ l. refuse-quiet TableFull))))
      (λ w. pure_quiet (unworthy w))

  -- one offer
  insert-quiet : (x : Candidate) (t : Table) → Quietly (λ o. Onto p t o.table × TurnsAway c p o.table x) (insert c p x t)
  insert-quiet x t = weaken (λ o l. (record { met = left-met l }, left-offered l)) (insert-left x t)

  offer-quiet : (x : Option Candidate) (w : Queued) → Quietly (λ v. Onto p w.table v.table × IfSome (TurnsAway c p v.table) x) (offer c p x w)
  offer-quiet None w = pure_quiet (onto_same, none_is)
  offer-quiet (Some x) w = bind-quiet (insert-quiet x w.table) λ o k. pure_quiet (k.0, some_is k.1)

  cast_all-quiet : (x : Candidate) (fs : List Cast) (w : Queued) → Quietly (λ v. Onto p w.table v.table) (cast_all c p x fs w)
  unfolding cast_all
  cast_all-quiet x [] w = pure_quiet onto_same
  cast_all-quiet x (f ∷ fs) w = bind-quiet (offer-quiet (f x) w) λ w k. weaken (λ v l. onto-trans k.0 l) (cast_all-quiet x fs w)

  closure-quiet : (pops : ℕ) (w : Queued) → Quietly (λ t. Onto p w.table t) (closure c p pops w)
  unfolding closure
  closure-quiet zero w = spent w.queue
    where
      spent : (q : List Candidate) → Quietly (λ t. Onto p w.table t) (next q (pure w.table) λ x q. refuse FuelSpent)
      spent [] = pure_quiet onto_same
      spent (x ∷ q) = refuse-quiet FuelSpent
  closure-quiet (suc pops) w = popped w.queue (λ w. closure-quiet pops w)
    where
      popped : (q : List Candidate) → ((w : Queued) → Quietly (λ t. Onto p w.table t) (closure c p pops w)) →
          Quietly (λ t. Onto p w.table t)
          (next q (pure w.table) λ x q. cast_all c p x (all_casts c) (queued w.table q) >>= λ w. closure c p pops w)
      popped [] r = pure_quiet onto_same
      popped (x ∷ q) r = bind-quiet (cast_all-quiet x (all_casts c) (queued w.table q)) λ w k. weaken (λ t l. onto-trans k l) (r w)

  -- an offer with its closure
  closed-quiet : (x : Candidate) (t : Table) → Quietly (λ u. Onto p t u × IfSome (TurnsAway c p u) (Some x)) (insert_closure c p x t)
  unfolding insert_closure
  closed-quiet x t = bind-quiet (offer-quiet (Some x) (queued t [])) λ w k. weaken (λ u l. (onto-trans k.0 l, away-onto c l k.1)) (closure-quiet max_pops w)

  typed-quiet : (x : Option Candidate) (t : Table) → Quietly (λ u. Onto p t u × IfSome (TurnsAway c p u) x) (inserted_if_typed c p x t)
  typed-quiet None t = pure_quiet (onto_same, none_is)
  typed-quiet (Some x) t = closed-quiet x t

  each-quiet : (f : Cast) (xs t : Table) →
      Quietly (λ u. Onto p t u × All (λ x. IfSome (TurnsAway c p u) (f x)) xs) (for_each (λ x. inserted_if_typed c p (f x)) xs t)
  unfolding for_each
  each-quiet f [] t = pure_quiet (onto_same, nobody)
  each-quiet f (x ∷ xs) t =
      bind-quiet (typed-quiet (f x) t) λ t k. weaken (λ u l. (onto-trans k.0 l.0, away-onto c l.0 k.1 and l.1)) (each-quiet f xs t)

-- ---- the casts of a remembered table, all of them

module _ (c : Context) (q : Policy) (p : Probs) where
  -- what is remembered is found
  finds : (p : Probs) (s : State) {t : Table} → lookup q p s.stored ≡ Some t → search c q p s ≡ done t s
  finds p s l = ap (λ (m : M Table). m s) (search_is c q p) ∙ remembering-found q p (body_in c q p) s l

  all-away : {t u : Table} → Onto p t u → {fs : List Cast} {found : Table} → AllAway c p found fs t → AllAway c p found fs u
  all-away o h = all_map (λ f k. all_map (λ x l. away-onto c o l) k) h

  casts-quiet : (fs : List Cast) {found t : Table} (s : State) → lookup q (without p) s.stored ≡ Some found →
      Quiet (λ u. Onto p t u × AllAway c p found fs u) s (casts_of c p (search c q (without p)) fs t s)
  casts-quiet [] {found} {t} s l =
      subst (λ r. Quiet (λ u. Onto p t u × AllAway c p found [] u) s r)
      (sym (casts_of-none c p (search c q (without p)) t s)) (goes refl (onto_same, nobody))
  casts-quiet (f ∷ fs) {found} {t} s l =
      let rest : Table → M Table = λ t. casts_of c p (search c q (without p)) fs t in
      subst (λ r. Quiet (λ u. Onto p t u × AllAway c p found (f ∷ fs) u) s r)
      (sym
      (casts_of-next c p (search c q (without p)) f fs t s
      ∙ then-done (λ xs s. then (for_each (λ x. inserted_if_typed c p (f x)) xs t s) rest) (finds (without p) s l)))
      (then-quiet ((each-quiet c p f found t).from s)
      λ u s' e k. more k (casts-quiet fs s' (ap (λ ts. lookup q (without p) ts) e ∙ l)))
    where
      more : {u : Table} {s : State} {r : Res Table} → Onto p t u × All (λ x. IfSome (TurnsAway c p u) (f x)) found →
          Quiet (λ v. Onto p u v × AllAway c p found fs v) s r →
          Quiet (λ v. Onto p t v × AllAway c p found (f ∷ fs) v) s r
      more k stops = stops
      more k (goes e h) = goes e (onto-trans k.0 h.0, all_map (λ x l. away-onto c h.0 l) k.1 and h.1)

-- ---- what is turned away changes nothing

any_some : (q : Candidate → Bool) {t : Table} → SomeOf (λ x. q x ≡ true) t → any q t ≡ true
unfolding any
any_some q (here {x} {xs} h) = ap (λ b. cond b true (any q xs)) h
any_some q (later {x} {xs} h) = by-test (q x) (any_some q h)
  where
    by-test : (b : Bool) → any q xs ≡ true → cond b true (any q xs) ≡ true
    by-test true k = refl
    by-test false k = k

beats-priced : (p : Probs) (x : Candidate) {t : Table} → Met p x t → is_price (cost_at p x) ≡ true
beats-priced p x (here {x = e} h) = by-cost (cost_at p e) (cost_at p x) (and_r (key_sub e x) _ h)
  where
    by-cost : (a b : Price) → at_most a b ≡ true → is_price b ≡ true
    by-cost a (Price.Finite y) h = refl
    by-cost a Price.Never h = refl
    by-cost (Price.Finite y) Price.NotACost h = absurd (true≢false (sym h))
    by-cost Price.Never Price.NotACost h = absurd (true≢false (sym h))
    by-cost Price.NotACost Price.NotACost h = absurd (true≢false (sym h))
beats-priced p x (later h) = beats-priced p x h

module _ (c : Context) (p : Probs) where
  insert-away : (x : Candidate) (t : Table) (s : State) → TurnsAway c p t x → insert c p x t s ≡ done (record { table = t; accepted = false }) s
  insert-away x t s h = by-test (worthwhile c x) refl
    where
      by-test : (b : Bool) → worthwhile c x ≡ b → insert c p x t s ≡ done (record { table = t; accepted = false }) s
      by-test true w = insert-beaten c p x t s w (beats-priced p x (h w)) (any_some _ (h w))
      by-test false w = insert-unworthy c p x t s w

  closed-away : (x : Candidate) (t : Table) (s : State) → TurnsAway c p t x → insert_closure c p x t s ≡ done t s
  closed-away x t s h =
      insert_closure-is c p x t s
      ∙ then-done (λ w. closure c p max_pops w) {r = offer c p (Some x) (queued t []) s} (then-done _ (insert-away x t s h))
      ∙ closure-nobody c p max_pops t s

  typed-away : (x : Option Candidate) (t : Table) (s : State) → IfSome (TurnsAway c p t) x → inserted_if_typed c p x t s ≡ done t s
  typed-away None t s h = refl
  typed-away (Some x) t s (some_is h) = closed-away x t s h

  each-away : (f : Cast) (xs t : Table) (s : State) → All (λ (x : Candidate). IfSome (TurnsAway c p t) (f x)) xs →
      for_each (λ x. inserted_if_typed c p (f x)) xs t s ≡ done t s
  each-away f [] t s h = for_each-none _ t s
  each-away f (x ∷ xs) t s (h and hs) =
      for_each-next (λ x. inserted_if_typed c p (f x)) x xs t s
      ∙ then-done (λ t. for_each (λ x. inserted_if_typed c p (f x)) xs t) (typed-away (f x) t s h)
      ∙ each-away f xs t s hs

  casts-away : (q : Policy) (fs : List Cast) (found t : Table) (s : State) → lookup q (without p) s.stored ≡ Some found → AllAway c p found fs t →
      casts_of c p (search c q (without p)) fs t s ≡ done t s
  casts-away q [] found t s l h = casts_of-none c p _ t s
  casts-away q (f ∷ fs) found t s l (h and hs) =
      let again = search c q (without p) in
      let rest : Table → M Table = λ t. casts_of c p again fs t in
      casts_of-next c p again f fs t s
      ∙ then-done (λ xs s. then (for_each (λ x. inserted_if_typed c p (f x)) xs t s) rest) (finds c q p (without p) s l)
      ∙ then-done rest (each-away f found t s h)
      ∙ casts-away q fs found t s l hs

-- ---- a settled table

quiet-done : {A : Type 0} {P : A → Type 0} {s s' : State} {a : A} {r : Res A} → Quiet P s r → r ≡ done a s' → (s'.stored ≡ s.stored) × P a
quiet-done {P} {s} {s'} {a} q e = told (subst (λ r. Quiet P s r) e q)
  where
    told : Quiet P s (done a s') → (s'.stored ≡ s.stored) × P a
    told (goes e h) = (e, h)

module _ (c : Context) (q : Policy) (p : Probs) where
  kept-settled : {s : State} {s' : State} {t u : Table} → Settled c q p s t → s'.stored ≡ s.stored → Onto p t u → Settled c q p s' u
  kept-settled h e o =
      record {
        found = h.found;
        remembered = ap (λ ts. lookup q (without p) ts) e ∙ h.remembered;
        away = all-away c q p o h.away;
      }

  -- the casts need not be offered again
  pub settled-skips : {s : State} {t : Table} → Settled c q p s t → (x : Candidate) →
      wrapped c p (redo (search c q (without p))) x t s ≡ insert_closure c p x t s
  unfolding then
  settled-skips {s} {t} h x = wrapped-redo c p (search c q (without p)) x t s ∙ skip ((closed-quiet c p x t).from s)
    where
      skip : {r : Res Table} → Quiet (λ u. Onto p t u × IfSome (TurnsAway c p u) (Some x)) s r →
          then r (λ u. casts_of c p (search c q (without p)) (all_casts c) u) ≡ r
      skip stops = refl
      skip (goes {a = u} {s'} e k) =
          let on : Settled c q p s' u = kept-settled h e k.0 in
          casts-away c p q (all_casts c) on.found u s' on.remembered on.away

  -- and the table stays settled
  pub settled-stays : {s s' : State} {t u : Table} → Settled c q p s t → (x : Made) →
      wrapped_if_made c p (redo (search c q (without p))) x t s ≡ done u s' → Settled c q p s' u
  settled-stays {s} {s'} {t} {u} h passed_over e = let k = quiet-done {P = λ u. Onto p t u} {s = s} (goes refl onto_same) e in kept-settled h k.0 k.1
  settled-stays {s} {s'} {t} {u} h missing e = let z : ◌≡◌ {A = ℕ} 0 1 = cc in absurd (omega (arith, z))
  settled-stays {s} {s'} {t} {u} h (made x) e =
      let k = quiet-done ((closed-quiet c p x t).from s) (sym (settled-skips h x) ∙ e) in kept-settled h k.0 k.1.0

-- ---- how a table settles: what a search remembered is found again, unless the probability is no number, and then nothing is ever found

eq_self : (x y : Float) → eq x y ≡ true → eq x x ≡ true
unfolding eq
eq_self nan y h = h
eq_self (inf false) y h = refl
eq_self (inf true) y h = refl
eq_self (fin s m e) y h = level-self s (m * up e * down e)
  where
    level-self : (s : Bool) (a : ℕ) → level s a s a ≡ true
    level-self true a = rw (eq-eqb a a refl)
    level-self false a = rw (eq-eqb a a refl)

lookup-self : (q : Policy) (p : Probs) (ts : List Stored) {t : Table} → lookup q p ts ≡ Some t → eq p.sat p.sat ≡ true
lookup-self q p [] {t} h = absurd (let e : None ≡ Some t = sym (lookup-none q p) ∙ h in let z : ◌≡◌ {A = ℕ} 0 1 = cc in omega (arith, z))
lookup-self q p (x ∷ ts) h = by-test (same q x.policy && same_probs p x.at) refl (λ t k. lookup-self q p ts k)
  where
    by-test : (b : Bool) → (same q x.policy && same_probs p x.at) ≡ b → ((t : Table) → lookup q p ts ≡ Some t → eq p.sat p.sat ≡ true)
        → eq p.sat p.sat ≡ true
    by-test true e r = eq_self p.sat x.at.sat (and_l _ (same_prob p.dissat x.at.dissat) (and_r (same q x.policy) _ e))
    by-test false e r = r _ (sym (lookup-other q p x ts e) ∙ h)

module _ (c : Context) (q : Policy) (p : Probs) (number : eq p.sat p.sat ≡ true) where
  -- the test of a key against itself
  self-same : (same q q && same_probs (without p) (without p)) ≡ true
  self-same = rw (same_self q, number)

  keeps : (t : Table) (s : State) {u : Table} {s' : State} → kept q (without p) t s ≡ done u s' → lookup q (without p) s'.stored ≡ Some u
  keeps [] s h = absurd (let z : ◌≡◌ {A = ℕ} 0 1 = cc in omega (arith, z))
  keeps (x ∷ xs) s {u} {s'} h = by-room (leb (suc (length s.stored)) max_tables) refl
    where
      one : Stored
      one = record { policy = q; at = without p; table = x ∷ xs }

      told : {a : Table} {v : State} → done a v ≡ done u s' → lookup q (without p) v.stored ≡ Some a → lookup q (without p) s'.stored ≡ Some u
      told {a} {v} e l = let same-table : a ≡ u = cc in let same-state : v ≡ s' = cc in rw (same-table, same-state) at l

      by-room : (b : Bool) → leb (suc (length s.stored)) max_tables ≡ b → lookup q (without p) s'.stored ≡ Some u
      by-room true e = told (sym (kept-kept q (without p) x xs s e) ∙ h) (lookup-found q (without p) one s.stored self-same)
      by-room false e =
          let z : refused CacheFull ≡ done u s' = sym (kept_full q (without p) x xs s e) ∙ h in
          absurd (let z : ◌≡◌ {A = ℕ} 0 1 = cc in omega (arith, z))

  -- the table that a search gives is remembered
  search-keeps : (s : State) {t : Table} {s' : State} → search c q (without p) s ≡ done t s' → lookup q (without p) s'.stored ≡ Some t
  unfolding then
  search-keeps s {t} {s'} h = by-lookup (lookup q (without p) s.stored) refl
    where
      again : remembering q (without p) (body_in c q (without p)) s ≡ done t s'
      again = sym (ap (λ (m : M Table). m s) (search_is c q (without p))) ∙ h

      by-body : (r : Res Table) → then r (λ t. kept q (without p) t) ≡ done t s' → lookup q (without p) s'.stored ≡ Some t
      by-body (done u v) e = keeps u v e
      by-body (refused n) e = absurd (let z : ◌≡◌ {A = ℕ} 0 1 = cc in omega (arith, z))

      by-lookup : (o : Option Table) → lookup q (without p) s.stored ≡ o → lookup q (without p) s'.stored ≡ Some t
      by-lookup (Some u) e =
          let is : done u s ≡ done t s' = sym (remembering-found q (without p) (body_in c q (without p)) s e) ∙ again in
          let same-table : u ≡ t = cc in
          let same-state : s ≡ s' = cc in
          ap (λ (s : State). lookup q (without p) s.stored) (sym same-state) ∙ e ∙ ap Some same-table
      by-lookup None e = by-body (body_in c q (without p) s) (sym (remembering-new q (without p) (body_in c q (without p)) s e) ∙ again)

  -- the casts, once they were offered
  casts-settle : (f : Cast) (fs : List Cast) (t : Table) (s : State) {u found : Table} {s' : State} →
      casts_of c p (search c q (without p)) (f ∷ fs) t s ≡ done u s' → lookup q (without p) s'.stored ≡ Some found → AllAway c p found (f ∷ fs) u
  casts-settle f fs t s {u} {found} {s'} h l = by_answer (search c q (without p) s) refl
    where
      rest : Table → M Table
      rest t = casts_of c p (search c q (without p)) fs t

      step : Table → M Table
      step xs s = then (for_each (λ x. inserted_if_typed c p (f x)) xs t s) rest

      by_answer : (r : Res Table) → search c q (without p) s ≡ r → AllAway c p found (f ∷ fs) u
      by_answer (refused n) e =
          let z : refused n ≡ done u s' = sym (casts_of-next c p (search c q (without p)) f fs t s ∙ then-refused step e) ∙ h in
          absurd (let z : ◌≡◌ {A = ℕ} 0 1 = cc in omega (arith, z))
      by_answer (done xs s₁) e =
          let there : lookup q (without p) s₁.stored ≡ Some xs = search-keeps s e in
          let same-steps : casts_of c p (search c q (without p)) (f ∷ fs) t s₁ ≡ done u s' =
          casts_of-next c p (search c q (without p)) f fs t s₁
          ∙ then-done step (finds c q p (without p) s₁ there)
          ∙ sym (casts_of-next c p (search c q (without p)) f fs t s ∙ then-done step e)
          ∙ h in
          let k = quiet-done (casts-quiet c q p (f ∷ fs) s₁ there) same-steps in
          let is : Some found ≡ Some xs = sym l ∙ ap (λ ts. lookup q (without p) ts) k.0 ∙ there in
          let same-table : xs ≡ found = cc in
          subst (λ xs. AllAway c p xs (f ∷ fs) u) same-table k.1.1

-- a candidate was wrapped, and the policy's table without dissatisfaction is remembered
pub settles : (c : Context) (q : Policy) (p : Probs) (x : Candidate) (t : Table) (s : State) {s' : State} {u found : Table} →
    wrapped c p (redo (search c q (without p))) x t s ≡ done u s' → lookup q (without p) s'.stored ≡ Some found → Settled c q p s' u
unfolding then
settles c q p x t s {s'} {u} {found} h l =
    record { found = found; remembered = l; away = by_answer (insert_closure c p x t s) (sym (wrapped-redo c p (search c q (without p)) x t s) ∙ h) }
  where
    by_answer : (r : Res Table) → then r (λ u. casts_of c p (search c q (without p)) (all_casts c) u) ≡ done u s' → AllAway c p found (all_casts c) u
    by_answer (done v s₁) e = casts-settle c q p (lookup-self q (without p) s'.stored l) _ _ v s₁ e l
    by_answer (refused n) e = absurd (let z : ◌≡◌ {A = ℕ} 0 1 = cc in omega (arith, z))
