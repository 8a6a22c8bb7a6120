-- Insertion and the closure of casts keep a table proper: every entry is well-typed, worth an offer and of a cost, and the table is sorted.
use mathlib.Core.Bool.{Bool, true, false, cond, not, ◌&&◌, true≢false}
use mathlib.Core.List.{List, [], ◌∷◌, ◌++◌}
use Rattle.std.specs.Prelude.{Option}
use mathlib.Core.Path.{◌≡◌, refl, sym, subst}
use mathlib.Core.Logic.{◌⊎◌, inl, inr}
use Prim.Native.Nat.{ℕ, zero, suc, ◌≤◌}
use native.Mathlib.Omega.{arith}
use borrow.Author.Tests.{leb-true, not-true}
use lib.Dec.{T, leb}
use lib.ListN.{length}
use Rattle.contexts.specs.declared.Context.{Context}
use Rattle.costs.specs.declared.Price.{Price}
use Rattle.costs.specs.declared.Price.TheVariants as Price
use Rattle.costs.specs.Price.{is_price, at_most}
use Rattle.costs.proofs.PriceLaws.{at-most-total}
use Rattle.definition.specs.Candidates.{Candidate, Cast, all_casts}
use Rattle.definition.specs.Tables.{Probs, Table, cost_at, key_sub, enter}
use Rattle.definition.specs.Refusals.{M, ◌>>=◌, pure, refuse, max_entries, max_pops, FuelSpent, TableFull, NotACost}
use Rattle.definition.specs.Insertion.{if_priced, any, filter, worthwhile, beats, Offered, insert, Queued, queued, offer, cast_all, next}
use Rattle.definition.specs.Insertion.{closure, insert_closure}
use Rattle.definition_laws.specs.Laws.{All, nobody, ◌and◌, IfSome, none_is, some_is, Good, Entry, Sorted, ProperAt, Keeps}
use Rattle.definition_laws.proofs.Typed.{CastsWell, casts-good}
use Rattle.definition_laws.proofs.Keys.{same_key}
use Rattle.definition_laws.proofs.Sorting.{all_map, all_both, all_filter, filter-holds, none-does, all-enter}
use Rattle.definition_laws.proofs.Sorting.{enter-length, filter-sorted, enter-sorted, OtherKey}
use Rattle.definition_laws.proofs.Keeping.{pure-keeps, refuse-keeps, cond-keeps, bind-keeps, accept-keeps}

-- ---- insert

-- of two candidates of one key one beats the other, if their costs can be compared
other_key : (p : Probs) (x e : Candidate) → is_price (cost_at p x) ≡ true → is_price (cost_at p e) ≡ true →
    beats p e x ≡ false → beats p x e ≡ false → OtherKey x e
other_key p x e i j h k same = by-cost (at-most-total (cost_at p e) (cost_at p x) j i)
  where
    beaten : (a b : Bool) → a ≡ true → T b → a && b ≡ false → ⊥
    beaten true true s c h = true≢false h
    beaten true false s c h = c
    beaten false b s c h = true≢false (sym s)

    by-cost : T (at_most (cost_at p e) (cost_at p x)) ⊎ T (at_most (cost_at p x) (cost_at p e)) → ⊥
    by-cost (inl c) = beaten (key_sub e x) _ (same_key e x same) c h
    by-cost (inr c) = beaten (key_sub x e) _ (same_key x e (sym same)) c k

-- the entries that are left when a candidate enters have keys other than its own
other_keys : {c : Context} (p : Probs) (x : Candidate) {t : Table} → ProperAt c p t → is_price (cost_at p x) ≡ true →
    any (λ e. beats p e x) t ≡ false → All (OtherKey x) (filter (λ e. not (beats p x e)) t)
other_keys p x {t} h i a =
    all_map (λ e f. other_key p x e i f.0.0 f.0.1 (not-true _ f.1))
    (all_both (all_filter _ (all_both h.costs (none-does _ t a))) (filter-holds (λ e. not (beats p x e)) t))

enters : {c : Context} (p : Probs) (x : Candidate) (kept : Table) → Entry c x → is_price (cost_at p x) ≡ true →
    All (Entry c) kept → Sorted kept → All (λ e. is_price (cost_at p e) ≡ true) kept → All (OtherKey x) kept → suc (length kept) ≤ max_entries →
    ProperAt c p (enter x kept)
enters p x kept g i es s is os l = record {
  proper = record { entries = all-enter x g es; sorted = enter-sorted x s os; fits = subst (λ n. n ≤ max_entries) (sym (enter-length x kept)) l };
  costs = all-enter x i is;
}

-- the table after an offer is proper
abbrev pub OfferedWell : Context → Probs → Offered → Type 0
OfferedWell c p o = ProperAt c p o.table

priced-keeps : {c : Context} {P : Offered → Type 0} {m : M Offered} (price : Price) → (is_price price ≡ true → Keeps c P m) → Keeps c P (if_priced price m)
priced-keeps (Price.Finite x) h = h refl
priced-keeps Price.Never h = h refl
priced-keeps Price.NotACost h = refuse-keeps NotACost (omega arith)

pub insert-keeps : {c : Context} {p : Probs} {x : Candidate} {t : Table} → Good c x → ProperAt c p t → Keeps c (OfferedWell c p) (insert c p x t)
unfolding insert
insert-keeps {c} {p} {x} {t} g h =
    cond-keeps (worthwhile c x)
    (λ w. priced-keeps (cost_at p x)
    (λ i. cond-keeps (any (λ e. beats p e x) t)
    (λ b. pure-keeps h)
    (λ b. cond-keeps (leb (suc (length kept)) max_entries)
    (λ l. bind-keeps accept-keeps λ _ _. pure-keeps (enters p x kept (record { good = g; worth = w }) i
    (all_filter _ h.proper.entries) (filter-sorted _ h.proper.sorted) (all_filter _ h.costs) (other_keys p x h i b)
    (leb-true _ _ l)))
    (λ l. refuse-keeps TableFull (omega arith)))))
    (λ w. pure-keeps h)
  where
    kept : Table
    kept = filter (λ e. not (beats p x e)) t

-- ---- the closure

-- a proper table, and good candidates that wait
pub record QueuedWell (c : Context) (p : Probs) (w : Queued) : Type 0 where
  pub table : ProperAt c p w.table
  pub queue : All (Good c) w.queue

pub all_append : {A : Type 0} {P : A → Type 0} {xs ys : List A} → All P xs → All P ys → All P (xs ++ ys)
all_append nobody k = k
all_append (h and hs) k = h and all_append hs k

pub offer-keeps : {c : Context} {p : Probs} {x : Option Candidate} {w : Queued} → IfSome (Good c) x → QueuedWell c p w →
    Keeps c (QueuedWell c p) (offer c p x w)
offer-keeps none_is h = pure-keeps h
offer-keeps {c} {p} {w} (some_is {x} g) h =
    bind-keeps (insert-keeps g h.table) λ o k. pure-keeps (record { table = k; queue = waits o.accepted })
  where
    waits : (b : Bool) → All (Good c) (cond b (w.queue ++ x ∷ []) w.queue)
    waits true = all_append h.queue (g and nobody)
    waits false = h.queue

pub cast_all-keeps : {c : Context} {p : Probs} {x : Candidate} {fs : List Cast} {w : Queued} → Good c x → All (CastsWell c) fs → QueuedWell c p w →
    Keeps c (QueuedWell c p) (cast_all c p x fs w)
unfolding cast_all
cast_all-keeps g nobody h = pure-keeps h
cast_all-keeps {x} g (f and fs) h = bind-keeps (offer-keeps (f x g) h) λ w k. cast_all-keeps g fs k

pub closure-keeps : {c : Context} {p : Probs} (pops : ℕ) {w : Queued} → QueuedWell c p w → Keeps c (ProperAt c p) (closure c p pops w)
unfolding closure
closure-keeps {c} {p} zero {w} h = spent h.queue
  where
    spent : {q : List Candidate} → All (Good c) q → Keeps c (ProperAt c p) (next q (pure w.table) λ x q. refuse FuelSpent)
    spent nobody = pure-keeps h.table
    spent (g and gs) = refuse-keeps FuelSpent (omega arith)
closure-keeps {c} {p} (suc pops) {w} h = popped h.queue (λ w k. closure-keeps pops k)
  where
    popped : {q : List Candidate} → All (Good c) q → ((w : Queued) → QueuedWell c p w → Keeps c (ProperAt c p) (closure c p pops w)) →
        Keeps c (ProperAt c p)
        (next q (pure w.table) λ x q. cast_all c p x (all_casts c) (queued w.table q) >>= λ w. closure c p pops w)
    popped nobody r = pure-keeps h.table
    popped (g and gs) r = bind-keeps (cast_all-keeps g (casts-good c) (record { table = h.table; queue = gs })) r

pub insert_closure-keeps : {c : Context} {p : Probs} {x : Candidate} {t : Table} → Good c x → ProperAt c p t →
    Keeps c (ProperAt c p) (insert_closure c p x t)
unfolding insert_closure
insert_closure-keeps g h = bind-keeps (offer-keeps (some_is g) (record { table = h; queue = nobody })) λ w k. closure-keeps max_pops k
