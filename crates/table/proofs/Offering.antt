-- An offer to a table, case by case: what the tests of the code say gives what the definition of insertion answers. Assumes nothing.
use Rattle.refusals.specs.declared.Refusal.TheVariants as Refusal
use Rattle.std.specs.Prelude.{Option, None, Some, Ok, Err}
use mathlib.Core.Path.{◌≡◌, refl, sym, ◌∙◌, ap, subst}
use mathlib.Core.List.{List}
use mathlib.Core.Bool.{Bool, true, false, cond, ◌&&◌, true≢false}
use Prim.Native.Nat.{ℕ, suc, ◌-◌, ◌<◌, ◌≤◌}
use native.Mathlib.Omega.{arith}
use borrow.Author.Tests.{le-leb, lt-leb, leb-true, leb-false}
use lib.Dec.{leb}
use lib.ListN.{length, length-map}
use Rattle.contexts.specs.declared.Context.{Context}
use Rattle.costs.specs.Price.{is_price}
use Rattle.figures.specs.Bounds.{Small}
use Rattle.figures.specs.Validity.{check_local_validity}
use Rattle.figures.proofs.Entering.{candidate-small}
use Rattle.writing.specs.WellFormed.{AllBelow}
use Rattle.trees.specs.Height.{max_height}
use Rattle.candidates.specs.declared.Candidate as code
use Rattle.definition.specs.Tables as definition
use Rattle.definition.specs.Tables.{Probs, cost_at, enter}
use Rattle.definition.specs.Refusals.{state, Stored, done, max_accepted}
use Rattle.definition.specs.Insertion.{any, beats, worthwhile, insert}
use Rattle.definition_laws.proofs.Steps.{unbeaten, insert-unworthy, insert-costless, insert-beaten, insert-table-full, insert-nodes-full, insert-enters}
use Rattle.memory.specs.Layout.{node_count, max_nodes, max_entries}
use Rattle.nodes.specs.Views.{seen, seen_all, offered}
use Rattle.nodes.specs.Answers.{Holds, OneMore, Adds, full, at}
use Rattle.nodes.specs.Offers.{Offerable}
use Rattle.nodes.proofs.Valid.{worthwhile-is, cost-is}
use Rattle.table.specs.declared.Table.{Table}
use Rattle.table.specs.declared.Priced.{Priced}
use Rattle.table.specs.declared.Offer.TheVariants as Offer
use Rattle.table.specs.Rows.{rows, Rows, TableHolds, priced_as, key_of, any_of, those, beats_it, stands, enter_at, turns_away}
use Rattle.table.specs.Inserted.{state_of, seen_table, Inserted}
use Rattle.table.proofs.Loops.{rows-length}
use Rattle.table.proofs.Bridges.{below-those, below-enter, priced_of, priced-offered, any_seen, filter-seen, enter-seen}
use Rattle.table.proofs.Kept.{extends-refl, table_kept, seen-table-kept}

pub offered-small : {m : List ℕ} {x : code.Candidate} → Offerable m x → Small x.ext
offered-small o = candidate-small o.candidate (omega arith)

-- ---- what adding a node answered

pub added_full : {m₀ m : List ℕ} {x : code.Candidate} {r : Option ℕ} → Adds m₀ m x r → r ≡ None → (node_count m₀ ≡ max_nodes) × (m ≡ m₀)
added_full (full f same) is = (f, same)
added_full (at e room more) is = absurd (let z : ◌≡◌ {A = ℕ} 0 1 = cc in omega arith)

pub record AddedAt (m₀ m : List ℕ) (x : code.Candidate) (e : ℕ) : Type 0 where
  pub number : e ≡ node_count m₀
  pub room : node_count m₀ < max_nodes
  pub more : OneMore m₀ m x

pub added-at : {m₀ m : List ℕ} {x : code.Candidate} {r : Option ℕ} {e : ℕ} → Adds m₀ m x r → r ≡ Some e → AddedAt m₀ m x e
added-at (full f same) is = absurd (let z : ◌≡◌ {A = ℕ} 0 1 = cc in omega arith)
added-at {e} (at {e = k} number room more) is = let same : k ≡ e = cc in record { number = sym same ∙ number; room = room; more = more }

-- ---- what the tests of the code say

-- the candidate is worth an offer
pub record Worth (c : Context) (x : code.Candidate) : Type 0 where
  pub sound : x.ty.mall.non_malleable ≡ true
  pub valid : check_local_validity c x.kind x.ext ≡ true
  pub low : x.ext.tree_height < max_height

-- it is compared by y, and has a cost
pub record Costed (p : Probs) (x : code.Candidate) (y : Priced) : Type 0 where
  pub priced : y ≡ priced_as p x
  pub cost : is_price y.cost ≡ true

-- no entry of t beats it, and u is what it leaves of t
pub record Leaves (m : List ℕ) (p : Probs) (y : Priced) (t u : Table) : Type 0 where
  pub unbeaten : false ≡ any_of (beats_it m p y) (rows t)
  pub are : Rows u (those (stands m p y) (rows t))
  pub long : length u.entries ≡ max_entries

is-worth : {c : Context} {x : code.Candidate} → Worth c x → (pol m : List ℕ) → worthwhile c (offered pol m x) ≡ true
is-worth {c} {x} w pol m = worthwhile-is pol m x c ∙ all_three w.sound w.valid (le-leb _ _ w.low)
  where
    all_three : {a b c : Bool} → a ≡ true → b ≡ true → c ≡ true → ((a && b) && c) ≡ true
    all_three h k l = rw (h, k, l)

is-cost : (p : Probs) (x : code.Candidate) {y : Priced} {b : Bool} → y ≡ priced_as p x → is_price y.cost ≡ b → (pol m : List ℕ)
    → is_price (cost_at p (offered pol m x)) ≡ b
is-cost p x priced i pol m = ap is_price (cost-is pol m x p ∙ sym (ap (λ (y : Priced). y.cost) priced)) ∙ i

-- ---- the cases

module _ {c : Context} {p : Probs} {x : code.Candidate} {t : Table} {m : List ℕ} (h : Holds m) (th : TableHolds m t) where
  -- the table is as it was
  stays : ((pol : List ℕ) (ts : List Stored) →
      insert c p (offered pol m x) (seen_table pol m t) (state_of m ts) ≡ done (record { table = seen_table pol m t; accepted = false }) (state_of m ts)) →
      Inserted c p x t (record { table = t; offer = Ok Offer.TurnedAway }) m m
  stays says = record { says = says; extends = extends-refl h; table = th; next = refl }

  pub malleable : x.ty.mall.non_malleable ≡ false → Inserted c p x t (record { table = t; offer = Ok Offer.TurnedAway }) m m
  malleable n =
      stays (λ pol ts. insert-unworthy c p (offered pol m x) (seen_table pol m t) (state_of m ts)
      (worthwhile-is pol m x c ∙ rw n))

  pub invalid : x.ty.mall.non_malleable ≡ true → check_local_validity c x.kind x.ext ≡ false
      → Inserted c p x t (record { table = t; offer = Ok Offer.TurnedAway }) m m
  invalid n v =
      stays (λ pol ts. insert-unworthy c p (offered pol m x) (seen_table pol m t) (state_of m ts) (worthwhile-is pol m x c ∙ rw (n, v)))

  pub too-tall : max_height ≤ x.ext.tree_height → Inserted c p x t (record { table = t; offer = Ok Offer.TurnedAway }) m m
  too-tall h =
      stays (λ pol ts. insert-unworthy c p (offered pol m x) (seen_table pol m t) (state_of m ts)
      (worthwhile-is pol m x c
      ∙ and-false (x.ty.mall.non_malleable && check_local_validity c x.kind x.ext)
      (lt-leb (suc x.ext.tree_height) max_height (omega arith))))
    where
      and-false : (a : Bool) {b : Bool} → b ≡ false → (a && b) ≡ false
      and-false true h = h
      and-false false h = refl

  pub costless : {y : Priced} → Worth c x → y ≡ priced_as p x → is_price y.cost ≡ false
      → Inserted c p x t (record { table = t; offer = Err Refusal.NotACost }) m m
  costless w priced i =
      record {
        says =
            λ pol ts. insert-costless c p (offered pol m x) (seen_table pol m t) (state_of m ts) (is-worth w pol m) (is-cost p x priced i pol m);
        extends = extends-refl h;
        table = th;
        next = tt;
      }

  module _ {y : Priced} (w : Worth c x) (k : Costed p x y) where
    cost : (pol : List ℕ) → is_price (cost_at p (offered pol m x)) ≡ true
    cost pol = is-cost p x k.priced k.cost pol m

    compared-by : (pol : List ℕ) → priced_of p (offered pol m x) ≡ y
    compared-by pol = priced-offered pol m p x ∙ sym k.priced

    beats-any : (pol : List ℕ) → any (λ e. beats p e (offered pol m x)) (seen_table pol m t) ≡ any_of (beats_it m p y) (rows t)
    beats-any pol = any_seen pol m p (offered pol m x) y (compared-by pol) (rows t) th.below

    pub loses : true ≡ any_of (beats_it m p y) (rows t) → Inserted c p x t (record { table = t; offer = Ok Offer.TurnedAway }) m m
    loses b =
        stays (λ pol ts. insert-beaten c p (offered pol m x) (seen_table pol m t) (state_of m ts) (is-worth w pol m) (cost pol)
        (beats-any pol ∙ sym b))

    module _ {u : Table} (l : Leaves m p y t u) where
      beats-none : (pol : List ℕ) → any (λ e. beats p e (offered pol m x)) (seen_table pol m t) ≡ false
      beats-none pol = beats-any pol ∙ sym l.unbeaten

      -- what is left of the table, for the definition and for the code
      left_is : (pol : List ℕ) → unbeaten p (offered pol m x) (seen_table pol m t) ≡ seen_table pol m u
      left_is pol = filter-seen pol m p (offered pol m x) y (compared-by pol) (rows t) th.below ∙ ap (seen_all pol m) (sym l.are.are)

      left-length : (pol : List ℕ) → length (unbeaten p (offered pol m x) (seen_table pol m t)) ≡ u.len
      left-length pol = ap length (left_is pol) ∙ length-map (rows u) (seen pol m) ∙ rows-length u l.are.few l.long

      left-holds : TableHolds m u
      left-holds =
          record {
            few = l.are.few;
            below =
                subst (λ (es : List ℕ). AllBelow (node_count m) es) (sym l.are.are)
                (below-those (node_count m) (stands m p y) (rows t) th.below);
          }

      pub table-full : u.len ≡ max_entries → Inserted c p x t (record { table = u; offer = Err Refusal.TableFull }) m m
      table-full f =
          record {
            says =
                λ pol ts. insert-table-full c p (offered pol m x) (seen_table pol m t) (state_of m ts) (is-worth w pol m) (cost pol) (beats-none pol)
                (lt-leb (suc (length (unbeaten p (offered pol m x) (seen_table pol m t)))) max_entries (omega (arith, left-length pol, f)));
            extends = extends-refl h;
            table = left-holds;
            next = tt;
          }

      module _ (f : u.len ≡ max_entries → ⊥) where
        fits : (pol : List ℕ) → leb (suc (length (unbeaten p (offered pol m x) (seen_table pol m t)))) max_entries ≡ true
        fits pol =
            le-leb (suc (length (unbeaten p (offered pol m x) (seen_table pol m t)))) max_entries
            (omega (arith, left-length pol, l.are.few, f))

        -- no node was added
        pub nodes-full : {m' : List ℕ} → (node_count m ≡ max_nodes) × (m' ≡ m) → Inserted c p x t (record { table = u; offer = Err Refusal.NodesFull }) m m'
        nodes-full e =
            subst (λ (m' : List ℕ). Inserted c p x t (record { table = u; offer = Err Refusal.NodesFull }) m m') (sym e.1)
            (record {
              says =
                  λ pol ts. insert-nodes-full c p (offered pol m x) (seen_table pol m t) (state_of m ts) (is-worth w pol m) (cost pol)
                  (beats-none pol) (fits pol) (lt-leb (suc (node_count m - 2)) max_accepted (omega (arith, e.0)));
              extends = extends-refl h;
              table = left-holds;
              next = tt;
            })

        -- the candidate is node e, and entered at its key n
        module _ {m' : List ℕ} {e n : ℕ} {z : Table} (a : AddedAt m m' x e) (key : n ≡ key_of y) (r : Rows z (enter_at m' p n e (rows u))) where
          left-kept : TableHolds m' u
          left-kept = table_kept a.more.grows left-holds

          -- the definition's table with the candidate is what the code's stands for
          entered-is : (pol : List ℕ) → enter (offered pol m x) (unbeaten p (offered pol m x) (seen_table pol m t)) ≡ seen_table pol m' z
          entered-is pol =
              ap (enter (offered pol m x)) (left_is pol ∙ sym (seen-table-kept a.more.grows left-holds h pol))
              ∙ enter-seen pol m' p (offered pol m x) y (compared-by pol) (rows u) left-kept.below n e key
              (ap (seen pol m') a.number ∙ a.more.sees pol)
              ∙ ap (seen_all pol m') (sym r.are)

          counted : suc (node_count m - 2) ≡ node_count m' - 2
          counted = omega (arith, a.more.count, h.two)

          pub enters : Inserted c p x t (record { table = z; offer = Ok Offer.Entered }) m m'
          enters =
              record {
                says =
                    λ pol ts. insert-enters c p (offered pol m x) (seen_table pol m t) (state_of m ts) (is-worth w pol m) (cost pol)
                    (beats-none pol) (fits pol) (le-leb (suc (node_count m - 2)) max_accepted (omega (arith, h.two, a.room)))
                    ∙ ap (λ (l : definition.Table). done (record { table = l; accepted = true }) (state (suc (node_count m - 2)) ts)) (entered-is pol)
                    ∙ ap (λ (n : ℕ). done (record { table = seen_table pol m' z; accepted = true }) (state n ts)) counted;
                extends = record { holds = a.more.holds; grows = a.more.grows; tables = a.more.tables; rows = a.more.rows };
                table =
                    record {
                      few = r.few;
                      below =
                          subst (λ (es : List ℕ). AllBelow (node_count m') es) (sym r.are)
                          (below-enter m' p n e (rows u) (omega (arith, a.number, a.more.count)) left-kept.below);
                    };
                next = (a.more.count, a.more.sees);
              }

-- ---- what is turned away by its type and its cost alone is turned away, whether or not it is locally valid and low

module _ {c : Context} {p : Probs} {x : code.Candidate} {t : Table} {m : List ℕ} (h : Holds m) (th : TableHolds m t) where
  beaten-turned : (valid tall : Bool) → check_local_validity c x.kind x.ext ≡ valid → leb max_height x.ext.tree_height ≡ tall
      → x.ty.mall.non_malleable ≡ true → is_price (priced_as p x).cost ≡ true → any_of (beats_it m p (priced_as p x)) (rows t) ≡ true
      → Inserted c p x t (record { table = t; offer = Ok Offer.TurnedAway }) m m
  beaten-turned false tall v l n i b = invalid h th n v
  beaten-turned true true v l n i b = too-tall h th (leb-true max_height x.ext.tree_height l)
  beaten-turned true false v l n i b =
      loses h th (record { sound = n; valid = v; low = leb-false max_height x.ext.tree_height l }) (record { priced = refl; cost = i }) (sym b)

  by-cost : (cost : Bool) → is_price (priced_as p x).cost ≡ cost → x.ty.mall.non_malleable ≡ true
      → cond cost (any_of (beats_it m p (priced_as p x)) (rows t)) false ≡ true → Inserted c p x t (record { table = t; offer = Ok Offer.TurnedAway }) m m
  by-cost true i n b = beaten-turned (check_local_validity c x.kind x.ext) (leb max_height x.ext.tree_height) refl refl n i b
  by-cost false i n b = absurd (true≢false (sym b))

  by-type : (sound : Bool) → x.ty.mall.non_malleable ≡ sound
      → cond sound (cond (is_price (priced_as p x).cost) (any_of (beats_it m p (priced_as p x)) (rows t)) false) true ≡ true
      → Inserted c p x t (record { table = t; offer = Ok Offer.TurnedAway }) m m
  by-type true n b = by-cost (is_price (priced_as p x).cost) refl n b
  by-type false n b = malleable h th n

  pub turned-away : turns_away m p (priced_as p x) (rows t) ≡ true → Inserted c p x t (record { table = t; offer = Ok Offer.TurnedAway }) m m
  turned-away b = by-type x.ty.mall.non_malleable refl b
