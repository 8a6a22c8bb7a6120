-- Inserting a candidate into a table, and the closure of casts, from insert_elem and insert_elem_closure in policy/compiler.rs: document 01,
-- "Modules, leaves first", 5 and 6; and document 02, R-8: what is too tall is dropped.
use Rattle.std.specs.Prelude.{Bool, true, false, not, cond, ◌&&◌, List, [], ◌∷◌, ◌++◌, ℕ, zero, suc, leb, length, Option, None, Some}
use Rattle.contexts.specs.declared.Context.{Context}
use Rattle.figures.specs.Validity.{check_local_validity}
use Rattle.costs.specs.declared.Price.{Price}
use Rattle.costs.specs.declared.Price.TheVariants as Price
use Rattle.costs.specs.Price.{at_most}
use Rattle.trees.specs.Fragment.{Fragment}
use Rattle.trees.specs.Height.{max_height}
use Rattle.definition.specs.Candidates.{Candidate, Cast, all_casts, Made, passed_over, missing, made, kind_of}
use Rattle.definition.specs.Tables.{Probs, Table, cost_at, key_sub, enter}
use Rattle.definition.specs.Refusals.{M, done, refused, then, ◌>>=◌, pure, refuse, accept}
use Rattle.definition.specs.Refusals.{TableFull, FuelSpent, NotACost, max_entries, max_pops}

unfoldable pub any : (Candidate → Bool) → Table → Bool
any p [] = false
any p (x ∷ xs) = cond (p x) true (any p xs)

unfoldable pub filter : (Candidate → Bool) → Table → Table
filter p [] = []
filter p (x ∷ xs) = cond (p x) (x ∷ filter p xs) (filter p xs)

-- no malleable candidate, and none that its context refuses
abbrev pub valid : Context → Candidate → Bool
valid c x = x.ty.mall.non_malleable && check_local_validity c (kind_of x.tree) x.ext

-- how tall a candidate is: its figure, the Rust's, begins with 0 at a leaf
abbrev pub height : Candidate → ℕ
height x = suc x.ext.tree_height

-- what is worth an offer: a valid candidate that is not too tall
abbrev pub worthwhile : Context → Candidate → Bool
worthwhile c x = valid c x && leb (height x) max_height

-- whether entry x is a subtype of y at the same or a lower cost
abbrev pub beats : Probs → Candidate → Candidate → Bool
beats p x y = key_sub x y && at_most (cost_at p x) (cost_at p y)

-- the table after an offer, and whether the candidate was accepted
pub record Offered : Type 0 where
  pub table : Table
  pub accepted : Bool

abbrev pub turned_away : Table → M Offered
turned_away t = pure (record { table = t; accepted = false })

-- what is left of the table takes one entry more
abbrev pub entered : Candidate → Table → M Offered
entered x kept =
    cond (leb (suc (length kept)) max_entries)
    (accept >>= λ _. pure (record { table = enter x kept; accepted = true }))
    (refuse TableFull)

-- what is done with a candidate whose cost can be compared: a finite one, or never
abbrev pub if_priced : Price → M Offered → M Offered
if_priced (Price.Finite x) offer = offer
if_priced Price.Never offer = offer
if_priced Price.NotACost offer = refuse NotACost

-- a candidate is offered to a table
unfoldable pub insert : Context → Probs → Candidate → Table → M Offered
insert c p x t =
    cond (worthwhile c x)
    (if_priced (cost_at p x)
    (cond (any (λ e. beats p e x) t) (turned_away t) (entered x (filter (λ e. not (beats p x e)) t))))
    (turned_away t)

-- ---- the closure: a queue of accepted candidates, each of which is cast all ten ways

-- a table, and the candidates that wait
pub record Queued : Type 0 where
  pub table : Table
  pub queue : List Candidate

abbrev pub queued : Table → List Candidate → Queued
queued t q = record { table = t; queue = q }

abbrev pub joins : Candidate → List Candidate → Offered → Queued
joins x q o = queued o.table (cond o.accepted (q ++ x ∷ []) q)

-- a candidate that was accepted waits to be cast
abbrev pub offer : Context → Probs → Option Candidate → Queued → M Queued
offer c p None w = pure w
offer c p (Some x) w = insert c p x w.table >>= λ o. pure (joins x w.queue o)

unfoldable pub cast_all : Context → Probs → Candidate → List Cast → Queued → M Queued
cast_all c p x [] w = pure w
cast_all c p x (f ∷ fs) w = offer c p (f x) w >>= λ w. cast_all c p x fs w

-- the first that waits, if one does
abbrev pub next : List Candidate → M Table → (Candidate → List Candidate → M Table) → M Table
next [] nobody somebody = nobody
next (x ∷ q) nobody somebody = somebody x q

-- first in, first out, until nobody waits or one more would be popped than may be
unfoldable pub closure : Context → Probs → (pops : ℕ) → Queued → M Table
closure c p zero w = next w.queue (pure w.table) λ x q. refuse FuelSpent
closure c p (suc pops) w =
    next w.queue (pure w.table) λ x q. cast_all c p x (all_casts c) (queued w.table q) >>= λ w. closure c p pops w

-- a candidate and all that casts make of it
unfoldable pub insert_closure : Context → Probs → Candidate → Table → M Table
insert_closure c p x t = offer c p (Some x) (queued t []) >>= λ w. closure c p max_pops w
