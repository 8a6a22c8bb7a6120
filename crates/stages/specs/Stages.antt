-- A stage of a search: it asks for some tables, one after another, and then pairs them, one pairing after another. The tables of And and of Or are
-- written from compile_binary and compile_tern in policy/compiler.rs, `best_compilations`. Assumes nothing.
use Rattle.std.specs.Prelude.{cond, List, [], ◌∷◌, ◌++◌, ℕ, eqb, get_or, Float, Option, None, Some}
use Rattle.contexts.specs.declared.Context.{Context}
use Rattle.costs.specs.Arithmetic.{◌⊕◌, ◌⊗◌, 0·, 1·}
use Rattle.policies.specs.Array.{policy_at}
use Rattle.definition.specs.Candidates.{false', pair_no}
use Rattle.definition.specs.Tables.{Probs, probs, Table}
use Rattle.definition.specs.Refusals.{M, ◌>>=◌, pure}
use Rattle.definition.specs.Search.{Again, binary, ternary, search, or_none}
use Rattle.stages.specs.declared.Ask.{Ask}
use Rattle.stages.specs.declared.Pairing.{Pairing}

-- ---- asking

abbrev pub ask : ℕ → Float → Option Float → Ask
ask r sat dissat = record { r = r; sat = sat; dissat = dissat }

abbrev pub asked : Context → (pol : List ℕ) → Ask → M Table
asked c pol a = search c (policy_at pol a.r) (probs a.sat a.dissat)

unfoldable pub ask_all : Context → (pol : List ℕ) → List Ask → M (List Table)
ask_all c pol [] = pure []
ask_all c pol (a ∷ as') = do
  t ← asked c pol a
  ts ← ask_all c pol as'
  pure (t ∷ ts)

-- ---- pairing

abbrev pub pairing : (kind first second third : ℕ) → Float → Float → Pairing
pairing kind first second third lw rw = record { kind = kind; first = first; second = second; third = third; lw = lw; rw = rw }

-- in the place of a table, False alone
abbrev pub False : ℕ
False = 8

abbrev pub table_no : List Table → ℕ → Table
table_no ts n = cond (eqb n False) (false' ∷ []) (get_or ts n [])

abbrev pub paired : Context → Probs → Again → List Table → Pairing → Table → M Table
paired c p g ts a t =
    cond (eqb a.kind 55)
    (ternary c p g a.lw a.rw (table_no ts a.first) (table_no ts a.second) (table_no ts a.third) t)
    (binary c p g (pair_no a.kind) a.lw a.rw (table_no ts a.first) (table_no ts a.second) t)

unfoldable pub pair_all : Context → Probs → Again → List Table → List Pairing → Table → M Table
pair_all c p g ts [] t = pure t
pair_all c p g ts (a ∷ as') t = paired c p g ts a t >>= λ t. pair_all c p g ts as' t

unfoldable pub staged : Context → (pol : List ℕ) → Probs → Again → List Ask → List Pairing → Table → M Table
staged c pol p g asks pairings t = ask_all c pol asks >>= λ ts. pair_all c p g ts pairings t

-- ---- And of l and r: left, right, then both without dissatisfaction

abbrev pub and_asks : (l r : ℕ) → Float → Option Float → List Ask
and_asks l r sat dissat = ask l sat dissat ∷ ask r sat dissat ∷ ask r sat None ∷ ask l sat None ∷ []

abbrev pub and_pairings : List Pairing
and_pairings =
    pairing 49 0 1 0 1· 1·
    ∷ pairing 49 1 0 0 1· 1·
    ∷ pairing 50 0 1 0 1· 1·
    ∷ pairing 50 1 0 0 1· 1·
    ∷ pairing 55 0 2 False 1· 0·
    ∷ pairing 55 1 3 False 1· 0·
    ∷ []

-- ---- an Or one side of which is an And of x and y, at the weights w of that side and v of the other

abbrev pub or_dissat : Option Float → Float → Float → Option Float
or_dissat dissat v sat = Some (or_none dissat ⊕ v ⊗ sat)

abbrev pub and_or_asks : (x y other : ℕ) → Float → Option Float → (w v : Float) → List Ask
and_or_asks x y other sat dissat w v =
    ask x (w ⊗ sat) (or_dissat dissat v sat)
    ∷ ask x (w ⊗ sat) None
    ∷ ask y (w ⊗ sat) (or_dissat dissat v sat)
    ∷ ask y (w ⊗ sat) None
    ∷ ask other (v ⊗ sat) dissat
    ∷ []

abbrev pub and_or_pairings : (w v : Float) → List Pairing
and_or_pairings w v = pairing 55 0 3 4 w v ∷ pairing 55 2 1 4 w v ∷ []

-- ---- Or of l and r: each side four times, as it may be dissatisfied

abbrev pub side_asks : ℕ → Float → Option Float → (w v : Float) → List Ask
side_asks r sat dissat w v =
    ask r (w ⊗ sat) (or_dissat dissat v sat)
    ∷ ask r (w ⊗ sat) (Some (v ⊗ sat))
    ∷ ask r (w ⊗ sat) dissat
    ∷ ask r (w ⊗ sat) None
    ∷ []

abbrev pub or_asks : (l r : ℕ) → Float → Option Float → (lw rw : Float) → List Ask
or_asks l r sat dissat lw rw = side_asks l sat dissat lw rw ++ side_asks r sat dissat rw lw

abbrev pub or_pairings : (lw rw : Float) → List Pairing
or_pairings lw rw =
    pairing 51 0 4 0 lw rw
    ∷ pairing 51 4 0 0 rw lw
    ∷ pairing 52 0 6 0 lw rw
    ∷ pairing 52 4 2 0 rw lw
    ∷ pairing 53 1 7 0 lw rw
    ∷ pairing 53 5 3 0 rw lw
    ∷ pairing 54 2 7 0 lw rw
    ∷ pairing 54 6 3 0 rw lw
    ∷ pairing 54 3 6 0 lw rw
    ∷ pairing 54 7 2 0 rw lw
    ∷ []
