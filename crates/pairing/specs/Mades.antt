-- The candidates that one pairing makes, in the order in which the loops of compile_binary and compile_tern in policy/compiler.rs make them. A
-- pairing (stages, specs/Stages.antt) names its tables by places, and each place has a slot of work memory. Assumes nothing.
use Rattle.std.specs.Prelude.{cond, List, [], ◌∷◌, ◌++◌, map, ◌≡◌, ℕ, ◌*◌, ◌<◌, ◌≤◌, eqb, length, get_or, Result, Ok}
use Rattle.writing.specs.WellFormed.{AllBelow}
use Rattle.definition.specs.Candidates.{Candidate, Made, passed_over, and_or, pair_no}
use Rattle.definition.specs.Tables.{Table}
use Rattle.definition.specs.Refusals.{M, ◌>>=◌, pure}
use Rattle.candidates.specs.declared.Candidate as node
use Rattle.candidates.specs.declared.NotMade.{NotMade}
use Rattle.memory.specs.Layout.{node_count}
use Rattle.nodes.specs.Views.{seen_all}
use Rattle.nodes.specs.Answers.{Holds}
use Rattle.nodes.specs.Offers.{Offerable, made_seen}
use Rattle.memory.specs.Layout.{table_count}
use Rattle.cache.specs.Slots.{slot_at, Kept}
use Rattle.stages.specs.declared.Pairing.{Pairing}
use Rattle.stages.specs.Stages.{False}

-- ---- each with each

-- each of the first with each of the second
unfoldable pub pairs_of : (Candidate → Candidate → Made) → Table → Table → List Made
pairs_of f [] ys = []
pairs_of f (x ∷ xs) ys = map (f x) ys ++ pairs_of f xs ys

-- each of the first with each of the second with each of the third
unfoldable pub triples_of : (Candidate → Candidate → Candidate → Made) → Table → Table → Table → List Made
triples_of f [] ys zs = []
triples_of f (x ∷ xs) ys zs = pairs_of (f x) ys zs ++ triples_of f xs ys zs

-- each in turn
unfoldable pub for_mades : (Made → Table → M Table) → List Made → Table → M Table
for_mades f [] t = pure t
for_mades f (x ∷ xs) t = f x t >>= λ t. for_mades f xs t

-- ---- of one pairing

-- the nodes at a place: node 0 is False
abbrev pub entries_at : (m : List ℕ) → (slots : List ℕ) → (place : ℕ) → List ℕ
entries_at m slots place = cond (eqb place False) (0 ∷ []) (slot_at m (get_or slots place 0)).entries

abbrev pub table_at : (pol m : List ℕ) → (slots : List ℕ) → (place : ℕ) → Table
table_at pol m slots place = seen_all pol m (entries_at m slots place)

abbrev pub mades_of : (pol m : List ℕ) → Pairing → (slots : List ℕ) → List Made
mades_of pol m a slots =
    cond (eqb a.kind 55)
    (triples_of (and_or a.lw a.rw) (table_at pol m slots a.first) (table_at pol m slots a.second) (table_at pol m slots a.third))
    (pairs_of (pair_no a.kind a.lw a.rw) (table_at pol m slots a.first) (table_at pol m slots a.second))

abbrev pub length_at : (m : List ℕ) → (slots : List ℕ) → (place : ℕ) → ℕ
length_at m slots place = length (entries_at m slots place)

-- how many there are
abbrev pub count_of : (m : List ℕ) → Pairing → (slots : List ℕ) → ℕ
count_of m a slots =
    cond (eqb a.kind 55)
    (length_at m slots a.first * length_at m slots a.second * length_at m slots a.third)
    (length_at m slots a.first * length_at m slots a.second)

-- ---- what holds of a pairing

-- a place is that of False, or its slot is a remembered table, whose entries are nodes
pub record PlaceHolds (m : List ℕ) (slots : List ℕ) (place : ℕ) : Type 0 where
  pub within : place ≤ False
  pub there : place < False → get_or slots place 0 < table_count m
  pub below : AllBelow (node_count m) (entries_at m slots place)

pub record Paired (m : List ℕ) (a : Pairing) (slots : List ℕ) : Type 0 where
  pub nodes : Holds m
  pub tables : Kept m
  pub first : PlaceHolds m slots a.first
  pub second : PlaceHolds m slots a.second
  pub third : PlaceHolds m slots a.third

-- ---- answers

pub record Counted (m : List ℕ) (a : Pairing) (slots : List ℕ) (n : ℕ) : Type 0 where
  pub is : n ≡ count_of m a slots
  pub mades : (pol : List ℕ) → n ≡ length (mades_of pol m a slots)

-- the i-th of them, which may be offered to a table
pub record MadeAt (m : List ℕ) (a : Pairing) (slots : List ℕ) (i : ℕ) (r : Result node.Candidate NotMade) : Type 0 where
  pub sees : (pol : List ℕ) → made_seen pol m r ≡ get_or (mades_of pol m a slots) i passed_over
  pub fresh : (y : node.Candidate) → r ≡ Ok y → Offerable m y
