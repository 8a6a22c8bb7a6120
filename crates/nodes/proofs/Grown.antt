-- What later nodes leave of earlier ones: growing goes on from growing, and a node's number stands for the same candidate in every memory
-- that grew from the one it was given in. Assumes nothing.
use mathlib.Core.Path.{◌≡◌, refl, sym, ap, ◌∙◌}
use mathlib.Core.Bool.{Bool, true, false, cond}
use mathlib.Core.List.{List, [], ◌∷◌, ◌++◌, map}
use mathlib.Core.Logic.{◌⊎◌, inl, inr}
use Rattle.std.specs.Prelude.{Some, None}
use Prim.Native.Nat.{ℕ, zero, suc, ◌+◌, ◌*◌, ◌/◌, ◌%◌, ◌<◌, ◌≤◌}
use native.Mathlib.Omega.{arith}
use borrow.Author.Tests.{ltb-true, ltb-false, eqb-true}
use lib.Dec.{eqb, ltb}
use lib.ListN.{length, drop}
use Rattle.figures.specs.declared.SatData.{SatData}
use Rattle.figures.specs.Bounds.{SmallData, SmallSat, Small}
use Rattle.policies.specs.Forms.{children_of}
use Rattle.policies.specs.Array.{policy_at}
use Rattle.trees.specs.Fragment.{Fragment}
use Rattle.trees.specs.Tree.{Line, find}
use Rattle.writing.specs.WellFormed.{AllBelow}
use Rattle.definition.specs.Candidates.{Candidate, candidate}
use Rattle.definition.specs.Tables.{Table}
use Rattle.candidates.specs.declared.Candidate as code
use Rattle.memory.specs.Layout.{word_at, node_count, row_count}
use Rattle.nodes.specs.Words.{node_at, row_child, sat_in}
use Rattle.nodes.specs.Views.{among, row_at, Parts, makers, make_by, parts_of, tree_of, seen_as, first_nodes, all_nodes, seen, seen_all, offered}
use Rattle.nodes.specs.Answers.{thresh_kind, Holds, Grows, SameTables}
use Rattle.nodes.proofs.Seen.{seen_at}

-- ---- growing

pub grows-refl : (m : List ℕ) → Grows m m
grows-refl m = record { more = omega arith; more_rows = omega arith; nodes = λ i l. refl; rows = λ row j l. refl }

pub grows-trans : {m₀ m₁ m₂ : List ℕ} → Grows m₀ m₁ → Grows m₁ m₂ → Grows m₀ m₂
grows-trans g h =
    record {
      more = omega (arith, g.more, h.more);
      more_rows = omega (arith, g.more_rows, h.more_rows);
      nodes = λ i l. h.nodes i (omega (arith, g.more)) ∙ g.nodes i l;
      rows = λ row j l. h.rows row j (omega (arith, g.more_rows)) ∙ g.rows row j l;
    }

pub tables-refl : (m : List ℕ) → SameTables m m
tables-refl m = record { count = refl; words = λ at l h. refl }

pub tables-trans : {m₀ m₁ m₂ : List ℕ} → SameTables m₀ m₁ → SameTables m₁ m₂ → SameTables m₀ m₂
tables-trans s t = record { count = t.count ∙ s.count; words = λ at l h. t.words at l h ∙ s.words at l h }

pub below_or : (i n : ℕ) → i < suc n → (i < n) ⊎ (i ≡ n)
below_or i n l = by-test (ltb i n) refl
  where
    by-test : (b : Bool) → ltb i n ≡ b → (i < n) ⊎ (i ≡ n)
    by-test true e = inl (ltb-true i n e)
    by-test false e = inr (omega (arith, ltb-false i n e))

-- ---- trees of parts that a kind does not tell apart

record SameParts (kind : ℕ) (p p' : Parts) : Type 0 where
  held : p.held ≡ p'.held
  first : 42 ≤ kind → kind ≤ 55 → p.first ≡ p'.first
  second : 49 ≤ kind → kind ≤ 55 → p.second ≡ p'.second
  third : kind ≡ 55 → p.third ≡ p'.third
  row : kind ≡ thresh_kind → p.row ≡ p'.row

abbrev Alike : (kind : ℕ) (p p' : Parts) → List (Line (Parts → Fragment)) → Type 0
Alike kind p p' [] = Unit
Alike kind p p' (l ∷ lines) = (kind ≡ l.kind → l.this p ≡ l.this p') × Alike kind p p' lines

alike-made : (kind : ℕ) (p p' : Parts) (lines : List (Line (Parts → Fragment))) → Alike kind p p' lines
    → make_by (find kind lines) p ≡ make_by (find kind lines) p'
unfolding find
alike-made kind p p' [] a = refl
alike-made kind p p' (l ∷ lines) a = by-test (eqb kind l.kind) refl (alike-made kind p p' lines a.1)
  where
    by-test : (b : Bool) → eqb kind l.kind ≡ b → make_by (find kind lines) p ≡ make_by (find kind lines) p'
        → make_by (cond b (Some l.this) (find kind lines)) p ≡ make_by (cond b (Some l.this) (find kind lines)) p'
    by-test true e r = a.0 (eqb-true kind l.kind e)
    by-test false e r = r

module _ {kind : ℕ} {p p' : Parts} (s : SameParts kind p p') where
  alike-55 : Alike kind p p' (drop 23 makers)
  alike-55 = (
    (λ e. rw (s.first (omega arith) (omega arith), s.second (omega arith) (omega arith), s.third e)),
    (
      (λ e. rw (s.held, s.row e)),
      (
        (λ e. rw s.held),
        ((λ e. rw s.held), tt),
      ),
    ),
  )

  alike-49 : Alike kind p p' (drop 17 makers)
  alike-49 = (
    (λ e. rw (s.first (omega arith) (omega arith), s.second (omega arith) (omega arith))),
    (
      (λ e. rw (s.first (omega arith) (omega arith), s.second (omega arith) (omega arith))),
      (
        (λ e. rw (s.first (omega arith) (omega arith), s.second (omega arith) (omega arith))),
        (
          (λ e. rw (s.first (omega arith) (omega arith), s.second (omega arith) (omega arith))),
          (
            (λ e. rw (s.first (omega arith) (omega arith), s.second (omega arith) (omega arith))),
            (
              (λ e. rw (s.first (omega arith) (omega arith), s.second (omega arith) (omega arith))),
              alike-55,
            ),
          ),
        ),
      ),
    ),
  )

  alike-42 : Alike kind p p' (drop 10 makers)
  alike-42 = (
    (λ e. rw (s.first (omega arith) (omega arith))),
    (
      (λ e. rw (s.first (omega arith) (omega arith))),
      (
        (λ e. rw (s.first (omega arith) (omega arith))),
        (
          (λ e. rw (s.first (omega arith) (omega arith))),
          (
            (λ e. rw (s.first (omega arith) (omega arith))),
            (
              (λ e. rw (s.first (omega arith) (omega arith))),
              (
                (λ e. rw (s.first (omega arith) (omega arith))),
                alike-49,
              ),
            ),
          ),
        ),
      ),
    ),
  )

  alike : Alike kind p p' makers
  alike = (
    (λ e. refl),
    (
      (λ e. refl),
      (
        (λ e. rw s.held),
        (
          (λ e. rw s.held),
          (
            (λ e. rw s.held),
            (
              (λ e. rw s.held),
              (
                (λ e. rw s.held),
                (
                  (λ e. rw s.held),
                  (
                    (λ e. rw s.held),
                    (
                      (λ e. rw s.held),
                      alike-42,
                    ),
                  ),
                ),
              ),
            ),
          ),
        ),
      ),
    ),
  )

module _ (pol m m' : List ℕ) (xs xs' : Table) (x : code.Candidate) where
  as-alike : SameParts x.kind (parts_of pol m xs x) (parts_of pol m' xs' x) → seen_as pol m xs x ≡ seen_as pol m' xs' x
  unfolding seen_as tree_of
  as-alike s =
      ap (λ (t : Fragment). candidate t x.ty x.ext x.cost)
      (alike-made x.kind (parts_of pol m xs x) (parts_of pol m' xs' x) makers (alike s))

-- ---- the first nodes of two memories that agree on them

module _ (pol m m' : List ℕ) where
  row-at-same : (row n : ℕ) → ((j : ℕ) → row_child m row j ≡ row_child m' row j) → row_at m row n ≡ row_at m' row n
  unfolding row_at
  row-at-same row zero h = refl
  row-at-same row (suc n) h =
      ap (λ (l : List ℕ). l ++ (row_child m row n ∷ [])) (row-at-same row n h)
      ∙ ap (λ (c : ℕ). row_at m' row n ++ (c ∷ [])) (h n)

  pub as_same : (xs : Table) (x : code.Candidate) → (x.kind ≡ thresh_kind → (j : ℕ) → row_child m x.second j ≡ row_child m' x.second j)
      → seen_as pol m xs x ≡ seen_as pol m' xs x
  as_same xs x h =
      as-alike pol m m' xs xs x
      (record {
        held = refl;
        first = λ a b. refl;
        second = λ a b. refl;
        third = λ e. refl;
        row =
            λ e. ap (map (among xs)) (row-at-same x.second (length (children_of (policy_at pol x.first))) (h e));
      })

  pub first-same : (n : ℕ) → ((i : ℕ) → i < n → node_at m i ≡ node_at m' i)
      → ((i : ℕ) → i < n → (node_at m' i).kind ≡ thresh_kind → (j : ℕ) → row_child m (node_at m' i).second j ≡ row_child m' (node_at m' i).second j)
      → first_nodes pol m n ≡ first_nodes pol m' n
  unfolding first_nodes
  first-same zero nodes rows = refl
  first-same (suc n) nodes rows =
      ap (λ (xs : Table). xs ++ (seen_as pol m xs (node_at m n) ∷ []))
      (first-same n (λ i l. nodes i (omega arith)) (λ i l. rows i (omega arith)))
      ∙ ap (λ (y : Candidate). first_nodes pol m' n ++ (y ∷ []))
      (ap (seen_as pol m (first_nodes pol m' n)) (nodes n (omega arith)) ∙ as_same (first_nodes pol m' n) (node_at m' n) (rows n (omega arith)))

-- ---- the candidate of a number

module _ (pol m : List ℕ) where
  -- a number's candidate has the type, the figures and the cost of its node
  pub seen-is : (e : ℕ) → e < node_count m
      → seen pol m e ≡ candidate (seen pol m e).tree (node_at m e).ty (node_at m e).ext (node_at m e).cost
  unfolding seen_as
  seen-is e l =
      let h = seen_at pol m e l in
      h
      ∙ ap (λ (c : Candidate). candidate c.tree (node_at m e).ty (node_at m e).ext (node_at m e).cost) (sym h)

module _ {m₀ m : List ℕ} (holds : Holds m₀) (grows : Grows m₀ m) (pol : List ℕ) where
  -- a number stands for what it stood for
  pub seen-kept : (e : ℕ) → e < node_count m₀ → seen pol m e ≡ seen pol m₀ e
  seen-kept e l =
      seen_at pol m e (omega (arith, grows.more))
      ∙ ap (λ (xs : Table). seen_as pol m xs (node_at m e))
      (first-same pol m m₀ e (λ i h. grows.nodes i (omega arith)) (λ i h k j. rows i (omega arith) k j))
      ∙ ap (seen_as pol m (first_nodes pol m₀ e)) (grows.nodes e l)
      ∙ as_same pol m m₀ (first_nodes pol m₀ e) (node_at m₀ e) (rows e l)
      ∙ sym (seen_at pol m₀ e l)
    where
      rows : (i : ℕ) → i < node_count m₀ → (node_at m₀ i).kind ≡ thresh_kind
          → (j : ℕ) → row_child m (node_at m₀ i).second j ≡ row_child m₀ (node_at m₀ i).second j
      rows i h k j = grows.rows (node_at m₀ i).second j ((holds.nodes i h).rowed k)

  pub seen_all-kept : (es : List ℕ) → AllBelow (node_count m₀) es → seen_all pol m es ≡ seen_all pol m₀ es
  unfolding AllBelow
  seen_all-kept [] b = refl
  seen_all-kept (e ∷ es) b =
      ap (λ (c : Candidate). c ∷ seen_all pol m es) (seen-kept e b.0) ∙ ap (λ (cs : Table). seen pol m₀ e ∷ cs) (seen_all-kept es b.1)

-- ---- what is offered

-- the children that a candidate's kind has are nodes of memory, and a Thresh has a row of them
pub record Placed (pol m : List ℕ) (x : code.Candidate) : Type 0 where
  pub first : 42 ≤ x.kind → x.kind ≤ 55 → x.first < node_count m
  pub second : 49 ≤ x.kind → x.kind ≤ 55 → x.second < node_count m
  pub third : x.kind ≡ 55 → x.third < node_count m
  pub rowed : x.kind ≡ thresh_kind → x.second < row_count m
  pub row : x.kind ≡ thresh_kind
      → (j : ℕ) → j < length (children_of (policy_at pol x.first)) → row_child m x.second j < node_count m

module _ (pol m : List ℕ) (x : code.Candidate) where
  -- a kind with no children
  pub placed-leaf : (x.kind < 42) ⊎ (thresh_kind < x.kind) → Placed pol m x
  placed-leaf (inl l) =
      record {
        first = λ a b. absurd (omega arith);
        second = λ a b. absurd (omega arith);
        third = λ e. absurd (omega arith);
        rowed = λ e. absurd (omega arith);
        row = λ e j h. absurd (omega arith);
      }
  placed-leaf (inr l) =
      record {
        first = λ a b. absurd (omega arith);
        second = λ a b. absurd (omega arith);
        third = λ e. absurd (omega arith);
        rowed = λ e. absurd (omega arith);
        row = λ e j h. absurd (omega arith);
      }

  -- a kind with one child
  pub placed_one : x.kind < 49 → x.first < node_count m → Placed pol m x
  placed_one k l =
      record {
        first = λ a b. l;
        second = λ a b. absurd (omega arith);
        third = λ e. absurd (omega arith);
        rowed = λ e. absurd (omega arith);
        row = λ e j h. absurd (omega arith);
      }

  -- a kind with two or three children
  pub placed-more : x.kind < thresh_kind → x.first < node_count m → x.second < node_count m → x.third < node_count m → Placed pol m x
  placed-more k l₁ l₂ l₃ =
      record {
        first = λ a b. l₁;
        second = λ a b. l₂;
        third = λ e. l₃;
        rowed = λ e. absurd (omega arith);
        row = λ e j h. absurd (omega arith);
      }

below_last : (bound e : ℕ) (es : List ℕ) → AllBelow bound es → e < bound → AllBelow bound (es ++ (e ∷ []))
unfolding AllBelow
below_last bound e [] b l = (l, tt)
below_last bound e (x ∷ es) b l = (b.0, below_last bound e es b.1 l)

row_below : (m : List ℕ) (row bound n : ℕ) → ((j : ℕ) → j < n → row_child m row j < bound) → AllBelow bound (row_at m row n)
unfolding row_at AllBelow
row_below m row bound zero h = tt
row_below m row bound (suc n) h =
    below_last bound (row_child m row n) (row_at m row n) (row_below m row bound n (λ j l. h j (omega arith))) (h n (omega arith))

module _ {m₀ m : List ℕ} (holds : Holds m₀) (grows : Grows m₀ m) (pol : List ℕ) where
  pub offered-kept : (x : code.Candidate) → Placed pol m₀ x → offered pol m x ≡ offered pol m₀ x
  offered-kept x p =
      as-alike pol m m₀ (all_nodes pol m) (all_nodes pol m₀) x
      (record {
        held = refl;
        first = λ a b. ap (λ (c : Candidate). c.tree) (seen-kept holds grows pol x.first (p.first a b));
        second = λ a b. ap (λ (c : Candidate). c.tree) (seen-kept holds grows pol x.second (p.second a b));
        third = λ e. ap (λ (c : Candidate). c.tree) (seen-kept holds grows pol x.third (p.third e));
        row =
            λ e. ap (map (among (all_nodes pol m))) (row-at-same pol m m₀ x.second count (λ j. grows.rows x.second j (p.rowed e)))
            ∙ seen_all-kept holds grows pol (row_at m₀ x.second count) (row_below m₀ x.second (node_count m₀) count (p.row e));
      })
    where
      count : ℕ
      count = length (children_of (policy_at pol x.first))

-- ---- the figures of every node are small

small-if : (b : Bool) (d : SatData) → SmallData d → SmallSat (cond b (Some d) None)
small-if true d s = s
small-if false d s = tt

data_in : (witness stack : ℕ) → SatData
data_in witness stack =
    record {
      max_witness_stack_size = witness % 0x200_0000;
      max_witness_stack_count = witness / 0x200_0000 % 0x40_0000;
      max_script_sig_size = stack % 0x200_0000;
      max_exec_stack_count = stack / 0x200_0000 % 0x40_0000;
      max_exec_op_count = witness / 0x8000_0000_0000 % 0x800 + stack / 0x8000_0000_0000 % 0x800 * 0x800;
    }

small-sat : (has witness stack : ℕ) → SmallSat (sat_in has witness stack)
unfolding data_in
small-sat has witness stack =
    small-if (eqb has 1) (data_in witness stack)
    (record { size = omega arith; count = omega arith; sig = omega arith; stack = omega arith; ops = omega arith })

pub small_at : (m : List ℕ) (i : ℕ) → Small (node_at m i).ext
small_at m i =
    record {
      cost = omega arith;
      static = omega arith;
      sat = small-sat (word_at m (8 * i + 9) / 0x2000_0000_0000_0000 % 2) (word_at m (8 * i + 10)) (word_at m (8 * i + 11));
      dissat = small-sat (word_at m (8 * i + 9) / 0x4000_0000_0000_0000 % 2) (word_at m (8 * i + 12)) (word_at m (8 * i + 13));
      height = omega arith;
    }
