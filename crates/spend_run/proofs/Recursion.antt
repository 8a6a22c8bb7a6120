-- A record's script is run once its children's are, one after another. Assumes nothing.
use Prim.Native.Nat.{ℕ, ◌+◌, ◌-◌, ◌≤◌, ◌<◌}
use mathlib.Core.Bool.{Bool, true, false, not, false≢true}
use mathlib.Core.List.{List, [], map, ◌++◌}
use mathlib.Core.Path.{◌≡◌, refl, sym, ap, subst, ◌∙◌}
use native.Mathlib.Omega.{arith}
use lib.ListN.{length, get_or, take, drop}
use Rattle.contexts.specs.declared.Context.{Context}
use Rattle.records.specs.Payloads.{children_of}
use Rattle.trees.specs.Fragment.{Fragment}
use Rattle.walk.specs.TreeRecords.{length_from, TreeRecord, record_at, fragment_at}
use Rattle.walk.specs.declared.Node.{Node}
use Rattle.walk.specs.Nodes.{node_of, Placed}
use Rattle.walk.proofs.Laws.{few, child-before, childless-kind, ends-inside, its-bytes}
use Rattle.script_machine.specs.Numbers.{Bytes}
use Rattle.script_machine.specs.Machine.{State, state}
use Rattle.script_machine.specs.Translation.{script}
use Rattle.script_bytes.specs.Tables.{Tables}
use Rattle.script_leaves.specs.Leaves.{leaf_of}
use Rattle.script_leaves.proofs.Records.{leaf-is}
use Rattle.spend_machine.specs.Entries.{Outcome}
use Rattle.spend_machine.specs.Recorded.{Run}
use Rattle.spend_machine.specs.Playing.{plays}
use Rattle.spend_machine.proofs.FixedOutcomes.{stays-aborted, stays-stuck, stays-large}
use Rattle.spend_machine.proofs.Playing.{script-plays}
use Rattle.spend_log.specs.declared.Offsets.{Offsets}
use Rattle.spend_log.specs.Places.{tables_in}
use Rattle.spend_stack.specs.declared.Machine.{Machine}
use Rattle.spend_stack.specs.declared.Status.{Status}
use Rattle.spend_stack.specs.declared.Status.TheVariants as Status
use Rattle.spend_stack.specs.Memory.{work_words, main_in, alt_in}
use Rattle.spend_stack.specs.Machines.{stack_of, going, is_going, standing, left_of, run_of, Fits}
use Rattle.spend_stack.proofs.Memory.{main-back}
use Rattle.spend_run.specs.declared.Turn.{Turn}
use Rattle.spend_run.specs.Running.{Runs, Played}
use Rattle.spend_run.specs.Turns.{starting, behind, ending, Turns, Moves}
use Rattle.spend_run.proofs.Continuing.{Continues, RunsAs, runs_as}

-- the measure
pub below : {a b t : ℕ} → a < b → b ≡ t → a < t
below {a} h e = subst (λ (n : ℕ). a < n) e h

pub not-true : (b : Bool) → not b ≡ true → b ≡ false
not-true true e = sym e
not-true false e = refl

-- ---- a run that does not go on

stays-so : (c : Context) (t : Tables) (f : Fragment) (s : Status) (x : State) (rs : List Outcome) → going s ≡ false
    → standing s x rs ≡ plays c t f (standing s x rs)
stays-so c t f Status.Going x rs e = absurd (false≢true (sym e))
stays-so c t f Status.Aborted x rs e = sym (stays-aborted c t (script f) rs) ∙ script-plays c t f _ tt
stays-so c t f Status.Stuck x rs e = sym (stays-stuck c t (script f)) ∙ script-plays c t f _ tt
stays-so c t f Status.Large x rs e = sym (stays-large c t (script f)) ∙ script-plays c t f _ tt

pub not-played : {c : Context} {log : Bytes} {h : Offsets} {tree : List ℕ} {i : ℕ} {main alt : List ℕ} {m : Machine} → is_going m ≡ false
    → Fits log main m → Played c log h tree i main alt main alt m m
unfolding run_of
not-played {c} {log} {h} {tree} {i} {main} {alt} {m} g f =
    record {
      says = stays-so c (tables_in log h) (fragment_at tree i) m.status (state (stack_of log main m.main) (stack_of log alt m.alt) [])
          (left_of log m) g;
      fits = f;
    }

-- ---- a record

abbrev pub child_run : Context → Tables → List ℕ → Node → ℕ → Run → Run
child_run c t tree node j = plays c t (fragment_at tree (get_or node.children j 0))

-- some children were run: what comes from the next one on is what came from an earlier one on
pub record Going (c : Context) (log : Bytes) (h : Offsets) (tree : List ℕ) (node : Node) (main₀ alt₀ : List ℕ) (place₀ : ℕ) (m₀ : Machine)
    (main alt : List ℕ) (place : ℕ) (m : Machine) : Type 0 where
  pub says : (y : ℕ → Run → Run) → Continues c (tables_in log h) node.kind node.k node.n (child_run c (tables_in log h) tree node) y
      → y place (run_of log main alt m) ≡ y place₀ (run_of log main₀ alt₀ m₀)
  pub fits : Fits log main m

module _ {c : Context} {log : Bytes} {h : Offsets} {tree : List ℕ} {node : Node} where
  pub none-gone : {main alt : List ℕ} {p : ℕ} {m : Machine} → Fits log main m → Going c log h tree node main alt p m main alt p m
  none-gone f = record { says = λ y g. refl; fits = f }

  -- one child more, with what follows it
  pub one-gone : {main₀ alt₀ main₁ alt₁ main₂ alt₂ main₃ : List ℕ} {p₀ p : ℕ} {m₀ m₁ m₂ : Machine} {r : Turn}
      → Going c log h tree node main₀ alt₀ p₀ m₀ main₁ alt₁ p m₁ → p < node.n
      → Played c log h tree (get_or node.children p 0) main₁ alt₁ main₂ alt₂ m₁ m₂
      → ((t : Tables) (alt : List ℕ) → Turns (behind c t node.kind node.n p) log main₂ alt main₃ alt m₂ r)
      → Going c log h tree node main₀ alt₀ p₀ m₀ main₃ alt₂ r.place r.m
  one-gone {main₁ = main₁} {alt₁} {alt₂ = alt₂} {p = p} {m₁ = m₁} z l x u =
      let t = tables_in log h in
      let v = u t alt₂ in
      record {
        says = λ y g.
            v.says y ∙ ap (behind c t node.kind node.n p y) x.says ∙ sym (g.step p l (run_of log main₁ alt₁ m₁)) ∙ z.says y g;
        fits = v.fits;
      }

  -- what follows it was done in the main stack's part of the memory
  pub gone-back : {main₀ alt₀ : List ℕ} {p₀ p : ℕ} {m₀ m : Machine} (w : List ℕ) → length w ≡ work_words → (q : List ℕ) → length q ≡ length (main_in w)
      → Going c log h tree node main₀ alt₀ p₀ m₀ q (alt_in w) p m
      → Going c log h tree node main₀ alt₀ p₀ m₀ (main_in (q ++ drop 8192 w)) (alt_in (q ++ drop 8192 w)) p m
  gone-back {main₀} {alt₀} {p₀} {p} {m₀} {m} w long q same x =
      main-back w long q same (λ a b. Going c log h tree node main₀ alt₀ p₀ m₀ a b p m) x

-- where a record ends and what stands between, by where it begins
module _ {tree starts : List ℕ} {i start end : ℕ} (placed : Placed tree starts i) (begins : start ≡ get_or starts i 0)
    (ends : end ≡ start + length_from tree start) where
  its-end : end ≡ get_or starts i 0 + length_from tree (get_or starts i 0)
  its-end = subst (λ (n : ℕ). end ≡ n + length_from tree n) begins ends

  pub leaf-ends : end ≤ length tree
  leaf-ends = ends-inside placed its-end

  pub leaf-bytes : take (end - start) (drop start tree) ≡ record_at tree i
  leaf-bytes = subst (λ (n : ℕ). take (end - n) (drop n tree) ≡ record_at tree i) (sym begins) (its-bytes placed its-end)

module _ {c : Context} {log : Bytes} {h : Offsets} {tree starts : List ℕ} {i : ℕ} (runs : Runs c log h tree starts i) where
  pub runs-below : {starts' : List ℕ} (j : ℕ) → j < i → starts' ≡ starts → Runs c log h tree starts' j
  runs-below j l e =
      record {
        lies = runs.lies;
        is-tree = runs.is-tree;
        placed = λ n k. rw e (runs.placed n (omega arith));
        entries = λ n k. runs.entries n (omega arith);
      }

  module _ {node : Node} (is : node ≡ node_of (record_at tree i)) where
    abbrev its-row : TreeRecord tree i
    its-row = (runs.placed i (omega arith)).row

    pub few-children : node.n ≤ 16
    few-children = subst (λ (x : Node). x.n ≤ 16) (sym is) (few its-row)

    pub child-less : (j : ℕ) → j < node.n → get_or node.children j 0 < i
    child-less j l = subst (λ (x : Node). j < x.n → get_or x.children j 0 < i) (sym is) (child-before its-row j) l

    -- a leaf
    pub leaf-played : {main alt main' alt' : List ℕ} {m r : Machine} → node.n ≡ 0
        → Moves (plays c (tables_in log h) (leaf_of (record_at tree i))) log main alt main' alt' m r → Played c log h tree i main alt main' alt' m r
    leaf-played {main} {alt} {m = m} z a =
        let here : leaf_of (record_at tree i) ≡ fragment_at tree i =
        leaf-is (record_at tree i) its-row.fits (map (fragment_at tree) (children_of its-row.payload)) its-row.makes
        (childless-kind its-row (sym (ap (λ (x : Node). x.n) is) ∙ z)) in
        record {
          says = a.says ∙ ap (λ (f : Fragment). plays c (tables_in log h) f (run_of log main alt m)) here;
          fits = a.fits;
        }

    as-node : (node.n ≡ 0 → ⊥) → RunsAs c (tables_in log h) node.kind node.k node.n (child_run c (tables_in log h) tree node) (fragment_at tree i)
    as-node some =
        subst (λ (x : Node). 0 < x.n
        → RunsAs c (tables_in log h) x.kind x.k x.n (child_run c (tables_in log h) tree x) (fragment_at tree i)) (sym is)
        (runs_as c (tables_in log h) its-row) (omega (arith, some))

    -- all that a fragment with children does
    pub all-played : {main₀ alt₀ main₁ alt₁ main₂ alt₂ main₃ alt₃ : List ℕ} {p : ℕ} {m₀ m₂ m₃ : Machine} {r : Turn} → (node.n ≡ 0 → ⊥)
        → ((t : Tables) → Turns (starting c t node.kind node.n) log main₀ alt₀ main₁ alt₁ m₀ r)
        → Going c log h tree node main₁ alt₁ r.place r.m main₂ alt₂ p m₂ → node.n ≤ p
        → ((c : Context) (t : Tables) → Moves (ending c t node.kind node.k) log main₂ alt₂ main₃ alt₃ m₂ m₃)
        → Played c log h tree i main₀ alt₀ main₃ alt₃ m₀ m₃
    all-played {main₀} {alt₀} {main₂ = main₂} {alt₂} {p = p} {m₀} {m₂} some first gone l last =
        let t = tables_in log h in
        let z = as-node some in
        let u = first t in
        let v = last c t in
        record {
          says = v.says ∙ sym (z.goes.ends p l (run_of log main₂ alt₂ m₂)) ∙ gone.says z.y z.goes ∙ u.says z.y
              ∙ z.whole (run_of log main₀ alt₀ m₀);
          fits = v.fits;
        }
