-- The entry's promise: what the check refuses is refused, and a tree that passes has its index. Assumes nothing.
use Prim.Native.Nat.{ℕ, suc, ◌+◌, ◌-◌, ◌*◌, ◌≤◌, ◌<◌}
use mathlib.Core.Bool.{Bool, true, false}
use mathlib.Core.List.{List, ◌++◌}
use mathlib.Core.Logic.{inl, inr}
use Rattle.std.specs.Prelude.{None, Some, Result, Ok, Err}
use mathlib.Core.Path.{◌≡◌, refl, sym, ap, subst, ◌∙◌}
use native.Mathlib.Omega.{arith}
use borrow.Author.Tests.{eq-eqb, ne_eqb, eqb-true, eqb-false}
use lib.Dec.{eqb}
use lib.ListN.{length, set, take, drop, replicate, length-append, length-drop}
use lib.Seq.{length-take-le}
use Rattle.words.specs.Memory.{zeroed}
use Rattle.types.specs.TypeOrder.{pack}
use Rattle.contexts.specs.declared.Context.{Context}
use Rattle.trees.specs.Typing.{type_of}
use Rattle.trees.specs.declared.Subtree.{Subtree}
use Rattle.trees.specs.Reading.{Answer, refused, done, max_records}
use Rattle.trees.specs.TreeCheck.{Typed, context_of, check_of}
use Rattle.trees.proofs.Theorem.{passes-well-typed-trees}
use Rattle.refusals.specs.declared.Refusal.{Refusal}
use Rattle.refusals.specs.Numbers.{number_of}
use Rattle.types.specs.declared.«Type».{«Type»}
use Rattle.contexts.specs.declared.Context.TheVariants.{Segwitv0, Tap}
use Rattle.trees.specs.Checked.{type_only}
use Rattle.claspwillow.specs.Results.{number_in}
use Rattle.claspwillow.proofs.CheckLaws.{passed-as, refused-by}
use Rattle.walk.specs.TreeRecords.{fragment_at, Written}
use Rattle.walk.specs.Nodes.{Placed}
use Rattle.walk.specs.Nodes as Nodes
use Rattle.walk.proofs.Laws.{rows, all_placed, kept-length, same_count}
use Rattle.index_places.specs.Places.{size_at, Stands}
use Rattle.index_places.specs.Typed.{type_or, subtree_of}
use Rattle.index_places.proofs.Stands.{parent_of}
use Rattle.index_places.proofs.Typed.{well_typed}
use Rattle.index_entry.specs.Index.{EntryOf, IsIndex, output_too_small, tree_in, Indexed, IndexPromise}
use Rattle.index_memory.specs.Memory.{work_words, size_in, first_in, subtree_in, entry_in, index_in}
use Rattle.index_entry.specs.Index as Index
use Rattle.index_entry.specs.Building.{Checked, Scanned, Known, Filling, Sized, Rooted, Giving, Built, Passing, checks, fails, Outcome, fits, too_small, Answered, passes, refuses, bytes_in}
use Rattle.index_memory.proofs.Words.{size-kept, subtree-kept}
use Rattle.index_entry.proofs.Placing.{known-rooted, rooted}
use Rattle.index_memory.proofs.IndexBytes.{entries-long}

-- ---- building

pub written : {c : Context} {tree : List ℕ} → Checked c tree → Written tree
written checked = record { root = checked.root; rows = checked.rows }

module _ {c : Context} {tree : List ℕ} (checked : Checked c tree) (work : List ℕ) (long : length work ≡ work_words) where
  pub enough : max_records ≤ length work
  enough = omega (arith, long)

  module _ {after : List ℕ} {count : ℕ} (scan : Nodes.Scanned tree work after count) where
    counted : count ≡ checked.rows.count
    counted = scan.counts checked.root checked.rows

    pub root-there : (1 ≤ count) × (count - 1 < 4096)
    root-there = (omega (arith, counted, checked.rows.any), omega (arith, counted, checked.rows.any, checked.rows.few))

    pub scanned : Scanned c tree after count
    scanned =
        record {
          checked = checked;
          counts = counted;
          room = kept-length scan checked.rows enough ∙ long;
          placed = all_placed scan checked.rows enough;
        }

    module _ {filled : List ℕ} (filling : Filling c tree after filled count) where
      few : (j : ℕ) → j < count → j < 4096
      few j h = omega (arith, counted, checked.rows.few)

      filled-long : length filled ≡ 16384
      filled-long = filling.room ∙ scanned.room

      pub sized : Sized tree filled count
      sized =
          record {
            c = c;
            scanned = record { checked = checked; counts = counted; room = filled-long; placed = record { placed = placed } };
            each = filling.each;
          }
        where
          placed : (j : ℕ) → j ≤ count - 1 → Placed tree filled j
          placed j l =
              let was = scanned.placed.placed j l in
              let small = few j (omega (arith, counted, checked.rows.any)) in
              record { row = was.row; long = omega (arith, filled-long, small); start = filling.starts j small ∙ was.start }

      module _ {begun : List ℕ} (e : begun ≡ set filled (8192 + (count - 1)) 0) where
        pub ready : Rooted tree begun count
        ready = rooted sized e

        each-known : (j : ℕ) → j < count → Known c tree begun j
        each-known j h = known-rooted sized e c j h (filling.each j h)

        pub built : {given : List ℕ} → Giving tree begun given count 0 → Built c tree given count
        unfolding entry_in
        built {given} giving =
            record {
              counts = λ f r. counted ∙ same_count checked.rows r;
              few = omega (arith, counted, checked.rows.few);
              room = giving.room ∙ ready.sized.scanned.room;
              each = each;
            }
          where
            standing : (i : ℕ) → i < count → Stands c tree count i (first_in given i)
            standing i h = by-test (eqb (suc i) count) refl
              where
                by-test : (b : Bool) → eqb (suc i) count ≡ b → Stands c tree count i (first_in given i)
                by-test true b = giving.each c each-known i h (inl (eqb-true (suc i) count b))
                by-test false b =
                    let q = parent_of checked.rows i (omega (arith, counted, eqb-false (suc i) count b)) in
                    giving.each c each-known i h (inr (q.0, q.1, omega arith, omega (arith, counted, q.2), q.3, q.4))

            each : (i : ℕ) → i < count → EntryOf c tree count i (entry_in given i)
            each i h =
                let known = each-known i h in
                let tree_is : subtree_in given i ≡ subtree_of c (fragment_at tree i) =
                subtree-kept begun given i (giving.others (12288 + i) (inr (omega arith))) ∙ known.subtree in
                let size_is : size_in given false i ≡ size_at c tree false i =
                size-kept begun given false i (giving.others (4096 + i) (inl (omega (arith, few i h)))) ∙ known.sizes false in
                record {
                  ty = type_or (type_of c (fragment_at tree i));
                  typed = well_typed c checked.rows checked.typed checked.low i (omega (arith, counted));
                  packed = ap (λ (x : Subtree). pack x.ty) tree_is;
                  high = ap (λ (x : Subtree). x.height) tree_is;
                  stands = standing i h;
                  long = size_is;
                }

-- ---- the index of a built tree

module _ {c : Context} {tree work : List ℕ} {count : ℕ} (built : Built c tree work count) where
  pub is-index : IsIndex c tree count (index_in work count)
  is-index = record { entry = entry_in work; each = built.each; are = refl }

  pub index-long : length (index_in work count) ≡ 16 * count
  index-long = entries-long (entry_in work) count

  pub index-fits : {out left : List ℕ} {n : ℕ} → n ≡ 16 * count → 16 * count ≤ length out → left ≡ index_in work count ++ drop (16 * count) out
      → Outcome c tree out left (Ok n)
  index-fits {out} {left} {n} s h e =
      fits built.counts is-index (omega (arith, index-long, h)) (e ∙ ap (λ (m : ℕ). index_in work count ++ drop m out) (sym index-long)) (s ∙ sym index-long)

  pub index-too-long : {out : List ℕ} → length out < 16 * count → Outcome c tree out out (Err Refusal.OutputTooSmall)
  index-too-long h = too_small built.counts h refl

-- ---- work memory, of which the check takes the first part

pub first-long : (w : List ℕ) → length w ≡ 16384 → length (take 4096 w) ≡ 4096
first-long w l = length-take-le 4096 w (omega (arith, l))

pub joined-long : (w p : List ℕ) → length w ≡ 16384 → length p ≡ 4096 → length (p ++ drop 4096 w) ≡ 16384
joined-long w p l k = length-append p (drop 4096 w) ∙ omega (arith, l, k, length-drop 4096 w)

-- ---- the check

no-context : (context : ℕ) → 2 ≤ context → context_of context ≡ None
no-context context h = rw (ne_eqb context 0 (λ e. omega arith), ne_eqb context 1 (λ e. omega arith))

some-context : (context : ℕ) → context < 2 → (c : Context) × (context_of context ≡ Some c)
some-context context h = by-number (eqb context 0) refl
  where
    second : context ≡ 1 → (c : Context) × (context_of context ≡ Some c)
    second e = (Tap, rw e)

    by-number : (b : Bool) → eqb context 0 ≡ b → (c : Context) × (context_of context ≡ Some c)
    by-number true t =
        let first = eqb-true context 0 t in
        (Segwitv0, rw first)
    by-number false t = second (omega (arith, eqb-false context 0 t))

module _ (context : ℕ) (tree work : List ℕ) where
  pub of-no-context : 2 ≤ context → Passing context tree work (Err Refusal.BadContext)
  unfolding tree_in
  of-no-context h = fails (rw (no-context context h))

  pub of-other-length : context < 2 → (length work ≡ work_words → ⊥) → Passing context tree work (Err Refusal.BadWork)
  unfolding tree_in
  of-other-length h l =
      let c = some-context context h in
      fails (rw (c.1, ne_eqb (length work) work_words l))

  module _ (h : context < 2) (room : length work ≡ work_words) where
    tree-in : {a : Answer Typed} → check_of context tree max_records ≡ a → tree_in context tree work ≡ a
    unfolding tree_in
    tree-in {a} e =
        let c = some-context context h in
        rw (c.1, eq-eqb (length work) work_words room) e

    whole : {a : Answer Typed} → check_of context tree (length (take 4096 work)) ≡ a → check_of context tree max_records ≡ a
    whole e = sym (ap (check_of context tree) (first-long work room)) ∙ e

    pub of-refused : {r : Refusal} → refused (number_of r) ≡ type_only (check_of context tree (length (take 4096 work))) → Passing context tree work (Err r)
    of-refused e = fails (tree-in (whole (refused-by context tree (take 4096 work) e)))

    pub of-passed : {t : «Type»} → done t ≡ type_only (check_of context tree (length (take 4096 work))) → {c₀ : Context}
        → ((c : Context) → context_of context ≡ Some c → c₀ ≡ c) → Passing context tree work (Ok c₀)
    of-passed e {c₀} is =
        let p = passed-as context tree (take 4096 work) e in
        let same = is p.its-context p.context-is in
        checks (p.context-is ∙ ap Some (sym same)) room (whole p.passes) (tree-in (whole p.passes))

module _ {context : ℕ} {tree work : List ℕ} {c : Context} where
  pub its-room : Passing context tree work (Ok c) → length work ≡ work_words
  its-room (checks k room e t) = room

  pub tree-checked : Passing context tree work (Ok c) → Checked c tree
  tree-checked (checks {x = x} k room e t) =
      let known = (passes-well-typed-trees context c tree x k).0 e in
      record {
        root = x.tree;
        rows = rows context tree max_records x e;
        typed = known.1 ∙ ap Ok (sym (ap type_or known.1));
        low = known.2;
      }

  pub answered : Passing context tree work (Ok c) → {out left : List ℕ} {r : Result ℕ Refusal} → Outcome c tree out left r
      → Answered context tree out work left r
  answered (checks k room e t) o = passes k e t o

pub answered-refused : {context : ℕ} {tree work : List ℕ} {r : Refusal} → Passing context tree work (Err r) → {out left : List ℕ} → left ≡ out
    → Answered context tree out work left (Err r)
answered-refused (fails e) w = refuses e w

-- ---- the entry keeps its promise

results : (context : ℕ) (tree out work : List ℕ) {left : List ℕ} {r : Result ℕ Refusal} → Answered context tree out work left r
    → Indexed context tree out (tree_in context tree work) (number_in r) left (bytes_in r)
results context tree out work (passes {c} {x} k e t (fits {index = index} counts is l w n)) =
    let own = rows context tree max_records x e in
    rw (t, w, n) (Index.fits k own (subst (λ (n : ℕ). IsIndex c tree n index) (counts x.tree own) is) l)
results context tree out work (passes {c} {x} k e t (too_small counts l w)) =
    let own = rows context tree max_records x e in
    rw (t, w) (Index.too_small own (omega (arith, l, counts x.tree own)))
results context tree out work (refuses {r} t w) = rw (t, w) (Index.refuses (number_of r))

pub promised : (context : ℕ) (tree out work worked : List ℕ) {left after : List ℕ} {r : Result ℕ Refusal} → Answered context tree out work left r
    → length worked ≡ length work → after ≡ zeroed worked → IndexPromise context tree out work (number_in r) left (bytes_in r) after
promised context tree out work worked a e c = record { gives = results context tree out work a; clears = c ∙ ap (λ (n : ℕ). replicate n 0) e }
