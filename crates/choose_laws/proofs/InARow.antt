-- Compile is the choice and the writing in a row: specs/Laws.antt. Assumes nothing.
use mathlib.Core.Bool.{Bool, true, false, cond}
use mathlib.Core.List.{List, []}
use Rattle.std.specs.Prelude.{Option, None, Some}
use mathlib.Core.Path.{◌≡◌, refl, sym, ap, subst, ◌∙◌}
use Prim.Native.Nat.{ℕ, ◌+◌, ◌≤◌}
use native.Mathlib.Omega.{arith}
use borrow.Author.Tests.{le-leb, leb-true}
use lib.Dec.{leb, eqb}
use lib.ListN.{length, replicate}
use Rattle.words.specs.Memory.{zeroed}
use Rattle.contexts.specs.declared.Context.{Context}
use Rattle.costs.specs.declared.Price.{Price}
use Rattle.memory.specs.Layout.{work_words}
use Rattle.trees.specs.Fragment.{Fragment}
use Rattle.writing.specs.Writing.{size, bytes_of_tree}
use Rattle.writing.specs.WellFormed.{AllBelow, WellFormed}
use Rattle.policies.specs.Policy.{Policy}
use Rattle.policies.specs.Reading as Reading
use Rattle.policies.specs.Reading.{read_policy}
use Rattle.definition.specs.Candidates.{Candidate}
use Rattle.definition.specs.Tables.{cost_at}
use Rattle.definition.specs.Refusals.{state, Res, BadWork, OutputTooSmall}
use Rattle.definition.specs.Compile.{Outcome, compiled, refused_with, max_records, root_probs, fitting, outcome, compile_policy}
use Rattle.definition.specs.Compile.{compile_read, compile_in, context_of, compile}
use Rattle.definition_laws.specs.FormedPolicy.{FormedPolicy}
use Rattle.definition_laws.specs.Laws.{Gives, refuses, gives}
use Rattle.definition_laws.proofs.Compiling.{RootWell, best_compilation-keeps, start-proper, compile-is-sound}
use Rattle.definition_laws.proofs.Reading.{reads-formed}
use Rattle.chosen.specs.Form.{tree_bytes, most_bytes, holding}
use Rattle.chosen.specs.Chosen.{chosen_of}
use Rattle.chosen.proofs.Bounds.{tree-bytes}
use Rattle.chosen.proofs.Written.{written-in-order}
use Rattle.chosen.proofs.Holding.{chosen-again, holding-long}
use Rattle.claspwillow.specs.Promises.{number_of_outcome, output_after, bytes_written, cost_given, never_given, nodes_used, given, choice, memory_after}
use Rattle.claspwillow.specs.Promises.{Writing, wrote, unwritten, writing, number_of_writing, output_of_writing, bytes_of_writing}
use Rattle.claspwillow.specs.Promises.{ChoosePromise, WritePromise, CompilePromise}
use Rattle.claspwillow.proofs.Choosing.{work-fits}
use Rattle.choose_laws.specs.Laws.{RoomForAll, in_a_row, CompileInARow, ChosenIsRead, if_done, ChosenThenWritten, ChoiceRefused}

-- ---- every tree has room

pub room-for-all : RoomForAll
room-for-all f w few = omega (arith, (tree-bytes f w).1)

-- ---- compile, case by case

fit-in-a-row : (room : ℕ) (f : Fragment) (cost : Price) (nodes : ℕ) → WellFormed f → fitting room f cost nodes ≡ in_a_row room (fitting most_bytes f cost nodes)
fit-in-a-row room f cost nodes w = by_size (leb (size f) max_records) refl
  where
    by_size : (t : Bool) → leb (size f) max_records ≡ t → fitting room f cost nodes ≡ in_a_row room (fitting most_bytes f cost nodes)
    by_size true e =
        let fits = le-leb (length (bytes_of_tree f)) most_bytes (room-for-all f w (leb-true (size f) max_records e)) in
        rw (e, fits)
    by_size false e = rw e

outcome-in-a-row : (room : ℕ) {c : Context} {res : Res Candidate} → Gives c (RootWell c) (state 0 []) res → outcome room res ≡ in_a_row room (outcome most_bytes res)
outcome-in-a-row room (refuses r) = refl
outcome-in-a-row room (gives {a} {s'} well g k) = fit-in-a-row room a.tree (cost_at root_probs a) (s'.accepted + 2) well.entry.good.formed

policy-in-a-row : (room : ℕ) (c : Context) (q : Policy) → FormedPolicy q → compile_policy c room q ≡ in_a_row room (compile_policy c most_bytes q)
unfolding compile_policy
policy-in-a-row room c q w = outcome-in-a-row room ((best_compilation-keeps c q w).from (state 0 []) (start-proper c))

pub compile-in-a-row : CompileInARow
unfolding compile
compile-in-a-row context work_fits policy room below = by-context (context_of context)
  where
    by-reading : (c : Context) (a : Reading.Answer Policy) → read_policy policy ≡ a → compile_read c room a ≡ in_a_row room (compile_read c most_bytes a)
    by-reading c (Reading.refused n) e = refl
    by-reading c (Reading.done q) e = policy-in-a-row room c q (reads-formed policy below q e)

    by-work : (c : Context) (b : Bool)
        → cond b (compile_read c room (read_policy policy)) (refused_with BadWork)
        ≡ in_a_row room (cond b (compile_read c most_bytes (read_policy policy)) (refused_with BadWork))
    by-work c true = by-reading c (read_policy policy) refl
    by-work c false = refl

    by-context : (o : Option Context) → compile_in context work_fits room policy o ≡ in_a_row room (compile_in context work_fits most_bytes policy o)
    by-context None = refl
    by-context (Some c) = by-work c work_fits

-- ---- what was chosen is read

-- the bytes that compile gives write a tree
given-is-read : (context : ℕ) (work_fits : Bool) (policy : List ℕ) (room : ℕ) (tree : List ℕ) (price : Price) (used : ℕ) → AllBelow 256 policy
    → compile context work_fits policy room ≡ compiled tree price used → chosen_of (holding tree) ≡ Some tree
given-is-read context work_fits policy room tree price used below e =
    let sound = (compile-is-sound context work_fits policy room tree price used below e).2 in
    let bytes = tree-bytes sound.tree sound.formed in
    let fits : length (bytes_of_tree sound.tree) ≤ tree_bytes = omega (arith, bytes.1, sound.within) in
    subst (λ (b : List ℕ). chosen_of (holding b) ≡ Some b) (sym sound.written)
    (chosen-again (bytes_of_tree sound.tree) bytes.0 fits (written-in-order sound.tree sound.formed sound.within))

pub chosen-is-read : ChosenIsRead
chosen-is-read context policy work number bytes cost never nodes after below p tree price used e =
    ap chosen_of (p.leaves ∙ ap (λ (o : Outcome). memory_after o work) e)
    ∙ given-is-read context (eqb (length work) work_words) policy most_bytes tree price used below e

-- ---- the two in a row

module _ (context : ℕ) (policy work out : List ℕ) (below : AllBelow 256 policy) where
  -- compile's outcome by what was chosen
  by-choice : {o : Outcome} → choice context policy work ≡ o → given context policy out work ≡ in_a_row (length out) o
  by-choice e =
      compile-in-a-row context (eqb (length work) work_words) policy (length out) below ∙ ap (in_a_row (length out)) e

  module _ (first bytes cost never nodes : ℕ) (between : List ℕ) (p : ChoosePromise context policy work first bytes cost never nodes between)
      (number : ℕ) (left : List ℕ) (written : ℕ) (after : List ℕ) (w : WritePromise out between number left written after)
      (tree : List ℕ) (price : Price) (used : ℕ) (e : choice context policy work ≡ compiled tree price used) where
    held : chosen_of between ≡ Some tree
    held = chosen-is-read context policy work first bytes cost never nodes between below p tree price used e

    same_length : length between ≡ length work
    same_length =
        ap length (p.leaves ∙ ap (λ (o : Outcome). memory_after o work) e) ∙ holding-long tree
        ∙ sym (work-fits context policy work most_bytes e)

    cleared : after ≡ zeroed work
    cleared = w.clears ∙ ap (λ (n : ℕ). replicate n 0) same_length

    what : writing (chosen_of between) (length out) ≡ cond (leb (length tree) (length out)) (wrote tree) (unwritten OutputTooSmall)
    what = ap (λ (o : Option (List ℕ)). writing o (length out)) held

    by-room : (t : Bool) → leb (length tree) (length out) ≡ t
        → CompilePromise context policy out work number left written (if_done number cost) (if_done number never) (if_done number nodes) after
    by-room true r =
        let o : given context policy out work ≡ compiled tree price used =
        by-choice e ∙ ap (λ (b : Bool). cond b (compiled tree price used) (refused_with OutputTooSmall)) r in
        let u : writing (chosen_of between) (length out) ≡ wrote tree =
        what ∙ ap (λ (b : Bool). cond b (wrote tree) (unwritten OutputTooSmall)) r in
        let n : number ≡ 0 = w.gives ∙ ap number_of_writing u in
        record {
          gives = n ∙ ap number_of_outcome (sym o);
          writes = w.writes ∙ ap (λ (x : Writing). output_of_writing x out) u ∙ ap (λ (x : Outcome). output_after x out) (sym o);
          counts = w.counts ∙ ap bytes_of_writing u ∙ ap bytes_written (sym o);
          costs = ap (λ (k : ℕ). if_done k cost) n ∙ p.costs ∙ ap cost_given (e ∙ sym o);
          tells = ap (λ (k : ℕ). if_done k never) n ∙ p.tells ∙ ap never_given (e ∙ sym o);
          uses = ap (λ (k : ℕ). if_done k nodes) n ∙ p.uses ∙ ap nodes_used (e ∙ sym o);
          clears = cleared;
        }
    by-room false r =
        let o : given context policy out work ≡ refused_with OutputTooSmall =
        by-choice e ∙ ap (λ (b : Bool). cond b (compiled tree price used) (refused_with OutputTooSmall)) r in
        let u : writing (chosen_of between) (length out) ≡ unwritten OutputTooSmall =
        what ∙ ap (λ (b : Bool). cond b (wrote tree) (unwritten OutputTooSmall)) r in
        let n : number ≡ OutputTooSmall = w.gives ∙ ap number_of_writing u in
        record {
          gives = n ∙ ap number_of_outcome (sym o);
          writes = w.writes ∙ ap (λ (x : Writing). output_of_writing x out) u ∙ ap (λ (x : Outcome). output_after x out) (sym o);
          counts = w.counts ∙ ap bytes_of_writing u ∙ ap bytes_written (sym o);
          costs = ap (λ (k : ℕ). if_done k cost) n ∙ ap cost_given (sym o);
          tells = ap (λ (k : ℕ). if_done k never) n ∙ ap never_given (sym o);
          uses = ap (λ (k : ℕ). if_done k nodes) n ∙ ap nodes_used (sym o);
          clears = cleared;
        }

pub chosen-then-written : ChosenThenWritten
chosen-then-written context policy work out below first bytes cost never nodes between p number left written after w tree price used e =
    by-room context policy work out below first bytes cost never nodes between p number left written after w tree price used e (leb (length tree) (length out)) refl

pub choice-refused : ChoiceRefused
choice-refused context policy work out below number bytes cost never nodes after p n e =
    let o : given context policy out work ≡ refused_with n = by-choice context policy work out below e in
    record {
      gives = p.gives ∙ ap number_of_outcome (e ∙ sym o);
      writes = ap (λ (x : Outcome). output_after x out) (sym o);
      counts = p.counts ∙ ap bytes_written (e ∙ sym o);
      costs = p.costs ∙ ap cost_given (e ∙ sym o);
      tells = p.tells ∙ ap never_given (e ∙ sym o);
      uses = p.uses ∙ ap nodes_used (e ∙ sym o);
      clears = p.leaves ∙ ap (λ (x : Outcome). memory_after x work) e;
    }
