-- What compile gives is sound: a well-typed tree of base B that is safe and not malleable, written in at most 4,096 records.
use mathlib.Core.Bool.{Bool, true, false, cond, ◌&&◌, false≢true}
use mathlib.Core.List.{List, []}
use Rattle.std.specs.Prelude.{Option, None, Some}
use mathlib.Core.Path.{◌≡◌, refl, sym, subst}
use Prim.Native.Nat.{ℕ, ◌+◌, ◌≤◌}
use native.Mathlib.Omega.{arith}
use borrow.Author.Tests.{leb-true}
use lib.Dec.{leb}
use lib.ListN.{length}
use Rattle.contexts.specs.declared.Context.{Context}
use Rattle.costs.specs.declared.Price.{Price}
use Rattle.correctness.specs.declared.Base.{Base}
use Rattle.correctness.specs.declared.Base.TheVariants.{B, K, «V», W}
use Rattle.correctness.specs.Letters.{is_b}
use Rattle.figures.specs.Validity.{check_local_validity}
use Rattle.trees.specs.Height.{max_height}
use Rattle.policies.specs.Policy.{Policy}
use Rattle.policies.specs.Reading as Reading
use Rattle.policies.specs.Reading.{read_policy}
use Rattle.definition.specs.Candidates.{Candidate, kind_of}
use Rattle.definition.specs.Tables.{cost_at}
use Rattle.definition.specs.Refusals.{State, state, Res, NodesFull, TopLevelNonSafe, OutputTooSmall, BadWork}
use Rattle.definition.specs.Insertion.{valid, height}
use Rattle.definition.specs.Search.{is_base_b}
use Rattle.writing.specs.WellFormed.{AllBelow}
use Rattle.writing.specs.Writing.{size, bytes_of_tree}
use Rattle.definition.specs.Compile.{max_records, root_probs, best_compilation, compiled, refused_with, outcome, compile_policy}
use Rattle.definition.specs.Compile.{compile_read, compile_in, context_of, compile}
use Rattle.definition_laws.specs.FormedPolicy.{FormedPolicy}
use Rattle.definition_laws.specs.Laws.{nobody, Entry, ProperState, Gives, refuses, gives, Keeps, Sound}
use Rattle.definition_laws.proofs.Heights.{height-of}
use Rattle.definition_laws.proofs.Keeping.{pure-keeps, refuse-keeps, cond-keeps, bind-keeps}
use Rattle.definition_laws.proofs.Searching.{cheapest-of, chosen-keeps, search-proper}
use Rattle.definition_laws.proofs.Reading.{reads-formed}

-- ---- the root

-- an entry of base B that is safe
pub record RootWell (c : Context) (x : Candidate) : Type 0 where
  pub entry : Entry c x
  pub base : x.ty.corr.base ≡ B
  pub safe : x.ty.mall.safe ≡ true

is-B : (b : Base) → is_b b ≡ true → b ≡ B
is-B B h = refl
is-B K h = absurd (false≢true h)
is-B «V» h = absurd (false≢true h)
is-B W h = absurd (false≢true h)

pub best_compilation-keeps : (c : Context) (q : Policy) → FormedPolicy q → Keeps c (RootWell c) (best_compilation c q)
unfolding best_compilation
best_compilation-keeps c q w =
    bind-keeps (search-proper c q root_probs w) λ t h.
    bind-keeps (chosen-keeps (cheapest-of root_probs is_base_b h.entries)) λ x k.
    cond-keeps x.ty.mall.safe
    (λ s. pure-keeps (record { entry = k.is; base = is-B _ k.suited; safe = s }))
    (λ s. refuse-keeps TopLevelNonSafe (omega arith))

-- where every call begins
pub start-proper : (c : Context) → ProperState c (state 0 [])
start-proper c = record { tables = nobody; nodes = omega arith; slots = omega arith }

-- ---- what is written

both : (a b : Bool) → a && b ≡ true → (a ≡ true) × (b ≡ true)
both true b h = (refl, h)
both false b h = absurd (false≢true h)

not-both : {A : Type 0} {bytes : List ℕ} {cost : Price} {nodes e : ℕ} → refused_with e ≡ compiled bytes cost nodes → A
not-both h = let z : ◌≡◌ {A = ℕ} 0 1 = cc in absurd (omega arith)

pub compiled-is-sound : (c : Context) (room : ℕ) (q : Policy) (bytes : List ℕ) (cost : Price) (nodes : ℕ) → FormedPolicy q →
    compile_policy c room q ≡ compiled bytes cost nodes → Sound c room bytes nodes
unfolding compile_policy
compiled-is-sound c room q bytes cost nodes w h = by_answer ((best_compilation-keeps c q w).from (state 0 []) (start-proper c)) h
  where
    fitted : (x : Candidate) (s : State) (price : Price) (b : Bool) → (leb (size x.tree) max_records && leb (length (bytes_of_tree x.tree)) room) ≡ b →
        RootWell c x → ProperState c s →
        cond b (compiled (bytes_of_tree x.tree) price (s.accepted + 2)) (refused_with OutputTooSmall) ≡ compiled bytes cost nodes →
        Sound c room bytes nodes
    fitted x s price false t r g h = not-both h
    fitted x s price true t r g h =
        let test = both (leb (size x.tree) max_records) (leb (length (bytes_of_tree x.tree)) room) t in
        let tests = both (valid c x) (leb (height x) max_height) r.entry.worth in
        let worth = both x.ty.mall.non_malleable (check_local_validity c (kind_of x.tree) x.ext) tests.0 in
        let same_bytes : bytes_of_tree x.tree ≡ bytes = cc in
        let same_nodes : s.accepted + 2 ≡ nodes = cc in
        record {
          tree = x.tree;
          ty = x.ty;
          written = sym same_bytes;
          within = leb-true _ _ test.0;
          fits = subst (λ b. length b ≤ room) same_bytes (leb-true _ _ test.1);
          formed = r.entry.good.formed;
          typed = r.entry.good.typed;
          base = r.base;
          safe = r.safe;
          non_malleable = worth.0;
          valid = subst (λ e. check_local_validity c (kind_of x.tree) e ≡ true) r.entry.good.figured worth.1;
          low = subst (λ h. h ≤ max_height) (height-of c x r.entry.good) (leb-true _ _ tests.1);
          counted = omega (arith, g.nodes, same_nodes);
        }

    by_answer : {r : Res Candidate} → Gives c (RootWell c) (state 0 []) r → outcome room r ≡ compiled bytes cost nodes → Sound c room bytes nodes
    by_answer (refuses n) h = not-both h
    by_answer (gives {a = x} {s' = s} r g l) h =
        fitted x s (cost_at root_probs x) (leb (size x.tree) max_records && leb (length (bytes_of_tree x.tree)) room) refl r g h

-- a policy that can be written and is not compiled is refused with one of the numbers from NodesFull to OutputTooSmall
pub refused-is-named : (c : Context) (room : ℕ) (q : Policy) (n : ℕ) → FormedPolicy q →
    compile_policy c room q ≡ refused_with n → (NodesFull ≤ n) × (n ≤ OutputTooSmall)
unfolding compile_policy
refused-is-named c room q n w h = by_answer ((best_compilation-keeps c q w).from (state 0 []) (start-proper c)) h
  where
    same_number : {m : ℕ} → NodesFull ≤ m → m ≤ OutputTooSmall → refused_with m ≡ refused_with n → (NodesFull ≤ n) × (n ≤ OutputTooSmall)
    same_number {m} a b h = let e : m ≡ n = cc in omega arith

    by-test : (b : Bool) (bytes : List ℕ) (cost : Price) (nodes : ℕ) → cond b (compiled bytes cost nodes) (refused_with OutputTooSmall) ≡ refused_with n →
        (NodesFull ≤ n) × (n ≤ OutputTooSmall)
    by-test true bytes cost nodes h = not-both (sym h)
    by-test false bytes cost nodes h = same_number {m = OutputTooSmall} (omega arith) (omega arith) h

    by_answer : {r : Res Candidate} → Gives c (RootWell c) (state 0 []) r → outcome room r ≡ refused_with n → (NodesFull ≤ n) × (n ≤ OutputTooSmall)
    by_answer (refuses {e} k) h = same_number {m = e} k.0 (omega arith) h
    by_answer (gives {a = x} r g l) h =
        by-test (leb (size x.tree) max_records && leb (length (bytes_of_tree x.tree)) room) (bytes_of_tree x.tree) _ _ h

-- the whole of compile is sound, in the context of the number that it was given
pub compile-is-sound : (context : ℕ) (work_fits : Bool) (policy : List ℕ) (room : ℕ) (bytes : List ℕ) (cost : Price) (nodes : ℕ) → AllBelow 256 policy →
    compile context work_fits policy room ≡ compiled bytes cost nodes →
    (c : Context) × (context_of context ≡ Some c) × Sound c room bytes nodes
unfolding compile
compile-is-sound context work_fits policy room bytes cost nodes below h = by-context (context_of context) refl h
  where
    by-reading : (c : Context) (a : Reading.Answer Policy) → read_policy policy ≡ a → compile_read c room a ≡ compiled bytes cost nodes →
        Sound c room bytes nodes
    by-reading c (Reading.refused n) e h = not-both h
    by-reading c (Reading.done q) e h = compiled-is-sound c room q bytes cost nodes (reads-formed policy below q e) h

    by-work : (c : Context) (b : Bool) → cond b (compile_read c room (read_policy policy)) (refused_with BadWork) ≡ compiled bytes cost nodes →
        Sound c room bytes nodes
    by-work c true h = by-reading c (read_policy policy) refl h
    by-work c false h = not-both h

    by-context : (o : Option Context) → context_of context ≡ o → compile_in context work_fits room policy o ≡ compiled bytes cost nodes →
        (c : Context) × (context_of context ≡ Some c) × Sound c room bytes nodes
    by-context None e h = not-both h
    by-context (Some c) e h = (c, e, by-work c work_fits h)
