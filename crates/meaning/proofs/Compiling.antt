-- What compile writes means its policy: the tree that it chooses is an entry of the root's table, and is read back from its bytes.
use mathlib.Core.Bool.{Bool, true, false, cond, ◌&&◌, false≢true}
use mathlib.Core.List.{List, []}
use Rattle.std.specs.Prelude.{Option, None, Some}
use mathlib.Core.Path.{◌≡◌, refl, sym, ap, ◌∙◌}
use Prim.Native.Nat.{ℕ, ◌+◌}
use borrow.Author.Tests.{leb-true}
use native.Mathlib.Omega.{arith}
use lib.Dec.{leb}
use lib.ListN.{length}
use Rattle.costs.specs.declared.Price.{Price}
use Rattle.contexts.specs.declared.Context.{Context}
use Rattle.policies.specs.Policy.{Policy}
use Rattle.policies.specs.Reading as Reading
use Rattle.policies.specs.Reading.{read_policy}
use Rattle.trees.specs.Reading as trees
use Rattle.trees.specs.Tree.{tree_of}
use Rattle.writing.specs.WellFormed.{AllBelow, WellFormed}
use Rattle.writing.specs.Writing.{size, bytes_of_tree}
use Rattle.writing.proofs.ReadBack.{read_back}
use Rattle.definition.specs.Candidates.{Candidate}
use Rattle.definition.specs.Tables.{cost_at}
use Rattle.definition.specs.Refusals.{State, state, Res, done, refused, TopLevelNonSafe, OutputTooSmall, BadWork}
use Rattle.definition.specs.Search.{is_base_b}
use Rattle.definition.specs.Compile.{max_records, root_probs, best_compilation, compiled, refused_with, outcome, compile_policy}
use Rattle.definition.specs.Compile.{compile_read, compile_in, context_of, compile}
use Rattle.definition_laws.specs.FormedPolicy.{FormedPolicy}
use Rattle.definition_laws.specs.Laws as laws
use Rattle.definition_laws.proofs.Searching.{cheapest-of}
use Rattle.definition_laws.proofs.Reading.{reads-formed}
use Rattle.definition_laws.proofs.Compiling.{RootWell, best_compilation-keeps, start-proper}
use Rattle.meaning.specs.Meaning.{Assignment, policy_means, tree_means}
use Rattle.meaning.specs.CompileMeans.{MeansAlike, CompileMeans}
use Rattle.meaning.proofs.Keeping.{Means, MeantState, Gives, refuses, gives, Keeps, refuse-keeps, pure-keeps, cond-keeps, bind-keeps}
use Rattle.meaning.proofs.Searching.{chosen-keeps, search-means}

-- the root that is chosen means its policy
root-means : (a : Assignment) (c : Context) (q : Policy) → Keeps a (Means a (policy_means a q)) (best_compilation c q)
unfolding best_compilation
root-means a c q =
    bind-keeps a (search-means a c q root_probs) λ t h.
    bind-keeps a (chosen-keeps a c (cheapest-of root_probs is_base_b h)) λ x k.
    cond-keeps a x.ty.mall.safe (λ s. pure-keeps a k.is) (λ s. refuse-keeps a TopLevelNonSafe)

start-means : (a : Assignment) → MeantState a (state 0 [])
start-means a = record { tables = laws.nobody }

-- ---- what is written

both : (a b : Bool) → a && b ≡ true → (a ≡ true) × (b ≡ true)
both true b h = (refl, h)
both false b h = absurd (false≢true h)

never : {A : Type 0} {bytes : List ℕ} {cost : Price} {nodes e : ℕ} → refused_with e ≡ compiled bytes cost nodes → A
never h = let z : ◌≡◌ {A = ℕ} 0 1 = cc in absurd (omega arith)

module _ (policy : List ℕ) (q : Policy) (read : read_policy policy ≡ Reading.done q) (formed : FormedPolicy q)
    (c : Context) (room : ℕ) (bytes : List ℕ) (cost : Price) (nodes : ℕ) where
  written : (x : Candidate) → WellFormed x.tree → ((a : Assignment) → Means a (policy_means a q) x) → leb (size x.tree) max_records ≡ true →
      bytes_of_tree x.tree ≡ bytes → MeansAlike policy bytes
  written x w m l e = record {
    as_policy = q;
    as_tree = x.tree;
    policy_read = read;
    tree_read = ap tree_of (sym e) ∙ read_back x.tree w (leb-true _ _ l);
    alike = λ a. (m a).means;
  }

  fitted : (x : Candidate) (price : Price) (n : ℕ) → WellFormed x.tree → ((a : Assignment) → Means a (policy_means a q) x) → (b : Bool) →
      (leb (size x.tree) max_records && leb (length (bytes_of_tree x.tree)) room) ≡ b →
      cond b (compiled (bytes_of_tree x.tree) price n) (refused_with OutputTooSmall) ≡ compiled bytes cost nodes → MeansAlike policy bytes
  fitted x price n w m false t h = never h
  fitted x price n w m true t h =
      let same_bytes : bytes_of_tree x.tree ≡ bytes = cc in
      written x w m (both (leb (size x.tree) max_records) (leb (length (bytes_of_tree x.tree)) room) t).0 same_bytes

  meant : {x : Candidate} {s : State} {a : Assignment} → Gives a (Means a (policy_means a q)) (done x s) → Means a (policy_means a q) x
  meant (gives h g) = h

  by_answer : (r : Res Candidate) → laws.Gives c (RootWell c) (state 0 []) r → ((a : Assignment) → Gives a (Means a (policy_means a q)) r) →
      outcome room r ≡ compiled bytes cost nodes → MeansAlike policy bytes
  by_answer (refused e) k m h = never h
  by_answer (done x s) (laws.gives r g l) m h =
      fitted x (cost_at root_probs x) (s.accepted + 2) r.entry.good.formed (λ a. meant (m a)) _ refl h

  compiled-means : compile_policy c room q ≡ compiled bytes cost nodes → MeansAlike policy bytes
  unfolding compile_policy
  compiled-means h =
      by_answer (best_compilation c q (state 0 [])) ((best_compilation-keeps c q formed).from (state 0 []) (start-proper c))
      (λ a. (root-means a c q).from (state 0 []) (start-means a)) h

pub compile-means : CompileMeans
unfolding compile
compile-means context work_fits policy room bytes cost nodes below h = by-context (context_of context) h
  where
    by-reading : (c : Context) (r : Reading.Answer Policy) → read_policy policy ≡ r → compile_read c room r ≡ compiled bytes cost nodes →
        MeansAlike policy bytes
    by-reading c (Reading.refused n) e h = never h
    by-reading c (Reading.done q) e h = compiled-means policy q e (reads-formed policy below q e) c room bytes cost nodes h

    by-work : (c : Context) (b : Bool) → cond b (compile_read c room (read_policy policy)) (refused_with BadWork) ≡ compiled bytes cost nodes →
        MeansAlike policy bytes
    by-work c true h = by-reading c (read_policy policy) refl h
    by-work c false h = never h

    by-context : (o : Option Context) → compile_in context work_fits room policy o ≡ compiled bytes cost nodes → MeansAlike policy bytes
    by-context None h = never h
    by-context (Some c) h = by-work c work_fits h
