-- Where no candidate over 128 arises, compile gives what it gave (specs/AsBefore.antt); and the search over any insertion is the definition's with the
-- definition's insertion. Assumes nothing.
use mathlib.Core.Bool.{Bool, true, false, cond, ◌&&◌}
use mathlib.Core.List.{List, []}
use Rattle.std.specs.Prelude.{Option, None, Some}
use mathlib.Core.Path.{◌≡◌, refl, sym, ap, ◌∙◌}
use Prim.Native.Nat.{ℕ}
use lib.Dec.{leb}
use Rattle.contexts.specs.declared.Context.{Context}
use Rattle.trees.specs.Height.{max_height}
use Rattle.policies.specs.Policy.{Policy}
use Rattle.policies.specs.Reading as Reading
use Rattle.policies.specs.Reading.{read_policy}
use Rattle.definition.specs.Candidates.{Candidate}
use Rattle.definition.specs.Tables.{Probs, Table}
use Rattle.definition.specs.Refusals.{State, state, Res, done, refused, M, then, ◌>>=◌, BadWork}
use Rattle.definition.specs.Insertion.{Offered, valid, height, insert}
use Rattle.definition.specs.Search.{search, cheapest, chosen, is_base_b}
use Rattle.definition.specs.Compile.{root_probs, if_safe, Outcome, refused_with, outcome, best_compilation, compile_policy, compile_read, compile_in, context_of, compile}
use Rattle.search_before.specs.AnyInsertion.{Insertion, search_by, SearchIs}
use Rattle.search_before.specs.AsBefore.{insert_before, insert_until, too_tall, TallArises, best_before, policy_before, read_before, in_before}
use Rattle.search_before.specs.AsBefore.{compile_before, AsBefore}
use Rattle.search_before.proofs.Alike.{Ends, stopped, same, Alike, itself}
use Rattle.search_before.proofs.Inserting.{AlikeInsertions}
use Rattle.search_before.proofs.Searching.{searches-alike}

-- ---- the definition's own insertion

pub search_is : SearchIs
search_is c q p s = ended ((searches-alike never q p).from s)
  where
    never : AlikeInsertions (λ _. ⊥) c insert insert
    never = record { each = λ p x t. itself }

    ended : {r r₁ r₂ : Res Table} → Ends (λ _. ⊥) r r₁ r₂ → r ≡ r₂
    ended (stopped h) = absurd h
    ended same = refl

-- ---- insertion until a candidate is too tall

abbrev Tall : ℕ → Type 0
Tall e = e ≡ too_tall

until-alike : (c : Context) → AlikeInsertions Tall c insert_until insert_before
unfolding insert_until insert_before insert
until-alike c = record { each = λ p x t. by_tests (valid c x) (leb (height x) max_height) _ _ }
  where
    by_tests : (b d : Bool) (m n : M Offered) →
        Alike Tall (cond b (cond d m (λ s. refused too_tall)) n) (cond b m n) (cond (b && d) m n)
    by_tests true true m n = itself
    by_tests true false m n = record { from = λ s. stopped refl }
    by_tests false d m n = itself

search-ends : (c : Context) (q : Policy) (s : State) →
    Ends Tall (search_by insert_until c q root_probs s) (search_by insert_before c q root_probs s) (search c q root_probs s)
search-ends c q s = (searches-alike (until-alike c) q root_probs).from s

one-search : {r r₁ r₂ : Res Table} → Ends Tall r r₁ r₂ → (r ≡ refused too_tall → ⊥) → r₂ ≡ r₁
one-search (stopped h) n = absurd (n (ap refused h))
one-search same n = refl

-- ---- compile

policy-as-before : (c : Context) (room : ℕ) (q : Policy) → (TallArises c q → ⊥) → compile_policy c room q ≡ policy_before c room q
unfolding compile_policy policy_before best_compilation best_before
policy-as-before c room q n =
    ap (λ (r : Res Table). outcome room (then r (λ t. chosen (cheapest root_probs is_base_b t) >>= λ x. if_safe x)))
    (one-search (search-ends c q (state 0 [])) n)

pub as_before : AsBefore
unfolding compile compile_before
as_before context work_fits policy room n = in-context (context_of context) refl
  where
    when-read : (c : Context) → context_of context ≡ Some c → (a : Reading.Answer Policy) → read_policy policy ≡ a →
        compile_read c room a ≡ read_before c room a
    when-read c e (Reading.refused m) h = refl
    when-read c e (Reading.done q) h = policy-as-before c room q (n c q e h)

    when-fits : (c : Context) → context_of context ≡ Some c → (b : Bool) →
        cond b (compile_read c room (read_policy policy)) (refused_with BadWork) ≡ cond b (read_before c room (read_policy policy)) (refused_with BadWork)
    when-fits c e true = when-read c e (read_policy policy) refl
    when-fits c e false = refl

    in-context : (o : Option Context) → context_of context ≡ o → compile_in context work_fits room policy o ≡ in_before work_fits room policy o
    in-context None e = refl
    in-context (Some c) e = when-fits c e work_fits
