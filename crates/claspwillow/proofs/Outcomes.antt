-- What an answer of compile tells of what its definition gives: by its context, and by each of its numbers. Assumes nothing.
use mathlib.Core.List.{List, ◌++◌}
use mathlib.Core.Path.{◌≡◌, sym, ap, subst, ◌∙◌}
use Prim.Native.Nat.{ℕ}
use lib.ListN.{length, drop, replicate}
use borrow.Author.Tests.{eq-eqb, ne_eqb}
use Rattle.words.specs.Memory.{zeroed}
use Rattle.contexts.specs.declared.Context.{Context}
use Rattle.contexts.specs.declared.Context.TheVariants.{Segwitv0, Tap}
use Rattle.memory.specs.Layout.{work_words}
use Rattle.policies.specs.Reading.{read_policy}
use Rattle.definition.specs.Refusals.{BadContext, BadWork}
use Rattle.definition.specs.Compile.{Outcome, refused_with, compile_read, compile}
use Rattle.compile.specs.declared.Compiled.{Compiled}
use Rattle.refusals.specs.declared.Refusal.{Refusal}
use Rattle.std.specs.Prelude.{Result}
use Rattle.compile.specs.Answers.{Compiles, compiles, refuses}
use Rattle.claspwillow.specs.Results.{given_in, number_in, bytes_in, cost_in, never_in, nodes_in}
use Rattle.claspwillow.specs.Promises.{number_of_outcome, output_after, bytes_written, cost_given, never_given, nodes_used, given, CompilePromise}

-- ---- the context and the work memory

pub retold : {o o' : Outcome} {out left : List ℕ} {r : Result Compiled Refusal} → o ≡ o' → Compiles o out left r → Compiles o' out left r
retold {o} {o'} {out} {left} {r} e h = subst (λ (x : Outcome). Compiles x out left r) e h

module _ (policy out work : List ℕ) where
  pub fits : (c : Context) → length work ≡ work_words
      → compile_read c (length out) (read_policy policy) ≡ given_in c policy out work
  fits c w = rw (eq-eqb (length work) work_words w)

  pub bad-work : (c : Context) → (length work ≡ work_words → ⊥) → given_in c policy out work ≡ refused_with BadWork
  bad-work c w = rw (ne_eqb (length work) work_words w)

  pub segwit : (context : ℕ) → context ≡ 0 → given_in Segwitv0 policy out work ≡ given context policy out work
  unfolding compile
  segwit context e = rw e

  pub tap : (context : ℕ) → context ≡ 1 → given_in Tap policy out work ≡ given context policy out work
  unfolding compile
  tap context e = rw e

  pub bad-context : (context : ℕ) → (context ≡ 0 → ⊥) → (context ≡ 1 → ⊥) → given context policy out work ≡ refused_with BadContext
  unfolding compile
  bad-context context f g = rw (ne_eqb context 0 f, ne_eqb context 1 g)

-- ---- the numbers of an answer

pub number-told : {o : Outcome} {out left : List ℕ} {r : Result Compiled Refusal} → Compiles o out left r → number_in r ≡ number_of_outcome o
number-told (compiles bytes price e b f n w) = ap number_of_outcome (sym e)
number-told (refuses e w) = ap number_of_outcome (sym e)

pub output-told : {o : Outcome} {out left : List ℕ} {r : Result Compiled Refusal} → Compiles o out left r → left ≡ output_after o out
output-told {o} {out} (compiles bytes price e b f n w) =
    w ∙ ap (λ (k : ℕ). bytes ++ drop k out) (sym n) ∙ ap (λ (x : Outcome). output_after x out) (sym e)
output-told {o} {out} (refuses e w) = w ∙ ap (λ (x : Outcome). output_after x out) (sym e)

pub bytes-told : {o : Outcome} {out left : List ℕ} {r : Result Compiled Refusal} → Compiles o out left r → bytes_in r ≡ bytes_written o
bytes-told (compiles bytes price e b f n w) = sym n ∙ ap bytes_written (sym e)
bytes-told (refuses e w) = ap bytes_written (sym e)

pub cost-told : {o : Outcome} {out left : List ℕ} {r : Result Compiled Refusal} → Compiles o out left r → cost_in r ≡ cost_given o
cost-told (compiles bytes price e b f n w) = b ∙ ap cost_given (sym e)
cost-told (refuses e w) = ap cost_given (sym e)

pub never-told : {o : Outcome} {out left : List ℕ} {r : Result Compiled Refusal} → Compiles o out left r → never_in r ≡ never_given o
never-told (compiles bytes price e b f n w) = f ∙ ap never_given (sym e)
never-told (refuses e w) = ap never_given (sym e)

pub nodes-told : {o : Outcome} {out left : List ℕ} {r : Result Compiled Refusal} → Compiles o out left r → nodes_in r ≡ nodes_used o
nodes-told (compiles bytes price e b f n w) = ap nodes_used (sym e)
nodes-told (refuses e w) = ap nodes_used (sym e)

-- all that the entry promises, from an answer and from work memory that was cleared
pub promised : (context : ℕ) (policy out work worked : List ℕ) {left after : List ℕ} {r : Result Compiled Refusal} {number bytes cost never nodes : ℕ}
    → Compiles (given context policy out work) out left r
    → number ≡ number_in r → bytes ≡ bytes_in r → cost ≡ cost_in r → never ≡ never_in r → nodes ≡ nodes_in r
    → length worked ≡ length work → after ≡ zeroed worked
    → CompilePromise context policy out work number left bytes cost never nodes after
promised context policy out work worked told number bytes cost never nodes same cleared = record {
  gives = number ∙ number-told told;
  writes = output-told told;
  counts = bytes ∙ bytes-told told;
  costs = cost ∙ cost-told told;
  tells = never ∙ never-told told;
  uses = nodes ∙ nodes-told told;
  clears = cleared ∙ ap (λ (n : ℕ). replicate n 0) same;
}
