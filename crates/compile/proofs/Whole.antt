-- What is read is a policy that can be searched, or the definition refuses it with the same number. Assumes nothing.
use Rattle.refusals.specs.declared.Refusal.{Refusal}
use mathlib.Core.List.{List}
use Rattle.std.specs.Prelude.{Some, Result, Ok, Err}
use mathlib.Core.Path.{◌≡◌, refl, sym, ap, subst}
use Prim.Native.Nat.{ℕ}
use lib.ListN.{length}
use Rattle.contexts.specs.declared.Context.{Context}
use Rattle.writing.specs.WellFormed.{AllBelow}
use Rattle.policies.specs.Policy.{Policy}
use Rattle.policies.specs.Reading as Reading
use Rattle.policies.specs.Reading.{read_policy}
use Rattle.policies.specs.Array.{array_words, policy_at, stored}
use Rattle.policies.specs.Answers.{PolicyRead, Read, reads, bad-array}
use Rattle.policies.proofs.Heaviest.{weighable}
use Rattle.policies.proofs.Roots.{refusal-is}
use Rattle.classes.specs.Classes.{ClassesRead, ClassesGood}
use Rattle.definition.specs.Compile.{compile_policy, compile_read}
use Rattle.definition_laws.proofs.Reading.{reads-formed}
use Rattle.compile.specs.declared.Compiled.{Compiled}
use Rattle.compile.specs.Answers.{Compiles, refuses}
use Rattle.compile.specs.Answers as answers

some_same : {A : Type 0} {x y : A} → Some x ≡ Some y → x ≡ y
some_same e = cc

module _ (bytes m₀ m : List ℕ) {r : Result ℕ Refusal} (long : length m₀ ≡ array_words) (h : ClassesRead bytes m₀ r m) where
  -- the array has its one length, so bytes were read
  was-read : Read (read_policy bytes) r m
  was-read = by_read h.read
    where
      by_read : PolicyRead bytes m₀ r m → Read (read_policy bytes) r m
      by_read (reads _ told) = told
      by_read (bad-array short q) = absurd (short long)

  read-as : {answer : Result ℕ Refusal} → r ≡ answer → Read (read_policy bytes) answer m
  read-as e = subst (λ (x : Result ℕ Refusal). Read (read_policy bytes) x m) e was-read

  pub not-read : {n : Refusal} → r ≡ Err n → (c : Context) (out : List ℕ) → Compiles (compile_read c (length out) (read_policy bytes)) out out (Err n)
  not-read e c out = refuses (ap (λ (a : Reading.Answer Policy). compile_read c (length out) a) (refusal-is (read-as e))) refl

  module _ (root : ℕ) (e : r ≡ Ok root) where
    read_as : read_policy bytes ≡ Reading.done (policy_at m root)
    read_as = some_same (read-as e).says

    pub whole : AllBelow 256 bytes → answers.Whole m root
    whole below =
        let light = weighable bytes m₀ m h.read root e in
        record {
          classed = record { good = light.0; classes = subst (λ (x : Result ℕ Refusal). ClassesGood x m) e h.classes };
          named = stored light.1.0;
          formed = reads-formed bytes below (policy_at m root) read_as;
          light = light.1.1;
        }

    pub whole-compiled : (c : Context) (out₀ out : List ℕ) {a : Result Compiled Refusal} → Compiles (compile_policy c (length out₀) (policy_at m root)) out₀ out a →
        Compiles (compile_read c (length out₀) (read_policy bytes)) out₀ out a
    whole-compiled c out₀ out {a} k =
        subst (λ (x : Reading.Answer Policy). Compiles (compile_read c (length out₀) x) out₀ out a) (sym read_as) k
