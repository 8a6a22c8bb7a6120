-- Classes are equal exactly where the policies are. Assumes nothing.
use Rattle.refusals.specs.declared.Refusal.{Refusal}
use mathlib.Core.Path.{◌≡◌, refl, sym, ◌∙◌, ap, subst}
use mathlib.Core.Bool.{Bool, true, false}
use mathlib.Core.List.{List}
use Rattle.std.specs.Prelude.{Some, Result, Ok, Err}
use Prim.Native.Nat.{ℕ, ◌<◌}
use native.Mathlib.Omega.{arith}
use borrow.Author.Tests.{ltb-true, ltb-false}
use lib.Dec.{ltb}
use Rattle.policies.specs.Reading.{done}
use Rattle.policies.specs.Policy.{Policy}
use Rattle.policies.specs.Array.{policy_at, Good, Named}
use Rattle.policies.specs.Answers.{PolicyGood, PolicyRead, reads, bad-array}
use Rattle.classes.specs.Classes.{Least, class_at, Classes, Classified, ClassesGood, ClassesRead}

not-less : (m : List ℕ) (r q c d : ℕ) → policy_at m r ≡ policy_at m q → Least m r c → Least m q d → c < d → ⊥
not-less m r q c d e l k h = k.least c h (record { named = l.stands.named; same = l.stands.same ∙ e })

least-same : (m : List ℕ) (r q c d : ℕ) → policy_at m r ≡ policy_at m q → Least m r c → Least m q d → c ≡ d
least-same m r q c d e l k = by_tests (ltb c d) (ltb d c) refl refl
  where
    by_tests : (s t : Bool) → ltb c d ≡ s → ltb d c ≡ t → c ≡ d
    by_tests true t a b = absurd (not-less m r q c d e l k (ltb-true c d a))
    by_tests false true a b = absurd (not-less m q r d c (sym e) k l (ltb-true d c b))
    by_tests false false a b =
        let x = ltb-false c d a in
        let y = ltb-false d c b in
        omega arith

module _ (m : List ℕ) (classes : Classes m) (r q : ℕ) (nr : Named m r) (nq : Named m q) where
  pub equal-classes : policy_at m r ≡ policy_at m q → class_at m r ≡ class_at m q
  equal-classes e = least-same m r q (class_at m r) (class_at m q) e (classes r nr) (classes q nq)

  pub equal-policies : class_at m r ≡ class_at m q → policy_at m r ≡ policy_at m q
  equal-policies e = sym (classes r nr).stands.same ∙ ap (policy_at m) e ∙ (classes q nq).stands.same

-- ---- a policy read

root-good : (r : Result ℕ Refusal) (i : ℕ) (m : List ℕ) → r ≡ Ok i → PolicyGood r m → Good m × (i < 64)
root-good (Ok j) i m e g =
    let same : j ≡ i = cc in
    (g.0, omega (arith, g.1))
root-good (Err r) i m e g = absurd (let z : ◌≡◌ {A = ℕ} 0 1 = cc in omega arith)

module _ (bytes m₀ m : List ℕ) {r : Result ℕ Refusal} (read : PolicyRead bytes m₀ r m) where
  -- what was read at a root holds a policy
  pub read-good : (i : ℕ) → r ≡ Ok i → Good m
  read-good i e = of-read read
    where
      of-read : PolicyRead bytes m₀ r m → Good m
      of-read (reads long x) = (root-good r i m e x.good).0
      of-read (bad-array ne q) = absurd (let z : ◌≡◌ {A = ℕ} 0 1 = cc in omega arith)

  pub classes-root : (i : ℕ) → r ≡ Ok i → (m₂ : List ℕ) → Classified m m₂ → ClassesRead bytes m₀ (Ok i) m₂
  classes-root i e m₂ classified = record { read = of-read read; classes = classified.class }
    where
      of-read : PolicyRead bytes m₀ r m → PolicyRead bytes m₀ (Ok i) m₂
      of-read (reads long x) =
          reads long
          (record {
            says = x.says ∙ rw e (ap (λ (p : Policy). Some (done p)) (sym (classified.kept i)));
            good = (classified.good, (root-good r i m e x.good).1);
          })
      of-read (bad-array ne q) = absurd (let z : ◌≡◌ {A = ℕ} 0 1 = cc in omega arith)

  -- a refusal stays what it was
  pub classes-refused : {e : Refusal} → r ≡ Err e → ClassesRead bytes m₀ (Err e) m
  classes-refused q = record { read = subst (λ (x : Result ℕ Refusal). PolicyRead bytes m₀ x m) q read; classes = tt }
