-- Whether an outcome is a stored answer. Assumes nothing.
use mathlib.Core.Bool.{Bool, true, false, ◌&&◌}
use mathlib.Core.List.{List, [], ◌∷◌}
use mathlib.Core.Path.{◌≡◌, refl, sym, ap, subst, ◌∙◌}
use Prim.Native.Nat.{ℕ, ◌≤◌}
use native.Mathlib.Omega.{arith}
use borrow.Author.Tests.{eq-eqb, eqb-true}
use lib.Dec.{eqb}
use lib.ListN.{length, take, drop, length-append, length-drop}
use lib.Seq.{take-append_seam}
use Rattle.memory.specs.Layout.{work_words}
use Rattle.definition.specs.AnswersOfTheRust.{same_bytes}
use Rattle.definition.specs.Compile.{Outcome, compiled, refused_with, compile}
use Rattle.claspwillow.specs.Promises.{number_of_outcome, output_after, bytes_written, cost_given, never_given, nodes_used, given, CompilePromise}
use Rattle.oracle_lines.specs.Lines.{Line, passed, broken, says}
use Rattle.oracle_lines.specs.Reads.{said_in, Tells, passes, tells, breaks}
use Rattle.oracle_verdicts.specs.Verdicts.{output_of, agrees, judged, Judges, AgreesMeans}
use Rattle.oracle_lines.specs.declared.Said.{Said}
use Rattle.oracle_lines.specs.declared.Case.{Case}
use Rattle.oracle_verdicts.specs.declared.Verdict.{Verdict}

-- ---- what agreeing means

left-true : (s t : Bool) → (s && t) ≡ true → s ≡ true
left-true true t e = refl
left-true false t e = e

right-true : (s t : Bool) → (s && t) ≡ true → t ≡ true
right-true true t e = e
right-true false t e = absurd (let z : ◌≡◌ {A = ℕ} 0 1 = cc in omega arith)

same-means : (a b : List ℕ) → same_bytes a b ≡ true → a ≡ b
unfolding same_bytes
same-means [] [] e = refl
same-means [] (y ∷ ys) e = absurd (let z : ◌≡◌ {A = ℕ} 0 1 = cc in omega arith)
same-means (x ∷ xs) [] e = absurd (let z : ◌≡◌ {A = ℕ} 0 1 = cc in omega arith)
same-means (x ∷ xs) (y ∷ ys) e =
    let first : x ≡ y = eqb-true x y (left-true (eqb x y) (same_bytes xs ys) e) in
    let rest : xs ≡ ys = same-means xs ys (right-true (eqb x y) (same_bytes xs ys) e) in
    cc

judged-agrees : (t : Bool) (o : Outcome) → judged t o ≡ Verdict.Agrees → t ≡ true
judged-agrees true o e = refl
judged-agrees false o e = absurd (let z : ◌≡◌ {A = ℕ} 0 1 = cc in omega arith)

pub agrees-means : AgreesMeans
agrees-means room context policy number output cost never nodes e =
    let o : Outcome = compile context true policy room in
    let all : agrees o number output cost never nodes ≡ true = judged-agrees (agrees o number output cost never nodes) o e in
    let rest = right-true (eqb (number_of_outcome o) number) _ all in
    let last = right-true (same_bytes (output_of o) output) _ rest in
    let told = left-true (eqb (cost_given o) cost && eqb (never_given o) never) _ last in (
      eqb-true (number_of_outcome o) number (left-true _ _ all),
      same-means (output_of o) output (left-true _ _ rest),
      eqb-true (cost_given o) cost (left-true _ _ told),
      eqb-true (never_given o) never (right-true (eqb (cost_given o) cost) _ told),
      eqb-true (nodes_used o) nodes (right-true (eqb (cost_given o) cost && eqb (never_given o) never) _ last),
    )

-- ---- what the port gives

fits-outcome : (o : Outcome) (out : List ℕ) → length (output_after o out) ≡ length out → bytes_written o ≤ length out
fits-outcome (compiled bytes cost nodes) out e =
    omega (arith, e, length-append bytes (drop (length bytes) out), length-drop (length bytes) out)
fits-outcome (refused_with n) out e = omega arith

written-outcome : (o : Outcome) (out : List ℕ) → take (bytes_written o) (output_after o out) ≡ output_of o
written-outcome (compiled bytes cost nodes) out = take-append_seam bytes (drop (length bytes) out)
written-outcome (refused_with n) out = refl

module _
    (context : ℕ) (policy out work : List ℕ) {got : ℕ} {left : List ℕ} {bytes cost never nodes : ℕ} {after : List ℕ}
    (p : CompilePromise context policy out work got left bytes cost never nodes after)
  where
    pub bytes_fit : length left ≡ length out → bytes ≤ length left
    bytes_fit long =
        let o : Outcome = given context policy out work in
        let fits : bytes_written o ≤ length out = fits-outcome o out (ap length (sym p.writes) ∙ long) in
        omega (arith, p.counts, fits, long)

    module _ (whole : length work ≡ work_words) where
      defined : given context policy out work ≡ compile context true policy (length out)
      defined = rw (eq-eqb (length work) work_words whole)

      abbrev o : Outcome
      o = compile context true policy (length out)

      number_is : got ≡ number_of_outcome o
      number_is = p.gives ∙ ap number_of_outcome defined

      bytes-is : bytes ≡ bytes_written o
      bytes-is = p.counts ∙ ap bytes_written defined

      cost-is : cost ≡ cost_given o
      cost-is = p.costs ∙ ap cost_given defined

      never-is : never ≡ never_given o
      never-is = p.tells ∙ ap never_given defined

      nodes-is : nodes ≡ nodes_used o
      nodes-is = p.uses ∙ ap nodes_used defined

      left_is : left ≡ output_after o out
      left_is = p.writes ∙ ap (λ (x : Outcome). output_after x out) defined

      output-is : take bytes left ≡ output_of o
      output-is = ap (λ (n : ℕ). take n left) bytes-is ∙ ap (take (bytes_written o)) left_is ∙ written-outcome o out

      module _ (number : ℕ) (output : List ℕ) (cost' never' nodes' : ℕ) where
        abbrev compared : Bool
        compared = eqb got number && (same_bytes (take bytes left) output && ((eqb cost cost' && eqb never never') && eqb nodes nodes'))

        compared_is : compared ≡ agrees o number output cost' never' nodes'
        compared_is = cc (number_is, output-is, cost-is, never-is, nodes-is)

        pub judges-agrees : {t : Bool} → t ≡ compared → t ≡ true
            → Judges (says context policy number output cost' never' nodes') out work Verdict.Agrees left after
        judges-agrees e h = record {
          verdict = sym (ap (λ (t : Bool). judged t o) (sym compared_is ∙ sym e ∙ h));
          writes = left_is;
          clears = p.clears;
        }

        pub judges-differs : {t : Bool} → t ≡ compared → t ≡ false
            → Judges (says context policy number output cost' never' nodes') out work (Verdict.Differs got bytes cost never nodes) left after
        judges-differs e h = record {
          verdict = cc (number_is, bytes-is, cost-is, never-is, nodes-is) ∙ sym (ap (λ (t : Bool). judged t o) (sym compared_is ∙ sym e ∙ h));
          writes = left_is;
          clears = p.clears;
        }

-- ---- lines

pub judges-as : {l l' : Line} {out work : List ℕ} {v : Verdict} {out' work' : List ℕ}
    → l ≡ l' → Judges l out work v out' work' → Judges l' out work v out' work'
judges-as {l} {l'} {out} {work} {v} {out'} {work'} e h = subst (λ (x : Line). Judges x out work v out' work') e h

pub judges-passed : {l : Line} (out work : List ℕ) → l ≡ passed → Judges l out work Verdict.Passed out work
judges-passed out work e = judges-as (sym e) (record { verdict = refl; writes = refl; clears = refl })

pub judges-broken : {l : Line} (out work : List ℕ) → l ≡ broken → Judges l out work Verdict.Broken out work
judges-broken out work e = judges-as (sym e) (record { verdict = refl; writes = refl; clears = refl })

told-says : {l : Line} {policy output : List ℕ} {s : Said} → Tells l policy output (Case.Says s)
    → (said_in s policy output ≡ l)
    × (s.policy ≤ length policy) × (s.output ≤ length output)
told-says (tells e h k) = (sym e, h, k)

told-passed : {l : Line} {policy output : List ℕ} → Tells l policy output Case.Passed → l ≡ passed
told-passed (passes e) = e

told-broken : {l : Line} {policy output : List ℕ} → Tells l policy output Case.Broken → l ≡ broken
told-broken (breaks e) = e

module _ {l : Line} {policy output : List ℕ} {r : Case} (h : Tells l policy output r) where
  pub says-told : {s : Said} → r ≡ Case.Says s
      → (said_in s policy output ≡ l)
      × (s.policy ≤ length policy) × (s.output ≤ length output)
  says-told e = told-says (subst (λ (x : Case). Tells l policy output x) e h)

  pub passed-told : r ≡ Case.Passed → l ≡ passed
  passed-told e = told-passed (subst (λ (x : Case). Tells l policy output x) e h)

  pub broken-told : r ≡ Case.Broken → l ≡ broken
  broken-told e = told-broken (subst (λ (x : Case). Tells l policy output x) e h)
