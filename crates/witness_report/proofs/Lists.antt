-- A list line by line. Assumes nothing.
use mathlib.Core.List.{List, [], ◌∷◌, ◌++◌, append_assoc, append-nil}
use mathlib.Core.Path.{◌≡◌, refl, sym, ap, subst, ◌∙◌}
use Prim.Native.Nat.{ℕ, ◌+◌, ◌-◌, ◌^◌, ◌<◌, ◌≤◌}
use native.Mathlib.Omega.{arith}
use lib.ListN.{length, drop, replicate, length-take, length-drop, length-replicate, drop_of_length-le}
use Rattle.witness_entry.specs.Witness.{work_words}
use Rattle.witness_tally.specs.declared.Outcome.{Outcome}
use Rattle.witness_tally.specs.declared.Tally.{Tally}
use Rattle.witness_lines.specs.Lines.{lines_of, part, EndsAt, line_of}
use Rattle.witness_tally.specs.Tallies.{tally_of, counted, Few}
use Rattle.witness_lines.proofs.Lines.{lines_none}
use Rattle.witness_tally.proofs.Tallies.{one_more, few-first, few-more, inputs-more, none-counted}
use Rattle.witness_report.specs.Answers.{Answers, Each, none, next, Reported, Lent}
use Rattle.witness_report.proofs.Outcomes.{answers-small}

pub part-short : (s : List ℕ) (from to : ℕ) → length (part s from to) ≤ length s
part-short s from to = omega (arith, length-take (to - from) (drop from s), length-drop from s)

-- before the line that begins at a place: the outcomes of the lines before it, and what is still to come
pub record Going (text : List ℕ) (t : Tally) (at : ℕ) : Type 0 where
  pub within : at ≤ length text + 1
  pub lines : t.inputs ≤ at
  pub few : Few t
  pub done : List Outcome
  pub counts : t ≡ tally_of done
  pub goes : (os : List Outcome) → Each (lines_of (drop at text)) os → Each (lines_of text) (done ++ os)

-- what is lent keeps its lengths
pub record Kept (room₀ work₀ out₀ room work out : List ℕ) (used : ℕ) : Type 0 where
  pub files : length room ≡ length room₀
  pub whole : length work ≡ length work₀
  pub block : length out ≡ length out₀
  pub within : used ≤ length out

pub kept-first : (room work out : List ℕ) → Kept room work out room work out 0
kept-first room work out = record { files = refl; whole = refl; block = refl; within = omega arith }

module _ (text : List ℕ) where
  pub going-first : (t : Tally) → t ≡ tally_of [] → Going text t 0
  going-first t e = record {
    within = omega arith;
    lines = none-counted t e;
    few = subst Few (sym e) few-first;
    done = [];
    counts = e;
    goes = λ os each. each;
  }

  module _ {t : Tally} {at : ℕ} (g : Going text t at) where
    pub few-lines : length text ≤ 2097152 → at < length text → t.inputs < 2 ^ 32
    few-lines few h = omega (arith, g.lines)

    pub going_next : {end : ℕ} → EndsAt text at end → {o : Outcome} → Answers (line_of (part text at end)) o → {t' : Tally} → t' ≡ counted t o
        → Going text t' (end + 1)
    going_next {end} e {o} a {t'} is = record {
      within = omega (arith, e.within);
      lines = omega (arith, inputs-more t o is, g.lines, e.after);
      few = subst Few (sym is) (few-more t o g.few (answers-small a));
      done = g.done ++ (o ∷ []);
      counts = is ∙ ap (λ (x : Tally). counted x o) g.counts ∙ one_more g.done o;
      goes = λ os each.
          subst (Each (lines_of text)) (sym (append_assoc g.done (o ∷ []) os))
          (g.goes (o ∷ os) (subst (λ (ls : List (List ℕ)). Each ls (o ∷ os)) (sym e.goes) (next a each)));
    }

    pub all-reported : (at < length text → ⊥) → Reported text t
    all-reported ended =
        let none_left : lines_of (drop at text) ≡ [] = ap lines_of (drop_of_length-le text {i = at} (omega (arith, ended))) ∙ lines_none in
        record {
          outcomes = g.done;
          each = subst (Each (lines_of text)) (append-nil g.done) (g.goes [] (subst (λ (ls : List (List ℕ)). Each ls []) (sym none_left) none));
          counts = g.counts;
        }

-- ---- what is lent

-- arrays of zeros that are long enough
pub lent-zeros : (text : List ℕ) (room work out : ℕ) → length text ≤ 2097152 → room ≡ 65536 → work ≡ work_words → 2097302 ≤ out
    → Lent text (replicate room 0) (replicate work 0) (replicate out 0)
lent-zeros text room work out few r w o = record {
  few = few;
  files = length-replicate {A = ℕ} room 0 ∙ r;
  whole = length-replicate {A = ℕ} work 0 ∙ w;
  lines = omega (arith, length-replicate {A = ℕ} out 0);
}
