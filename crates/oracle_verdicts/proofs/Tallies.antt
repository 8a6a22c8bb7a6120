-- The counts of a text's lines, one line after the other. Assumes nothing.
use mathlib.Core.List.{List, [], ◌∷◌}
use mathlib.Core.Path.{◌≡◌, refl, sym, ap, ◌∙◌}
use Prim.Native.Nat.{ℕ, ◌+◌, ◌*◌, ◌-◌, ◌^◌, ◌<◌, ◌≤◌}
use native.Mathlib.Omega.{arith}
use lib.ListN.{length, drop, replicate, length-take, length-drop, length-replicate}
use Rattle.memory.specs.Layout.{work_words}
use Rattle.oracle_lines.specs.Lines.{newline, split, line_of}
use Rattle.oracle_lines.specs.Reads.{part, EndsAt}
use Rattle.oracle_verdicts.specs.Verdicts.{verdict_of, counted, tallied, tally_of, none_yet, Lent}
use Rattle.oracle_verdicts.specs.declared.Tally.{Tally}
use Rattle.oracle_verdicts.specs.declared.Verdict.{Verdict}

tallied-one : (room : ℕ) (t : Tally) (l : List ℕ) → tallied room t (l ∷ []) ≡ counted t (verdict_of room (line_of l))
unfolding tallied
tallied-one room t l = refl

tallied-more : (room : ℕ) (t : Tally) (l : List ℕ) (ls : List (List ℕ))
    → tallied room t (l ∷ ls) ≡ tallied room (counted t (verdict_of room (line_of l))) ls
unfolding tallied
tallied-more room t l ls = refl

-- a verdict adds at most one to each count
pub record OneMore (t t' : Tally) : Type 0 where
  pub agree : t'.agree ≤ t.agree + 1
  pub differ : t'.differ ≤ t.differ + 1
  pub broken : t'.broken ≤ t.broken + 1

one_more : (t : Tally) (v : Verdict) → OneMore t (counted t v)
one_more t Verdict.Passed = record { agree = omega arith; differ = omega arith; broken = omega arith }
one_more t Verdict.Agrees = record { agree = omega arith; differ = omega arith; broken = omega arith }
one_more t (Verdict.Differs number bytes cost never nodes) = record { agree = omega arith; differ = omega arith; broken = omega arith }
one_more t Verdict.Broken = record { agree = omega arith; differ = omega arith; broken = omega arith }

pub part-short : (s : List ℕ) (from to : ℕ) → length (part s from to) ≤ length s
part-short s from to = omega (arith, length-take (to - from) (drop from s), length-drop from s)

-- before the line that starts at a place, the counts t; n is the line's number
pub record Going (text : List ℕ) (room : ℕ) (t : Tally) (at n : ℕ) : Type 0 where
  pub within : at ≤ length text
  pub lines : n ≤ at + 1
  pub agree : t.agree ≤ at
  pub differ : t.differ ≤ at
  pub broken : t.broken ≤ at
  pub goes : tallied room t (split newline (drop at text)) ≡ tally_of room text

-- what is lent keeps its lengths
pub record Kept (policy₀ stored₀ out₀ work₀ policy stored out work : List ℕ) : Type 0 where
  pub policies : length policy ≡ length policy₀
  pub outputs : length stored ≡ length stored₀
  pub room : length out ≡ length out₀
  pub whole : length work ≡ length work₀

pub kept-first : (policy stored out work : List ℕ) → Kept policy stored out work policy stored out work
kept-first policy stored out work = record { policies = refl; outputs = refl; room = refl; whole = refl }

module _ (text : List ℕ) (room : ℕ) where
  pub going-first : Going text room none_yet 0 1
  going-first = record {
    within = omega arith;
    lines = omega arith;
    agree = omega arith;
    differ = omega arith;
    broken = omega arith;
    goes = refl;
  }

  module _ (t : Tally) (at n : ℕ) (g : Going text room t at n) where
    pub counts-small : length text ≤ 524288 → (t.agree < 2 ^ 32) × (t.differ < 2 ^ 32) × (t.broken < 2 ^ 32)
    counts-small few = (omega (arith, g.agree, g.within), omega (arith, g.differ, g.within), omega (arith, g.broken, g.within))

    module _ (end : ℕ) (e : EndsAt newline text at end) (room' : ℕ) (same : room' ≡ room) (v : Verdict)
        (is : v ≡ verdict_of room' (line_of (part text at end))) (t' : Tally) (more : t' ≡ counted t v)
      where
        next : t' ≡ counted t (verdict_of room (line_of (part text at end)))
        next = more ∙ ap (counted t) (is ∙ ap (λ (k : ℕ). verdict_of k (line_of (part text at end))) same)

        pub counts_all : end ≡ length text → t' ≡ tally_of room text
        counts_all last =
            next
            ∙ sym (tallied-one room t (part text at end))
            ∙ ap (tallied room t) (sym (e.last last))
            ∙ g.goes

        pub going_next : (end ≡ length text → ⊥) → Going text room t' (end + 1) (n + 1)
        going_next inner =
            let one : OneMore t t' = rw more (one_more t v) in
            let there : end < length text = omega (arith, e.within, inner) in
            record {
              within = omega arith;
              lines = omega (arith, g.lines, e.after);
              agree = omega (arith, one.agree, g.agree, e.after);
              differ = omega (arith, one.differ, g.differ, e.after);
              broken = omega (arith, one.broken, g.broken, e.after);
              goes = ap (λ (x : Tally). tallied room x (split newline (drop (end + 1) text))) next
                  ∙ sym (tallied-more room t (part text at end) (split newline (drop (end + 1) text)))
                  ∙ ap (tallied room t) (sym (e.inner there))
                  ∙ g.goes;
            }

-- ---- what is lent

-- arrays of zeros that are long enough
pub lent-zeros : (text : List ℕ) (policy stored work : ℕ)
    → length text ≤ 524288 → 524288 ≤ 2 * policy → 524288 ≤ 2 * stored → work ≡ work_words
    → Lent text (replicate policy 0) (replicate stored 0) (replicate work 0)
lent-zeros text policy stored work few p s w = record {
  few = few;
  policies = omega (arith, length-replicate {A = ℕ} policy 0);
  outputs = omega (arith, length-replicate {A = ℕ} stored 0);
  whole = length-replicate {A = ℕ} work 0 ∙ w;
}
