-- What comes of a line. Assumes nothing.
use mathlib.Core.Bool.{Bool}
use mathlib.Core.List.{List}
use mathlib.Core.Path.{◌≡◌, refl, sym, ap, subst, ◌∙◌}
use Prim.Native.Nat.{ℕ, zero, suc, ◌-◌, ◌<◌, ◌≤◌}
use native.Mathlib.Omega.{arith}
use lib.ListN.{length, take, drop, length-drop}
use lib.Seq.{length-take-le, take_all}
use Rattle.files.specs.Rooms.{Within}
use Rattle.files.specs.declared.ReadError.{ReadError}
use Rattle.witness_entry.specs.Witness.{work_words, WitnessPromise}
use Rattle.witness_entry.proofs.FewBytes.{few_bytes}
use Rattle.std.specs.Prelude.{Option, None, Some, Result, Ok}
use Rattle.witness_lines.specs.declared.Listed.{Listed}
use Rattle.witness_tally.specs.declared.Outcome.{Outcome}
use Rattle.witness_lines.specs.Lines.{Said, input, said_in, shown_of, shown_from, shown_in, line_of, Reads}
use Rattle.witness_lines.specs.Report.{ReportLine, Shows}
use Rattle.witness_tally.specs.Tallies.{Small}
use Rattle.witness_report.specs.Answers.{outcome_of, Costs, Answers, other-form, unreadable, too_long, read, EndsWith, Tells}
use Rattle.witness_report.specs.declared.Block.{Block}

-- ---- a tree

module _ {context : ℕ} {tree work after : List ℕ} {n f s l : ℕ} (long : length work ≡ work_words) (p : WitnessPromise context tree work n f s l after) where
  costs-as : {o : Outcome} → o ≡ outcome_of n f s l → Costs context tree o
  costs-as e = record { work = work; after = after; number = n; found = f; smallest = s; largest = l; long = long; promised = p; is = e }

  pub refuses : (n ≡ 0 → ⊥) → Costs context tree (Outcome.Refused n)
  refuses h = costs-as (by_number n h)
    where
      by_number : (n : ℕ) → (n ≡ 0 → ⊥) → Outcome.Refused n ≡ outcome_of n f s l
      by_number zero h = absurd (h refl)
      by_number (suc n) h = refl

  pub no_way : n ≡ 0 → f ≡ 0 → Costs context tree Outcome.NoWay
  no_way e g = costs-as (rw (e, g))

  pub spends : n ≡ 0 → (f ≡ 0 → ⊥) → Costs context tree (Outcome.Bytes s l)
  spends e h = costs-as (rw e (by-found f h))
    where
      by-found : (f : ℕ) → (f ≡ 0 → ⊥) → Outcome.Bytes s l ≡ outcome_of 0 f s l
      by-found zero h = absurd (h refl)
      by-found (suc f) h = refl

-- ---- an outcome is small

small_of : (n f : ℕ) {s l : ℕ} → s ≤ 2147483648 → l ≤ 2147483648 → Small (outcome_of n f s l)
small_of zero zero h k = record { fewest = omega arith; most = omega arith }
small_of zero (suc f) h k = record { fewest = h; most = k }
small_of (suc n) f h k = record { fewest = omega arith; most = omega arith }

pub answers-small : {said : Said} {o : Outcome} → Answers said o → Small o
answers-small other-form = record { fewest = omega arith; most = omega arith }
answers-small unreadable = record { fewest = omega arith; most = omega arith }
answers-small too_long = record { fewest = omega arith; most = omega arith }
answers-small (read tree few c) =
    let bytes = few_bytes c.promised in
    subst Small (sym c.is) (small_of c.number c.found bytes.0 bytes.1)

-- ---- an input

-- the bytes of a file that was read whole
pub whole-less : {m n : ℕ} {r : Result ℕ ReadError} → Within m r → r ≡ Ok n → n < m
whole-less {m} h e = subst (Within m) e h

pub input-read : {context : ℕ} {path : List ℕ} (room : List ℕ) {n : ℕ} {o : Outcome} → n < length room → length room ≡ 65536 → Costs context (take n room) o → Answers (input context path) o
input-read {context} {path} room {n} less long c = read (take n room) (omega (arith, length-take-le n room (omega arith))) c

-- ---- a line

-- what follows a place, to the end
rest_of : (line : List ℕ) (from : ℕ) → take (length line - from) (drop from line) ≡ drop from line
rest_of line from = take_all (length line - from) (drop from line) (omega (arith, length-drop from line))

module _ {line : List ℕ} {r : Option Listed} (reads : Reads line r) where
  pub within-input : {i : Listed} → r ≡ Some i → i.path ≤ length line
  within-input e = subst (λ (x : Option Listed). shown_from x ≤ length line) e reads.within

  pub answered-input : {i : Listed} {o : Outcome} → r ≡ Some i
      → Answers (input i.context (take (length line - i.path) (drop i.path line))) o → Answers (line_of line) o
  answered-input {i} {o} e a =
      subst (λ (x : Said). Answers x o) (ap (input i.context) (rest_of line i.path) ∙ ap (said_in line) (sym e) ∙ reads.says) a

  pub answered-other : r ≡ None → Answers (line_of line) (Outcome.Refused 1)
  answered-other e = subst (λ (x : Said). Answers x (Outcome.Refused 1)) (ap (said_in line) (sym e) ∙ reads.says) other-form

-- ---- its line of the report

-- a line that was added to a block stands last in it
pub line-added : (line : List ℕ) (r : Option Listed) {o : Outcome} {from most used n : ℕ} {out after : List ℕ} → from ≡ shown_from r
    → Shows (ReportLine (take (length line - from) (drop from line)) o) most out used after n → n ≤ length after → {whole : Bool}
    → EndsWith (ReportLine (shown_in line r) o) after (record { used = n; whole = whole })
line-added line r {o} {from} {most} {used} {n} {out} {after} e s within = record {
  within = within;
  before = take used out;
  text = s.text;
  is = subst (λ (t : List ℕ). ReportLine t o s.text) (rest_of line from ∙ ap (λ (k : ℕ). drop k line) e) s.is;
  holds = s.appended.holds;
}

shown-alike : (line : List ℕ) (r : Option Listed) → shown_in line r ≡ shown_of line (said_in line r)
shown-alike line (Some i) = refl
shown-alike line None = refl

pub told : {line out : List ℕ} {r : Option Listed} {o : Outcome} {b : Block} → Reads line r → Answers (line_of line) o
    → EndsWith (ReportLine (shown_in line r) o) out b → Tells line out (record { outcome = o; block = b })
told {line} {out} {r} {o} {b} reads a s = record {
  answers = a;
  shows = subst (λ (t : List ℕ). EndsWith (ReportLine t o) out b) (shown-alike line r ∙ ap (shown_of line) reads.says) s;
}
