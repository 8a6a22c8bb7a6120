-- What may come of the lines of a list: document 02, R-9, and docs/WITNESS.md. Assumes nothing.
use Rattle.std.specs.Prelude.{List, [], ◌∷◌, ◌++◌, ◌≡◌, ℕ, zero, suc, ◌+◌, ◌≤◌, length, take}
use Rattle.witness_entry.specs.Witness.{work_words, WitnessPromise}
use Rattle.witness_tally.specs.declared.Outcome.{Outcome}
use Rattle.witness_tally.specs.declared.Tally.{Tally}
use Rattle.witness_lines.specs.Lines.{lines_of, Said, input, other, shown_of, line_of}
use Rattle.witness_lines.specs.Report.{ReportLine}
use Rattle.witness_tally.specs.Tallies.{tally_of}
use Rattle.witness_report.specs.declared.Block.{Block}
use Rattle.witness_report.specs.declared.Told.{Told}

-- ---- a line

-- what the results of the entry say
abbrev pub outcome_of : (number found smallest largest : ℕ) → Outcome
outcome_of zero zero smallest largest = Outcome.NoWay
outcome_of zero (suc found) smallest largest = Outcome.Bytes smallest largest
outcome_of (suc number) found smallest largest = Outcome.Refused (suc number)

-- the outcome of a tree is what the entry gives
pub record Costs (context : ℕ) (tree : List ℕ) (o : Outcome) : Type 0 where
  pub work : List ℕ
  pub after : List ℕ
  pub number : ℕ
  pub found : ℕ
  pub smallest : ℕ
  pub largest : ℕ
  pub long : length work ≡ work_words
  pub promised : WitnessPromise context tree work number found smallest largest after
  pub is : o ≡ outcome_of number found smallest largest

-- 1 for a line of another form, 14 for a file that can't be read, 16 for one over 65,535 bytes, else what a spend of the file's tree costs
pub data Answers : Said → Outcome → Type 0 where
  other-form : Answers other (Outcome.Refused 1)
  unreadable : {context : ℕ} {path : List ℕ} → Answers (input context path) (Outcome.Refused 14)
  too_long : {context : ℕ} {path : List ℕ} → Answers (input context path) (Outcome.Refused 16)
  read : {context : ℕ} {path : List ℕ} {o : Outcome} (tree : List ℕ) → length tree ≤ 65535 → Costs context tree o → Answers (input context path) o

-- the used bytes of a block end with a text of some kind
pub record EndsWith (kind : List ℕ → Type 0) (out : List ℕ) (b : Block) : Type 0 where
  pub within : b.used ≤ length out
  pub before : List ℕ
  pub text : List ℕ
  pub is : kind text
  pub holds : take b.used out ≡ before ++ text

-- what was told of a line: its outcome, and its line of the report stands last in the block
pub record Tells (line out : List ℕ) (r : Told) : Type 0 where
  pub answers : Answers (line_of line) r.outcome
  pub shows : EndsWith (ReportLine (shown_of line (line_of line)) r.outcome) out r.block

-- ---- a list

-- an outcome for each line, in their order
pub data Each : List (List ℕ) → List Outcome → Type 0 where
  none : Each [] []
  next : {l : List ℕ} {o : Outcome} {ls : List (List ℕ)} {os : List Outcome} → Answers (line_of l) o → Each ls os → Each (l ∷ ls) (o ∷ os)

-- the counts and sums of a list are those of its lines
pub record Reported (text : List ℕ) (t : Tally) : Type 0 where
  pub outcomes : List Outcome
  pub each : Each (lines_of text) outcomes
  pub counts : t ≡ tally_of outcomes

-- what is lent for a list: room for a file of 65,535 bytes and one more, work memory, and a block with room for the longest line and for the counts
pub record Lent (text room work out : List ℕ) : Type 0 where
  pub few : length text ≤ 2097152
  pub files : length room ≡ 65536
  pub whole : length work ≡ work_words
  pub lines : length text + 150 ≤ length out
