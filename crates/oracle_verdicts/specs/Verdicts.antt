-- Whether the stored answer of a line is the one that the definition of compile gives, and how many lines of a list are so. Assumes nothing.
use Rattle.std.specs.Prelude.{Bool, true, false, ◌&&◌, List, [], ◌∷◌, ◌≡◌, ℕ, ◌+◌, ◌*◌, ◌≤◌, eqb, length}
use Rattle.memory.specs.Layout.{work_words}
use Rattle.words.specs.Memory.{zeroed}
use Rattle.definition.specs.AnswersOfTheRust.{same_bytes}
use Rattle.definition.specs.Compile.{Outcome, compiled, refused_with, compile}
use Rattle.claspwillow.specs.Promises.{number_of_outcome, output_after, bytes_written, cost_given, never_given, nodes_used}
use Rattle.oracle_lines.specs.Lines.{Line, passed, broken, says, newline, split, line_of}
use Rattle.oracle_verdicts.specs.declared.Verdict.{Verdict}
use Rattle.oracle_verdicts.specs.declared.Tally.{Tally}

-- the bytes of the tree, none on a refusal
abbrev pub output_of : Outcome → List ℕ
output_of (compiled bytes cost nodes) = bytes
output_of (refused_with n) = []

-- ---- a line

-- an outcome has exactly a number, an output, the bits of a cost, its flag of never, and a count of nodes
abbrev pub agrees : Outcome → (number : ℕ) → (output : List ℕ) → (cost never nodes : ℕ) → Bool
agrees o number output cost never nodes =
    eqb (number_of_outcome o) number && (same_bytes (output_of o) output && ((eqb (cost_given o) cost && eqb (never_given o) never) && eqb (nodes_used o) nodes))

abbrev pub judged : Bool → Outcome → Verdict
judged true o = Verdict.Agrees
judged false o = Verdict.Differs (number_of_outcome o) (bytes_written o) (cost_given o) (never_given o) (nodes_used o)

-- what the definition of compile makes of a line, with so many bytes of room for the output
abbrev pub verdict_of : (room : ℕ) → Line → Verdict
verdict_of room passed = Verdict.Passed
verdict_of room broken = Verdict.Broken
verdict_of room (says context policy number output cost never nodes) =
    judged (agrees (compile context true policy room) number output cost never nodes) (compile context true policy room)

-- the output and work memory after a line
abbrev pub out_after : Line → List ℕ → List ℕ
out_after passed out = out
out_after broken out = out
out_after (says context policy number output cost never nodes) out = output_after (compile context true policy (length out)) out

abbrev pub work_after : Line → List ℕ → List ℕ
work_after passed work = work
work_after broken work = work
work_after (says context policy number output cost never nodes) work = zeroed work

-- a line was judged, with an output and work memory that were lent
pub record Judges (l : Line) (out work : List ℕ) (v : Verdict) (out' work' : List ℕ) : Type 0 where
  pub verdict : v ≡ verdict_of (length out) l
  pub writes : out' ≡ out_after l out
  pub clears : work' ≡ work_after l work

-- An answer that agrees is the definition's.
abbrev pub AgreesMeans : Type 0
AgreesMeans =
    (room context : ℕ) (policy : List ℕ) (number : ℕ) (output : List ℕ) (cost never nodes : ℕ)
    → verdict_of room (says context policy number output cost never nodes) ≡ Verdict.Agrees
    → (number_of_outcome (compile context true policy room) ≡ number)
    × (output_of (compile context true policy room) ≡ output)
    × (cost_given (compile context true policy room) ≡ cost)
    × (never_given (compile context true policy room) ≡ never)
    × (nodes_used (compile context true policy room) ≡ nodes)

-- ---- a list

abbrev pub none_yet : Tally
none_yet = record { agree = 0; differ = 0; broken = 0 }

-- the counts with one verdict more; lines that are passed over are not counted
abbrev pub counted : Tally → Verdict → Tally
counted t Verdict.Passed = t
counted t Verdict.Agrees = record { agree = t.agree + 1; differ = t.differ; broken = t.broken }
counted t (Verdict.Differs number bytes cost never nodes) = record { agree = t.agree; differ = t.differ + 1; broken = t.broken }
counted t Verdict.Broken = record { agree = t.agree; differ = t.differ; broken = t.broken + 1 }

-- the counts after some lines more
unfoldable pub tallied : (room : ℕ) → Tally → List (List ℕ) → Tally
tallied room t [] = t
tallied room t (l ∷ ls) = tallied room (counted t (verdict_of room (line_of l))) ls

-- the counts of the lines of a text
abbrev pub tally_of : (room : ℕ) → List ℕ → Tally
tally_of room text = tallied room none_yet (split newline text)

-- what is lent for a text of at most 524,288 bytes: rooms of at least half as many bytes, and work memory of its one length
pub record Lent (text policy stored work : List ℕ) : Type 0 where
  pub few : length text ≤ 524288
  pub policies : length text ≤ 2 * length policy
  pub outputs : length text ≤ 2 * length stored
  pub whole : length work ≡ work_words
