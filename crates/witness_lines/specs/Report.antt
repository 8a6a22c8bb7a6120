-- The lines of a report: document 02, R-9, and docs/WITNESS.md. Text is a list of bytes, in ASCII. Assumes nothing.
use Rattle.std.specs.Prelude.{List, [], ◌∷◌, ◌++◌, ◌≡◌, ℕ, zero, suc, ◌+◌, ◌-◌, ◌/◌, ◌%◌, ◌^◌, ◌<◌, ◌≤◌, length, take}
use Rattle.witness_lines.specs.Lines.{newline, space}
use Rattle.witness_tally.specs.declared.Outcome.{Outcome}
use Rattle.witness_tally.specs.declared.Tally.{Tally}

-- ---- numbers and lines

-- the last k decimal digits of n, the most significant first
abbrev pub last_digits : ℕ → ℕ → List ℕ
last_digits zero n = []
last_digits (suc k) n = last_digits k (n / 10) ++ ((48 + n % 10) ∷ [])

-- n takes k decimal digits
abbrev pub IsDigitCount : ℕ → ℕ → Type 0
IsDigitCount n k = (1 ≤ k) × (n < 10 ^ k) × (1 < k → 10 ^ (k - 1) ≤ n)

-- a space and a number's decimal digits, with no needless zero in front
pub record Number (n : ℕ) (text : List ℕ) : Type 0 where
  pub places : ℕ
  pub fewest : IsDigitCount n places
  pub written : text ≡ space ∷ last_digits places n

-- `none` and `refused`
abbrev pub none_word : List ℕ
none_word = 110 ∷ 111 ∷ 110 ∷ 101 ∷ []

abbrev pub refused_word : List ℕ
refused_word = 114 ∷ 101 ∷ 102 ∷ 117 ∷ 115 ∷ 101 ∷ 100 ∷ []

-- what a line ends with: ` SMALLEST LARGEST`, ` none` or ` refused NUMBER`
pub data Ending : Outcome → List ℕ → Type 0 where
  bytes : {a b : ℕ} {x y : List ℕ} → Number a x → Number b y → Ending (Outcome.Bytes a b) ((x ++ y) ++ (newline ∷ []))
  none : Ending Outcome.NoWay (space ∷ none_word ++ (newline ∷ []))
  refused : {n : ℕ} {x : List ℕ} → Number n x → Ending (Outcome.Refused n) ((space ∷ refused_word ++ x) ++ (newline ∷ []))

-- a line: an input's path, or the whole of a line of another form, and what came of it
pub record ReportLine (shown : List ℕ) (o : Outcome) (text : List ℕ) : Type 0 where
  pub ending : List ℕ
  pub ends : Ending o ending
  pub is : text ≡ shown ++ ending

-- the last lines, a word and a number each: `inputs`, `none`, `refused`, `smallest`, `largest`
pub record Row (word : List ℕ) (n : ℕ) (text : List ℕ) : Type 0 where
  pub number : List ℕ
  pub shows : Number n number
  pub is : text ≡ (word ++ number) ++ (newline ∷ [])

abbrev pub inputs_word : List ℕ
inputs_word = 105 ∷ 110 ∷ 112 ∷ 117 ∷ 116 ∷ 115 ∷ []

abbrev pub smallest_word : List ℕ
smallest_word = 115 ∷ 109 ∷ 97 ∷ 108 ∷ 108 ∷ 101 ∷ 115 ∷ 116 ∷ []

abbrev pub largest_word : List ℕ
largest_word = 108 ∷ 97 ∷ 114 ∷ 103 ∷ 101 ∷ 115 ∷ 116 ∷ []

pub record Rows (t : Tally) (text : List ℕ) : Type 0 where
  pub a : List ℕ
  pub b : List ℕ
  pub c : List ℕ
  pub d : List ℕ
  pub e : List ℕ
  pub inputs : Row inputs_word t.inputs a
  pub none : Row none_word t.none b
  pub refused : Row refused_word t.refused c
  pub smallest : Row smallest_word t.smallest d
  pub largest : Row largest_word t.largest e
  pub is : text ≡ (((a ++ b) ++ c) ++ d) ++ e

-- ---- a block, to whose first bytes some are added

pub record Appended (text out : List ℕ) (used : ℕ) (after : List ℕ) (r : ℕ) : Type 0 where
  pub counts : r ≡ used + length text
  pub holds : take r after ≡ take used out ++ text
  pub long : length after ≡ length out

-- of a row of 20 digits the first ones
pub record AppendedDigits (row : List ℕ) (count : ℕ) (out : List ℕ) (used : ℕ) (after : List ℕ) (r : ℕ) : Type 0 where
  pub few : length (take count row) ≤ 20
  pub appended : Appended (take count row) out used after r

-- at most so many bytes of a text of some kind
pub record Shows (kind : List ℕ → Type 0) (most : ℕ) (out : List ℕ) (used : ℕ) (after : List ℕ) (r : ℕ) : Type 0 where
  pub text : List ℕ
  pub is : kind text
  pub few : length text ≤ most
  pub appended : Appended text out used after r
