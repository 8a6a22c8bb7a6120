-- The lines of a list of trees: document 02, R-9, and docs/WITNESS.md. Text is a list of bytes, in ASCII. Assumes nothing.
use Rattle.std.specs.Prelude.{cond, List, [], ◌∷◌, ◌≡◌, ℕ, suc, ◌+◌, ◌-◌, ◌≤◌, eqb, length, take, drop, Option, None, Some}
use Rattle.numerals.specs.Numbers.{decimal}
use Rattle.witness_lines.specs.declared.Listed.{Listed}

abbrev pub newline : ℕ
newline = 10

abbrev pub space : ℕ
space = 32

-- where a byte stands first in a list, the list's length where it doesn't
unfoldable pub index_of : (sign : ℕ) → List ℕ → ℕ
index_of sign [] = 0
index_of sign (b ∷ s) = cond (eqb b sign) 0 (suc (index_of sign s))

-- ---- the lines of a text

-- lines, with one byte put before the first
abbrev pub on_first : ℕ → List (List ℕ) → List (List ℕ)
on_first b [] = (b ∷ []) ∷ []
on_first b (l ∷ ls) = (b ∷ l) ∷ ls

-- each line ends at a newline, and the last also at the text's end
unfoldable pub lines_of : List ℕ → List (List ℕ)
lines_of [] = []
lines_of (b ∷ s) = cond (eqb b newline) ([] ∷ lines_of s) (on_first b (lines_of s))

-- the bytes from a place up to another
abbrev pub part : List ℕ → (from to : ℕ) → List ℕ
part s from to = take (to - from) (drop from s)

-- the line that begins at a place ends at another, and the others come after that
pub record EndsAt (text : List ℕ) (at end : ℕ) : Type 0 where
  pub after : at ≤ end
  pub within : end ≤ length text
  pub goes : lines_of (drop at text) ≡ part text at end ∷ lines_of (drop (end + 1) text)

-- ---- what a line says

-- the context and the path of an input; or the line has another form
pub data Said : Type 0 where
  input : (context : ℕ) → (path : List ℕ) → Said
  other : Said

-- a path has a byte
abbrev pub named : (context : ℕ) → (path : List ℕ) → Said
named context [] = other
named context (b ∷ path) = input context (b ∷ path)

abbrev pub with_context : Option ℕ → (path : List ℕ) → Said
with_context None path = other
with_context (Some context) path = named context path

-- `CONTEXT PATH`: a decimal number before the first space, and all that follows that space
unfoldable pub line_of : List ℕ → Said
line_of l = with_context (decimal (take (index_of space l) l)) (drop (index_of space l + 1) l)

-- what was read of a line
abbrev pub said_in : List ℕ → Option Listed → Said
said_in l (Some i) = input i.context (drop i.path l)
said_in l None = other

-- what the report shows of a line: an input's path, and the whole of a line of another form
abbrev pub shown_of : List ℕ → Said → List ℕ
shown_of l (input context path) = path
shown_of l other = l

-- where that begins
abbrev pub shown_from : Option Listed → ℕ
shown_from (Some i) = i.path
shown_from None = 0

abbrev pub shown_in : List ℕ → Option Listed → List ℕ
shown_in l r = drop (shown_from r) l

pub record Reads (l : List ℕ) (r : Option Listed) : Type 0 where
  pub says : said_in l r ≡ line_of l
  pub within : shown_from r ≤ length l
