-- What the parts of the reading answer, by the definitions of Lines.antt. Assumes nothing.
use Rattle.std.specs.Prelude.{false, List, [], ◌∷◌, ◌≡◌, ℕ, ◌+◌, ◌-◌, ◌<◌, ◌≤◌, eqb, length, take, drop, Option, None, Some}
use Rattle.oracle_lines.specs.Lines.{space, split, Told, Line, passed, broken, says, said}
use Rattle.oracle_lines.specs.declared.CostRead.{CostRead}
use Rattle.oracle_lines.specs.declared.Ends.{Ends}
use Rattle.oracle_lines.specs.declared.Said.{Said}
use Rattle.oracle_lines.specs.declared.Case.{Case}

-- the bytes from a place up to another
abbrev pub part : List ℕ → (from to : ℕ) → List ℕ
part s from to = take (to - from) (drop from s)

-- a piece of a text goes from a place up to the next sign or to the end
pub record EndsAt (sign : ℕ) (s : List ℕ) (from to : ℕ) : Type 0 where
  pub after : from ≤ to
  pub within : to ≤ length s
  pub last : to ≡ length s → split sign (drop from s) ≡ part s from to ∷ []
  pub inner : to < length s → split sign (drop from s) ≡ part s from to ∷ split sign (drop (to + 1) s)

-- bytes that were read stand at the front of their room
pub data Reads (o : Option (List ℕ)) (room : List ℕ) : Option ℕ → Type 0 where
  reads : {n : ℕ} {s : List ℕ} → o ≡ Some s → n ≤ length room → take n room ≡ s → Reads o room (Some n)
  misses : o ≡ None → Reads o room None

-- the cost that was read
abbrev pub cost_told : Option CostRead → Option Told
cost_told (Some c) = Some (record { bits = c.bits; never = c.never })
cost_told None = None

-- the ends of five words stand in order before the end of a line
pub record InOrder (w : Ends) (end : ℕ) : Type 0 where
  pub ab : w.a < w.b
  pub bc : w.b < w.c
  pub cd : w.c < w.d
  pub de : w.d < w.e
  pub inside : w.e < end

-- six words end at five spaces and at the end
pub data SixWords (s : List ℕ) : Option Ends → Type 0 where
  six : {w : Ends} → InOrder w (length s)
      → split space s
      ≡ part s 0 w.a
      ∷ part s (w.a + 1) w.b
      ∷ part s (w.b + 1) w.c
      ∷ part s (w.c + 1) w.d
      ∷ part s (w.d + 1) w.e
      ∷ part s (w.e + 1) (length s)
      ∷ []
      → SixWords s (Some w)
  other : eqb (length (split space s)) 6 ≡ false → SixWords s None

-- what the words say that five places and the end of a line end
abbrev pub said_at : List ℕ → Ends → Line
said_at s w =
    said (part s 0 w.a) (part s (w.a + 1) w.b) (part s (w.b + 1) w.c) (part s (w.c + 1) w.d) (part s (w.d + 1) w.e) (part s (w.e + 1) (length s))

-- what a case says, its policy and its output at the front of their rooms
abbrev pub said_in : Said → (policy output : List ℕ) → Line
said_in s policy output = says s.context (take s.policy policy) s.number (take s.output output) s.cost s.never s.nodes

-- a line that was read is passed over, is that case, or is broken
pub data Tells (l : Line) (policy output : List ℕ) : Case → Type 0 where
  passes : l ≡ passed → Tells l policy output Case.Passed
  tells : {s : Said} → l ≡ said_in s policy output → s.policy ≤ length policy → s.output ≤ length output
      → Tells l policy output (Case.Says s)
  breaks : l ≡ broken → Tells l policy output Case.Broken

-- a line of words is a case, or broken
abbrev pub told : Option Said → Case
told (Some s) = Case.Says s
told None = Case.Broken
