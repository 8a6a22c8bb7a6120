-- What the tree check answers: document 01's number, and the type, for each of its cases ("Numbers the console shows"); 19 is document 02's, R-8.
use Rattle.refusals.specs.declared.Refusal.{Refusal}
use Rattle.refusals.specs.Numbers.{number_of}
use Rattle.std.specs.Prelude.{Result, Ok, Err}
use Rattle.types.specs.declared.«Type».{«Type»}
use Rattle.trees.specs.Reading.{Answer, refused, done, map_answer}
use Rattle.trees.specs.TreeCheck.{Typed}

abbrev pub answer_of : Result «Type» Refusal → Answer «Type»
answer_of (Ok t) = done t
answer_of (Err r) = refused (number_of r)

-- the root's type alone, which is what the check gives
abbrev pub type_only : Answer Typed → Answer «Type»
type_only a = map_answer (λ x. x.type) a
