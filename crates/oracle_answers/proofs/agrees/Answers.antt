-- `oracle_answers::agrees` meets its contract: the outputs are compared byte by byte. Assumes nothing.
use mathlib.Core.Path.{◌≡◌, refl, ◌∙◌}
use Rattle.definition.specs.AnswersOfTheRust.{same_bytes}
use Rattle.oracle_answers.proofs.SameBytes.{same-pointwise}
use Rattle.oracle_answers.proofs.agrees.Goals as goal

pub returns : goal.returns
returns c =
    let same : c.eq-same.result ≡ same_bytes c.args.written.now c.args.stored.now = c.eq-same.ensures ∙ same-pointwise c.args.written.now c.args.stored.now in
    rw same refl
