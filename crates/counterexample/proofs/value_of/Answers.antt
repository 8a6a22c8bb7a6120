-- `counterexample::value_of` meets its contract. Assumes nothing.
use Prim.Native.Nat.{ℕ}
use mathlib.Core.List.{List}
use mathlib.Core.Path.{ap, ◌∙◌}
use lib.ListN.{get_or}
use Rattle.truth.specs.Words.{bit_at}
use Rattle.counterexample.proofs.value_of.Goals as goal

pub returns : goal.returns
returns c = c.bit_of.ensures ∙ ap (λ (words : List ℕ). bit_at (get_or words c.args.i 0) c.args.example.bit) c.block_words-words.ensures
