-- `spend_elements::test` meets its contract, by computation. Assumes nothing.
use mathlib.Core.Path.{refl}
use Rattle.words.specs.Bytes.{bytes_of}
use Rattle.script_machine.specs.Numbers.{element}
use Rattle.spend_elements.specs.Elements.{bytes_in}
use Rattle.spend_elements.proofs.test.Goals as goal

pub returns-then-b : goal.returns-then-b
unfolding bytes_in bytes_of element
returns-then-b c log = rw c.if-b.true refl

pub returns : goal.returns
unfolding bytes_in bytes_of element
returns c log = rw c.if-b.false refl
