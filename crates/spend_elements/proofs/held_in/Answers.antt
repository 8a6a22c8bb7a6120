-- `spend_elements::held_in` meets its contract. Assumes nothing.
use native.Mathlib.Omega.{arith}
use mathlib.Core.Path.{◌≡◌, refl, sym, ◌∙◌, ap}
use Prim.Native.Nat.{◌+◌}
use mathlib.Core.Bool.{Bool}
use Rattle.words.specs.Bytes.{bytes_of}
use Rattle.spend_elements.specs.Signed.{signed}
use Rattle.spend_elements.proofs.Ranges.{held_bytes}
use Rattle.spend_elements.proofs.held_in.Goals as goal

pub returns-then-negative : goal.returns-then-negative
returns-then-negative c log = held_bytes log _ c.args.n c.requires.0 refl ∙ ap (λ (b : Bool). bytes_of c.args.n (c.args.size + signed b c.args.bit)) (sym c.if-negative.true)

pub returns : goal.returns
returns c log = let e : c.args.size ≡ c.args.size + 0 = omega arith in
    held_bytes log _ c.args.n c.requires.0 refl
    ∙ ap (bytes_of c.args.n) e
    ∙ ap (λ (b : Bool). bytes_of c.args.n (c.args.size + signed b c.args.bit)) (sym c.if-negative.false)
