-- `chosen::last_are` meets its contract: the two slices are compared. Assumes nothing.
use Rattle.std.proofs.Common.{rules}
use mathlib.Core.Path.{◌≡◌, sym, ◌∙◌, subst}
use native.Mathlib.Omega.{arith}
use Prim.Native.Nat.{ℕ, ◌-◌, ◌+◌}
use lib.ListN.{length, take, drop}
use Rattle.std.proofs.lemmas.List.{drop-take}
use Rattle.chosen.proofs.Steps.{last-too-few, same-pointwise}
use Rattle.chosen.proofs.last_are.Goals as goal

pub returns-then-top-n : goal.returns-then-top-n
returns-then-top-n c = sym (last-too-few c.args.roots.now c.args.children c.args.top c.args.n c.requires.0 c.requires.1 (search rules) c.if-top-n.true)

pub returns : goal.returns
returns c =
    let e : c.args.top - c.args.n + (c.args.top - (c.args.top - c.args.n)) ≡ c.args.top = omega arith in
    let front : drop (c.args.top - c.args.n) (take c.args.top c.args.roots.now) ≡ take (c.args.top - (c.args.top - c.args.n)) (drop (c.args.top - c.args.n) c.args.roots.now) =
    subst (λ (m : ℕ). drop (c.args.top - c.args.n) (take m c.args.roots.now) ≡ take (c.args.top - (c.args.top - c.args.n)) (drop (c.args.top - c.args.n) c.args.roots.now)) e
    (drop-take (c.args.top - c.args.n) (c.args.top - (c.args.top - c.args.n)) c.args.roots.now) in
    rw front (c.eq.ensures ∙ same-pointwise (take (c.args.top - (c.args.top - c.args.n)) (drop (c.args.top - c.args.n) c.args.roots.now)) (take c.args.n c.args.children))
