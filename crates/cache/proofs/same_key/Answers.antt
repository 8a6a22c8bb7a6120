-- `cache::same_key` meets its contract: two keys that begin alike are told apart by their probabilities alone. Assumes nothing.
use mathlib.Core.Path.{sym, ◌∙◌}
use Prim.Native.Nat.{◌+◌, ◌*◌}
use native.Mathlib.Omega.{arith}
use borrow.Author.Tests.{ne_eqb}
use lib.ListN.{get_or}
use Rattle.cache.proofs.Keys.{starts-same, starts-differ}
use Rattle.cache.proofs.same_key.Goals as goal

pub returns-then-work-at : goal.returns-then-work-at
returns-then-work-at c = let at = 540680 + 3 * c.args.s in
    c.same_words.ensures
    ∙ starts-same c.args.number c.args.sat (get_or c.args.work.now at 0) (get_or c.args.work.now (at + 1) 0) (get_or c.args.work.now (at + 2) 0) (omega arith) c.args.dissat
    (c.if-work-at.true ∙ c.requires.1.1)

pub returns-else-work-at : goal.returns-else-work-at
returns-else-work-at c = let at = 540680 + 3 * c.args.s in
    ne_eqb _ _ c.if-work-at.false
    ∙ starts-differ c.args.number c.args.sat (get_or c.args.work.now at 0) (get_or c.args.work.now (at + 1) 0) (get_or c.args.work.now (at + 2) 0) (omega arith) c.args.dissat
    (λ e. c.if-work-at.false (e ∙ sym c.requires.1.1))
