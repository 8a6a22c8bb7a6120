-- `classes::is_same` meets its contract. Assumes nothing.
use borrow.Author.Tests.{not-true, not-false}
use Rattle.classes.proofs.Keep.{not_named, stands}
use Rattle.classes.proofs.is_same.Goals as goal

pub returns-then-not-is_named : goal.returns-then-not-is_named
returns-then-not-is_named c = not_named c.args.pol.now c.args.r c.args.c c.is_named.ensures (not-true _ c.if-not-is_named.true-raw)

pub same-requires : goal.same-requires
same-requires c = (c.requires.0, (c.is_named.ensures.yes (not-false _ c.if-not-is_named.false-raw), c.requires.1))

pub returns : goal.returns
returns c = stands c.args.pol.now c.args.r c.args.c (c.is_named.ensures.yes (not-false _ c.if-not-is_named.false-raw)) c.same.ensures
