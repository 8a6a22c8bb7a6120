-- `classes::put_class` meets its contract. Assumes nothing.
use borrow.Author.Tests.{not-true, not-false}
use Rattle.classes.proofs.Keep.{class-inside, unput, put}
use native.Mathlib.Omega.{arith}
use Rattle.classes.proofs.put_class.Goals as goal

pub returns-then-not-is_named : goal.returns-then-not-is_named
returns-then-not-is_named c = unput c.args.pol.now c.args.r c.is_named.ensures (not-true _ c.if-not-is_named.true-raw)

pub find_class-c-requires : goal.find_class-c-requires
find_class-c-requires c = (c.requires.0, c.is_named.ensures.yes (not-false _ c.if-not-is_named.false-raw))

pub returns : goal.returns
returns c = put c.args.pol.now c.args.r c.requires.0 c.requires.1 c.class_place-at.ensures c.find_class-c.ensures
