-- `words::has_bytes` meets its contract: the test is made where it cannot wrap. Assumes nothing.
use mathlib.Core.Path.{sym}
use Prim.Native.Nat.{◌+◌}
use native.Mathlib.Omega.{arith}
use borrow.Author.Tests.{lt-leb}
use lib.ListN.{length}
use Rattle.words.proofs.Bytes.{room-before}
use Rattle.words.proofs.has_bytes.Goals as goal

pub returns-then-s-width : goal.returns-then-s-width
returns-then-s-width c = sym (lt-leb (c.args.at + c.args.width) (length c.args.s.now) (omega arith))

pub returns : goal.returns
returns c = room-before c.args.width (length c.args.s.now) c.args.at (omega arith)
