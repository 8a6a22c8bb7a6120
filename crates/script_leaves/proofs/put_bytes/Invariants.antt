-- `script_leaves::put_bytes` meets its contract: the bytes still to come are laid after those before them. Assumes nothing.
use lib.ListN.{drop}
use Rattle.script_leaves.proofs.Laws.{Coming}
use Rattle.script_leaves.proofs.put_bytes.Given as goal

abbrev pub invariant-loop-byte : goal.invariant-loop-byte
invariant-loop-byte l = Coming l.initial.out l.at l.bytes l.out l.to (drop l.byte-index l.bytes)
