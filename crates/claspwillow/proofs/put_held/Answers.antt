-- `claspwillow::put_held` meets its contract: what the memory holds is written where it fits. Assumes nothing.
use Rattle.claspwillow.proofs.Choosing.{held-told, nothing-told, bad-memory, no_room, put-there}
use Rattle.claspwillow.proofs.put_held.Goals as goal

pub returns-then-out-n : goal.returns-then-out-n
returns-then-out-n c = no_room (held-told c.in-Some.ensures) c.args.out.now c.if-out-n.true

pub write-requires : goal.write-requires
write-requires c = let told = held-told c.in-Some.ensures in
    (told.long, (told.few, c.if-out-n.false))

pub returns-in_default : goal.returns-in_default
returns-in_default c = bad-memory c.args.work.now c.args.out.now (nothing-told c.in_default.ensures)

pub returns : goal.returns
returns c = put-there (held-told c.in-Some.ensures) c.args.out.now c.if-out-n.false _ c.write.ensures
