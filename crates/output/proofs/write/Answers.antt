-- `output::write` meets its contract: what fits is written, and nothing is where it does not fit. Assumes nothing.
use Rattle.output.specs.Records.{tree_at}
use Rattle.output.proofs.Measuring.{fitted, exceeds}
use Rattle.output.proofs.Nodes.{whole_room, whole-written, whole_long, whole-many}
use Rattle.output.proofs.write.Goals as goal

pub returns-then-out-bytes : goal.returns-then-out-bytes
returns-then-out-bytes c = whole_long (tree_at c.args.pol.now c.args.work.now c.args.e) c.args.out.now _ (fitted c.in_ok-bytes.ensures).long c.if-out-bytes.true

pub write_node-requires : goal.write_node-requires
write_node-requires c = let f = fitted c.in_ok-bytes.ensures in
    whole_room c.requires.0 c.requires.1 c.args.out.now _ _ f.count f.long f.few c.if-out-bytes.false

pub returns-in_err-bytes : goal.returns-in_err-bytes
returns-in_err-bytes c = rw c.from_residual.ensures (whole-many (tree_at c.args.pol.now c.args.work.now c.args.e) c.args.out.now (exceeds c.in_err-bytes.ensures))

pub returns : goal.returns
returns c = let f = fitted c.in_ok-bytes.ensures in
    whole-written c.requires.0 c.requires.1 c.args.out.now _ _ _ _ f.count f.long f.few c.if-out-bytes.false c.write_node.ensures
