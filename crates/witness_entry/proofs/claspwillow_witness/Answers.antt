use Rattle.std.specs.Prelude.{◌≡◌, None, Some}
use Rattle.witness_entry.proofs.Promised.{promised}
use Rattle.witness_entry.proofs.claspwillow_witness.Goals as goal

pub returns-in-Ok-Some : goal.returns-in-Ok-Some
returns-in-Ok-Some c =
    let p = promised c.args.context c.args.tree.now c.args.work.now c.witness-r.new.work c.witness-r.ensures.answered c.witness-r.ensures.work_len_unchanged c.clear.ensures in
    let q : c.in-Ok-Some.field-0 ≡ Some c.in-Ok-Some.x = rw c.in-Ok-Some.is at c.in-Ok-Some.field-0-is in
    rw (c.in-Ok-Some.is, q) at p

pub returns-in-Ok-None : goal.returns-in-Ok-None
returns-in-Ok-None c =
    let p = promised c.args.context c.args.tree.now c.args.work.now c.witness-r.new.work c.witness-r.ensures.answered c.witness-r.ensures.work_len_unchanged c.clear.ensures in
    let q : c.in-Ok-None.field-0 ≡ None = cc in
    rw (c.in-Ok-None.is, q) at p

pub returns-in-Err : goal.returns-in-Err
returns-in-Err c =
    let p = promised c.args.context c.args.tree.now c.args.work.now c.witness-r.new.work c.witness-r.ensures.answered c.witness-r.ensures.work_len_unchanged c.clear.ensures in
    rw c.number.ensures (rw c.in-Err.is at p)
