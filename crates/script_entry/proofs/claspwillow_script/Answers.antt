-- `script_entry::claspwillow_script` keeps its promise: the check refuses, or the tree has its script. Assumes nothing.
use mathlib.Core.Path.{◌∙◌}
use Rattle.script_bytes.specs.Tables.{tables}
use Rattle.claspwillow.proofs.CheckLaws.{passed, same-room}
use Rattle.script_entry.proofs.Promised.{written, refusal, script}
use Rattle.script_entry.proofs.claspwillow_script.Goals as goal

pub returns-then-number-ne0 : goal.returns-then-number-ne0
returns-then-number-ne0 c =
    let t = tables c.args.keys.now c.args.key_hashes.now c.args.hashes32.now c.args.hashes20.now in
    refusal c.claspwillow_check-number.ensures t c.args.out.now c.if-number-ne0.true

pub script_in-r-requires : goal.script_in-r-requires
script_in-r-requires c =
    let p = passed c.args.context c.args.tree.now c.args.work.now c.claspwillow_check-number.ensures.gives c.if-number-ne0.false in
    (written p, same-room c.args.work.now c.claspwillow_check-number.ensures.clears ∙ p.room)

pub returns-in-Ok : goal.returns-in-Ok
returns-in-Ok c =
    let t = tables c.args.keys.now c.args.key_hashes.now c.args.hashes32.now c.args.hashes20.now in
    let p = script c.claspwillow_check-number.ensures t c.args.out.now c.context_of.result c.script_in-r.new.work c.if-number-ne0.false c.context_of.ensures
    (λ p. c.script_in-r.ensures.gives p.typed.tree (written p).rows) c.script_in-r.ensures.work_len_unchanged c.clear.ensures in
    rw c.in-Ok.is at p

pub returns-in-Err : goal.returns-in-Err
returns-in-Err c =
    let t = tables c.args.keys.now c.args.key_hashes.now c.args.hashes32.now c.args.hashes20.now in
    let p = script c.claspwillow_check-number.ensures t c.args.out.now c.context_of.result c.script_in-r.new.work c.if-number-ne0.false c.context_of.ensures
    (λ p. c.script_in-r.ensures.gives p.typed.tree (written p).rows) c.script_in-r.ensures.work_len_unchanged c.clear.ensures in
    rw c.number.ensures (rw c.in-Err.is at p)
