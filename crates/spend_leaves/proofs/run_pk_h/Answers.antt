-- `spend_leaves::run_pk_h` meets its contract. Assumes nothing.
use mathlib.Core.Path.{◌∙◌}
use Rattle.contexts.specs.Leaves.{Hash160}
use Rattle.spend_log.specs.Places.{tables_in}
use Rattle.spend_leaves.proofs.Ranges.{key-hash-reaches, key-hash-in}
use Rattle.spend_leaves.proofs.Pieces.{pk-h-runs}
use Rattle.spend_leaves.proofs.run_pk_h.Goals as goal

pub dup-a-requires : goal.dup-a-requires
dup-a-requires c = c.requires.0

pub hash-b-requires : goal.hash-b-requires
hash-b-requires c = c.dup-a.ensures.fits

pub push_entry-d-requires : goal.push_entry-d-requires
push_entry-d-requires c = ((c.hash-b.ensures Hash160).fits, key-hash-reaches c.args.log.now c.args.head c.args.i c.requires.1)

pub equal_verify-requires : goal.equal_verify-requires
equal_verify-requires c = c.push_entry-d.ensures.fits

pub shape_of-main : goal.shape_of-main
shape_of-main c = c.equal_verify.ensures.same ∙ c.push_entry-d.ensures.same ∙ (c.hash-b.ensures Hash160).same ∙ c.dup-a.ensures.same

pub returns : goal.returns
returns c = let its-tables = tables_in c.args.log.now c.args.head in
    λ k. pk-h-runs k its-tables c.args.i (key-hash-in c.args.log.now c.args.head c.args.i c.requires.1) c.dup-a.ensures c.hash-b.ensures c.push_entry-d.ensures
    c.equal_verify.ensures
