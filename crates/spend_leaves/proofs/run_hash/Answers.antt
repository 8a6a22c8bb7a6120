-- `spend_leaves::run_hash` meets its contract. Assumes nothing.
use mathlib.Core.Path.{◌∙◌}
use Rattle.contexts.specs.Leaves.{Sha256}
use Rattle.spend_leaves.proofs.Pieces.{hash-runs}
use Rattle.spend_leaves.proofs.run_hash.Goals as goal

pub size-a-requires : goal.size-a-requires
size-a-requires c = c.requires.0

pub push_number-b-requires : goal.push_number-b-requires
push_number-b-requires c = c.size-a.ensures.fits

pub equal_verify-d-requires : goal.equal_verify-d-requires
equal_verify-d-requires c = c.push_number-b.ensures.fits

pub hash-e-requires : goal.hash-e-requires
hash-e-requires c = c.equal_verify-d.ensures.fits

pub push_entry-f-requires : goal.push_entry-f-requires
push_entry-f-requires c = ((c.hash-e.ensures Sha256).fits, c.requires.1)

pub equal-requires : goal.equal-requires
equal-requires c = c.push_entry-f.ensures.fits

pub shape_of-main : goal.shape_of-main
shape_of-main c = c.equal.ensures.same ∙ c.push_entry-f.ensures.same ∙ (c.hash-e.ensures Sha256).same ∙ c.equal_verify-d.ensures.same ∙ c.push_number-b.ensures.same ∙ c.size-a.ensures.same

pub returns : goal.returns
returns c = λ k t kind e. hash-runs k t c.args.i kind e c.size-a.ensures c.push_number-b.ensures c.equal_verify-d.ensures c.hash-e.ensures c.push_entry-f.ensures
    c.equal.ensures
