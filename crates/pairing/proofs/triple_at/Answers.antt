-- `pairing::triple_at` meets its contract: the digits of i, to the lengths of the third and second tables, are the numbers of the entries.
-- Assumes nothing.
use mathlib.Core.Path.{refl}
use Rattle.pairing.proofs.Placed.{triple-some, triple-pairs, triple-first, triple-second, triple-third, triple-made}
use Rattle.pairing.proofs.triple_at.Goals as goal

pub length_at-nb-requires : goal.length_at-nb-requires
length_at-nb-requires c = (c.requires.0.tables, c.requires.0.second)

pub length_at-nc-requires : goal.length_at-nc-requires
length_at-nc-requires c = (c.requires.0.tables, c.requires.0.third)

pub nonzero_div-i : goal.nonzero_div-i
nonzero_div-i c = triple-some c.args.work.now c.args.slots c.args.a c.args.i c.requires.1.0 c.requires.1.1 c.length_at-nb.ensures.0 c.length_at-nc.ensures.0

pub nonzero_div-i-2 : goal.nonzero_div-i-2
nonzero_div-i-2 c = triple-pairs c.args.work.now c.args.slots c.args.a c.args.i c.requires.1.0 c.requires.1.1 c.length_at-nb.ensures.0 c.length_at-nc.ensures.0

pub entry_at-l-requires : goal.entry_at-l-requires
entry_at-l-requires c = let below = triple-first c.args.work.now c.args.slots c.args.a c.args.i c.requires.1.0 c.requires.1.1 c.length_at-nb.ensures.0 c.length_at-nc.ensures.0 in
    (c.requires.0.tables, (c.requires.0.first, below))

pub nonzero_div-i-3 : goal.nonzero_div-i-3
nonzero_div-i-3 c = triple-some c.args.work.now c.args.slots c.args.a c.args.i c.requires.1.0 c.requires.1.1 c.length_at-nb.ensures.0 c.length_at-nc.ensures.0

pub nonzero_rem-i : goal.nonzero_rem-i
nonzero_rem-i c = triple-pairs c.args.work.now c.args.slots c.args.a c.args.i c.requires.1.0 c.requires.1.1 c.length_at-nb.ensures.0 c.length_at-nc.ensures.0

pub entry_at-r-requires : goal.entry_at-r-requires
entry_at-r-requires c = let below = triple-second c.args.work.now c.args.slots c.args.a c.args.i c.requires.1.0 c.requires.1.1 c.length_at-nb.ensures.0 c.length_at-nc.ensures.0 in
    (c.requires.0.tables, (c.requires.0.second, below))

pub nonzero_rem-i-2 : goal.nonzero_rem-i-2
nonzero_rem-i-2 c = triple-some c.args.work.now c.args.slots c.args.a c.args.i c.requires.1.0 c.requires.1.1 c.length_at-nb.ensures.0 c.length_at-nc.ensures.0

pub entry_at-e-requires : goal.entry_at-e-requires
entry_at-e-requires c = let below = triple-third c.args.work.now c.args.slots c.args.a c.args.i c.requires.1.0 c.requires.1.1 c.length_at-nb.ensures.0 c.length_at-nc.ensures.0 in
    (c.requires.0.tables, (c.requires.0.third, below))

pub triple_of-requires : goal.triple_of-requires
triple_of-requires c = c.requires.0.nodes.long

pub returns : goal.returns
returns c = triple-made c.requires.0 c.requires.1.0 c.requires.1.1 c.length_at-nb.ensures.0 c.length_at-nc.ensures.0 c.entry_at-l.ensures c.entry_at-r.ensures
    c.entry_at-e.ensures refl refl refl c.triple_of.ensures
