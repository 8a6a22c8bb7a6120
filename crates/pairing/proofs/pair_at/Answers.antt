-- `pairing::pair_at` meets its contract: the digits of i, to the length of the second table, are the numbers of the two entries. Assumes
-- nothing.
use mathlib.Core.Path.{refl}
use Rattle.pairing.proofs.Placed.{pair-some, pair-first, pair-second, pair_made}
use Rattle.pairing.proofs.pair_at.Goals as goal

pub length_at-n-requires : goal.length_at-n-requires
length_at-n-requires c = (c.requires.0.tables, c.requires.0.second)

pub nonzero_div-i : goal.nonzero_div-i
nonzero_div-i c = pair-some c.args.work.now c.args.slots c.args.a c.args.i c.requires.1.0 c.requires.1.1 c.length_at-n.ensures.0

pub entry_at-l-requires : goal.entry_at-l-requires
entry_at-l-requires c = let below = pair-first c.args.work.now c.args.slots c.args.a c.args.i c.requires.1.0 c.requires.1.1 c.length_at-n.ensures.0 in
    (c.requires.0.tables, (c.requires.0.first, below))

pub nonzero_rem-i : goal.nonzero_rem-i
nonzero_rem-i c = pair-some c.args.work.now c.args.slots c.args.a c.args.i c.requires.1.0 c.requires.1.1 c.length_at-n.ensures.0

pub entry_at-r-requires : goal.entry_at-r-requires
entry_at-r-requires c = let below = pair-second c.args.work.now c.args.slots c.args.a c.args.i c.requires.1.0 c.requires.1.1 c.length_at-n.ensures.0 in
    (c.requires.0.tables, (c.requires.0.second, below))

pub pair_of-requires : goal.pair_of-requires
pair_of-requires c = c.requires.0.nodes.long

pub returns : goal.returns
returns c = pair_made c.requires.0 c.requires.1.0 c.requires.1.1 c.length_at-n.ensures.0 c.entry_at-l.ensures c.entry_at-r.ensures refl refl c.pair_of.ensures
