use Rattle.truth.proofs.RecordWords.{as_fits, few-here, inside-here, third-inside, gate-inside, word-is}
use native.Mathlib.Omega.{arith}
use Rattle.truth.proofs.record_word.Goals as goal

pub own_of-own-requires : goal.own_of-own-requires
own_of-own-requires c = as_fits c.requires.0

pub count_own-first-requires : goal.count_own-first-requires
count_own-first-requires c = (c.no_places.ensures.long, (c.requires.1, (c.own_of-own.ensures.few, c.own_of-own.ensures.long)))

pub count_children-second-requires : goal.count_children-second-requires
count_children-second-requires c = (c.count_own-first.ensures.planes_len, (few-here c.requires.0 c.fragment_parts-parts.ensures c.kind_of-kind.ensures c.arity-n.ensures, inside-here c.requires.0 c.fragment_parts-parts.ensures c.kind_of-kind.ensures c.arity-n.ensures))

pub count_again-counted-requires : goal.count_again-counted-requires
count_again-counted-requires c = (c.count_children-second.ensures.planes_len, third-inside c.requires.0 c.fragment_parts-parts.ensures c.kind_of-kind.ensures c.arity-n.ensures)

pub offset_bounds-counted-gate : goal.offset_bounds-counted-gate
offset_bounds-counted-gate c = omega (arith, gate-inside c.requires.0 c.fragment_parts-parts.ensures c.kind_of-kind.ensures c.arity-n.ensures c.tree_gate-gate.ensures)

pub bounds-counted-gate : goal.bounds-counted-gate
bounds-counted-gate c = gate-inside c.requires.0 c.fragment_parts-parts.ensures c.kind_of-kind.ensures c.arity-n.ensures c.tree_gate-gate.ensures

pub returns : goal.returns
returns c = word-is c.requires.0 c.fragment_parts-parts.ensures c.kind_of-kind.ensures c.arity-n.ensures c.own_of-own.ensures (c.count_again-counted.ensures _ (c.count_children-second.ensures.by_index _ (c.count_own-first.ensures.by_index _ c.no_places.ensures))) c.tree_gate-gate.ensures
