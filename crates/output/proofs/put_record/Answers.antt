-- `output::put_record` meets its contract: its parts are written one after another. Assumes nothing.
use Rattle.std.proofs.Common.{rules}
use mathlib.Core.Path.{◌≡◌, ap}
use native.Mathlib.Omega.{arith}
use lib.ListN.{length}
use lib.Seq.{length-sets}
use Rattle.output.proofs.Placing.{record-placed, length-is-read, taken-count}
use Rattle.output.proofs.Measuring.{record-few, arity-read-few}
use Rattle.output.proofs.put_record.Goals as goal

pub overflow_mul-length : goal.overflow_mul-length
overflow_mul-length c = omega (arith, record-few c.args.pol.now c.args.work.now c.args.e _ _ c.requires.readable.good c.front_of-front.ensures c.arity_of-n.ensures)

pub overflow_add-length-2 : goal.overflow_add-length-2
overflow_add-length-2 c = omega (arith, record-few c.args.pol.now c.args.work.now c.args.e _ _ c.requires.readable.good c.front_of-front.ensures c.arity_of-n.ensures)

pub overflow_add-end : goal.overflow_add-end
overflow_add-end c = let few = arity-read-few c.args.pol.now c.args.work.now c.args.e _ _ c.requires.readable.good c.front_of-front.ensures c.arity_of-n.ensures in
    let wide : length c.args.row ≡ 16 = search rules in
    let long = length-is-read c.args.pol.now c.args.work.now c.args.e c.args.row wide _ _ c.front_of-front.ensures c.arity_of-n.ensures few in
    omega (arith, c.requires.fits, long)

pub overflow_cast-length : goal.overflow_cast-length
overflow_cast-length c = omega (arith, record-few c.args.pol.now c.args.work.now c.args.e _ _ c.requires.readable.good c.front_of-front.ensures c.arity_of-n.ensures)

pub put_2-requires : goal.put_2-requires
put_2-requires c = let few = arity-read-few c.args.pol.now c.args.work.now c.args.e _ _ c.requires.readable.good c.front_of-front.ensures c.arity_of-n.ensures in
    let wide : length c.args.row ≡ 16 = search rules in
    let long = length-is-read c.args.pol.now c.args.work.now c.args.e c.args.row wide _ _ c.front_of-front.ensures c.arity_of-n.ensures few in
    omega (arith, c.requires.fits, long)

pub put_2-requires-2 : goal.put_2-requires-2
put_2-requires-2 c = let few = arity-read-few c.args.pol.now c.args.work.now c.args.e _ _ c.requires.readable.good c.front_of-front.ensures c.arity_of-n.ensures in
    let wide : length c.args.row ≡ 16 = search rules in
    let long = length-is-read c.args.pol.now c.args.work.now c.args.e c.args.row wide _ _ c.front_of-front.ensures c.arity_of-n.ensures few in
    omega (arith, c.requires.fits, simp length-sets at (ap length c.put_2.ensures), long)

pub put_front-requires : goal.put_front-requires
put_front-requires c = let few = arity-read-few c.args.pol.now c.args.work.now c.args.e _ _ c.requires.readable.good c.front_of-front.ensures c.arity_of-n.ensures in
    let wide : length c.args.row ≡ 16 = search rules in
    let long = length-is-read c.args.pol.now c.args.work.now c.args.e c.args.row wide _ _ c.front_of-front.ensures c.arity_of-n.ensures few in
    record { readable = c.requires.readable; sound = c.requires.sound; fits = omega (arith, c.requires.fits, c.front_of-front.ensures.is, simp length-sets at (ap length c.put_2.ensures), simp length-sets at (ap length c.put_2-2.ensures), long) }

pub slice_bounds-row-end : goal.slice_bounds-row-end
slice_bounds-row-end c = let few = arity-read-few c.args.pol.now c.args.work.now c.args.e _ _ c.requires.readable.good c.front_of-front.ensures c.arity_of-n.ensures in
    let wide : length c.args.row ≡ 16 = search rules in
    omega arith

pub slice_bounds-put_children-end : goal.slice_bounds-put_children-end
slice_bounds-put_children-end c = let few = arity-read-few c.args.pol.now c.args.work.now c.args.e _ _ c.requires.readable.good c.front_of-front.ensures c.arity_of-n.ensures in
    let wide : length c.args.row ≡ 16 = search rules in
    omega (arith, taken-count c.args.row c.arity_of-n.result wide few)

pub put_children-requires : goal.put_children-requires
put_children-requires c = let few = arity-read-few c.args.pol.now c.args.work.now c.args.e _ _ c.requires.readable.good c.front_of-front.ensures c.arity_of-n.ensures in
    let wide : length c.args.row ≡ 16 = search rules in
    let taken = taken-count c.args.row c.arity_of-n.result wide few in
    let long = length-is-read c.args.pol.now c.args.work.now c.args.e c.args.row wide _ _ c.front_of-front.ensures c.arity_of-n.ensures few in
    (omega arith, omega (arith, c.requires.fits, simp length-sets at (ap length c.put_2.ensures), simp length-sets at (ap length c.put_2-2.ensures), simp length-sets at (ap length c.put_front.ensures), long))

pub returns : goal.returns
returns c = let few = arity-read-few c.args.pol.now c.args.work.now c.args.e _ _ c.requires.readable.good c.front_of-front.ensures c.arity_of-n.ensures in
    let wide : length c.args.row ≡ 16 = search rules in
    let long = length-is-read c.args.pol.now c.args.work.now c.args.e c.args.row wide _ _ c.front_of-front.ensures c.arity_of-n.ensures few in
    record {
      to = omega (arith, long);
      is =
          record-placed c.args.pol.now c.args.work.now c.args.e c.args.row wide _ _ c.front_of-front.ensures c.arity_of-n.ensures few
          c.args.out.now _ _ _ _ c.args.at _ c.kind_of.ensures c.put_2.ensures c.put_2-2.ensures c.put_front.ensures c.put_children.ensures;
    }
