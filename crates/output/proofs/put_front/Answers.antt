-- `output::put_front` meets its contract: a range of kinds at a time. Assumes nothing.
use mathlib.Core.Path.{sym, ◌∙◌, ap}
use Prim.Native.Nat.{◌≤◌}
use native.Mathlib.Omega.{arith}
use lib.Seq.{sets, length-sets}
use lib.ListN.{length}
use Rattle.writing.specs.Writing.{in_row, k_and_n}
use Rattle.policies.specs.Array.{policy_at}
use Rattle.nodes.specs.Views.{keys_of}
use Rattle.output.proofs.Placing.{front-number, front-thresh, front-keys, front_low, front-middle, front-high, number_fits, thresh-fits}
use Rattle.output.proofs.Placing.{keys-fit, count_fits, keyed-by, then-sets}
use Rattle.output.proofs.Lengths.{length-row}
use mathlib.Core.List.{◌∷◌, []}
use Rattle.output.proofs.put_front.Goals as goal

pub put_k_and_n-requires : goal.put_k_and_n-requires
put_k_and_n-requires c = (thresh-fits c.args.pol.now c.args.work.now c.args.e _ _ c.node-x.ensures c.head_of-head.ensures c.args.at c.args.out.now c.requires.fits c.in-56.is, count_fits c.args.pol.now c.args.work.now c.args.e _ _ c.node-x.ensures c.head_of-head.ensures c.requires.readable.good)

pub put_number-requires : goal.put_number-requires
put_number-requires c = number_fits c.args.pol.now c.args.work.now c.args.e _ _ c.node-x.ensures c.head_of-head.ensures c.args.at c.args.out.now c.requires.fits (omega arith) (omega arith)

pub put_k_and_n-requires-in-57-to-58 : goal.put_k_and_n-requires-in-57-to-58
put_k_and_n-requires-in-57-to-58 c = (omega (arith, keys-fit c.args.pol.now c.args.work.now c.args.e _ _ c.node-x.ensures c.head_of-head.ensures c.args.at c.args.out.now c.requires.fits (omega arith) (omega arith)), count_fits c.args.pol.now c.args.work.now c.args.e _ _ c.node-x.ensures c.head_of-head.ensures c.requires.readable.good)

pub put_keys-requires : goal.put_keys-requires
put_keys-requires c = let low : 57 ≤ c.node-x.result.kind = omega arith in
    let high : c.node-x.result.kind ≤ 58 = omega arith in (
      keyed-by c.args.pol.now c.args.work.now c.args.e _ _ c.node-x.ensures c.head_of-head.ensures c.requires.readable c.requires.sound low high,
      omega (arith, simp length-sets at (ap length c.put_k_and_n-in-57-to-58.ensures), keys-fit c.args.pol.now c.args.work.now c.args.e _ _ c.node-x.ensures c.head_of-head.ensures c.args.at c.args.out.now c.requires.fits low high),
    )

pub returns-in-56 : goal.returns-in-56
returns-in-56 c = c.put_k_and_n.ensures ∙ ap (sets c.args.out.now c.args.at) (sym (front-thresh c.args.pol.now c.args.work.now c.args.e _ _ c.node-x.ensures c.head_of-head.ensures c.in-56.is))

pub returns-then-kind-lt34 : goal.returns-then-kind-lt34
returns-then-kind-lt34 c = ap (sets c.args.out.now c.args.at) (sym (front_low c.args.pol.now c.args.work.now c.args.e _ _ c.node-x.ensures c.head_of-head.ensures (omega arith)))

pub returns-in-34-to-41 : goal.returns-in-34-to-41
returns-in-34-to-41 c = c.put_number.ensures ∙ ap (sets c.args.out.now c.args.at) (sym (front-number c.args.pol.now c.args.work.now c.args.e _ _ c.node-x.ensures c.head_of-head.ensures (omega arith) (omega arith)))

pub returns-then-kind-lt56 : goal.returns-then-kind-lt56
returns-then-kind-lt56 c = ap (sets c.args.out.now c.args.at) (sym (front-middle c.args.pol.now c.args.work.now c.args.e _ _ c.node-x.ensures c.head_of-head.ensures (omega arith) (omega arith)))

pub returns-in-57-to-58 : goal.returns-in-57-to-58
returns-in-57-to-58 c = let low : 57 ≤ c.node-x.result.kind = omega arith in
    let high : c.node-x.result.kind ≤ 58 = omega arith in
    then-sets c.args.out.now _ _ (k_and_n c.head_of-head.result.k c.head_of-head.result.count) (in_row 8 (keys_of (policy_at c.args.pol.now c.node-x.result.first))) c.args.at _ c.put_k_and_n-in-57-to-58.ensures c.put_keys.ensures
    (omega (arith, length-row 2 (c.head_of-head.result.k ∷ c.head_of-head.result.count ∷ [])))
    ∙ ap (sets c.args.out.now c.args.at) (sym (front-keys c.args.pol.now c.args.work.now c.args.e _ _ c.node-x.ensures c.head_of-head.ensures low high))

pub returns-else-kind-lt59 : goal.returns-else-kind-lt59
returns-else-kind-lt59 c = ap (sets c.args.out.now c.args.at) (sym (front-high c.args.pol.now c.args.work.now c.args.e _ _ c.node-x.ensures c.head_of-head.ensures (omega arith)))
