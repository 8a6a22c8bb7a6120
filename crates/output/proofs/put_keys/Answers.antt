-- `output::put_keys` meets its contract: those still to come are written after those before them. Assumes nothing.
use mathlib.Core.Path.{◌∙◌, ap}
use Prim.Native.Nat.{◌*◌, ◌+◌}
use lib.Seq.{sets}
use Rattle.words.specs.Bytes.{bytes_of}
use Rattle.policies.specs.Array.{policy_at}
use Rattle.nodes.specs.Views.{keys_of}
use Rattle.output.proofs.Placing.{row-goes-on, row_ends, keys-count, key-read}
use native.Mathlib.Omega.{arith}
use Rattle.output.proofs.put_keys.Goals as goal

pub loop-j-preserved : goal.loop-j-preserved
loop-j-preserved c = row-goes-on 8 (keys_of (policy_at c.args.pol.now c.args.r)) c.args.out.now c.args.at c.loop-j.invariant _
    (omega (arith, keys-count c.args.pol.now c.args.r c.args.n c.requires.0))
    (c.put_8.ensures
    ∙ ap (λ v. sets c.loop-j.out (c.args.at + 8 * c.loop-j.j) (bytes_of 8 v))
    (key-read c.args.pol.now c.args.r c.args.n c.requires.0 c.loop-j.j _ _ c.loop-j-test.true c.child-c.ensures c.head_of-head.ensures))

pub returns : goal.returns
returns c = row_ends 8 (keys_of (policy_at c.args.pol.now c.args.r)) c.args.out.now c.args.at c.loop-j.invariant
    (omega (arith, keys-count c.args.pol.now c.args.r c.args.n c.requires.0))
