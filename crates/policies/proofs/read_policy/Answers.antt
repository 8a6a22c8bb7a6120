-- `policies::read_policy` meets its contract. Assumes nothing.
use mathlib.Core.Path.{refl}
use Rattle.std.proofs.lemmas.Result.{err_from_is_err_and}
use Rattle.policies.proofs.Roots.{not-whole, cleared, policy-refused, policy-ready, policy-done}
use Rattle.policies.proofs.read_policy.Goals as goal

pub returns-then-pol-ne-ARRAY_WORDS : goal.returns-then-pol-ne-ARRAY_WORDS
returns-then-pol-ne-ARRAY_WORDS c = not-whole c.args.bytes.now c.args.pol.now _ c.if-pol-ne-ARRAY_WORDS.true

pub read_records-requires : goal.read_records-requires
read_records-requires c = cleared c.args.pol.now c.if-pol-ne-ARRAY_WORDS.false c.clear.ensures

pub returns-in_err-count : goal.returns-in_err-count
returns-in_err-count c = let p = err_from_is_err_and c.from_residual.result c.from_residual.ensures.1 in
    rw (p.1, p.2) (policy-refused c.args.bytes.now c.args.pol.now _ c.if-pol-ne-ARRAY_WORDS.false c.in_err-count.ensures refl)

pub finish-requires : goal.finish-requires
finish-requires c = policy-ready c.args.bytes.now c.args.pol.now _ c.if-pol-ne-ARRAY_WORDS.false c.in_ok-count.ensures _ refl

pub returns : goal.returns
returns c = policy-done c.args.bytes.now c.args.pol.now _ c.if-pol-ne-ARRAY_WORDS.false c.in_ok-count.ensures _ refl c.finish.ensures
