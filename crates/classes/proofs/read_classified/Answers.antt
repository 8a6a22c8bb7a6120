-- `classes::read_classified` meets its contract. Assumes nothing.
use mathlib.Core.Path.{refl}
use Rattle.std.proofs.lemmas.Result.{err_from_is_err_and}
use Rattle.classes.proofs.Laws.{read-good, classes-root, classes-refused}
use Rattle.classes.proofs.read_classified.Goals as goal

pub returns-in_err-root : goal.returns-in_err-root
returns-in_err-root c = let p = err_from_is_err_and c.from_residual.result c.from_residual.ensures.1 in
    rw (p.1, p.2) (classes-refused c.args.bytes.now c.args.pol.now _ c.in_err-root.ensures refl)

pub classify-requires : goal.classify-requires
classify-requires c = read-good c.args.bytes.now c.args.pol.now _ c.in_ok-root.ensures _ refl

pub returns : goal.returns
returns c = classes-root c.args.bytes.now c.args.pol.now _ c.in_ok-root.ensures _ refl _ c.classify.ensures
