-- `compile::compile_root` meets its contract: the tree of the root is written, or its refusal passed on. Assumes nothing.
use Rattle.compile.proofs.Putting.{writable, refused-root, compiled-root}
use Rattle.std.proofs.lemmas.Result.{err_from_is_err_and}
use Rattle.compile.proofs.compile_root.Goals as goal

pub returns-in_err-e : goal.returns-in_err-e
returns-in_err-e c = let p = err_from_is_err_and c.from_residual.result c.from_residual.ensures.1 in
    rw (p.1, p.2) (record {
      compiles = refused-root c.args.context c.args.pol.now c.args.root c.requires.0 c.find.ensures c.args.out.now _ c.in_err-e.was;
      work_len = c.find.ensures.holds.long;
    })

pub put-requires : goal.put-requires
put-requires c = writable c.args.context c.args.pol.now c.args.root c.requires.0 c.find.ensures _ c.in_ok-e.was

pub returns : goal.returns
returns c = record {
  compiles = compiled-root c.args.context c.args.pol.now c.args.root c.requires.0 c.find.ensures c.args.out.now _ _ c.in_ok-e.was c.put.ensures;
  work_len = c.find.ensures.holds.long;
}
