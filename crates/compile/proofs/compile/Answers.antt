-- `compile::compile` meets its contract: what was read is compiled, or its refusal passed on. Assumes nothing.
use mathlib.Core.Path.{refl}
use native.Mathlib.Omega.{arith}
use Rattle.compile.proofs.Below.{below_all}
use Rattle.compile.proofs.Whole.{not-read, whole, whole-compiled}
use Rattle.std.proofs.lemmas.Result.{err_from_is_err_and}
use Rattle.compile.proofs.compile.Goals as goal

pub returns-in_err-root : goal.returns-in_err-root
returns-in_err-root c = let p = err_from_is_err_and c.from_residual.result c.from_residual.ensures.1 in
    rw (p.1, p.2) (record {
      compiles = not-read c.args.policy.now _ _ refl c.read_classified.ensures c.in_err-root.was c.args.context c.args.out.now;
      work_len = c.requires;
    })

pub compile_root-requires : goal.compile_root-requires
compile_root-requires c = (whole c.args.policy.now _ _ refl c.read_classified.ensures _ c.in_ok-root.was (below_all 256 c.args.policy.now (λ i. omega (arith, c.shared_slice_known-1.given i))), c.requires)

pub returns : goal.returns
returns c = record {
  compiles = whole-compiled c.args.policy.now _ _ refl c.read_classified.ensures _ c.in_ok-root.was c.args.context c.args.out.now _ c.compile_root.ensures.compiles;
  work_len = c.compile_root.ensures.work_len;
}
